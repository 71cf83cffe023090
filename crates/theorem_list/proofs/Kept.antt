-- The list keeps what each rule promises.
use Rattle.std.specs.Prelude.{◌≡◌, ◌⊎◌, ◌==◌, ℕ, Bool, true, false, List, Option, Some, None}
use Rattle.std.specs.Prelude.{if◌then◌else◌, slice_get, refl}
use Rattle.std.specs.List.{AllByRecursion}
use Rattle.std.proofs.Common.{inl, inr, ⊎_elim}
use Rattle.fx_model.specs.Expression.{Assignment, IsOrdered}
use Rattle.fx_model.specs.declared.Node.{Node}
use Rattle.facts.specs.declared.hint.HintRow.{HintRow}
use Rattle.facts.specs.declared.fact.Fact.{Fact}
use Rattle.facts.specs.declared.fact.Slot.{Slot}
use Rattle.facts.specs.declared.fact.Fact.TheVariants as fact
use Rattle.facts.specs.declared.fact.Slot.TheVariants as slot
use Rattle.facts.specs.Holds.{Holds}
use Rattle.facts.specs.Order.{slot_of}
use Rattle.facts.specs.Promises.{Rule, EachStronger, IsSound, IsIsotone, IsOnTarget}
use Rattle.facts.specs.Premises.{Gives}
use Rattle.theorem_arith.specs.EachRule as arithmetic
use Rattle.theorem_fix.specs.EachRule.{IsIsotoneOrVoid}
use Rattle.theorem_fix.specs.Shrunk.{shrinking_rule, no_multiple_rule}
use Rattle.theorem_fix.specs.EachRule as multiples
use Rattle.theorem_rel.specs.EachRule as relatives
use Rattle.rewrite_rules.specs.EachRule as rewritings
use Rattle.rewrite_rules.specs.Rewriting.{rewriting_rule}
use Rattle.rewrite_rules.specs.WithRow.{IsSoundWithRow}
use Rattle.theorem_list.specs.Concludes.{listed, by_number, by_row, concludes}
use Rattle.theorem_list.proofs.Rows.{numbered, by_rows, each_row}
use Rattle.theorem_list.specs.Promises.{RowsAreTrue, AreSound, AreIsotone, AreOnTarget}

-- ---- sound
module _ (arith : arithmetic.EachRule IsSound) (fix : multiples.EachRule IsSound)
    (shrinking : IsSound shrinking_rule) (rel : relatives.EachRule IsSound)
    (rewrite : rewritings.EachRule IsSound) (hint : (row : HintRow)
    → IsSoundWithRow row (rewriting_rule row)) where
  numbers_sound : (n : ℕ) → IsSound (numbered listed n)
  numbers_sound n = by_rows (λ _ r. IsSound r) listed n (λ nodes premises target f o e. cc)
      (each_row IsSound (λ _ r. IsSound r) (λ _ r h. h) shrinking arith fix rel rewrite)

  row_sound : (nodes : List Node) (hints : List HintRow) (k : ℕ) (o : Option HintRow)
      (premises : List Fact) (target : Slot) (f : Fact) → slice_get hints k ≡ o → IsOrdered nodes
      → by_row nodes o premises target ≡ Some f
      → (a : Assignment) → RowsAreTrue nodes a hints
      → AllByRecursion (Holds nodes a) premises → Holds nodes a f
  row_sound nodes hints k None premises target f s o e = λ a t h. cc
  row_sound nodes hints k (Some row) premises target f s o e =
      λ a t h. hint row nodes premises target f o e a (t k row s) h

  pub list_sound : AreSound
  list_sound nodes hints number arg premises target f o e =
      λ a t h. by_test (number == 80) (arg == 0) e a t h
    where
      by_test : (b c : Bool) → (if b then by_row nodes (slice_get hints arg) premises target
          else (if c then by_number listed number nodes premises target else None)) ≡ Some f
          → (a : Assignment) → RowsAreTrue nodes a hints
          → AllByRecursion (Holds nodes a) premises → Holds nodes a f
      by_test true c e a t h =
          row_sound nodes hints arg (slice_get hints arg) premises target f refl o e a t h
      by_test false true e a t h = numbers_sound number nodes premises target f o e a h
      by_test false false e a t h = cc

-- ---- on target
module _ (arith : arithmetic.EachRule IsOnTarget)
    (fix : multiples.EachRule IsOnTarget) (shrinking : IsOnTarget shrinking_rule)
    (rel : relatives.EachRule IsOnTarget) (rewrite : rewritings.EachRule IsOnTarget)
    (hint : (row : HintRow) → IsOnTarget (rewriting_rule row)) where
  numbers_on_target : (n : ℕ) → IsOnTarget (numbered listed n)
  numbers_on_target n = by_rows (λ _ r. IsOnTarget r) listed n (λ nodes premises target f e. cc)
      (each_row IsOnTarget (λ _ r. IsOnTarget r) (λ _ r h. h) shrinking arith fix rel rewrite)

  row_on_target : (nodes : List Node) (o : Option HintRow) (premises : List Fact) (target : Slot)
      (f : Fact) → by_row nodes o premises target ≡ Some f → (slot_of f ≡ target) ⊎ (f ≡ fact.Void)
  row_on_target nodes None premises target f e = cc
  row_on_target nodes (Some row) premises target f e = hint row nodes premises target f e

  pub list_on_target : AreOnTarget
  list_on_target nodes hints number arg premises target f e = by_test (number == 80) (arg == 0) e
    where
      by_test : (b c : Bool) → (if b then by_row nodes (slice_get hints arg) premises target
          else (if c then by_number listed number nodes premises target else None)) ≡ Some f
          → (slot_of f ≡ target) ⊎ (f ≡ fact.Void)
      by_test true c e = row_on_target nodes (slice_get hints arg) premises target f e
      by_test false true e = numbers_on_target number nodes premises target f e
      by_test false false e = cc

-- ---- isotone
-- isotone, or rule 28
abbrev IsIsotoneAt : ℕ → Rule → Type 0
IsIsotoneAt n r = IsIsotone r ⊎ ((n ≡ 28) × IsIsotoneOrVoid r no_multiple_rule)

module _ (arith : arithmetic.EachRule IsIsotone) (fix : multiples.EachRule IsIsotone)
    (shrinking : IsIsotoneOrVoid shrinking_rule no_multiple_rule)
    (rel : relatives.EachRule IsIsotone) (rewrite : rewritings.EachRule IsIsotone)
    (hint : (row : HintRow) → IsIsotone (rewriting_rule row)) where
  numbers_isotone : (n : ℕ) → IsIsotoneAt n (numbered listed n)
  numbers_isotone n = by_rows IsIsotoneAt listed n (inl (λ nodes qs target ps c s e. cc)) (each_row
      IsIsotone IsIsotoneAt (λ n r h. inl h) (inr (refl, shrinking)) arith fix rel rewrite)

  number_isotone : (nodes : List Node) (hints : List HintRow)
      (number : ℕ) (qs : List Fact) (target : Slot) (ps : List Fact) (c : Fact) → EachStronger ps qs
      → by_number listed number nodes qs target ≡ Some c
      → Gives (by_number listed number nodes ps target) c
      ⊎ ((number ≡ 28) × (concludes nodes hints 90 0 ps slot.Void ≡ Some fact.Void))
  number_isotone nodes hints number qs target ps c s e =
      ⊎_elim (λ i. inl (i nodes qs target ps c s e))
      (λ v. ⊎_elim inl (λ w. inr (v.0, w)) (v.1 nodes qs target ps c s e)) (numbers_isotone number)

  row_isotone : (nodes : List Node) (o : Option HintRow) (qs : List Fact) (target : Slot)
      (ps : List Fact) (c : Fact) → EachStronger ps qs → by_row nodes o qs target ≡ Some c
      → Gives (by_row nodes o ps target) c
  row_isotone nodes None qs target ps c s e = cc
  row_isotone nodes (Some row) qs target ps c s e = hint row nodes qs target ps c s e

  pub list_isotone : AreIsotone
  list_isotone nodes hints number arg qs target ps c s e = by_test (number == 80) (arg == 0) e
    where
      by_test : (b d : Bool) → (if b then by_row nodes (slice_get hints arg) qs target
          else (if d then by_number listed number nodes qs target else None)) ≡ Some c
          → Gives (if b then by_row nodes (slice_get hints arg) ps target
          else (if d then by_number listed number nodes ps target else None)) c
          ⊎ ((number ≡ 28) × (concludes nodes hints 90 0 ps slot.Void ≡ Some fact.Void))
      by_test true d e = inl (row_isotone nodes (slice_get hints arg) qs target ps c s e)
      by_test false true e = number_isotone nodes hints number qs target ps c s e
      by_test false false e = cc
