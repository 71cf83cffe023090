-- What is known stands on slots of the universe.
use Rattle.std.specs.Prelude.{◌≡◌, ◌<◌, ◌≤◌, ◌+◌, ◌*◌, ◌&&◌, ℕ, suc, Bool, true, false, List, []}
use Rattle.std.specs.Prelude.{◌∷◌, length, Option, Some, None, get_or, nat_lt, if◌then◌else◌, refl}
use Rattle.std.proofs.Common.{sym, subst, arith}
use Rattle.std.proofs.lemmas.Bool.{and_parts}
use Rattle.fx_model.specs.declared.ExprId.{ExprId}
use Rattle.pair_closure.specs.Closure.{Pair}
use Rattle.pair_closure.specs.Reached.{Has}
use Rattle.facts.specs.declared.fact.Fact.{Fact}
use Rattle.facts.specs.declared.fact.Slot.{Slot}
use Rattle.facts.specs.declared.fact.Slot.TheVariants as slot
use Rattle.facts.specs.Order.{is_same}
use Rattle.facts.proofs.CommonParts.{expr_same}
use Rattle.goals.specs.declared.goal.Goal.{Goal}
use Rattle.rule_universe.specs.Worlds.{World, HasSlot}
use Rattle.rule_universe.specs.Places.{block_place}
use Rattle.tree_certificates.specs.Trees.{AllSettled}
use Rattle.box_trace.specs.declared.known.Cited.{Cited}
use Rattle.box_trace.specs.declared.known.Known.{Known}
use Rattle.box_trace.specs.Tables.{one_later, pair_number, behind_blocks, row_in, fact_of, known_at}

module _ (rows : List (Option Cited)) (f : Fact) where
  in_block : (n block : ℕ) (x : ExprId)
      → fact_of (row_in rows (block_place n block x)) ≡ Some f → x.0 < n
  in_block n block x e = by_test (nat_lt x.0 n) refl e
    where
      by_test : (b : Bool) → nat_lt x.0 n ≡ b
          → fact_of (row_in rows (if b then Some (block * n + x.0) else None)) ≡ Some f → x.0 < n
      by_test true t q = grind (arith, t)
      by_test false t q = cc

  -- a pair with a row is one of the list
  in_pairs : (x y : ExprId) (ps : List Pair) (after : Option ℕ → Option ℕ) → (after None ≡ None)
      → fact_of (row_in rows (after (pair_number x y ps))) ≡ Some f → Has ps (x, y)
  in_pairs x y [] after none e = let q : fact_of (row_in rows None) ≡ Some f =
      subst (λ o. fact_of (row_in rows o) ≡ Some f) none e in cc
  in_pairs x y (p ∷ ps) after none e = by_test (is_same p.0 x && is_same p.1 y) refl e
      (λ q. in_pairs x y ps (λ o. after (one_later o)) none q)
    where
      by_test : (b : Bool) → (is_same p.0 x && is_same p.1 y) ≡ b → fact_of (row_in rows
          (after (if b then Some 0 else one_later (pair_number x y ps)))) ≡ Some f
          → (fact_of (row_in rows (after (one_later (pair_number x y ps)))) ≡ Some f
          → Has ps (x, y)) → Has (p ∷ ps) (x, y)
      by_test true t q later =
          let a = and_parts (is_same p.0 x) (is_same p.1 y) t in
          let g = expr_same p.0 x a.0 in
          let h = expr_same p.1 y a.1 in
          (0, (λ i. Some (g i, h i)))
      by_test false t q later = let r = later q in (suc r.0, r.1)

  known_slot : (u : World) (s : Slot) (k : Known) → k.rows.items ≡ rows
      → known_at u k s ≡ Some f → HasSlot u s
  known_slot u (slot.Bnd x) k same e = in_block (length u.nodes) 0 x
      (subst (λ rs. fact_of (row_in rs (block_place (length u.nodes) 0 x)) ≡ Some f) same e)
  known_slot u (slot.Abs x) k same e = in_block (length u.nodes) 1 x
      (subst (λ rs. fact_of (row_in rs (block_place (length u.nodes) 1 x)) ≡ Some f) same e)
  known_slot u (slot.Fix x) k same e = in_block (length u.nodes) 2 x
      (subst (λ rs. fact_of (row_in rs (block_place (length u.nodes) 2 x)) ≡ Some f) same e)
  known_slot u (slot.Nzr x) k same e = in_block (length u.nodes) 3 x
      (subst (λ rs. fact_of (row_in rs (block_place (length u.nodes) 3 x)) ≡ Some f) same e)
  known_slot u (slot.Rel x y) k same e =
      in_pairs x y u.pairs (behind_blocks (length u.nodes)) refl (subst (λ rs. fact_of (row_in rs
      (behind_blocks (length u.nodes) (pair_number x y u.pairs))) ≡ Some f) same e)
  known_slot u slot.Void k same e = tt

pub first_slot : (u : World) (k : Known) (goals : List Goal) (g : Goal) → 1 ≤ length goals
    → g ≡ get_or goals 0 g → AllSettled (known_at u k) goals → HasSlot u g.of
first_slot u k [] g l e a = absurd (omega (arith, l))
first_slot u k (x ∷ goals) g l e a = subst (λ (y : Goal). HasSlot u y.of) (sym e)
    (known_slot k.rows.items (a.0).0 u x.of k refl (a.0).1)
