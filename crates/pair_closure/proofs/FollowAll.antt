-- The worklist of pairs, from its start to its end.
use Rattle.std.specs.Prelude.{◌≡◌, ◌<◌, ◌≤◌, ℕ, List, [], ◌∷◌, Some, None, slice_get}
use Rattle.std.specs.Prelude.{slice_index_or, length}
use Rattle.std.proofs.Common.{inl, inr, arith, sym, ◌∙◌, subst}
use Rattle.std.proofs.lemmas.Option.{slice_get-get_or}
use Rattle.std.proofs.lemmas.Bool.{cases_lt}
use Rattle.fx_model.specs.declared.Node.{Node}
use Rattle.pair_closure.specs.Reached.{Has, IsListOf, IsEachOnce}
use Rattle.pair_closure.specs.Closure.{Pair, IsRounding, BeginsPairs, LeadsToPair, IsPair}
use Rattle.pair_closure.specs.Closure.{AreManyPairs}
use Rattle.pair_closure.specs.Grown.{IsGrown}
use Rattle.pair_closure.proofs.Members.{none_at, no_member}
use Rattle.pair_closure.proofs.Grown.{grown_both}
use Rattle.pair_closure.proofs.Worklist.{IsWorked, worked_start, worked_all}

-- nothing stands at a place past the end
pub past_end : {A : Type 0} (xs : List A) (i : ℕ) → slice_get xs i ≡ None → length xs ≤ i
past_end xs i n = elim (cases_lt i (length xs)) [
  | inl h ↦ absurd (past xs i n h)
  | inr h ↦ h
]
  where
    at_none : {A : Type 0} (x : A) → Some x ≡ None → ⊥
    at_none x e = none_at x (sym e)

    past : {A : Type 0} (xs : List A) (i : ℕ) → slice_get xs i ≡ None → i < length xs → ⊥
    past [] i n h = omega arith
    past (x ∷ xs) i n h =
        at_none (slice_index_or (x ∷ xs) i x) (sym (slice_get-get_or (x ∷ xs) i x h) ∙ n)

module _ (nodes : List Node) (starts : List Pair) where
  pub begun : (old mid new : List Pair) → old ≡ [] → IsGrown old mid (IsRounding nodes)
      → IsGrown mid new (Has starts) → IsWorked (BeginsPairs nodes starts) (LeadsToPair nodes) new 0
  begun old mid new e g h =
      let both = grown_both old mid new (IsRounding nodes) (Has starts) g h in
      worked_start (BeginsPairs nodes starts) (LeadsToPair nodes) new
      (λ p m. elim (both.only p m)
      [ inl b ↦ absurd (no_member p (subst (λ l. Has l p) e b)) | inr b ↦ b ])
      both.each

  pub finished : (found : List Pair) (k : ℕ)
      → IsWorked (BeginsPairs nodes starts) (LeadsToPair nodes) found k → length found ≤ k
      → IsEachOnce found → IsListOf (IsPair nodes starts) found
  finished found k w l o = record {
    only = w.only;
    each = worked_all (BeginsPairs nodes starts) (LeadsToPair nodes) found k w l;
    once = o;
  }

  pub passed : (found : List Pair) (k : ℕ)
      → IsWorked (BeginsPairs nodes starts) (LeadsToPair nodes) found k → 1024 < length found
      → IsEachOnce found → AreManyPairs nodes starts
  passed found k w m o = record { list = found; only = w.only; once = o; many = m }
