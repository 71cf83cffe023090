-- A list that is worked off from the left: what each member leads to is added behind, until none is
-- left.
use Rattle.std.specs.Prelude.{◌≡◌, ◌<◌, ◌≤◌, ◌+◌, ℕ, List, Some, slice_get, slice_index_or, length}
use Rattle.std.proofs.Common.{inl, inr, arith, ap, sym, ◌∙◌, subst}
use Rattle.std.proofs.lemmas.Option.{slice_get-get_or, slice_get_within}
use Rattle.std.proofs.lemmas.Bool.{cases_lt}
use Rattle.pair_closure.specs.Reached.{IsReached, Has}
use Rattle.pair_closure.specs.Reached.IsReached.{begin, lead}
use Rattle.pair_closure.specs.Grown.{IsGrown}
use Rattle.pair_closure.proofs.Members.{some-inj}

-- Only what is reached is found, all that begins is found, and all that the first k found members
-- lead to.
pub record IsWorked {A : Type 0} (begins : A → Type 0) (leads : A → A → Type 0)
    (found : List A) (k : ℕ) : Type 0 where
  pub only : (x : A) → Has found x → IsReached begins leads x
  pub start : (x : A) → begins x → Has found x
  pub done : (i : ℕ) (x y : A) → i < k → slice_get found i ≡ Some x → leads x y → Has found y

module _ {A : Type 0} (begins : A → Type 0) (leads : A → A → Type 0) where
  pub worked_start : (found : List A) → ((x : A) → Has found x → begins x)
      → ((x : A) → begins x → Has found x) → IsWorked begins leads found 0
  worked_start found only each = record {
    only = λ x h. begin x (only x h);
    start = each;
    done = λ i x y l a b. absurd (omega arith);
  }

  pub worked_step : (found new : List A) (k : ℕ) (x : A) → IsWorked begins leads found k
      → slice_get found k ≡ Some x → IsGrown found new (leads x) → IsWorked begins leads new (k + 1)
  worked_step found new k x w at g = record {
    only = λ y h. elim (g.only y h) [ inl a ↦ w.only y a | inr l ↦ lead x y (w.only x (k, at)) l ];
    start = λ y b. let h = w.start y b in (h.0, g.kept h.0 y h.1);
    done = done;
  }
    where
      -- what stands below the end stood there before
      stood : (i : ℕ) (y : A) → i < length found → slice_get new i ≡ Some y
          → slice_get found i ≡ Some y
      stood i y l h =
          let was = slice_get-get_or found i y l in
          was ∙ sym (g.kept i (slice_index_or found i y) was) ∙ h

      done : (i : ℕ) (y z : A) → i < k + 1 → slice_get new i ≡ Some y → leads y z → Has new z
      done i y z l h b =
          let within : k < length found = slice_get_within found k x at in
          let was : slice_get found i ≡ Some y = stood i y (omega arith) h in
          elim (cases_lt i k) [
            | inl m ↦ (let f = w.done i y z m was b in (f.0, g.kept f.0 z f.1))
            | inr m ↦
                let e : i ≡ k = omega arith in
                let same : y ≡ x = some-inj y x (sym was ∙ ap (slice_get found) e ∙ at) in
                g.each z (subst (λ v. leads v z) same b)
          ]

  -- where all are worked off, all that is reached is found
  pub worked_all : (found : List A) (k : ℕ) → IsWorked begins leads found k → length found ≤ k
      → (x : A) → IsReached begins leads x → Has found x
  worked_all found k w l x (begin _ b) = w.start x b
  worked_all found k w l x (lead y _ r b) =
      let h = worked_all found k w l y r in
      let within : h.0 < length found = slice_get_within found h.0 y h.1 in
      w.done h.0 y x (omega arith) h.1 b
