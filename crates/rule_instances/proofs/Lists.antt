-- Lists of instances with different numbers, and what stands behind a test.
use Rattle.std.specs.Prelude.{◌≡◌, ◌&&◌, Bool, true, false, not, List, [], ◌∷◌, ◌++◌}
use Rattle.std.specs.List.{list_any}
use Rattle.std.proofs.Common.{inl, inr, ap, sym, ◌∙◌, eqb, eq-eqb, true≢false, refl}
use Rattle.std.proofs.lemmas.Bool.{and_parts, not-true, or_parts}
use Rattle.pair_closure.specs.Reached.{Has, IsEachOnce}
use Rattle.pair_closure.proofs.Members.{has_cases, has_first, no_member, once_nil, once_cons}
use Rattle.pair_closure.proofs.Members.{once_append}
use Rattle.facts.specs.declared.instance.Instance.{Instance}
use Rattle.rule_instances.specs.Lists.{given}

-- ---- lists of instances with different numbers
abbrev pub numbers_differ : List Instance → Bool
numbers_differ [] = true
numbers_differ (i ∷ is) = not (list_any (λ j. eqb i.rule j.rule) is) && numbers_differ is

absent_number : (i : Instance) (is : List Instance)
    → list_any (λ j. eqb i.rule j.rule) is ≡ false → ¬ Has is i
absent_number i [] e m = no_member i m
absent_number i (j ∷ is) e m =
    let s = or_parts (eqb i.rule j.rule) (list_any (λ k. eqb i.rule k.rule) is) e in
    elim (has_cases j is i m) [
      | inl h ↦ absurd (true≢false
          (sym (eq-eqb i.rule j.rule (ap (λ (k : Instance). k.rule) h)) ∙ s.0))
      | inr r ↦ absent_number i is s.1 r
    ]

pub once_by_number : (is : List Instance) → numbers_differ is ≡ true → IsEachOnce is
once_by_number [] e = once_nil
once_by_number (i ∷ is) e =
    let s = and_parts (not (list_any (λ j. eqb i.rule j.rule) is)) (numbers_differ is) e in
    once_cons i is (absent_number i is (not-true (list_any (λ j. eqb i.rule j.rule) is) s.0))
    (once_by_number is s.1)

-- ---- behind a test
pub given_out : (b : Bool) (i j : Instance) → Has (given b i) j → (b ≡ true) × (j ≡ i)
given_out true i j m =
    elim (has_cases i [] j m) [ inl e ↦ (refl, e) | inr n ↦ absurd (no_member j n) ]
given_out false i j m = absurd (no_member j m)

pub given_in : (b : Bool) (i : Instance) → b ≡ true → Has (given b i) i
given_in true i e = has_first i []
given_in false i e = absurd (true≢false (sym e))

-- one more behind a test, with a number of its own
pub once_given : (b : Bool) (is : List Instance) (i : Instance)
    → numbers_differ (is ++ i ∷ []) ≡ true → numbers_differ is ≡ true → IsEachOnce (is ++ given b i)
once_given true is i d e = once_by_number (is ++ i ∷ []) d
once_given false is i d e =
    once_append is [] (once_by_number is e) once_nil (λ x m n. no_member x n)

pub given_once : (b : Bool) (i : Instance) → IsEachOnce (given b i)
given_once true i = once_cons i [] (no_member i) once_nil
given_once false i = once_nil
