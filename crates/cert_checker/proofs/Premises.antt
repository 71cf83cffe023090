-- The facts of premises, found one after the other.
use Rattle.std.proofs.Common.{◌≡◌, ℕ, List, [], ◌∷◌, ◌++◌, Option, Some, None, refl, sym, ap, ◌∙◌}
use Rattle.std.proofs.Common.{append_assoc}
use Rattle.std.proofs.lemmas.List.{append-nil}
use Rattle.facts.specs.declared.fact.Fact.{Fact}
use Rattle.cert_checker.specs.declared.open.Citable.{Citable}
use Rattle.cert_checker.specs.Steps.{step_fact, before, step_facts}

-- those that were found, and those still to be found
abbrev pub with_front : List Fact → Option (List Fact) → Option (List Fact)
with_front fs None = None
with_front fs (Some gs) = Some (fs ++ gs)

regroup : (fs : List Fact) (f : Fact) (o : Option (List Fact))
    → with_front fs (before (Some f) o) ≡ with_front (fs ++ f ∷ []) o
regroup fs f None = refl
regroup fs f (Some gs) = ap Some (sym (append_assoc fs (f ∷ []) gs))

pub goes_on : (steps : List Citable)
    (fs : List Fact) (n : ℕ) (f : Fact) (ns : List ℕ) (all : Option (List Fact))
    → step_fact steps n ≡ Some f → with_front fs (step_facts steps (n ∷ ns)) ≡ all
    → with_front (fs ++ f ∷ []) (step_facts steps ns) ≡ all
goes_on steps fs n f ns all e so_far = sym (regroup fs f (step_facts steps ns))
    ∙ ap (λ o. with_front fs (before o (step_facts steps ns))) (sym e) ∙ so_far

pub fails : (steps : List Citable) (fs : List Fact) (n : ℕ) (ns : List ℕ) (all : Option (List Fact))
    → step_fact steps n ≡ None → with_front fs (step_facts steps (n ∷ ns)) ≡ all → all ≡ None
fails steps fs n ns all e so_far =
    sym so_far ∙ ap (λ o. with_front fs (before o (step_facts steps ns))) e

pub finishes : (fs : List Fact) (all : Option (List Fact))
    → with_front fs (Some []) ≡ all → all ≡ Some fs
finishes fs all so_far = sym so_far ∙ ap Some (append-nil fs)

pub begins : (o : Option (List Fact)) → with_front [] o ≡ o
begins None = refl
begins (Some fs) = refl
