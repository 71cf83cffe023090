-- What a rule promises.
use Rattle.std.specs.Prelude.{◌≡◌, ◌⊎◌, List, [], ◌∷◌, Option, Some}
use Rattle.std.specs.List.{AllByRecursion}
use Rattle.fx_model.specs.Expression.{Assignment, IsOrdered}
use Rattle.fx_model.specs.declared.Node.{Node}
use Rattle.facts.specs.declared.fact.Fact.{Fact}
use Rattle.facts.specs.declared.fact.Slot.{Slot}
use Rattle.facts.specs.declared.fact.Fact.TheVariants as fact
use Rattle.facts.specs.Holds.{Holds}
use Rattle.facts.specs.Order.{slot_of, IsStronger}

-- A rule: over a list of nodes it takes premises and a target, and gives a fact or nothing.
abbrev pub Rule : Type 0
Rule = List Node → List Fact → Slot → Option Fact

-- Wherever all premises hold, the fact does.
abbrev pub FollowsFrom : List Node → List Fact → Fact → Type 0
FollowsFrom nodes premises f = (a : Assignment)
    → AllByRecursion (Holds nodes a) premises → Holds nodes a f

-- What a rule gives follows from its premises, where each node is made of earlier ones.
abbrev pub IsSound : Rule → Type 0
IsSound r = (nodes : List Node) (premises : List Fact) (target : Slot) (f : Fact) → IsOrdered nodes
    → r nodes premises target ≡ Some f → FollowsFrom nodes premises f

-- Each premise isn't VOID, and is as strong as that in its place, or stronger.
abbrev pub EachStronger : List Fact → List Fact → Type 0
EachStronger [] [] = Unit {0}
EachStronger (p ∷ ps) (q ∷ qs) = ¬ (p ≡ fact.Void) × IsStronger p q × EachStronger ps qs
EachStronger _ _ = ⊥

-- From stronger premises a rule gives a fact that is as strong, or stronger.
abbrev pub IsIsotone : Rule → Type 0
IsIsotone r = (nodes : List Node) (qs : List Fact) (target : Slot) (ps : List Fact) (c : Fact)
    → EachStronger ps qs → r nodes qs target ≡ Some c
    → (d : Fact) × (r nodes ps target ≡ Some d) × IsStronger d c

-- What a rule gives stands on the target, or is VOID.
abbrev pub IsOnTarget : Rule → Type 0
IsOnTarget r = (nodes : List Node) (premises : List Fact) (target : Slot) (f : Fact)
    → r nodes premises target ≡ Some f → (slot_of f ≡ target) ⊎ (f ≡ fact.Void)
