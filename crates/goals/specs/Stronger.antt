-- What settles a goal: kinds of facts, and stronger facts.
use Rattle.std.specs.Prelude.{◌≡◌, ◌⊎◌}
use Rattle.facts.specs.declared.fact.Fact.{Fact}
use Rattle.facts.specs.declared.fact.Fact.TheVariants as fact
use Rattle.facts.specs.Order.{IsStronger}
use Rattle.goals.specs.declared.goal.Want.{Want}
use Rattle.goals.specs.declared.goal.Goal.{Goal}
use Rattle.goals.specs.Settles.{HasWanted, Settles}
use Rattle.goals.specs.Holds.{IsOfGoal}

-- What has the wanted is of a kind that goals are about.
abbrev pub AreOfGoals : Type 0
AreOfGoals = (want : Want) (f : Fact) → HasWanted want f → IsOfGoal f

-- A stronger fact than one that settles a goal settles it, or is VOID.
abbrev pub StrongerSettles : Type 0
StrongerSettles = (goal : Goal) (f g : Fact) → Settles goal f → IsStronger g f
    → (g ≡ fact.Void) ⊎ Settles goal g
