-- What a line says of an assignment.
use Rattle.std.specs.Prelude.{◌≡◌, ⊤, List}
use Rattle.fx_model.specs.declared.Node.{Node}
use Rattle.fx_model.specs.Expression.{Assignment}
use Rattle.facts.specs.declared.fact.Fact.{Fact}
use Rattle.facts.specs.declared.fact.Fact.TheVariants as fact
use Rattle.facts.specs.declared.fact.Slot.{Slot}
use Rattle.facts.specs.Holds.{Holds}
use Rattle.facts.specs.Order.{slot_of}
use Rattle.goals.specs.Lies.{LiesAt, AreZeroAt}
use Rattle.goals.specs.declared.line.Line.{Line}
use Rattle.goals.specs.declared.line.Line.TheVariants as line
use Rattle.goals.specs.Joined.{joined}

-- The line holds of what the slot is about: its value or relative error lies in the interval; both
-- sides are 0; or never.
abbrev pub LineHolds : List Node → Assignment → Slot → Line → Type 0
LineHolds nodes a s (line.In i) = LiesAt nodes a i s
LineHolds nodes a s line.None = AreZeroAt nodes a s
LineHolds nodes a s line.Empty = ⊥

-- facts of the kinds that goals are about
abbrev pub IsOfGoal : Fact → Type 0
IsOfGoal (fact.Bnd x i) = ⊤
IsOfGoal (fact.Rel x y e) = ⊤
IsOfGoal _ = ⊥

-- A line with a goal's fact holds where the fact does.
abbrev pub LineHoldsFirst : Type 0
LineHoldsFirst = (nodes : List Node) (a : Assignment) (s : Slot) (l : Line) (f : Fact) → IsOfGoal f
    → slot_of f ≡ s → Holds nodes a f → LineHolds nodes a s (joined l f)

-- What a line holds of, it goes on to hold of with further facts.
abbrev pub LineHoldsOn : Type 0
LineHoldsOn = (nodes : List Node) (a : Assignment) (s : Slot) (l : Line) (f : Fact)
    → LineHolds nodes a s l → LineHolds nodes a s (joined l f)
