-- How instances are written, and the premises of a rewriting hint.
use Rattle.std.specs.Prelude.{ℕ, List, ◌∷◌, ◌++◌, map}
use Rattle.fx_model.specs.declared.ExprId.{ExprId}
use Rattle.facts.specs.declared.fact.Slot.{Slot}
use Rattle.facts.specs.declared.fact.Slot.TheVariants.{Bnd, Nzr}
use Rattle.facts.specs.declared.hint.Need.{Need}
use Rattle.facts.specs.declared.hint.Need.TheVariants.{NotZero, Below, Above}
use Rattle.facts.specs.declared.hint.HintRow.{HintRow}
use Rattle.facts.specs.declared.instance.Instance.{Instance}

-- rule `number` from premises on some slots, in this order, to a conclusion on the target
abbrev pub rule : ℕ → List Slot → Slot → Instance
rule number premises target =
    record { rule = number; arg = 0; target = target; premises = premises }

-- the fact that a constraint is met by
abbrev pub need_slot : Need → Slot
need_slot (NotZero x) = Nzr x
need_slot (Below x end apart) = Bnd x
need_slot (Above x end apart) = Bnd x

-- what a hint asks for: each divisor isn't 0, and each constraint is met
abbrev pub conditions : HintRow → List Slot
conditions h = map Nzr h.divisors ++ map need_slot h.needs

-- the hint's fact of one kind, from the same fact on its right side
abbrev pub rewriting : ℕ → HintRow → (ExprId → Slot) → Instance
rewriting number h kind =
    record { rule = 80; arg = number; target = kind h.left; premises = kind h.right ∷ conditions h }
