-- What meets a rounded need meets the constraint as it is written.
use Rattle.std.specs.Prelude.{List, [], ◌∷◌, map, Option, Some, None}
use Rattle.std.specs.Option.{IsSomeAnd}
use Rattle.std.specs.List.{AllByRecursion}
use Rattle.fx_model.specs.Expression.{Assignment, value}
use Rattle.fx_model.specs.declared.Node.{Node}
use Rattle.facts.specs.Rows.{IsMet}
use Rattle.script_bounds.specs.Sides.{UnderIsEnough, OverIsEnough}
use Rattle.script_hints.specs.declared.hint.Constraint.{Constraint}
use Rattle.script_hints.specs.declared.hint.Constraint.TheVariants.{NotZero, Below, Above}
use Rattle.script_hints.specs.Needs.{need_of}
use Rattle.script_hints.specs.Meets.{HoldsAt, NeedsAreEnough, MetSidesAreEqual}

some_and : {A : Type 0} (P Q : A → Type 0) (o : Option A) → ((x : A) → P x → Q x)
    → IsSomeAnd o P → IsSomeAnd o Q
some_and P Q None f h = h
some_and P Q (Some x) f h = f x h

module _ (under : UnderIsEnough) (over : OverIsEnough) where
  pub needs_are_enough : NeedsAreEnough
  needs_are_enough nodes a (NotZero x) h = h
  needs_are_enough nodes a (Below x w strict) h = some_and _ _ (value nodes a x) (under w strict) h
  needs_are_enough nodes a (Above x w strict) h = some_and _ _ (value nodes a x) (over w strict) h

  all_hold : (nodes : List Node) (a : Assignment) (cs : List Constraint)
      → AllByRecursion (IsMet nodes a) (map need_of cs) → AllByRecursion (HoldsAt nodes a) cs
  all_hold nodes a [] h = tt
  all_hold nodes a (c ∷ cs) h = (needs_are_enough nodes a c h.0, all_hold nodes a cs h.1)

  pub met_sides_are_equal : MetSidesAreEqual
  met_sides_are_equal nodes a h meets met = meets (all_hold nodes a h.constraints met)
