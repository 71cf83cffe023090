-- The hint that is being read, step by step, and the hints before it.
use Rattle.std.specs.Prelude.{ℕ, List, [], ◌∷◌, ◌++◌, Bool, true, false}
use Rattle.fx_model.specs.declared.ExprId.{ExprId}
use Rattle.dyadic.specs.declared.number.Dyadic.{Dyadic}
use Rattle.literal_order.specs.declared.written.Written.{Written}
use Rattle.script_words.specs.declared.class.Symbol.{Symbol}
use Rattle.script_words.specs.declared.class.Symbol.TheVariants as s
use Rattle.script_hints.specs.declared.hint.Constraint.{Constraint}
use Rattle.script_hints.specs.declared.hint.Constraint.TheVariants as constraint
use Rattle.script_hints.specs.declared.hint.Cutting.TheVariants as cutting
use Rattle.script_hints.specs.declared.hint.HintList.{HintList}
use Rattle.script_hints.specs.declared.stage.Stage.{Stage}
use Rattle.script_hints.specs.declared.stage.Stage.TheVariants as stage
use Rattle.script_hints.specs.declared.stage.Bounded.{Bounded}
use Rattle.script_hints.specs.declared.stage.Bounded.TheVariants as bounded
use Rattle.script_hints.specs.Hints.{with_point, piece_count, ordered, halved, with_cut}

-- How far the hint is read; what its next bound is for, and whether a minus stands before it; its
-- constraints and points so far.
pub record Draft : Type 0 where
  pub stage : Stage
  pub bounded : Bounded
  pub negative : Bool
  pub constraints : List Constraint
  pub points : List Dyadic
  pub list : HintList

-- before a hint
abbrev pub fresh : HintList → Draft
fresh l = record {
  stage = stage.Front;
  bounded = bounded.Point;
  negative = false;
  constraints = [];
  points = [];
  list = l;
}

-- the same at this stage
abbrev pub staged : Draft → Stage → Draft
staged h t = record h { stage = t }

-- ---- expressions that have ended

-- a sign behind an expression at the front of a hint
abbrev pub side_ended : Symbol → ExprId → Draft → Draft
side_ended s.Arrow x h = staged h (stage.Right x)
side_ended s.Tilde x h = staged h (stage.Alike x)
side_ended s.Dollar x h = staged h stage.Halves
side_ended g x h = h

-- the `{` behind the right side of a rewriting
abbrev pub needs_opened_as : Stage → ExprId → Draft → Draft
needs_opened_as (stage.Right a) x h = staged h (stage.Sides a x)
needs_opened_as t x h = h

-- The draft behind a `{`: where `x` is the right side of a rewriting, its constraints come next.
abbrev pub needs_opened : ExprId → Draft → Draft
needs_opened x h = needs_opened_as h.stage x h

-- one more constraint, the last
abbrev pub with_constraint : Draft → Constraint → Draft
with_constraint h c = record h { constraints = h.constraints ++ (c ∷ []) }

-- the relation behind the expression of a constraint
abbrev pub related : Symbol → ExprId → Draft → Draft
related s.Unequal x h = with_constraint h (constraint.NotZero x)
related s.Less x h = record h { bounded = bounded.Below x true }
related s.LessEqual x h = record h { bounded = bounded.Below x false }
related s.Greater x h = record h { bounded = bounded.Above x true }
related s.GreaterEqual x h = record h { bounded = bounded.Above x false }
related g x h = h

-- ---- bounds

-- a minus makes the bound that follows negative
abbrev pub bound_signed : Symbol → Draft → Draft
bound_signed s.Minus h = record h { negative = true }
bound_signed g h = h

-- the next bound stands alone again
abbrev pub bound_read : Draft → Draft
bound_read h = record h { bounded = bounded.Point; negative = false }

-- A bound that was read is put to its use: it is a point of a cut, or completes the constraint that
-- waits for it.
abbrev pub bounded_as : Bounded → Written → Draft → Draft
bounded_as bounded.Point w h = record h { points = with_point h.points w }
bounded_as (bounded.Below x strict) w h = with_constraint h (constraint.Below x w strict)
bounded_as (bounded.Above x strict) w h = with_constraint h (constraint.Above x w strict)

-- the literal of a bound, a minus perhaps before it
abbrev pub with_bound : Written → Draft → Draft
with_bound w h = bound_read (bounded_as h.bounded w h)

-- ---- splits

-- the `$` of a cut
abbrev pub cut_begun : Draft → Draft
cut_begun h = staged h stage.Cuts

-- A variable that was read: a cut goes along it, into four pieces until more is said, or it is one
-- that is halved.
abbrev pub with_variable_as : Stage → ExprId → Draft → Draft
with_variable_as stage.Cuts x h = record h { stage = stage.Pieces x 4; list = ordered h.list x }
with_variable_as stage.Halves x h = record h { list = halved h.list x }
with_variable_as t x h = h

-- a variable of a split
abbrev pub with_split_variable : ExprId → Draft → Draft
with_split_variable x h = with_variable_as h.stage x h

-- The cut goes into this many pieces, 64 at most; at another stage nothing changes.
abbrev pub cut_into_as : Stage → ℕ → Draft → Draft
cut_into_as (stage.Pieces x m) n h = staged h (stage.Pieces x (piece_count n))
cut_into_as t n h = h

-- the digits of a cut
abbrev pub cut_into : ℕ → Draft → Draft
cut_into n h = cut_into_as h.stage n h

-- From here the points of a cut are read, in place of its number of pieces; at another stage
-- nothing changes.
abbrev pub points_begun_as : Stage → Draft → Draft
points_begun_as (stage.Pieces x m) h = staged h (stage.Points x)
points_begun_as t h = h

-- the `(` of a cut
abbrev pub points_begun : Draft → Draft
points_begun h = points_begun_as h.stage h

-- ---- the end of a hint

-- One more rewriting of `x` to `y` with its constraints, the last.
abbrev pub rewriting_added : ExprId → ExprId → List Constraint → HintList → HintList
rewriting_added x y cs l =
    record l { rewrites = l.rewrites ++ (record { left = x; right = y; constraints = cs } ∷ []) }

-- one more likeness, the last
abbrev pub like_added : ExprId → ExprId → HintList → HintList
like_added x y l = record l { likes = l.likes ++ ((x, y) ∷ []) }

-- The hints with the one that ends here, whose last expression is `x`; halved variables were added
-- when they were read.
abbrev pub added_as : Stage → ExprId → Draft → HintList
added_as stage.Front x h = h.list
added_as (stage.Right a) x h = rewriting_added a x h.constraints h.list
added_as (stage.Sides a b) x h = rewriting_added a b h.constraints h.list
added_as (stage.Alike a) x h = like_added a x h.list
added_as stage.Cuts x h = h.list
added_as (stage.Pieces v n) x h = with_cut h.list v (cutting.Pieces n)
added_as (stage.Points v) x h = with_cut h.list v (cutting.Points h.points)
added_as stage.Halves x h = h.list

-- The `;` behind a hint, whose last expression has this number.
abbrev pub hint_ended : ExprId → Draft → Draft
hint_ended x h = fresh (added_as h.stage x h)
