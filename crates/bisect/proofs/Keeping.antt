-- A line that holds goes on to hold over more leaves.
use Rattle.std.specs.Prelude.{ℕ, List, [], ◌∷◌, Option, Some, None, slice_get}
use Rattle.fx_model.specs.Expression.{Assignment}
use Rattle.fx_model.specs.declared.Node.{Node}
use Rattle.facts.specs.declared.fact.Fact.{Fact}
use Rattle.facts.specs.declared.fact.Slot.{Slot}
use Rattle.goals.specs.declared.line.Line.{Line}
use Rattle.goals.specs.Holds.{LineHolds, LineHoldsOn}
use Rattle.bisect.specs.declared.settler.State.{State}
use Rattle.bisect.specs.declared.settler.State.TheVariants as state
use Rattle.bisect.specs.declared.outcome.Leaf.{Leaf}
use Rattle.bisect.specs.Gathered.{with_known, with_state, line_with}

module _ (more : LineHoldsOn) (nodes : List Node) (a : Assignment) (s : Slot) (k : ℕ) where
  -- what a leaf knows, if anything
  known_keeps : (l : Line) (o : Option Fact) → LineHolds nodes a s l
      → LineHolds nodes a s (with_known l o)
  known_keeps l None h = h
  known_keeps l (Some f) h = more nodes a s l f h

  -- what it knows by its state
  state_keeps : (l : Line) (x : State) → LineHolds nodes a s l
      → LineHolds nodes a s (with_state k l x)
  state_keeps l (state.Settled facts) h = known_keeps l (slice_get facts k) h
  state_keeps l state.Void h = h
  state_keeps l (state.Open goal) h = h

  -- a line that holds goes on to hold over more leaves
  pub leaves_keep : (l : Line) (xs : List Leaf) → LineHolds nodes a s l
      → LineHolds nodes a s (line_with k l xs)
  leaves_keep l [] h = h
  leaves_keep l (x ∷ xs) h = leaves_keep (with_state k l x.state) xs (state_keeps l x.state h)
