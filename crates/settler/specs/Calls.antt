-- Calls that answer the tree of a plan's boxes. Only private functions cite these.
use Rattle.std.specs.Prelude.{Result, IfOk}
use Rattle.std.specs.Borrow.{Bor}
use Rattle.proof_options.specs.declared.options.Options.{Options}
use Rattle.proof_options.specs.Ranges.{AreAllowed}
use Rattle.rule_universe.specs.Worlds.{World}
use Rattle.box_tree.specs.Plans.{cut_at}
use Rattle.box_tree.specs.Regions.{PlanParts}
use Rattle.bisect.specs.declared.outcome.Outcome.{Outcome}
use Rattle.bisect.specs.Trees.{tree_of}
use Rattle.bisect.specs.Answers.{IsAnswer}
use Rattle.settler.specs.Decided.{state_at}
use Rattle.settler.specs.Frames.{Fits}

-- It may be called for each plan that fits the universe, under options in their ranges.
abbrev pub CanAnswer : (Bor World → Bor PlanParts → Options → Type 0) → Type 0
CanAnswer Pre = (u : Bor World) (plan : Bor PlanParts) (o : Options) → Fits u.now plan.now
    → AreAllowed o → Pre u plan o

-- What it gives is the answer of the tree under the options, each box settled over the universe.
abbrev pub AnswersTrees : {E : Type 0}
    → (Bor World → Bor PlanParts → Options → Result Outcome E → Type 0) → Type 0
AnswersTrees {E} Post = (u : Bor World) (plan : Bor PlanParts) (o : Options)
    (r : Result Outcome E) → Post u plan o r
    → IfOk r (IsAnswer (tree_of (cut_at plan.now) (state_at u.now plan.now o.rounds)) o.boxes)

-- The call answers trees: it may be called, and gives their answers.
pub record IsAnswerer {E : Type 0} (Pre : Bor World → Bor PlanParts → Options → Type 0)
    (Post : Bor World → Bor PlanParts → Options → Result Outcome E → Type 0) : Type 0 where
  pub can : CanAnswer Pre
  pub answers : AnswersTrees Post
