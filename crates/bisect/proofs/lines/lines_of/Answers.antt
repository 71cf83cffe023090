use Rattle.std.proofs.Common.{◌≡◌, ◌+◌, ◌++◌, ◌∷◌, [], ℕ, List, sym, ap, ◌∙◌, arith}
use Rattle.std.proofs.lemmas.List.FromFn.{map-range_with_len_more}
use Rattle.goals.specs.declared.line.Line.{Line}
use Rattle.bisect.specs.Gathered.{line_of, lines_of}
use Rattle.bisect.specs.declared.outcome.Leaf.{Leaf}
use Rattle.bisect.proofs.lines.lines_of.Goals as goal

one_more : (leaves : List Leaf) (n : ℕ) (lines : List Line) (l : Line) → lines ≡ lines_of leaves n
    → l ≡ line_of leaves n → lines ++ l ∷ [] ≡ lines_of leaves (n + 1)
one_more leaves n lines l e f =
    ap (λ (ls : List Line). ls ++ l ∷ []) e ∙ (ap (λ (k : Line). lines_of leaves n ++ k ∷ []) f
    ∙ sym (map-range_with_len_more (line_of leaves) 0 n n (omega arith)))

pub loop-goal-preserved : goal.loop-goal-preserved
loop-goal-preserved c = c.in_ok-push.ensures.items ∙ one_more c.args.leaves.now c.loop-goal.goal
    c.loop-goal.lines.items c.line_with.result c.loop-goal.invariant c.line_with.ensures
