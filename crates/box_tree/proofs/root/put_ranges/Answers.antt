use Rattle.std.proofs.Common.{◌≡◌, ◌<◌, ◌++◌, [], ◌∷◌, List, length, take, sym, ◌∙◌, arith}
use Rattle.std.proofs.Common.{append-nil}
use Rattle.fx_model.specs.declared.ExprId.{ExprId}
use Rattle.script_claims.specs.declared.claim.Claim.{Claim}
use Rattle.script_claims.specs.declared.range.SplitRange.{SplitRange}
use Rattle.box_tree.specs.Root.{split_ranges}
use Rattle.box_tree.proofs.root.put_ranges.Goals as goal

whole : (claims : List Claim) (found all : List SplitRange) (order : List ExprId) → length order < 1
    → found ++ split_ranges claims order ≡ all → found ≡ all
whole claims found all [] m e = sym (append-nil found) ∙ e
whole claims found all (x ∷ xs) m e = absurd (omega (arith, m))

pub returns-clause-is : goal.returns-clause-is
returns-clause-is c =
    whole c.args.claims.now (take c.loop-order.count c.loop-order.entries)
    (split_ranges c.args.claims.now c.args.order.now) c.loop-order.order.now c.in_default.len_below
    c.loop-order.invariant.is
