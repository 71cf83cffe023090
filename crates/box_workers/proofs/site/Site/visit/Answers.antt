use Rattle.std.proofs.Common.{◌≡◌, ◌<◌, ◌+◌, ℕ, List, Bool, IsTrue, false, length, ◌-◌, arith}
use Rattle.std.proofs.Common.{ap, sym, ◌∙◌}
use Rattle.std.proofs.lemmas.Result.{IfOk-weaker}
use Rattle.box_tree.specs.Pieces.{piece_count}
use Rattle.bisect.specs.Trees.{Tree, tree_of}
use Rattle.bisect.specs.Walks.{Seen, seen_by, boxes_from, after}
use Rattle.box_workers.proofs.Walking.{visited, total_ones}
use Rattle.box_workers.proofs.site.Site.visit.Goals as goal

pub visit-requires-clause-bottom : goal.visit-requires-clause-bottom
visit-requires-clause-bottom g c κs within = λ p deep.
    ap piece_count (sym (c.self.invariant p)) ∙ c.laws.ensures p deep

pub returns-clause-all : goal.returns-clause-all
returns-clause-all g c =
    let t : Tree = tree_of g.S.Entry.Posted.cut_at g.S.Entry.Posted.state_at in
    let old : Seen =
    seen_by c.args.walk.now.boxes c.args.walk.now.first c.args.walk.now.leaves.items in
    let new : Seen =
    seen_by c.visit.new.walk.boxes c.visit.new.walk.first c.visit.new.walk.leaves.items in
    let paths : List (List ℕ) = boxes_from t (36 - length c.args.path) c.args.path in
    IfOk-weaker c.visit.result (λ (all : Bool). IsTrue all
    → new ≡ after t old (boxes_from t (36 - length c.args.path) c.args.path)) _
    (λ v f e. visited t c.args.path old new (c.walks_see.ensures.boxes t old paths)
    (c.walks_see.ensures.leaves t old paths) (f e)) c.visit.ensures.seen

pub returns-clause-over : goal.returns-clause-over
returns-clause-over g c =
    let t : Tree = tree_of g.S.Entry.Posted.cut_at g.S.Entry.Posted.state_at in
    let ones = total_ones (boxes_from t (36 - length c.args.path) c.args.path) in
    IfOk-weaker c.visit.result (λ (all : Bool). all ≡ false → c.args.walk.now.limit
    < c.args.walk.now.boxes + length (boxes_from t (36 - length c.args.path) c.args.path)) _
    (λ v f e. let l = f e in omega arith) c.visit.ensures.over
