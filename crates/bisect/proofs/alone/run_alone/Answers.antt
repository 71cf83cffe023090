use Rattle.std.proofs.Common.{arith, ◌≡◌, ◌-◌, [], List, ℕ, None, length, refl, sym, ap, ◌∙◌}
use Rattle.box_tree.specs.Pieces.{piece_count}
use Rattle.box_tree.specs.Plans.{cut_at}
use Rattle.bisect.specs.declared.outcome.Leaf.{Leaf}
use Rattle.bisect.specs.Trees.{Tree, tree_of}
use Rattle.bisect.specs.Walks.{Seen, seen_by, boxes_from, after}
use Rattle.bisect.proofs.Listings.{are_boxes, walk_sees}
use Rattle.bisect.proofs.Walks.{shallow}
use Rattle.bisect.proofs.alone.run_alone.Goals as goal

root_boxes : (t : Tree) (p : List ℕ) → p ≡ [] → boxes_from t (36 - length p) p ≡ boxes_from t 36 []
root_boxes t p e = ap (λ (q : List ℕ). boxes_from t (36 - length q) q) e

-- what the walk has seen, where it began with no leaf
whole_walk : (t : Tree) (p : List ℕ) (ls : List Leaf) (w : Seen)
    → p ≡ [] → ls ≡ [] → w ≡ after t (seen_by 0 None ls) (boxes_from t (36 - length p) p)
    → w ≡ after t (seen_by 0 None []) (boxes_from t 36 [])
whole_walk t p ls w e f s =
    s ∙ (ap (λ (l : List Leaf). after t (seen_by 0 None l) (boxes_from t (36 - length p) p)) f
    ∙ ap (λ (ps : List (List ℕ)). after t (seen_by 0 None []) ps) (root_boxes t p e))

pub visit-requires-clause-bottom : goal.visit-requires-clause-bottom
visit-requires-clause-bottom g c κs within = λ p deep.
    ap piece_count (sym (c.requires.plan p)) ∙ c.laws.ensures p deep

pub returns-then-not-branch : goal.returns-then-not-branch
returns-then-not-branch g c =
    let t = tree_of g.S.Entry.Posted.cut_at g.S.Entry.Posted.state_at in
    let o = c.in_ok-visit.ensures.over c.if-not-branch.true in
    let n = ap (λ (ps : List (List ℕ)). length ps) (root_boxes t c.root.result c.root.ensures) in (
      boxes_from t 36 [],
      are_boxes t (shallow t (cut_at c.args.plan.now) c.requires.plan c.laws.ensures),
      omega (arith, o, n),
    )

pub returns-in-Some : goal.returns-in-Some
returns-in-Some g c =
    let t = tree_of g.S.Entry.Posted.cut_at g.S.Entry.Posted.state_at in
    let w = seen_by c.visit.new.walk.boxes c.visit.new.walk.first c.visit.new.walk.leaves.items in
    let r = walk_sees t w (boxes_from t 36 []) (whole_walk t c.root.result c.new.result.items w
    c.root.ensures c.new.ensures.items (c.in_ok-visit.ensures.seen c.if-not-branch.false)) in
    let n = r.0 in
    let l = c.visit.ensures.within.limit in
    let m = c.visit.ensures.within.room in (
      boxes_from t 36 [],
      are_boxes t (shallow t (cut_at c.args.plan.now) c.requires.plan c.laws.ensures),
      (omega (arith, n, l, m), sym r.1 ∙ c.in-Some.is, n, refl),
    )

pub returns-in-None : goal.returns-in-None
returns-in-None g c =
    let t = tree_of g.S.Entry.Posted.cut_at g.S.Entry.Posted.state_at in
    let w = seen_by c.visit.new.walk.boxes c.visit.new.walk.first c.visit.new.walk.leaves.items in
    let r = walk_sees t w (boxes_from t 36 []) (whole_walk t c.root.result c.new.result.items w
    c.root.ensures c.new.ensures.items (c.in_ok-visit.ensures.seen c.if-not-branch.false)) in
    let n = r.0 in
    let l = c.visit.ensures.within.limit in
    let m = c.visit.ensures.within.room in (
      boxes_from t 36 [],
      are_boxes t (shallow t (cut_at c.args.plan.now) c.requires.plan c.laws.ensures),
      (omega (arith, n, l, m), sym r.1 ∙ c.in-None.is, n, c.from_vec.ensures ∙ r.2),
    )
