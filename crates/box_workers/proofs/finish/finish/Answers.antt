use Rattle.std.proofs.Common.{[], arith, ap, refl, sym, ◌∙◌}
use Rattle.bisect.specs.Trees.{Tree, tree_of}
use Rattle.bisect.specs.Walks.{boxes_from}
use Rattle.box_workers.specs.Answers.{first_open_in}
use Rattle.box_workers.proofs.Answering.{parts, from_start, too_many_records, too_many_left}
use Rattle.box_workers.proofs.Answering.{counted, leaves_are, first_is}
use Rattle.box_workers.proofs.finish.finish.Goals as goal

pub returns-then-not-branch : goal.returns-then-not-branch
returns-then-not-branch g c =
    let t : Tree = tree_of g.S.Entry.Posted.cut_at g.S.Entry.Posted.state_at in
    let fits = parts t g.S.Entry.Posted.path_of c.args.site.now
    c.args.records.items c.requires.records in
    let over = c.in_ok-finish_records.ensures.over c.if-not-branch.true in (
      boxes_from t 36 [],
      c.laws.ensures.boxes,
      too_many_records t c.laws.ensures
          c.args.records.items c.args.left.items fits c.requires.account c.args.limit
          (omega (arith, c.walk-walk.ensures.0, c.walk-walk.ensures.1, over)),
    )

pub returns-then-not-branch-2 : goal.returns-then-not-branch-2
returns-then-not-branch-2 g c =
    let t : Tree = tree_of g.S.Entry.Posted.cut_at g.S.Entry.Posted.state_at in
    let fits = parts t g.S.Entry.Posted.path_of c.args.site.now
    c.args.records.items c.requires.records in
    let first = from_start t _ _ _ _ _ _ c.walk-walk.ensures.0 c.walk-walk.ensures.2
    (c.in_ok-finish_records.ensures.all c.if-not-branch.false) in
    let over = c.in_ok-finish_left.ensures.over c.if-not-branch-2.true in (
      boxes_from t 36 [],
      c.laws.ensures.boxes,
      too_many_left t c.laws.ensures c.args.records.items c.args.left.items fits c.requires.account
          c.finish_records.new.walk.boxes c.finish_records.new.walk.limit c.args.limit
          c.finish_records.new.walk.leaves.items first
          (c.in_ok-finish_records.ensures.within.limit ∙ c.walk-walk.ensures.1) over,
    )

pub returns-in-Some : goal.returns-in-Some
returns-in-Some g c =
    let t : Tree = tree_of g.S.Entry.Posted.cut_at g.S.Entry.Posted.state_at in
    let fits = parts t g.S.Entry.Posted.path_of c.args.site.now
    c.args.records.items c.requires.records in
    let first = from_start t _ _ _ _ _ _ c.walk-walk.ensures.0 c.walk-walk.ensures.2
    (c.in_ok-finish_records.ensures.all c.if-not-branch.false) in
    let second = c.in_ok-finish_left.ensures.all c.if-not-branch-2.false in
    let count = counted t c.laws.ensures c.args.records.items c.args.left.items
    fits c.requires.account c.finish_records.new.walk.boxes c.finish_left.new.walk.boxes
    c.finish_records.new.walk.leaves.items c.finish_left.new.walk.leaves.items
    c.sort_leaves.new.leaves.items first second c.sort_leaves.ensures.permutation
    c.sort_leaves.ensures.sorted in
    let open' = first_is t c.laws.ensures c.args.records.items c.args.left.items
    fits c.requires.account c.finish_records.new.walk.boxes c.finish_left.new.walk.boxes
    c.finish_records.new.walk.leaves.items c.finish_left.new.walk.leaves.items
    c.sort_leaves.new.leaves.items first second c.sort_leaves.ensures.permutation
    c.sort_leaves.ensures.sorted in
    let room = c.in_ok-finish_left.ensures.within.room in
    let limit = c.in_ok-finish_left.ensures.within.limit
    ∙ c.in_ok-finish_records.ensures.within.limit ∙ c.walk-walk.ensures.1 in (
      boxes_from t 36 [],
      c.laws.ensures.boxes,
      (
        omega (arith, count, room, limit),
        sym open' ∙ ap first_open_in (sym c.as_slice.ensures.value)
            ∙ sym c.first_open.ensures ∙ c.in-Some.is,
        count,
        refl,
      ),
    )

pub returns-in-None : goal.returns-in-None
returns-in-None g c =
    let t : Tree = tree_of g.S.Entry.Posted.cut_at g.S.Entry.Posted.state_at in
    let fits = parts t g.S.Entry.Posted.path_of c.args.site.now
    c.args.records.items c.requires.records in
    let first = from_start t _ _ _ _ _ _ c.walk-walk.ensures.0 c.walk-walk.ensures.2
    (c.in_ok-finish_records.ensures.all c.if-not-branch.false) in
    let second = c.in_ok-finish_left.ensures.all c.if-not-branch-2.false in
    let count = counted t c.laws.ensures c.args.records.items c.args.left.items
    fits c.requires.account c.finish_records.new.walk.boxes c.finish_left.new.walk.boxes
    c.finish_records.new.walk.leaves.items c.finish_left.new.walk.leaves.items
    c.sort_leaves.new.leaves.items first second c.sort_leaves.ensures.permutation
    c.sort_leaves.ensures.sorted in
    let open' = first_is t c.laws.ensures c.args.records.items c.args.left.items
    fits c.requires.account c.finish_records.new.walk.boxes c.finish_left.new.walk.boxes
    c.finish_records.new.walk.leaves.items c.finish_left.new.walk.leaves.items
    c.sort_leaves.new.leaves.items first second c.sort_leaves.ensures.permutation
    c.sort_leaves.ensures.sorted in
    let leaves = leaves_are t c.laws.ensures c.args.records.items c.args.left.items
    fits c.requires.account c.finish_records.new.walk.boxes c.finish_left.new.walk.boxes
    c.finish_records.new.walk.leaves.items c.finish_left.new.walk.leaves.items
    c.sort_leaves.new.leaves.items first second c.sort_leaves.ensures.permutation
    c.sort_leaves.ensures.sorted in
    let room = c.in_ok-finish_left.ensures.within.room in
    let limit = c.in_ok-finish_left.ensures.within.limit
    ∙ c.in_ok-finish_records.ensures.within.limit ∙ c.walk-walk.ensures.1 in (
      boxes_from t 36 [],
      c.laws.ensures.boxes,
      (
        omega (arith, count, room, limit),
        sym open' ∙ ap first_open_in (sym c.as_slice.ensures.value)
            ∙ sym c.first_open.ensures ∙ c.in-None.is,
        count,
        c.from_vec.ensures ∙ leaves,
      ),
    )
