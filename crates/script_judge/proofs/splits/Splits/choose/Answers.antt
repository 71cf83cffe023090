use Rattle.std.proofs.Common.{◌≡◌, sym, ap, ◌∙◌}
use Rattle.std.specs.List.{list_any}
use Rattle.std.proofs.lemmas.Option.{get_or_from_slice_get}
use Rattle.script_judge.specs.Splits.{is_none, case_ranges}
use Rattle.script_judge.specs.SplitViews.{AreRangesOf, kept_cases}
use Rattle.script_judge.proofs.CaseRanges.{one_of}
use Rattle.script_judge.proofs.splits.Splits.choose.Goals as goal

pub returns-clause-lacks : goal.returns-clause-lacks
returns-clause-lacks c =
    let parts = c.args.sides.now.parts.before in
    let ranges = c.place_of.new.self.ranges.items in
    let found = c.in_ok-place.ensures.found in
    let of = one_of (AreRangesOf parts) ranges c.in_ok-place.place found.0
    c.in_ok-place.ensures.kept found.1 in
    let same : c.index.result.now ≡ found.0 =
    c.index.ensures
    ∙ get_or_from_slice_get ranges c.in_ok-place.place found.0 c.index.result.now found.1 in
    (λ i. (same i).lacks) ∙ of.lacks
    ∙ ap (list_any is_none) (of.cases ∙ ap (case_ranges parts) found.2)

pub returns-clause-cut : goal.returns-clause-cut
returns-clause-cut c =
    let parts = c.args.sides.now.parts.before in
    let found = c.in_ok-place.ensures.found in
    let of = one_of (AreRangesOf parts) c.place_of.new.self.ranges.items c.in_ok-place.place
    found.0 c.in_ok-place.ensures.kept found.1 in
    ap kept_cases found.1 ∙ of.cases ∙ ap (case_ranges parts) found.2
