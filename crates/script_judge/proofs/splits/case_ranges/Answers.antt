use Rattle.std.proofs.Common.{◌≡◌, ◌++◌, [], ◌∷◌, take, sym, ap, ◌∙◌, arith}
use Rattle.std.specs.List.{flat_map, list_any}
use Rattle.script_cases.specs.Cases.{case_count}
use Rattle.script_judge.specs.Splits as spec
use Rattle.script_judge.proofs.CaseRanges.{next_range, all_ranges}
use Rattle.script_judge.proofs.splits.case_ranges.Goals as goal

pub loop-number-preserved : goal.loop-number-preserved
loop-number-preserved c =
    c.in_ok-push.ensures.items
    ∙ (λ i. c.loop-number.invariant i ++ (c.range_in.ensures i ∷ []))
    ∙ sym (next_range c.args.sides.now.parts.before c.args.var c.loop-number.number
    (flat_map (λ d. d) c.conjunctions.result) c.conjunctions.ensures.case)

pub returns-clause-ranges : goal.returns-clause-ranges
returns-clause-ranges c =
    let parts = c.args.sides.now.parts.before in
    let all : c.loop-number.number ≡ case_count parts = omega (
      arith,
      c.loop-number-test.false,
      c.loop-number.auto.number-end,
      c.case_count-number-end.ensures.count,
    ) in
    record {
      cases = c.loop-number.invariant ∙ ap (λ n. take n (spec.case_ranges parts c.args.var)) all
          ∙ all_ranges parts c.args.var;
      lacks = c.lacks_some-lacks.ensures ∙ ap (list_any spec.is_none) c.as_slice.ensures.value;
    }
