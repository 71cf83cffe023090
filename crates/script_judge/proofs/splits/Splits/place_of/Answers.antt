use Rattle.std.proofs.Common.{◌≡◌, ◌++◌, [], ◌∷◌, length, Some, sym, ap, ◌∙◌, subst, arith}
use Rattle.std.specs.List.{slice_get, AllByRecursion}
use Rattle.std.proofs.lemmas.Option.{slice_get_read}
use Rattle.expr_dag.proofs.Same.{same_id}
use Rattle.script_cases.proofs.Lists.{all_joined}
use Rattle.script_judge.specs.SplitViews.{AreRangesOf}
use Rattle.script_judge.proofs.CaseRanges.{last_at_end}
use Rattle.script_judge.proofs.splits.Splits.place_of.Goals as goal

pub returns-then-eq-clause-found : goal.returns-then-eq-clause-found
returns-then-eq-clause-found c =
    let found = c.index.result.now in (
      found,
      slice_get_read c.args.self.now.ranges.items c.len-place-end.result c.loop-place.place found
          (omega (arith, c.len-place-end.ensures, c.args.self.now.ranges.ok.0))
          (omega (arith, c.loop-place-test.true)) c.index.ensures,
      same_id found.var c.args.x (sym c.if-eq.ensures),
    )

pub returns-clause-found : goal.returns-clause-found
returns-clause-found c =
    let old = c.args.self.now.ranges.items in
    let new = c.in_ok-case_ranges.field-0 in
    let at_end : c.len-place.result ≡ length old =
    omega (arith, c.len-place.ensures, c.args.self.now.ranges.ok.0) in
    let at : slice_get (old ++ (new ∷ [])) c.len-place.result ≡ Some new =
    ap (slice_get (old ++ (new ∷ []))) at_end ∙ last_at_end old new in (
      new,
      ap (λ l. slice_get l c.len-place.result) c.in_ok-push.ensures.items ∙ at,
      c.in_ok-case_ranges.ensures.var,
    )

pub returns-clause-kept : goal.returns-clause-kept
returns-clause-kept c =
    subst (AllByRecursion (AreRangesOf c.args.sides.now.parts.before))
    (sym c.in_ok-push.ensures.items) (all_joined (AreRangesOf c.args.sides.now.parts.before)
    c.args.self.now.ranges.items (c.in_ok-case_ranges.field-0 ∷ []) c.requires.kept
    (c.in_ok-case_ranges.ensures.ranges, tt))
