use Rattle.std.specs.Prelude.{◌≡◌, slice_get, Some, None}
use Rattle.std.proofs.Common.{sym, ap, ◌∙◌, rules, subst}
use Rattle.std.proofs.lemmas.Result.{err_from_is_err_and}
use Rattle.point_text.specs.Points.{IsSetRow}
use Rattle.point_text.proofs.Places.{all_set}
use Rattle.point_text.proofs.Gathering.{gathered_more}
use Rattle.point_text.specs.Taken.{IsPlaceRefused}
use Rattle.point_text.specs.Gathered.{RowsRefused, no_name, no_place, no_row}
use Rattle.point_text.proofs.Faults.{rose}
use Rattle.point_text.proofs.reading.rows_of.Goals as goal

pub loop-rest-preserved : goal.loop-rest-preserved
loop-rest-preserved c =
    let unset : slice_get c.as_slice.result.now c.in_ok-place.place ≡ Some None =
    c.in_ok-place.ensures.unset in
    record {
      count = search (c, rules);
      normal = all_set IsSetRow c.loop-rest.rows.items c.in_ok-place.place (Some c.in_ok-row.row)
          c.loop-rest.invariant.normal c.in_ok-row.ensures.normal;
      within = c.in_ok-row.ensures.within;
      gathered = gathered_more c.args.script.now.variables c.args.text.now c.args.tokens.now
          c.loop-rest.rest.now c.in_ok-name.later.now c.in_ok-row.behind.now c.in_ok-name.name.now
          c.loop-rest.rows.items c.in_ok-place.place c.in_ok-row.row c.loop-rest.invariant.gathered
          c.in_ok-name.ensures.taken
          (ap (λ rs. slice_get rs c.in_ok-place.place) (sym c.as_slice.ensures.value) ∙ unset)
          c.in_ok-place.ensures.first c.in_ok-row.ensures.taken;
    }

pub returns-in_err-name-clause-refused : goal.returns-in_err-name-clause-refused
returns-in_err-name-clause-refused c = λ f e.
    let p = err_from_is_err_and c.from_residual-in_err-name.result
    c.from_residual-in_err-name.ensures.1 in
    subst (RowsRefused c.args.script.now.variables c.args.text.now c.args.tokens.now c.args.end)
    (rose c.from_residual-in_err-name.result c.in_err-name.field-0.0 f p.0 p.1 p.2 e)
    (no_name c.loop-rest.rest.now c.loop-rest.rows.items c.loop-rest.invariant.gathered
    (search (c, rules)) c.in_err-name.ensures.refused.0 c.in_err-name.ensures.refused.1)

pub returns-in_err-place-clause-refused : goal.returns-in_err-place-clause-refused
returns-in_err-place-clause-refused c = λ f e.
    let p = err_from_is_err_and c.from_residual-in_err-place.result
    c.from_residual-in_err-place.ensures.1 in
    subst (RowsRefused c.args.script.now.variables c.args.text.now c.args.tokens.now c.args.end)
    (rose c.from_residual-in_err-place.result c.in_err-place.field-0.0 f p.0 p.1 p.2 e)
    (no_place c.loop-rest.rest.now c.in_ok-name.later.now c.loop-rest.rows.items
    c.in_ok-name.name.now c.in_ok-name.at c.loop-rest.invariant.gathered
    c.in_ok-name.ensures.taken c.in_ok-name.ensures.start
    (subst (λ rs. IsPlaceRefused c.args.script.now.variables rs c.in_ok-name.name.now
    c.in_ok-name.at c.in_err-place.field-0.0) c.as_slice.ensures.value
    c.in_err-place.ensures.refused))

pub returns-in_err-row-clause-refused : goal.returns-in_err-row-clause-refused
returns-in_err-row-clause-refused c = λ f e.
    let p = err_from_is_err_and c.from_residual-in_err-row.result
    c.from_residual-in_err-row.ensures.1 in
    subst (RowsRefused c.args.script.now.variables c.args.text.now c.args.tokens.now c.args.end)
    (rose c.from_residual-in_err-row.result c.in_err-row.field-0.0 f p.0 p.1 p.2 e)
    (no_row c.loop-rest.rest.now c.in_ok-name.later.now c.loop-rest.rows.items
    c.in_ok-name.name.now c.in_ok-place.place c.loop-rest.invariant.gathered
    c.in_ok-name.ensures.taken c.in_ok-place.ensures.first (let unset :
    slice_get c.as_slice.result.now c.in_ok-place.place ≡ Some None =
    c.in_ok-place.ensures.unset in
    ap (λ rs. slice_get rs c.in_ok-place.place) (sym c.as_slice.ensures.value) ∙ unset)
    c.in_err-row.ensures.refused)
