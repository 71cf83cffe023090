use Rattle.std.proofs.Common.{◌≡◌, ◌+◌, ◌++◌, ◌∷◌, [], ℕ, List, Vec, Global, arith, length, take}
use Rattle.std.proofs.Common.{map, ap, sym, subst, ◌∙◌, length-append}
use Rattle.std.proofs.lemmas.List.{map_more}
use Rattle.rule_universe.specs.Flat.{rows_in}
use Rattle.rule_universe.proofs.Cuts.{IsFull, full_more, rows_more}
use Rattle.rule_universe.proofs.flat_rows.flat_rows.Goals as goal

pub loop-row-preserved : goal.loop-row-preserved
loop-row-preserved c =
    let f : Vec ℕ Global → List ℕ = λ row. row.items in
    let old = c.loop-row.items.items in
    let starts = c.loop-row.starts.items in
    let row = c.row-item.result.items in
    let new = c.extend_from_slice.new.self.items in
    let m = c.len.result in
    let grown : new ≡ old ++ row =
    c.in_ok-extend_from_slice.ensures.items ∙ ap (λ l. old ++ l) c.as_slice.ensures.value in
    let count : m ≡ length new = omega (arith, c.len.ensures, c.extend_from_slice.new.self.ok.0) in
    let sum : length new ≡ length old + length row = ap length grown ∙ length-append old row in
    record {
      full = subst (IsFull (length new)) (sym c.in_ok-end_row.ensures)
          (subst (λ n. IsFull (length new) (starts ++ n ∷ [])) (sym count) (full_more (length old)
          (length new) starts c.loop-row.invariant.full (omega (arith, sum))));
      rows = ap (rows_in new) c.in_ok-end_row.ensures ∙ ap (λ l. rows_in l (starts ++ m ∷ [])) grown
          ∙ rows_more old row starts m (count ∙ sum) c.loop-row.invariant.full
          ∙ ap (λ ls. ls ++ row ∷ []) c.loop-row.invariant.rows
          ∙ ap (λ r. map f (take c.loop-row.row-index c.args.rows.now) ++ f r ∷ []) c.row-item.is
          ∙ sym (map_more f c.args.rows.now c.loop-row.row-index c.row-item.result
          (omega (arith, c.loop-row-test.true)));
    }
