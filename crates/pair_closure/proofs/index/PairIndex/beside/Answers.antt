use Rattle.std.proofs.Common.{◌≡◌, ◌≤◌, length, map, Some, slice_get, sym, ap, ◌∙◌, subst}
use Rattle.std.proofs.lemmas.Option.{slice_get-get_or}
use Rattle.pair_closure.specs.Reached.{Has, IsEachOnce}
use Rattle.pair_closure.specs.Rows.{IsIndexed}
use Rattle.pair_closure.proofs.RowLaws.{seconds_has, seconds_once}
use Rattle.pair_closure.proofs.RowsPut.{beside_row, beside_none}
use Rattle.pair_closure.proofs.index.PairIndex.beside.Goals as goal

pub returns-in-Some-clause-list : goal.returns-in-Some-clause-list
returns-in-Some-clause-list c =
    let k : IsIndexed c.args.self.now (map (λ row. row.items) c.self.inside.rows.items) =
    subst (λ p. IsIndexed p (map (λ row. row.items) c.self.inside.rows.items))
    c.self.view_is c.self.invariant in
    let within = c.in-Some.ensures.lookup.3 in
    let at : slice_get c.self.inside.rows.items c.args.first.0 ≡ Some c.in-Some.row.now =
    subst (λ l. slice_get l c.args.first.0 ≡ Some c.in-Some.row.now) c.deref.ensures.value
    (slice_get-get_or c.deref.result.now c.args.first.0 c.in-Some.row.now within.0
    ∙ ap Some (sym (within.1 c.in-Some.row.now))) in
    c.as_slice.ensures.value ∙ beside_row
    (λ row. row.items) c.args.self.now c.self.inside.rows.items c.args.first k c.in-Some.row.now at

pub returns-in-None-clause-list : goal.returns-in-None-clause-list
returns-in-None-clause-list c =
    let k : IsIndexed c.args.self.now (map (λ row. row.items) c.self.inside.rows.items) =
    subst (λ p. IsIndexed p (map (λ row. row.items) c.self.inside.rows.items))
    c.self.view_is c.self.invariant in
    let past : length c.self.inside.rows.items ≤ c.args.first.0 =
    subst (λ l. length l ≤ c.args.first.0) c.deref.ensures.value c.in-None.ensures.lookup.3 in
    beside_none (λ row. row.items) c.args.self.now c.self.inside.rows.items c.args.first k past

pub returns-in-Some-clause-once : goal.returns-in-Some-clause-once
returns-in-Some-clause-once c = subst IsEachOnce (sym (returns-in-Some-clause-list c))
    (seconds_once c.args.self.now c.args.first (subst IsEachOnce c.self.view_is c.laws.ensures))

pub returns-in-Some-clause-sides : goal.returns-in-Some-clause-sides
returns-in-Some-clause-sides c b =
    let h = seconds_has c.args.self.now c.args.first b in (
      λ m. h.0 (subst (λ l. Has l b) (returns-in-Some-clause-list c) m),
      λ m. subst (λ l. Has l b) (sym (returns-in-Some-clause-list c)) (h.1 m),
    )

pub returns-in-None-clause-sides : goal.returns-in-None-clause-sides
returns-in-None-clause-sides c b =
    let h = seconds_has c.args.self.now c.args.first b in (
      λ m. h.0 (subst (λ l. Has l b) (returns-in-None-clause-list c) m),
      λ m. subst (λ l. Has l b) (sym (returns-in-None-clause-list c)) (h.1 m),
    )
