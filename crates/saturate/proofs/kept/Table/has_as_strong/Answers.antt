use Rattle.std.proofs.Common.{◌≡◌, ◌∙◌, ◌-◌, Some, None, arith, slice_get, ap, subst}
use Rattle.facts.specs.Order.{slot_of}
use Rattle.facts.specs.declared.fact.Fact.TheVariants as fact
use Rattle.saturate.specs.Tables.{fact_at, place_of, rel_fact, fix_fact, nzr_fact}
use Rattle.saturate.proofs.Strong.{got, as_strong, none_strong, mark_strong}
use Rattle.saturate.proofs.kept.Table.has_as_strong.Goals as goal

pub returns-in-Some-index-2 : goal.returns-in-Some-index-2
returns-in-Some-index-2 c =
    let t = c.args.self.now in
    let q = rw c.in-Rel.is at c.requires.found in
    let h = rw c.in-Rel.is at c.requires.there in
    let k : c.pair_number-k.result ≡ place_of c.in-Rel.x c.in-Rel.y t.pairs.items =
    omega (arith, q, c.pair_number-k.ensures) in
    let e = subst (λ i. slice_get t.rel.items i ≡ Some (Some c.in-Some-index-2.e)) k
    (got t.rel.items c.pair_number-k.result c.index-in-Rel.result.now (omega (arith, k, h.0))
    c.index-in-Rel.ensures ∙ ap Some c.in-Some-index-2.is) in
    as_strong (fact_at t (slot_of c.args.c.now))
    (fact.Rel c.in-Rel.x c.in-Rel.y c.in-Some-index-2.e) c.args.c.now c.stronger.result
    (rw c.in-Rel.is (ap (rel_fact c.in-Rel.x c.in-Rel.y) e)) c.stronger.ensures

pub returns-in-None-index-2 : goal.returns-in-None-index-2
returns-in-None-index-2 c =
    let t = c.args.self.now in
    let q = rw c.in-Rel.is at c.requires.found in
    let h = rw c.in-Rel.is at c.requires.there in
    let k : c.pair_number-k.result ≡ place_of c.in-Rel.x c.in-Rel.y t.pairs.items =
    omega (arith, q, c.pair_number-k.ensures) in
    let e = subst (λ i. slice_get t.rel.items i ≡ Some None) k
    (got t.rel.items c.pair_number-k.result c.index-in-Rel.result.now (omega (arith, k, h.0))
    c.index-in-Rel.ensures ∙ ap Some c.in-None-index-2.is) in
    none_strong (fact_at t (slot_of c.args.c.now)) c.args.c.now
    (rw c.in-Rel.is (ap (rel_fact c.in-Rel.x c.in-Rel.y) e))

pub returns-in-Some-index-3 : goal.returns-in-Some-index-3
returns-in-Some-index-3 c =
    let t = c.args.self.now in
    let h = rw c.in-Fix.is at c.requires.there in
    let e = got t.fix.items c.in-Fix.x.0 c.index-in-Fix.result.now h c.index-in-Fix.ensures
    ∙ ap Some c.in-Some-index-3.is in
    as_strong (fact_at t (slot_of c.args.c.now)) (fact.Fix c.in-Fix.x c.in-Some-index-3.k)
    c.args.c.now c.stronger-in-Some-index-3.result (rw c.in-Fix.is (ap (fix_fact c.in-Fix.x) e))
    c.stronger-in-Some-index-3.ensures

pub returns-in-None-index-3 : goal.returns-in-None-index-3
returns-in-None-index-3 c =
    let t = c.args.self.now in
    let h = rw c.in-Fix.is at c.requires.there in
    let e = got t.fix.items c.in-Fix.x.0 c.index-in-Fix.result.now h c.index-in-Fix.ensures
    ∙ ap Some c.in-None-index-3.is in
    none_strong (fact_at t (slot_of c.args.c.now)) c.args.c.now
    (rw c.in-Fix.is (ap (fix_fact c.in-Fix.x) e))

pub returns-in-Nzr : goal.returns-in-Nzr
returns-in-Nzr c =
    let t = c.args.self.now in
    let h = rw c.in-Nzr.is at c.requires.there in
    let e = got t.nzr.items c.in-Nzr.x.0 c.index-in-Nzr.result.now h c.index-in-Nzr.ensures in
    mark_strong (fact_at t (slot_of c.args.c.now)) c.args.c.now c.in-Nzr.x
    c.index-in-Nzr.result.now (rw c.in-Nzr.is (ap (nzr_fact c.in-Nzr.x) e)) c.in-Nzr.is
