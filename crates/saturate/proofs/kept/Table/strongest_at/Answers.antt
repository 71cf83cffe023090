use Rattle.std.proofs.Common.{◌≡◌, ◌-◌, arith, slice_get, ap, ◌∙◌}
use Rattle.saturate.specs.Tables.{place_of, rel_fact}
use Rattle.saturate.proofs.kept.Table.strongest_at.Goals as goal

pub pair_number-requires : goal.pair_number-requires
pair_number-requires c =
    let q = rw c.in-Rel.is at c.requires in
    omega (arith, q)

pub returns-in-Rel : goal.returns-in-Rel
returns-in-Rel c =
    let t = c.args.self.now in
    let q = rw c.in-Rel.is at c.requires in
    let k : c.pair_number.result ≡ place_of c.in-Rel.x c.in-Rel.y t.pairs.items =
    omega (arith, q, c.pair_number.ensures) in
    rw c.in-Rel.is (c.related_at.ensures
    ∙ ap (λ n. rel_fact c.in-Rel.x c.in-Rel.y (slice_get t.rel.items n)) k)
