use Rattle.std.proofs.Common.{◌≡◌, ◌≤◌, ◌-◌, ℕ, List, length, drop, rules, arith, sym, ap}
use Rattle.std.specs.Prelude.{slice_range}
use Rattle.std.proofs.lemmas.List.{length-take}
use Rattle.cert_bytes.specs.Pieces.{Ahead}
use Rattle.cert_bytes.proofs.source.Source.bounded.Goals as goal

piece_is_short : (s : List ℕ) (begin end most : ℕ) → end ≤ length s → length s ≤ most
    → length (slice_range s begin end) ≤ most
piece_is_short s begin end most l m =
    let e = length-take (end - begin) (drop begin s) in omega (arith, l, m, e)

pub returns-clause-few : goal.returns-clause-few
returns-clause-few c =
    let ahead : c.args.self.now.ahead ≡ slice_range c.self.inside.buffer c.self.inside.begin
    c.self.inside.end = sym (ap (λ (x : Ahead). x.ahead) c.self.view_is) in
    rw ahead (piece_is_short c.self.inside.buffer c.self.inside.begin c.self.inside.end 65536
    (search (rules, c.self.invariant)) (search (rules, arith, c.self.invariant)))
