use Rattle.std.proofs.Common.{◌<◌, ◌≤◌, subst, sym, rules}
use Rattle.dyadic.proofs.RatioLemmas.{lifted_facts}
use Rattle.dyadic.proofs.reciprocal.Lifted.of.Goals as goal

pub returns : goal.returns
returns c =
    let f : c.args.number < 18446744073709551616 = search rules in
    let l = lifted_facts c.args.number c.requires f in
    record { value = l.1; long = subst (λ m. 9223372036854775808 ≤ m) (sym l.1) l.2; few = l.0 }
