use Rattle.std.proofs.Common.{sym, ◌∙◌, arith, rules}
use Rattle.poly_normal.proofs.FlatRows.{rows-push, same_length}
use Rattle.poly_normal.proofs.terms.Terms.push.Goals as goal

pub returns-clause-ok : goal.returns-clause-ok
returns-clause-ok c = let s = c.args.self.now in
    let e = rows-push s.width
    s.coefficients.items s.powers.items c.args.coefficient c.args.monomial.now
    (same_length _ _ _ _ s.width s.powers.ok.0 s.layout s.coefficients.ok.0) c.requires in
    let x = c.extend_from_slice.ensures.items in let y = c.in_ok-push.ensures.items in search rules
