use Rattle.std.proofs.Common.{arith, ◌<◌, ◌^◌, rules, inl, inr, ⊎_elim}
use Rattle.std.proofs.lemmas.Int.{ints}
use Rattle.std.proofs.lemmas.Nat.{leading_length}
use Rattle.dyadic.proofs.CutLemmas.{narrow_cuts, narrow_few, narrow_full}
use Rattle.dyadic.proofs.cut.LeadingDigits.narrowed.Goals as goal

pub returns-clause-cuts : goal.returns-clause-cuts
returns-clause-cuts c = λ x h. narrow_cuts c.args.self.digits c.args.self.two c.args.self.inexact
    c.max-shift.result c.split-parts.result.kept c.split-parts.result.rest _ (omega (arith, ints))
    (omega (arith, c.split-parts.ensures.whole)) c.split-parts.ensures.rest x h

pub returns-clause-few : goal.returns-clause-few
returns-clause-few c =
    let f : c.args.self.digits < 2 ^ 128 = search rules in
    let l = leading_length 128 c.args.self.digits f in
    let few = narrow_few c.args.self.digits c.max-shift.result l.0 l.2 (omega (arith, l.1)) in
    omega (arith, c.split-parts.ensures.kept)

pub returns-clause-full : goal.returns-clause-full
returns-clause-full c =
    let f : c.args.self.digits < 2 ^ 128 = search rules in
    let l = leading_length 128 c.args.self.digits f in
    rw c.split-parts.ensures.kept
    (narrow_full c.args.self.digits c.max-shift.result l.0 c.places_below_last.result
    c.args.self.two _ l.2 l.3 (omega (arith, l.1))
    (⊎_elim (λ t. inl (let a = t.1 in (t.0, omega (arith, ints)))) (λ t. inr (omega (arith, ints)))
    c.places_below_last.ensures) c.requires.long (omega (arith, ints)))
