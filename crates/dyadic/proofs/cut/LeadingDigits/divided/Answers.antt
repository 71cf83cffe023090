use Rattle.std.proofs.Common.{inl, arith}
use Rattle.std.proofs.lemmas.Nat.{le-div}
use Rattle.std.proofs.lemmas.Int.{ints}
use Rattle.dyadic.proofs.CutLemmas.{Dividing-step, Dividing-cuts, divide_cut}
use Rattle.dyadic.proofs.cut.LeadingDigits.divided.Goals as goal

pub loop-part-preserved : goal.loop-part-preserved
loop-part-preserved c = Dividing-step _ _ _ c.loop-part.part.quotient c.loop-part.part.rest
    c.loop-part.part.at _ _ _ c.turn.result c.loop-part.invariant (omega (arith, ints))
    (omega (arith, ints)) c.next-part.ensures.value c.next-part.ensures.rest

pub returns-clause-cuts : goal.returns-clause-cuts
returns-clause-cuts c = λ x e. Dividing-cuts _ _ _ c.args.self.two _ _ _ _ c.loop-part.invariant
    (omega (arith, ints)) (omega (arith, ints)) x (rw c.if-self.false at e)

pub returns-then-self-clause-cuts : goal.returns-then-self-clause-cuts
returns-then-self-clause-cuts c = λ x e. divide_cut c.args.self.digits c.args.divisor _
    c.args.self.two c.requires.not_zero (omega (arith, ints)) x (rw c.if-self.true at e)

pub returns-then-self-clause-long : goal.returns-then-self-clause-long
returns-then-self-clause-long c = λ i. inl (le-div 576460752303423488 c.args.self.digits
    c.args.divisor c.requires.not_zero (c.requires.long c.if-self.true))
