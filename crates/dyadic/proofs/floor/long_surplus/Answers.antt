use Rattle.std.specs.Prelude.{◌+◌, ◌/◌}
use Rattle.std.proofs.Common.{arith, inl, inr, ⊎_elim, ap}
use Rattle.std.proofs.lemmas.Int.{ints}
use Rattle.dyadic.proofs.FloorLemmas.{long_facts}
use Rattle.dyadic.proofs.floor.long_surplus.Goals as goal

pub returns-clause-below : goal.returns-clause-below
returns-clause-below c =
    let n = c.unsigned_abs-size.result in let v = c.unsigned_abs-size.ensures.value in
    let s = long_facts n (c.min.result + n / 2305843009213693952)
    (⊎_elim (λ z. inl (omega (arith, ints, v, z))) (λ l. inr (
      omega (arith, ints, v, l.0),
      omega (arith, ints, v, l.1),
    )) c.requires)
    (ap (λ m. m + n / 2305843009213693952) c.min.ensures) in
    omega (arith, ints, v, s.0)

pub returns-clause-above : goal.returns-clause-above
returns-clause-above c =
    let n = c.unsigned_abs-size.result in let v = c.unsigned_abs-size.ensures.value in
    let s = long_facts n (c.min.result + n / 2305843009213693952)
    (⊎_elim (λ z. inl (omega (arith, ints, v, z))) (λ l. inr (
      omega (arith, ints, v, l.0),
      omega (arith, ints, v, l.1),
    )) c.requires)
    (ap (λ m. m + n / 2305843009213693952) c.min.ensures) in
    ⊎_elim (λ z. inl z) (λ t. inr (omega (arith, ints, v, t))) s.1
