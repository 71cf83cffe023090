use Rattle.std.proofs.Common.{◌<◌, ◌^◌, arith, rules, inl, inr, ⊎_elim}
use Rattle.std.proofs.lemmas.Int.{ints}
use Rattle.std.proofs.lemmas.Nat.{leading_length}
use Rattle.dyadic.proofs.FloorLemmas.{surplus_facts}
use Rattle.dyadic.proofs.floor.surplus.Goals as goal

pub returns-clause-below : goal.returns-clause-below
returns-clause-below c =
    let f : c.unsigned_abs.result < 2 ^ 64 = search rules in
    let l = leading_length 64 c.unsigned_abs.result f in
    let s = surplus_facts c.unsigned_abs.result l.0 c.saturating_sub.result l.2 l.3
    (omega (arith, l.1, c.saturating_sub.ensures)) in
    omega (arith, ints, s.0, c.unsigned_abs.ensures.value)

pub returns-clause-above : goal.returns-clause-above
returns-clause-above c =
    let f : c.unsigned_abs.result < 2 ^ 64 = search rules in
    let l = leading_length 64 c.unsigned_abs.result f in
    let s = surplus_facts c.unsigned_abs.result l.0 c.saturating_sub.result l.2 l.3
    (omega (arith, l.1, c.saturating_sub.ensures)) in
    ⊎_elim (λ z. inl z) (λ t. inr (omega (arith, ints, t, c.unsigned_abs.ensures.value))) s.1
