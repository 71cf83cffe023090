use borrow.Author.Tests.{eqb-true}
use Rattle.std.proofs.Common.{arith, pos, ◌+ℤ◌, ◌^◌, ◌/◌, eq-eqb, inl, inr, ⊎_elim}
use Rattle.std.proofs.lemmas.Int.{ints}
use Rattle.dyadic.proofs.GridLemmas.{odd_fits, odd_on_grid, lowest_place, highest_place, room_test}
use Rattle.dyadic.proofs.GridLemmas.{room_out}
use Rattle.dyadic.proofs.number.OddPart.is_on_grid.Goals as goal

pub returns-then-place-ltminus512 : goal.returns-then-place-ltminus512
returns-then-place-ltminus512 c = (
  λ t. cc,
  λ g. absurd (let l = lowest_place c.args.self.odd
      (c.args.two +ℤ pos c.args.self.shift) c.requires.odd g in omega (arith, ints)),
)

pub returns-then-place-gt571 : goal.returns-then-place-gt571
returns-then-place-gt571 c = (
  λ t. cc,
  λ g. absurd (let l = highest_place c.args.self.odd
      (c.args.two +ℤ pos c.args.self.shift) c.requires.odd g in omega (arith, ints)),
)

pub returns-else-place-gt571 : goal.returns-else-place-gt571
returns-else-place-gt571 c = let e = c.args.two +ℤ pos c.args.self.shift in
    let odd = c.args.self.odd in let room = c.room_at.result in (
      λ t. odd_on_grid odd room e (room_test odd room (eqb-true (odd / 2 ^ room) 0 t))
          c.room_at.ensures.most (omega (arith, ints)) (omega (arith, ints, c.room_at.ensures.top)),
      λ g. eq-eqb (odd / 2 ^ room) 0 (room_out odd room (odd_fits odd e c.requires.odd g room
          (⊎_elim (λ h. inl h) (λ h. inr (omega (arith, ints))) c.room_at.ensures.tight))),
    )
