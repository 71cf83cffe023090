use Rattle.std.proofs.Common.{◌≡◌, ℕ, sym, ap, ◌∙◌, arith, ◌≤◌, ◌-◌, [], List, take}
use Rattle.script_cases.proofs.Taken.{conjunction_at}
use Rattle.script_cases.proofs.conjunctions.conjunction.Goals as goal

nothing_taken : {X : Type 0} (end from : ℕ) (xs : List X) → end ≤ from → take (end - from) xs ≡ []
nothing_taken end from xs h = ap (λ n. take n xs) (none end from h)
  where
    none : (end from : ℕ) → end ≤ from → end - from ≡ 0
    none end from h = omega (h, arith)

pub returns-then-from-end : goal.returns-then-from-end
returns-then-from-end g c =
    rw c.start_at-from.ensures
    (sym (conjunction_at 0 c.args.items.now c.args.ends.now c.args.number c.requires.number))

pub returns-else-from-end : goal.returns-else-from-end
returns-else-from-end g c =
    sym (conjunction_at 0 c.args.items.now c.args.ends.now c.args.number c.requires.number
    ∙ nothing_taken _ _ _ (rw (← c.start_at-from.ensures) c.if-from-end.false))
