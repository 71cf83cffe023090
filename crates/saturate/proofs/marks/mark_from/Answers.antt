use Rattle.std.proofs.Common.{◌≡◌, ◌∙◌, arith, sym, subst, inl, inr}
use Rattle.std.proofs.lemmas.Option.{slice_get_within}
use Rattle.facts.proofs.CommonParts.{some-inj}
use Rattle.derivation.specs.Changes.{IsUser}
use Rattle.saturate.proofs.marks.mark_from.Goals as goal

pub mark_users-requires : goal.mark_users-requires
mark_users-requires c = λ k w.
    let users = c.users_at.ensures c.in-Some.field-0 (rw c.in-Some.is at c.requires.placed) in
    let u = (users.exactly k).0 w in
    let h = slice_get_within c.args.uni.now.instances k u.0 u.1 in
    omega (arith, h, c.requires.long, c.clear.auto.due)

pub returns-in-Some-clause-marked : goal.returns-in-Some-clause-marked
returns-in-Some-clause-marked c = λ s e k x.
    let users = c.users_at.ensures c.in-Some.field-0 (rw c.in-Some.is at c.requires.placed) in
    let same : s ≡ c.in-Some.field-0 = some-inj s c.in-Some.field-0 (sym e ∙ c.in-Some.is) in
    c.mark_users.ensures.marked k
    ((users.exactly k).1 (subst (λ t. IsUser c.args.uni.now.instances t k) same x))

pub returns-in-Some-clause-only : goal.returns-in-Some-clause-only
returns-in-Some-clause-only c = λ k e.
    let users = c.users_at.ensures c.in-Some.field-0 (rw c.in-Some.is at c.requires.placed) in
    elim (c.mark_users.ensures.only k e) [
      | inl y ↦ absurd (c.clear.ensures k y)
      | inr y ↦ (c.in-Some.field-0, c.in-Some.is, (users.exactly k).0 y)
    ]
