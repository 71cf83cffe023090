use Rattle.std.specs.Prelude.{◌≡◌, ℤ, Some}
use Rattle.std.proofs.Common.{sym, ap, ◌∙◌, arith}
use Rattle.std.proofs.lemmas.Int.{ints}
use Rattle.facts.specs.declared.place.FixPlace.{FixPlace}
use Rattle.facts.specs.Places.{place_from, place_from_self, place_from-none}
use Rattle.facts.proofs.place.FixPlace.new.Goals as goal
use Rattle.facts.proofs.place.FixPlace.new.Goals.{else-exponent-geminus1024-via-then-exponent-geminus1024+else-exponent-le512}
use Rattle.facts.proofs.place.FixPlace.new.Goals.{else-exponent-geminus1024-via-else-exponent-geminus1024}

made_at : (k : ℤ) (p : FixPlace) → p.exponent ≡ k → Some p ≡ place_from k
made_at k p e = place_from_self p ∙ ap place_from e

pub returns-then-exponent-le512-clause-is : goal.returns-then-exponent-le512-clause-is
returns-then-exponent-le512-clause-is c = made_at c.args.exponent _ (omega (arith, ints))

pub returns-else-exponent-geminus1024-clause-is : goal.returns-else-exponent-geminus1024-clause-is
returns-else-exponent-geminus1024-clause-is c =
    sym (place_from-none c.args.exponent (λ p. let l = p.lowest in let h = p.highest in
    elim c.else-exponent-geminus1024.branch [
      | else-exponent-geminus1024-via-then-exponent-geminus1024+else-exponent-le512 w ↦ let t =
          w.if-exponent-geminus1024 in let f = w.if-exponent-le512.false in
          absurd (omega (arith, ints))
      | else-exponent-geminus1024-via-else-exponent-geminus1024 w ↦ let f =
          w.if-exponent-geminus1024.false in absurd (omega (arith, ints))
    ]))
