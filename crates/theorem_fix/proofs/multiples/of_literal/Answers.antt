use Rattle.std.specs.Prelude.{◌≡◌, ℤ}
use Rattle.std.proofs.Common.{ap, ◌∙◌, sym, refl, arith}
use Rattle.std.proofs.lemmas.Int.{ints}
use Rattle.fx_model.specs.Expression.{literal_value}
use Rattle.fx_model.specs.declared.Literal.{Literal}
use Rattle.literal.specs.Normal.{IsFix}
use Rattle.facts.specs.Places.{place_from, place_from-some}
use Rattle.theorem_fix.specs.Greatest.{greatest_place}
use Rattle.theorem_fix.proofs.Greatest.{greatest_place-is, greatest_place-none}
use Rattle.theorem_fix.proofs.multiples.of_literal.Goals as goal

placed : (k j : ℤ) (l : Literal) → j ≡ k → IsFix l k
    → place_from j ≡ greatest_place (literal_value l)
placed k j l e f =
    ap place_from e ∙ place_from-some k (record { lowest = f.within.0; highest = f.within.1 })
    ∙ sym (greatest_place-is (literal_value l)
    (record { exponent = k; lowest = f.within.0; highest = f.within.1 }) f.multiple f.greatest)

pub returns-in-Some : goal.returns-in-Some
returns-in-Some c = let w = c.in-Some.ensures.greatest.within in
    c.new.ensures.is ∙ placed c.in-Some.k _ c.args.literal.now
    (omega (arith, ints, w.0, w.1)) c.in-Some.ensures.greatest

pub returns-in-None : goal.returns-in-None
returns-in-None c =
    sym (greatest_place-none (literal_value c.args.literal.now) (c.in-None.ensures.none.0 refl))
