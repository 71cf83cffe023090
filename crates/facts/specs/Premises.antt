-- Premises that are stronger than those of a known shape have that shape.
use Rattle.std.specs.Prelude.{◌≡◌, Option, Some}
use Rattle.facts.specs.declared.fact.Fact.{Fact}
use Rattle.facts.specs.Order.{IsStronger}

-- what a conclusion from stronger premises must be: there, and stronger than c
abbrev pub Gives : Option Fact → Fact → Type 0
Gives o c = (d : Fact) × (o ≡ Some d) × IsStronger d c
