-- How large the universe of a script is.
use Rattle.rule_universe.specs.Sizes.{IsSmall}
use Rattle.answer_certificates.specs.Laws.{OfCases}

-- So it is in each case for which certificates have room.
abbrev pub UniversesAreSmall : Type 0
UniversesAreSmall = OfCases (λ s claims u. IsSmall u)
