-- The code's reading of definitions and formula as that of definitions.
use Rattle.script_judge.specs.declared.formula.Front.{Front as CodeFront}
use Rattle.script_judge.specs.declared.formula.Front.TheVariants as code
use Rattle.script_judge.specs.Front.{Front, defining, claiming, ended}

-- How far the code has read, as definitions speak of it.
abbrev pub front_of : CodeFront → Front
front_of (code.Definitions p) = defining p
front_of (code.Claims st) = claiming st
front_of (code.Ended f) = ended f.nodes f.sides
