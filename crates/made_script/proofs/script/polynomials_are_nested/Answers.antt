use Rattle.made_script.proofs.Nested.{ends, nested}
use Rattle.made_script.proofs.script.polynomials_are_nested.Goals as goal

pub returns-clause-last : goal.returns-clause-last
returns-clause-last c = ends

pub returns-clause-nested : goal.returns-clause-nested
returns-clause-nested c = nested
