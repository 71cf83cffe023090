use Rattle.bisect.proofs.Told.{first_told, none_told, leaves_told}
use Rattle.bisect.proofs.laws.answers_are_told.Goals as goal

pub returns-clause-first : goal.returns-clause-first
returns-clause-first c = first_told

pub returns-clause-none : goal.returns-clause-none
returns-clause-none c = none_told

pub returns-clause-leaves : goal.returns-clause-leaves
returns-clause-leaves c = leaves_told
