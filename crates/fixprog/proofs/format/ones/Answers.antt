use Rattle.fixprog.proofs.FormatValues.{ones_are_odd, ones_are_short}
use Rattle.fixprog.proofs.format.ones.Goals as goal

pub returns-clause-odd : goal.returns-clause-odd
returns-clause-odd c = ones_are_odd c.args.places c.requires

pub returns-clause-short : goal.returns-clause-short
returns-clause-short c = ones_are_short c.args.places c.requires
