use Rattle.script_checker.proofs.OneSubject.{checks_are_one}
use Rattle.script_checker.proofs.laws.checks_are_one.Goals as goal

pub returns : goal.returns
returns c = checks_are_one c.items_are_judged_once.ensures.bytes
