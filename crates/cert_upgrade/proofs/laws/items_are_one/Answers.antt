use Rattle.cert_upgrade.proofs.Read.{items_are_one}
use Rattle.cert_upgrade.proofs.laws.items_are_one.Goals as goal

pub returns : goal.returns
returns c = items_are_one
