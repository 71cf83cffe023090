use Rattle.cert_bytes.proofs.Lengths.{spellings_are_short}
use Rattle.cert_bytes.proofs.laws.spellings_are_short.Goals as goal

pub returns : goal.returns
returns c = spellings_are_short
