use Rattle.accounts.proofs.Cover.{covered}
use Rattle.accounts.proofs.Once.{pushed_once_of_cuts, settled_are_leaves}
use Rattle.accounts.proofs.Published.{published}
use Rattle.accounts.proofs.laws.balanced_accounts.Goals as goal

pub returns-clause-once : goal.returns-clause-once
returns-clause-once c = pushed_once_of_cuts

pub returns-clause-published : goal.returns-clause-published
returns-clause-published c = published

pub returns-clause-cover : goal.returns-clause-cover
returns-clause-cover c = covered

pub returns-clause-leaves : goal.returns-clause-leaves
returns-clause-leaves c = settled_are_leaves
