use Rattle.bisect.proofs.Listings.{after_leaves}
use Rattle.bisect.proofs.Walks.{after_boxes}
use Rattle.bisect.proofs.laws.walks_see.Goals as goal

pub returns-clause-boxes : goal.returns-clause-boxes
returns-clause-boxes c = after_boxes

pub returns-clause-leaves : goal.returns-clause-leaves
returns-clause-leaves c = after_leaves
