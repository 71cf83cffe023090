use Rattle.std.proofs.Common.{refl}
use Rattle.bisect.specs.Trees.{tree_of}
use Rattle.bisect.proofs.Listings.{are_boxes}
use Rattle.bisect.proofs.Walks.{boxes_at, not_deep, shallow}
use Rattle.bisect.proofs.laws.boxes_are_listed.Goals as goal

pub returns : goal.returns
returns c = λ cuts states bottom.
    let t = tree_of cuts states in
    let s = shallow t cuts (λ p. refl) bottom in
    record { boxes = are_boxes t s; pieces = λ path. boxes_at t path (not_deep t s path) }
