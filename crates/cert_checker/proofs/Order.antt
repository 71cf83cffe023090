-- Items that are due, and what is due behind them.
use Rattle.std.proofs.Common.{◌-◌, List, [], ◌∷◌, Option, Some, None}
use Rattle.cert_bytes.specs.declared.item.Item.{Item}
use Rattle.cert_bytes.specs.declared.order.DueItem.{DueItem}
use Rattle.cert_bytes.specs.Certificates.{AreDue}
use Rattle.cert_bytes.specs.Due.{due_after}
use Rattle.cert_checker.specs.Accepted.{AreInOrder}

-- a certificate's items are in order
pub in_order : (o : Option DueItem) (items : List Item) → AreDue o items → AreInOrder o items
in_order None items g = absurd g
in_order (Some d) [] g = g
in_order (Some d) (i ∷ items) g = in_order (due_after d i) items g.1
