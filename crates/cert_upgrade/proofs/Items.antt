-- Laws of what specs/Items defines.
use Rattle.std.specs.Prelude.{◌≡◌, ◌++◌, ℕ, List, [], ◌∷◌, Some, Ok}
use Rattle.cert_bytes.specs.declared.item.Item.{Item}
use Rattle.cert_bytes.specs.declared.order.DueItem.{DueItem}
use Rattle.cert_bytes.specs.declared.order.DueItem.TheVariants.{Head, Done}
use Rattle.cert_bytes.specs.declared.style.Style.TheVariants.{First}
use Rattle.cert_bytes.specs.Certificates.{AreDue, AreCertificate}
use Rattle.cert_bytes.specs.Due.{due_behind}
use Rattle.cert_bytes.specs.Reading.{Cursor, cursor, item_at}

-- From this place these items are read one after the other, and then that place is reached, where
-- this is due.
abbrev pub LeadsTo : DueItem → Cursor → List Item → DueItem → Cursor → Type 0
LeadsTo d c [] e end = (d ≡ e) × (c ≡ end)
LeadsTo d c (i ∷ items) e end = (next : Cursor) × (item_at d c ≡ Ok (i, next)) × (¬ (d ≡ Done))
    × LeadsTo (due_behind d i) next items e end

-- From the first byte on.
abbrev pub LeadsFromStart : List ℕ → List Item → DueItem → Cursor → Type 0
LeadsFromStart all items e end = LeadsTo Head (cursor First all 0) items e end

-- These items are in order from the first on: with any that are due behind them to the end they are
-- a certificate's.
abbrev pub AreBegun : List Item → DueItem → Type 0
AreBegun items d = (more : List Item) → AreDue (Some d) more → AreCertificate (items ++ more)
