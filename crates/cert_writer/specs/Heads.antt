-- What stands before the root sections of a certificate.
use Rattle.std.specs.Prelude.{ℕ, List, ◌∷◌, ◌++◌, length, map}
use Rattle.fx_model.specs.declared.Node.{Node}
use Rattle.facts.specs.declared.hint.HintMark.{HintMark}
use Rattle.cert_bytes.specs.declared.item.Item.{Item}
use Rattle.cert_bytes.specs.declared.item.Item.TheVariants as item
use Rattle.tree_certificates.specs.Roots.{cases_items}

-- the nodes and the marks, each behind their count, and how many cases there are, where there are
-- several
abbrev pub head_items : List Node → List HintMark → ℕ → List Item
head_items nodes marks count = item.Nodes (length nodes) ∷
    (map item.Node nodes ++ item.Marks (length marks) ∷ (map item.Mark marks ++ cases_items count))
