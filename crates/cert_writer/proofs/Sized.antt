-- How many bytes items have at most, one behind the other.
use Rattle.std.specs.Prelude.{◌≡◌, ◌≤◌, ◌<◌, ◌+◌, ◌*◌, ◌^◌, ℕ, zero, suc, List, [], ◌∷◌, ◌++◌}
use Rattle.std.specs.Prelude.{length, map}
use Rattle.std.proofs.Common.{arith}
use Rattle.fx_model.specs.declared.Node.{Node}
use Rattle.facts.specs.declared.hint.HintMark.{HintMark}
use Rattle.cert_bytes.specs.declared.item.Item.{Item}
use Rattle.cert_bytes.specs.declared.item.Item.TheVariants as item
use Rattle.cert_bytes.specs.Sizes.{most_bytes_in}
use Rattle.tree_certificates.specs.Roots.{cases_items}
use Rattle.cert_writer.specs.Heads.{head_items}

pub sized_both : (items more : List Item)
    → most_bytes_in (items ++ more) ≡ most_bytes_in items + most_bytes_in more
sized_both [] more = omega arith
sized_both (i ∷ items) more = let h = sized_both items more in omega (arith, h)

nodes_sized : (nodes : List Node) → most_bytes_in (map item.Node nodes) ≡ 58 * length nodes
nodes_sized [] = omega arith
nodes_sized (n ∷ nodes) = let h = nodes_sized nodes in omega (arith, h)

marks_sized : (marks : List HintMark) → most_bytes_in (map item.Mark marks) ≡ length marks
marks_sized [] = omega arith
marks_sized (m ∷ marks) = let h = marks_sized marks in omega (arith, h)

cases_sized : (count : ℕ) → most_bytes_in (cases_items count) ≤ 20
cases_sized zero = omega arith
cases_sized (suc zero) = omega arith
cases_sized (suc (suc n)) = omega arith

-- The head is short.
pub head_sized : (nodes : List Node) (marks : List HintMark) (count : ℕ)
    → length nodes < 2 ^ 16 → length marks ≤ 65535
    → most_bytes_in (head_items nodes marks count) ≤ 4000000
head_sized nodes marks count few short =
    let later : List Item = map item.Mark marks ++ cases_items count in
    let a = sized_both (map item.Node nodes) (item.Marks (length marks) ∷ later) in
    let b = sized_both (map item.Mark marks) (cases_items count) in
    let n = nodes_sized nodes in
    let m = marks_sized marks in
    let c = cases_sized count in
    omega (arith, a, b, n, m, c, few, short)
