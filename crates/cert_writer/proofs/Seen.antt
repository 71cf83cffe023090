-- What was seen behind items.
use Rattle.std.specs.Prelude.{◌≡◌, ◌≤◌, ◌+◌, ℕ, zero, suc, List, [], ◌∷◌, ◌++◌, length, map, refl}
use Rattle.std.proofs.Common.{◌∙◌, ap, arith}
use Rattle.fx_model.specs.declared.Node.{Node}
use Rattle.facts.specs.declared.hint.HintMark.{HintMark}
use Rattle.cert_bytes.specs.declared.item.Item.{Item}
use Rattle.cert_bytes.specs.declared.item.Item.TheVariants as item
use Rattle.cert_bytes.specs.declared.item.StepRow.{StepRow}
use Rattle.cert_bytes.specs.declared.style.Seen.{Seen}
use Rattle.cert_bytes.specs.Styles.{none_seen, seen_after, seen_behind, seen_in}
use Rattle.cert_bytes.proofs.Styles.{seen_both}
use Rattle.cert_trim.specs.Behind.{section_of}
use Rattle.tree_certificates.specs.Roots.{cases_items}
use Rattle.cert_writer.specs.Heads.{head_items}

-- ---- what stands before the root sections is none of it
pub nodes_seen : (s : Seen) (nodes : List Node) → seen_behind s (map item.Node nodes) ≡ s
nodes_seen s [] = refl
nodes_seen s (n ∷ nodes) = nodes_seen s nodes

pub marks_seen : (s : Seen) (marks : List HintMark) → seen_behind s (map item.Mark marks) ≡ s
marks_seen s [] = refl
marks_seen s (m ∷ marks) = marks_seen s marks

cases_seen : (s : Seen) (count : ℕ) → seen_behind s (cases_items count) ≡ s
cases_seen s zero = refl
cases_seen s (suc zero) = refl
cases_seen s (suc (suc n)) = refl

pub head_seen : (nodes : List Node) (marks : List HintMark) (count : ℕ)
    → seen_in (head_items nodes marks count) ≡ none_seen
head_seen nodes marks count =
    let later : List Item = map item.Mark marks ++ cases_items count in
    let behind : seen_behind none_seen later ≡ none_seen =
    seen_both none_seen (map item.Mark marks) (cases_items count)
    ∙ ap (λ s. seen_behind s (cases_items count)) (marks_seen none_seen marks)
    ∙ cases_seen none_seen count in
    seen_both none_seen (map item.Node nodes) (item.Marks (length marks) ∷ later)
    ∙ ap (λ s. seen_behind s later) (nodes_seen none_seen nodes) ∙ behind

-- ---- a box's own items
pub steps_seen : (s : Seen) (rows : List StepRow)
    → (seen_behind s (map item.Step rows)).steps ≡ s.steps + length rows
steps_seen s [] = omega arith
steps_seen s (row ∷ rows) =
    let h : (seen_behind (seen_after s (item.Step row)) (map item.Step rows)).steps
    ≡ (s.steps + 1) + length rows = steps_seen (seen_after s (item.Step row)) rows in
    omega (arith, h)

pub no_sections_seen : (s : Seen) (rows : List StepRow)
    → (seen_behind s (map item.Step rows)).sections ≡ s.sections
no_sections_seen s [] = refl
no_sections_seen s (row ∷ rows) = no_sections_seen (seen_after s (item.Step row)) rows

-- The item ends a section.
abbrev pub EndsSection : Item → Type 0
EndsSection i = (s : Seen) → ((seen_after s i).steps ≡ s.steps)
    × ((seen_after s i).sections ≡ s.sections + 1)

pub own_steps_seen : (s : Seen) (rows : List StepRow) (i : Item) → EndsSection i
    → (seen_behind s (section_of rows i)).steps ≡ s.steps + length rows
own_steps_seen s rows i ends =
    ap (λ (q : Seen). q.steps) (seen_both s (map item.Step rows) (i ∷ []))
    ∙ (ends (seen_behind s (map item.Step rows))).0 ∙ steps_seen s rows

pub own_sections_seen : (s : Seen) (rows : List StepRow) (i : Item) → EndsSection i
    → (seen_behind s (section_of rows i)).sections ≡ s.sections + 1
own_sections_seen s rows i ends =
    ap (λ (q : Seen). q.sections) (seen_both s (map item.Step rows) (i ∷ []))
    ∙ (ends (seen_behind s (map item.Step rows))).1
    ∙ ap (λ n. n + 1) (no_sections_seen s rows)

-- ---- how many more are seen behind items, at most
one_more : (s : Seen) (i : Item) → ((seen_after s i).steps ≤ s.steps + 1)
    × ((seen_after s i).sections ≤ s.sections + 1)
one_more s (item.Step r) = (omega arith, omega arith)
one_more s (item.Cut x ps) = (omega arith, omega arith)
one_more s (item.Leaf refs) = (omega arith, omega arith)
one_more s (item.Dead r) = (omega arith, omega arith)
one_more s (item.Nodes n) = (omega arith, omega arith)
one_more s (item.Node n) = (omega arith, omega arith)
one_more s (item.Marks n) = (omega arith, omega arith)
one_more s (item.Mark m) = (omega arith, omega arith)
one_more s (item.Cases n) = (omega arith, omega arith)
one_more s (item.End) = (omega arith, omega arith)

pub seen_few : (s : Seen) (items : List Item)
    → ((seen_behind s items).steps ≤ s.steps + length items)
    × ((seen_behind s items).sections ≤ s.sections + length items)
seen_few s [] = (omega arith, omega arith)
seen_few s (i ∷ items) =
    let a = one_more s i in
    let b = seen_few (seen_after s i) items in
    let steps = a.0 in
    let sections = a.1 in
    let more_steps = b.0 in
    let more_sections = b.1 in
    (omega (arith, steps, more_steps), omega (arith, sections, more_sections))

-- of a certificate's items with them
pub sections_with : (items : List Item) (rows : List StepRow) (i : Item) → EndsSection i
    → (seen_in (items ++ section_of rows i)).sections ≡ (seen_in items).sections + 1
sections_with items rows i ends =
    ap (λ (q : Seen). q.sections) (seen_both none_seen items (section_of rows i))
    ∙ own_sections_seen (seen_in items) rows i ends

pub seen_with : (items more : List Item) (s : Seen) → seen_in items ≡ s
    → seen_in (items ++ more) ≡ seen_behind s more
seen_with items more s e = seen_both none_seen items more ∙ ap (λ q. seen_behind q more) e
