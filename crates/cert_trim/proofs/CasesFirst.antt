-- The number of cases comes before the sections, so that a step may go with which they begin.
use Rattle.std.proofs.Common.{◌≡◌, ◌⊎◌, inl, inr, ◌+◌, ℕ, zero, suc, Bool, true, false, List, []}
use Rattle.std.proofs.Common.{◌∷◌, length, Option, Some, None, refl, sym, ◌∙◌}
use Rattle.std.specs.Prelude.{⊤}
use Rattle.cert_bytes.specs.declared.item.StepRow.{StepRow}
use Rattle.cert_bytes.specs.declared.item.Item.{Item}
use Rattle.cert_bytes.specs.declared.item.Item.TheVariants as item
use Rattle.cert_bytes.specs.declared.order.DueItem.{DueItem}
use Rattle.cert_bytes.specs.declared.order.DueItem.TheVariants.{Head, Nodes, Marks, Sections, Done}
use Rattle.cert_bytes.specs.Due.{due_after}
use Rattle.cert_checker.specs.declared.subject.Subject.{Subject}
use Rattle.cert_checker.specs.Accepted.{AreInOrder}

-- none of the items tells a number of cases
abbrev pub HasNoCases : List Item → Type 0
HasNoCases [] = ⊤
HasNoCases (item.Cases n ∷ items) = ⊥
HasNoCases (i ∷ items) = HasNoCases items

-- behind a step none does
abbrev pub CasesFirst : List Item → Type 0
CasesFirst [] = ⊤
CasesFirst (item.Step r ∷ items) = HasNoCases items × CasesFirst items
CasesFirst (i ∷ items) = CasesFirst items

none_behind : (items : List Item) → AreInOrder (Some Done) items → HasNoCases items
none_behind [] h = tt
none_behind (_ ∷ items) h = absurd h

no_cases : (items : List Item) (w : ℕ) → AreInOrder (Some (Sections w)) items → HasNoCases items
no_cases [] w h = tt
no_cases (item.Step r ∷ items) (suc w) h = no_cases items (suc w) h
no_cases (item.Cut x ps ∷ items) (suc w) h = no_cases items (w + (length ps + 1)) h
no_cases (item.Leaf refs ∷ items) (suc w) h = no_cases items w h
no_cases (item.Dead r ∷ items) (suc w) h = no_cases items w h
no_cases (item.End ∷ items) zero h = none_behind items h
no_cases (_ ∷ items) zero h = absurd h
no_cases (_ ∷ items) (suc w) h = absurd h

behind_step : (d : DueItem) (r : StepRow) (items : List Item)
    → AreInOrder (due_after d (item.Step r)) items → HasNoCases items
behind_step (Marks zero) r items h = no_cases items 1 h
behind_step (Sections (suc w)) r items h = no_cases items (suc w) h
behind_step Head r items h = absurd h
behind_step (Nodes zero) r items h = absurd h
behind_step (Nodes (suc n)) r items h = absurd h
behind_step (Marks (suc n)) r items h = absurd h
behind_step (Sections zero) r items h = absurd h
behind_step Done r items h = absurd h

pub cases_first : (o : Option DueItem) (items : List Item) → AreInOrder o items → CasesFirst items
cases_first None items h = absurd h
cases_first (Some d) [] h = tt
cases_first (Some d) (item.Step r ∷ items) h =
    (behind_step d r items h, cases_first (due_after d (item.Step r)) items h)
cases_first (Some d) (item.Nodes n ∷ items) h = cases_first (due_after d (item.Nodes n)) items h
cases_first (Some d) (item.Node n ∷ items) h = cases_first (due_after d (item.Node n)) items h
cases_first (Some d) (item.Marks n ∷ items) h = cases_first (due_after d (item.Marks n)) items h
cases_first (Some d) (item.Mark m ∷ items) h = cases_first (due_after d (item.Mark m)) items h
cases_first (Some d) (item.Cases n ∷ items) h = cases_first (due_after d (item.Cases n)) items h
cases_first (Some d) (item.Cut x ps ∷ items) h = cases_first (due_after d (item.Cut x ps)) items h
cases_first (Some d) (item.Leaf refs ∷ items) h = cases_first (due_after d (item.Leaf refs)) items h
cases_first (Some d) (item.Dead r ∷ items) h = cases_first (due_after d (item.Dead r)) items h
cases_first (Some d) (item.End ∷ items) h = cases_first (due_after d (item.End)) items h

-- ---- with and without the steps that go

-- Where the sections have begun with the steps that go and haven't without, there is one case, and
-- no item to come tells a number.
abbrev pub Begins : Subject → Bool → Bool → List Item → Type 0
Begins s begun other items = (other ≡ begun) ⊎ ((length s.cases ≡ 1) × HasNoCases items)

module _ (s : Subject) (begun other : Bool) where
  -- an item that tells no number
  pub still_one : (root : Bool) (items : List Item) → Begins s begun other items
      → (begun ≡ false → root ≡ true → 1 ≡ length s.cases)
      → other ≡ false → root ≡ true → 1 ≡ length s.cases
  still_one root items (inl e) h none is = h (sym e ∙ none) is
  still_one root items (inr one) h none is = sym one.0

  -- an item that tells one
  pub still_told : (n : ℕ) (items : List Item) → Begins s begun other (item.Cases n ∷ items)
      → (begun ≡ false → true ≡ true → n ≡ length s.cases)
      → other ≡ false → true ≡ true → n ≡ length s.cases
  still_told n items (inl e) h none is = h (sym e ∙ none) is
  still_told n items (inr one) h none is = absurd one.1

-- a step that goes
pub goes_first : (s : Subject) (begun other : Bool) (items : List Item) → Begins s begun other items
    → (begun ≡ false → true ≡ true → 1 ≡ length s.cases)
    → HasNoCases items → Begins s true other items
goes_first s begun other items (inr one) h none = inr one
goes_first s true other items (inl e) h none = inl e
goes_first s false other items (inl e) h none = inr (sym (h refl refl), none)
