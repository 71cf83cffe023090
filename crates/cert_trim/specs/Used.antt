-- Which steps are used: those that a leaf or a dead end cites, and those that a used step cites.
use Rattle.std.specs.Prelude.{◌≡◌, ◌<◌, ⊤, ◌+◌, ◌==◌, ℕ, Bool, true, List, [], ◌∷◌, ◌++◌, Option}
use Rattle.std.specs.Prelude.{Some, None, if◌then◌else◌}
use Rattle.std.specs.List.{list_any, AllByRecursion}
use Rattle.cert_bytes.specs.declared.item.StepRow.{StepRow}
use Rattle.cert_bytes.specs.declared.item.Item.{Item}
use Rattle.cert_bytes.specs.declared.item.Item.TheVariants as item
use Rattle.cert_trim.specs.Trimmed.{trimmed_by, number_behind, step_count}

-- with one number more, if there is one
abbrev pub and_more : Option ℕ → List ℕ → List ℕ
and_more None ns = ns
and_more (Some n) ns = n ∷ ns

-- the steps that a step cites
abbrev pub cited : StepRow → List ℕ
cited r = and_more r.with r.premises

-- the number is in the list
abbrev pub is_among : List ℕ → ℕ → Bool
is_among ns n = list_any (λ m. m == n) ns

-- The numbers of the steps that are used, where the next step has number n: whether a step is, the
-- items behind it tell.
abbrev pub used_from : ℕ → List Item → List ℕ
used_from n [] = []
used_from n (item.Step r ∷ items) =
    if is_among (used_from (n + 1) items) n then cited r ++ used_from (n + 1) items
    else used_from (n + 1) items
used_from n (item.Leaf refs ∷ items) = refs ++ used_from n items
used_from n (item.Dead r ∷ items) = r ∷ used_from n items
used_from n (i ∷ items) = used_from n items

-- The items without the steps that aren't used, the others numbered anew.
abbrev pub trimmed : List Item → List Item
trimmed items = trimmed_by (is_among (used_from 0 items)) 0 items

-- each step of the items is used
abbrev pub AreAllUsed : List Item → Type 0
AreAllUsed items = (n : ℕ) → n < step_count items → is_among (used_from 0 items) n ≡ true

-- ---- what is cited

-- each number is below n
abbrev pub AllBelow : ℕ → List ℕ → Type 0
AllBelow n ns = AllByRecursion (λ m. m < n) ns

-- the steps that an item cites
abbrev pub cited_by : Item → List ℕ
cited_by (item.Step r) = cited r
cited_by (item.Leaf refs) = refs
cited_by (item.Dead r) = r ∷ []
cited_by _ = []

-- each item cites steps before it alone, where the next step has number n
abbrev pub CiteEarlier : ℕ → List Item → Type 0
CiteEarlier n [] = ⊤
CiteEarlier n (i ∷ items) = AllBelow n (cited_by i) × CiteEarlier (number_behind n i) items

-- ---- any steps that may stay

-- each of these steps stays
abbrev pub AreUsed : (ℕ → Bool) → List ℕ → Type 0
AreUsed used ns = AllByRecursion (λ n. used n ≡ true) ns

-- What leaves, dead ends and steps that stay cite stays.
abbrev pub AreEnough : (ℕ → Bool) → ℕ → List Item → Type 0
AreEnough used n [] = ⊤
AreEnough used n (item.Step r ∷ items) = (used n ≡ true → AreUsed used (cited r))
    × AreEnough used (n + 1) items
AreEnough used n (item.Leaf refs ∷ items) = AreUsed used refs × AreEnough used n items
AreEnough used n (item.Dead r ∷ items) = (used r ≡ true) × AreEnough used n items
AreEnough used n (i ∷ items) = AreEnough used n items
