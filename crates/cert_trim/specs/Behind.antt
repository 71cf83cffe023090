-- Items that stand behind other steps, without those of their own steps that aren't used.
use Rattle.std.specs.Prelude.{◌<◌, ◌≤◌, ◌||◌, ⊤, ℕ, Bool, List, [], ◌∷◌, ◌++◌, length, map, nat_lt}
use Rattle.std.specs.List.{AllByRecursion}
use Rattle.cert_bytes.specs.declared.item.StepRow.{StepRow}
use Rattle.cert_bytes.specs.declared.item.Item.{Item}
use Rattle.cert_bytes.specs.declared.item.Item.TheVariants as item
use Rattle.cert_bytes.specs.Certificates.{AreCertificate, HasSpelling}
use Rattle.cert_bytes.specs.Sizes.{most_bytes_in}
use Rattle.cert_checker.specs.declared.subject.Subject.{Subject}
use Rattle.cert_checker.specs.Contexts.{Context}
use Rattle.cert_checker.specs.After.{around_of, cuts_behind}
use Rattle.cert_checker.specs.Accepted.{LeadsTo}
use Rattle.cert_trim.specs.Trimmed.{number_behind_all, trimmed_by}
use Rattle.cert_trim.specs.Used.{CiteEarlier, is_among, used_from}

-- Where the items' own steps begin with number start, each step below stays, and of their own those
-- that are used.
abbrev pub stays_behind : ℕ → List Item → ℕ → Bool
stays_behind start items n = nat_lt n start || is_among (used_from start items) n

-- The items without the other steps, those that are left numbered anew from start on.
abbrev pub trimmed_behind : ℕ → List Item → List Item
trimmed_behind start items = trimmed_by (stays_behind start items) start items

-- ---- a section that isn't cut

-- the item ends such a section
abbrev pub IsLeafOrDead : Item → Type 0
IsLeafOrDead (item.Leaf refs) = ⊤
IsLeafOrDead (item.Dead r) = ⊤
IsLeafOrDead _ = ⊥

-- a section's own items: its steps, and this item behind them
abbrev pub section_of : List StepRow → Item → List Item
section_of rows last = map item.Step rows ++ last ∷ []

-- The section is open here: each step that may be cited has a number below the next, and those that
-- may be cited behind the section stand before it.
pub record IsOpenAt (c : Context) : Type 0 where
  pub below : AllByRecursion (λ q. q.number < c.next) c.steps
  pub room : around_of (cuts_behind c.cuts) ≤ length c.steps

-- the context, where the next step has this number
abbrev pub with_next : Context → ℕ → Context
with_next c n = record c { next = n }

-- ---- what is promised

-- Where a section is open here and isn't cut, and nothing is wrong with it, its items cite earlier
-- steps alone. Without its unused steps nothing is wrong either, and behind it all is as it was but
-- the number of the next step.
abbrev pub LeavesAreTrimmed : Type 0
LeavesAreTrimmed = (s : Subject) (c end : Context) (rows : List StepRow) (last : Item)
    → IsOpenAt c → IsLeafOrDead last → LeadsTo s c (section_of rows last) end
    → CiteEarlier c.next (section_of rows last)
    × LeadsTo s c (trimmed_behind c.next (section_of rows last))
    (with_next end (number_behind_all c.next (trimmed_behind c.next (section_of rows last))))

-- Whatever steps of them go, items among others of a certificate leave one.
abbrev pub CertificatesStaySo : Type 0
CertificatesStaySo = (used : ℕ → Bool) (n : ℕ) (before items later : List Item)
    → AreCertificate (before ++ (items ++ later))
    → AreCertificate (before ++ (trimmed_by used n items ++ later))

-- Without some of their steps items have no more steps and items, wherever their numbers begin.
-- The bound of their bytes is no greater, and they have spellings where they had.
pub record AreFewer : Type 0 where
  pub steps : (used : ℕ → Bool) (n k : ℕ) (items : List Item)
      → (k ≤ number_behind_all k (trimmed_by used n items))
      × (number_behind_all k (trimmed_by used n items) ≤ number_behind_all k items)
  pub bytes : (used : ℕ → Bool) (n : ℕ) (items : List Item)
      → most_bytes_in (trimmed_by used n items) ≤ most_bytes_in items
  pub items : (used : ℕ → Bool) (n : ℕ) (items : List Item)
      → length (trimmed_by used n items) ≤ length items
  pub spelled : (used : ℕ → Bool) (n : ℕ) (items : List Item)
      → AllByRecursion HasSpelling items → AllByRecursion HasSpelling (trimmed_by used n items)
