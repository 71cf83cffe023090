-- Each step that is left is used: what is used of the items that are left is what was used, by new
-- numbers.
use Rattle.std.proofs.Common.{◌≡◌, ◌<◌, ◌+◌, ◌==◌, ℕ, zero, suc, Bool, true, false, List, [], ◌∷◌}
use Rattle.std.proofs.Common.{◌++◌, map, Option, Some, None, refl, sym, ap, subst, ◌∙◌, arith}
use Rattle.std.proofs.Common.{⊎_elim}
use Rattle.std.specs.Prelude.{◌||◌, if◌then◌else◌}
use Rattle.std.specs.Option.{option_map}
use Rattle.std.proofs.lemmas.Bool.{cases_lt, eq-eqb}
use Rattle.cert_bytes.specs.declared.item.StepRow.{StepRow}
use Rattle.cert_bytes.specs.declared.item.Item.{Item}
use Rattle.cert_bytes.specs.declared.item.Item.TheVariants as item
use Rattle.cert_trim.specs.Trimmed.{new_number, number_behind_all, step_count, moved_row, if_used}
use Rattle.cert_trim.specs.Trimmed.{trimmed_by}
use Rattle.cert_trim.specs.Used.{CiteEarlier, AreAllUsed, and_more, cited, is_among, used_from}
use Rattle.cert_trim.specs.Used.{trimmed}
use Rattle.cert_trim.proofs.Numbers.{on_both, next_of_used, next_of_unused}
use Rattle.cert_trim.proofs.Enough.{Tells, Stays, tells_later, stays_later, tells_behind}
use Rattle.cert_trim.proofs.Enough.{stays_behind, among_right, or_right}

-- ---- images

or_left : (a b : Bool) → a ≡ true → (a || b) ≡ true
or_left true b h = refl
or_left false b h = absurd (cc h)

same_number : (n m : ℕ) → (n == m) ≡ true → n ≡ m
same_number n m e = grind (arith, e)

image_at : (f : ℕ → ℕ) (n m : ℕ) (b c d : Bool)
    → (n == m) ≡ b → (c ≡ true → d ≡ true) → (b || c) ≡ true → ((f n == f m) || d) ≡ true
image_at f n m true c d e rest h =
    or_left (f n == f m) d (eq-eqb (f n) (f m) (ap f (same_number n m e)))
image_at f n m false c d e rest h = or_right (f n == f m) d (rest h)

pub among_map : (f : ℕ → ℕ) (ns : List ℕ) (m : ℕ)
    → is_among ns m ≡ true → is_among (map f ns) (f m) ≡ true
among_map f [] m h = absurd (cc h)
among_map f (n ∷ ns) m h = image_at f n m
    (n == m) (is_among ns m) (is_among (map f ns) (f m)) refl (among_map f ns m) h

map_append : (f : ℕ → ℕ) (xs ys : List ℕ) → map f xs ++ map f ys ≡ map f (xs ++ ys)
map_append f [] ys = refl
map_append f (x ∷ xs) ys = ap (λ zs. f x ∷ zs) (map_append f xs ys)

-- what a step cites by new numbers
cited_moved : (used : ℕ → Bool) (r : StepRow)
    → cited (moved_row used r) ≡ map (new_number used) (cited r)
cited_moved used r = by_with r.with r.premises where
  by_with : (w : Option ℕ) (ns : List ℕ) → and_more (option_map (new_number used) w)
      (map (new_number used) ns) ≡ map (new_number used) (and_more w ns)
  by_with None ns = refl
  by_with (Some n) ns = refl

-- ---- what is used of the items that are left

module _ (used : ℕ → Bool) where
  not_used : (b : Bool) → ¬ (b ≡ true) → b ≡ false
  not_used true h = absurd (h refl)
  not_used false h = refl

  -- whether a step is used, the items behind it tell
  agrees : (n : ℕ) (cites later : List ℕ) (b : Bool)
      → is_among later n ≡ b → Tells used n (if b then cites ++ later else later)
      → Stays used (if b then cites ++ later else later) → used n ≡ b
  agrees n cites later true e t h = h n (among_right cites later n e)
  agrees n cites later false e t h =
      not_used (used n) (λ u. absurd (cc (sym e ∙ t n (omega arith) u)))

  step_left : (n : ℕ) (r : StepRow) (later : List ℕ) (left : List Item) (b : Bool)
      → used n ≡ b → is_among later n ≡ b
      → used_from (new_number used (n + 1)) left ≡ map (new_number used) later
      → used_from (new_number used n) (if_used b (moved_row used r) left) ≡ map
      (new_number used) (if b then cited r ++ later else later)
  step_left n r later left true u e h =
      let f = new_number used in
      let behind : used_from (f n + 1) left ≡ map f later =
      ap (λ m. used_from m left) (sym (next_of_used used n u)) ∙ h in
      let told : is_among (used_from (f n + 1) left) (f n) ≡ true =
      ap (λ ns. is_among ns (f n)) behind ∙ among_map f later n e in
      ap (λ b. if b then cited
      (moved_row used r) ++ used_from (f n + 1) left else used_from (f n + 1) left) told
      ∙ on_both (λ xs ys. xs ++ ys) (cited_moved used r) behind ∙ map_append f (cited r) later
  step_left n r later left false u e h =
      ap (λ m. used_from m left) (sym (next_of_unused used n u)) ∙ h

  same_used : (items : List Item) (n : ℕ) → CiteEarlier n items
      → Tells used n (used_from n items) → Stays used (used_from n items) → used_from
      (new_number used n) (trimmed_by used n items) ≡ map (new_number used) (used_from n items)
  same_used [] n e t h = refl
  same_used (item.Step r ∷ items) n e t h =
      let later = used_from (n + 1) items in
      let told = is_among later n in
      let u : used n ≡ told = agrees n (cited r) later told refl t h in
      let rest = same_used items (n + 1) e.1 (tells_later used n (cited r) later e.0 told t)
      (stays_later used n (cited r) later e.0 told h) in
      ap (λ b. used_from (new_number used n) (if_used b (moved_row used r) (trimmed_by used
      (n + 1) items))) u ∙ step_left n r later (trimmed_by used (n + 1) items) told u refl rest
  same_used (item.Leaf refs ∷ items) n e t h = ap (λ ns. map (new_number used) refs ++ ns)
      (same_used items n e.1 (tells_behind used n refs _ e.0 t) (stays_behind used refs _ h))
      ∙ map_append (new_number used) refs _
  same_used (item.Dead r ∷ items) n e t h = ap (λ ns. new_number used r ∷ ns) (same_used items n e.1
      (tells_behind used n (r ∷ []) _ e.0 t) (stays_behind used (r ∷ []) _ h))
  same_used (item.Nodes k ∷ items) n e t h = same_used items n e.1 t h
  same_used (item.Node k ∷ items) n e t h = same_used items n e.1 t h
  same_used (item.Marks k ∷ items) n e t h = same_used items n e.1 t h
  same_used (item.Mark k ∷ items) n e t h = same_used items n e.1 t h
  same_used (item.Cases k ∷ items) n e t h = same_used items n e.1 t h
  same_used (item.Cut x ps ∷ items) n e t h = same_used items n e.1 t h
  same_used (item.End ∷ items) n e t h = same_used items n e.1 t h

  -- ---- how many are left

  step_counts : (n : ℕ) (r : StepRow) (left : List Item) (all : ℕ) (b : Bool) → used n ≡ b
      → number_behind_all (new_number used (n + 1)) left ≡ new_number used all → number_behind_all
      (new_number used n) (if_used b (moved_row used r) left) ≡ new_number used all
  step_counts n r left all true u h =
      ap (λ m. number_behind_all m left) (sym (next_of_used used n u)) ∙ h
  step_counts n r left all false u h =
      ap (λ m. number_behind_all m left) (sym (next_of_unused used n u)) ∙ h

  pub left_count : (items : List Item) (n : ℕ) → number_behind_all
      (new_number used n) (trimmed_by used n items) ≡ new_number used (number_behind_all n items)
  left_count [] n = refl
  left_count (item.Step r ∷ items) n = step_counts n r (trimmed_by used (n + 1) items)
      (number_behind_all (n + 1) items) (used n) refl (left_count items (n + 1))
  left_count (item.Leaf refs ∷ items) n = left_count items n
  left_count (item.Dead r ∷ items) n = left_count items n
  left_count (item.Nodes k ∷ items) n = left_count items n
  left_count (item.Node k ∷ items) n = left_count items n
  left_count (item.Marks k ∷ items) n = left_count items n
  left_count (item.Mark k ∷ items) n = left_count items n
  left_count (item.Cases k ∷ items) n = left_count items n
  left_count (item.Cut x ps ∷ items) n = left_count items n
  left_count (item.End ∷ items) n = left_count items n

  -- each number below is the new one of a used step
  abbrev IsNew : ℕ → Type 0
  IsNew k = (m : ℕ) × (used m ≡ true) × (new_number used m ≡ k)

  was_step : (b : Bool) (all k : ℕ) → used all ≡ b → (k < new_number used all → IsNew k)
      → k < (if b then suc (new_number used all) else new_number used all) → IsNew k
  was_step true all k u h below =
      ⊎_elim h (λ g. (all, u, (let e : new_number used all ≡ k = omega (arith, g, below) in e)))
      (cases_lt k (new_number used all))
  was_step false all k u h below = h below

  pub was : (all k : ℕ) → k < new_number used all → IsNew k
  unfolding new_number
  was zero k below = absurd (omega (arith, below))
  was (suc all) k below = was_step (used all) all k refl (was all k) below

new_of_none : (used : ℕ → Bool) → new_number used 0 ≡ 0
unfolding new_number
new_of_none used = refl

pub trimmed_count : (used : ℕ → Bool) (items : List Item)
    → step_count (trimmed_by used 0 items) ≡ new_number used (step_count items)
trimmed_count used items = ap (λ n. number_behind_all n (trimmed_by used 0 items))
    (sym (new_of_none used)) ∙ left_count used items 0

pub all_left_are_used : (items : List Item) → CiteEarlier 0 items → AreAllUsed (trimmed items)
all_left_are_used items e k below =
    let ns = used_from 0 items in
    let used = is_among ns in
    let h = was used (step_count items) k (subst (λ n. k < n) (trimmed_count used items) below) in
    let same : used_from 0 (trimmed items) ≡ map (new_number used) ns =
    ap (λ n. used_from n (trimmed items)) (sym (new_of_none used))
    ∙ same_used used items 0 e (λ m l u. u) (λ m u. u) in
    on_both is_among same (sym h.2) ∙ among_map (new_number used) ns h.0 h.1
