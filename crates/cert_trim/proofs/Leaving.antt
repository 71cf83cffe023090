-- Items that are left, one after the other.
use Rattle.std.proofs.Common.{◌≡◌, ◌<◌, ◌+◌, ℕ, Bool, true, false, List, [], ◌∷◌, ◌++◌, map, Option}
use Rattle.std.proofs.Common.{Some, None, refl, sym, ap, ◌∙◌, append-nil}
use Rattle.std.specs.Prelude.{if◌then◌else◌}
use Rattle.std.specs.Option.{option_map}
use Rattle.cert_bytes.specs.declared.item.StepRow.{StepRow}
use Rattle.cert_bytes.specs.declared.item.Item.{Item}
use Rattle.cert_bytes.specs.declared.item.Item.TheVariants as item
use Rattle.cert_trim.specs.Trimmed.{new_number, number_behind_all, if_used, trimmed_by}
use Rattle.cert_trim.specs.Used.{AllBelow, and_more, cited, cited_by}
use Rattle.cert_trim.specs.Flags.{renumbered_row, renumbered, stays}
use Rattle.cert_trim.proofs.Numbers.{on_both}

-- ---- the same numbers

module _ (f g : ℕ → ℕ) (m : ℕ) (same : (n : ℕ) → n < m → f n ≡ g n) where
  same_all : (ns : List ℕ) → AllBelow m ns → map f ns ≡ map g ns
  same_all [] b = refl
  same_all (n ∷ ns) b = on_both (λ x xs. x ∷ xs) (same n b.0) (same_all ns b.1)

  same_with : (w : Option ℕ) (ns : List ℕ)
      → AllBelow m (and_more w ns) → option_map f w ≡ option_map g w
  same_with None ns b = refl
  same_with (Some n) ns b = ap (λ x. Some x) (same n b.0)

  without_with : (w : Option ℕ) (ns : List ℕ) → AllBelow m (and_more w ns) → AllBelow m ns
  without_with None ns b = b
  without_with (Some n) ns b = b.1

  same_row : (r : StepRow) → AllBelow m (cited r) → renumbered_row f r ≡ renumbered_row g r
  same_row r b = on_both (λ w ps. record r { with = w; premises = ps })
      (same_with r.with r.premises b) (same_all r.premises (without_with r.with r.premises b))

  pub same_item : (i : Item) → AllBelow m (cited_by i) → renumbered f i ≡ renumbered g i
  same_item (item.Step r) b = ap (λ x. item.Step x) (same_row r b)
  same_item (item.Leaf refs) b = ap (λ xs. item.Leaf xs) (same_all refs b)
  same_item (item.Dead r) b = ap (λ x. item.Dead x) (same r b.0)
  same_item (item.Nodes k) b = refl
  same_item (item.Node k) b = refl
  same_item (item.Marks k) b = refl
  same_item (item.Mark k) b = refl
  same_item (item.Cases k) b = refl
  same_item (item.Cut x ps) b = refl
  same_item (item.End) b = refl

-- ---- one item more

abbrev pub left_of : (ℕ → Bool) → ℕ → Item → List Item
left_of used n i = if stays used n i then renumbered (new_number used) i ∷ [] else []

module _ (used : ℕ → Bool) where
  used_alone : (b : Bool) (r : StepRow) → if_used b r [] ≡ (if b then item.Step r ∷ [] else [])
  used_alone true r = refl
  used_alone false r = refl

  used_before : (b : Bool) (r : StepRow) (xs ys : List Item)
      → if_used b r (xs ++ ys) ≡ if_used b r xs ++ ys
  used_before true r xs ys = refl
  used_before false r xs ys = refl

  alone : (n : ℕ) (i : Item) → trimmed_by used n (i ∷ []) ≡ left_of used n i
  alone n (item.Step r) = used_alone (used n) (renumbered_row (new_number used) r)
  alone n (item.Leaf refs) = refl
  alone n (item.Dead r) = refl
  alone n (item.Nodes k) = refl
  alone n (item.Node k) = refl
  alone n (item.Marks k) = refl
  alone n (item.Mark k) = refl
  alone n (item.Cases k) = refl
  alone n (item.Cut x ps) = refl
  alone n (item.End) = refl

  pub left_more : (front : List Item) (n : ℕ) (i : Item) → trimmed_by used n
      (front ++ i ∷ []) ≡ trimmed_by used n front ++ left_of used (number_behind_all n front) i
  left_more [] n i = alone n i
  left_more (item.Step r ∷ front) n i = ap (if_used (used n) (renumbered_row (new_number used) r))
      (left_more front (n + 1) i) ∙ used_before (used n) (renumbered_row (new_number used) r)
      (trimmed_by used (n + 1) front) (left_of used (number_behind_all (n + 1) front) i)
  left_more (item.Leaf refs ∷ front) n i =
      ap (λ xs. item.Leaf (map (new_number used) refs) ∷ xs) (left_more front n i)
  left_more (item.Dead r ∷ front) n i =
      ap (λ xs. item.Dead (new_number used r) ∷ xs) (left_more front n i)
  left_more (item.Nodes k ∷ front) n i = ap (λ xs. item.Nodes k ∷ xs) (left_more front n i)
  left_more (item.Node k ∷ front) n i = ap (λ xs. item.Node k ∷ xs) (left_more front n i)
  left_more (item.Marks k ∷ front) n i = ap (λ xs. item.Marks k ∷ xs) (left_more front n i)
  left_more (item.Mark k ∷ front) n i = ap (λ xs. item.Mark k ∷ xs) (left_more front n i)
  left_more (item.Cases k ∷ front) n i = ap (λ xs. item.Cases k ∷ xs) (left_more front n i)
  left_more (item.Cut x ps ∷ front) n i = ap (λ xs. item.Cut x ps ∷ xs) (left_more front n i)
  left_more (item.End ∷ front) n i = ap (λ xs. item.End ∷ xs) (left_more front n i)

  -- an item that stays
  pub stays_more : (start : ℕ) (yielded left : List Item) (number : ℕ) (i r : Item) → number
      ≡ number_behind_all start yielded → left ≡ trimmed_by used start yielded
      → true ≡ stays used number i → r ≡ renumbered (new_number used) i
      → left ++ r ∷ [] ≡ trimmed_by used start (yielded ++ i ∷ [])
  stays_more start yielded left number i r n l s e =
      on_both (λ xs y. xs ++ y ∷ []) l e
      ∙ ap (λ b. trimmed_by used start yielded ++ (if b then renumbered
      (new_number used) i ∷ [] else [])) (s ∙ ap (λ m. stays used m i) n)
      ∙ sym (left_more yielded start i)

  -- a step that goes
  pub goes_more : (start : ℕ) (yielded left : List Item) (number : ℕ) (i : Item)
      → number ≡ number_behind_all start yielded → left ≡ trimmed_by used start yielded
      → false ≡ stays used number i → left ≡ trimmed_by used start (yielded ++ i ∷ [])
  goes_more start yielded left number i n l s =
      l ∙ sym (append-nil (trimmed_by used start yielded))
      ∙ ap (λ b. trimmed_by used start yielded ++ (if b then renumbered
      (new_number used) i ∷ [] else [])) (s ∙ ap (λ m. stays used m i) n)
      ∙ sym (left_more yielded start i)
