-- Items without some steps: how many there are, and how many bytes they have at most.
use Rattle.std.proofs.Common.{◌≤◌, ◌+◌, ℕ, Bool, true, false, List, [], ◌∷◌, length, arith}
use Rattle.std.proofs.lemmas.List.{length-map}
use Rattle.cert_bytes.specs.declared.item.StepRow.{StepRow}
use Rattle.cert_bytes.specs.declared.item.Item.{Item}
use Rattle.cert_bytes.specs.declared.item.Item.TheVariants as item
use Rattle.cert_bytes.specs.Sizes.{most_bytes_in}
use Rattle.cert_trim.specs.Trimmed.{new_number, number_behind_all, moved_row, trimmed_by, if_used}
use Rattle.cert_trim.specs.Behind.{AreFewer}
use Rattle.cert_trim.proofs.Counts.{not_less_all}
use Rattle.cert_trim.proofs.Ordered.{still_spelled}

module _ (used : ℕ → Bool) where
  step_fewer : (b : Bool) (r : StepRow) (left : List Item) (k m all : ℕ) → k ≤ m
      → ((i : ℕ) → i ≤ m + 1 → number_behind_all i left ≤ all)
      → number_behind_all k (if_used b r left) ≤ all
  step_fewer true r left k m all l h = h (k + 1) (omega (arith, l))
  step_fewer false r left k m all l h = h k (omega (arith, l))

  fewer_steps : (items : List Item) (n k m : ℕ) → k ≤ m
      → number_behind_all k (trimmed_by used n items) ≤ number_behind_all m items
  fewer_steps [] n k m l = l
  fewer_steps (item.Step r ∷ items) n k m l =
      step_fewer (used n) (moved_row used r) (trimmed_by used (n + 1) items) k m
      (number_behind_all (m + 1) items) l (λ i b. fewer_steps items (n + 1) i (m + 1) b)
  fewer_steps (item.Leaf refs ∷ items) n k m l = fewer_steps items n k m l
  fewer_steps (item.Dead r ∷ items) n k m l = fewer_steps items n k m l
  fewer_steps (item.Nodes i ∷ items) n k m l = fewer_steps items n k m l
  fewer_steps (item.Node i ∷ items) n k m l = fewer_steps items n k m l
  fewer_steps (item.Marks i ∷ items) n k m l = fewer_steps items n k m l
  fewer_steps (item.Mark i ∷ items) n k m l = fewer_steps items n k m l
  fewer_steps (item.Cases i ∷ items) n k m l = fewer_steps items n k m l
  fewer_steps (item.Cut x ps ∷ items) n k m l = fewer_steps items n k m l
  fewer_steps (item.End ∷ items) n k m l = fewer_steps items n k m l

  step_shorter : (b : Bool) (r : StepRow) (left items : List Item)
      → most_bytes_in left ≤ most_bytes_in items
      → most_bytes_in (if_used b (moved_row used r) left) ≤ most_bytes_in (item.Step r ∷ items)
  step_shorter true r left items h =
      let e = length-map r.premises (new_number used) in omega (arith, e, h)
  step_shorter false r left items h = omega (arith, h)

  fewer_bytes : (items : List Item) (n : ℕ)
      → most_bytes_in (trimmed_by used n items) ≤ most_bytes_in items
  fewer_bytes [] n = omega arith
  fewer_bytes (item.Step r ∷ items) n = step_shorter (used n) r
      (trimmed_by used (n + 1) items) items (fewer_bytes items (n + 1))
  fewer_bytes (item.Leaf refs ∷ items) n =
      let h = fewer_bytes items n in
      let e = length-map refs (new_number used) in omega (arith, e, h)
  fewer_bytes (item.Dead r ∷ items) n = let h = fewer_bytes items n in omega (arith, h)
  fewer_bytes (item.Nodes i ∷ items) n = let h = fewer_bytes items n in omega (arith, h)
  fewer_bytes (item.Node i ∷ items) n = let h = fewer_bytes items n in omega (arith, h)
  fewer_bytes (item.Marks i ∷ items) n = let h = fewer_bytes items n in omega (arith, h)
  fewer_bytes (item.Mark i ∷ items) n = let h = fewer_bytes items n in omega (arith, h)
  fewer_bytes (item.Cases i ∷ items) n = let h = fewer_bytes items n in omega (arith, h)
  fewer_bytes (item.Cut x ps ∷ items) n = let h = fewer_bytes items n in omega (arith, h)
  fewer_bytes (item.End ∷ items) n = let h = fewer_bytes items n in omega (arith, h)

  step_few : (b : Bool) (r : StepRow) (left items : List Item) → length left ≤ length items
      → length (if_used b r left) ≤ length (item.Step r ∷ items)
  step_few true r left items h = omega (arith, h)
  step_few false r left items h = omega (arith, h)

  fewer_items : (items : List Item) (n : ℕ)
      → length (trimmed_by used n items) ≤ length items
  fewer_items [] n = omega arith
  fewer_items (item.Step r ∷ items) n = step_few (used n) (moved_row used r)
      (trimmed_by used (n + 1) items) items (fewer_items items (n + 1))
  fewer_items (item.Leaf refs ∷ items) n = let h = fewer_items items n in omega (arith, h)
  fewer_items (item.Dead r ∷ items) n = let h = fewer_items items n in omega (arith, h)
  fewer_items (item.Nodes i ∷ items) n = let h = fewer_items items n in omega (arith, h)
  fewer_items (item.Node i ∷ items) n = let h = fewer_items items n in omega (arith, h)
  fewer_items (item.Marks i ∷ items) n = let h = fewer_items items n in omega (arith, h)
  fewer_items (item.Mark i ∷ items) n = let h = fewer_items items n in omega (arith, h)
  fewer_items (item.Cases i ∷ items) n = let h = fewer_items items n in omega (arith, h)
  fewer_items (item.Cut x ps ∷ items) n = let h = fewer_items items n in omega (arith, h)
  fewer_items (item.End ∷ items) n = let h = fewer_items items n in omega (arith, h)

pub are_fewer : AreFewer
are_fewer = record {
  steps = λ used n k items.
      (not_less_all (trimmed_by used n items) k, fewer_steps used items n k k (omega arith));
  bytes = λ used n items. fewer_bytes used items n;
  items = λ used n items. fewer_items used items n;
  spelled = λ used n items h. still_spelled used items n h;
}
