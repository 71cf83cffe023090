-- The items that are left are in order, and have spellings.
use Rattle.std.proofs.Common.{◌≡◌, ◌≤◌, ◌+◌, ℕ, zero, suc, Bool, true, false, List, [], ◌∷◌, ◌++◌}
use Rattle.std.proofs.Common.{map, Option, Some, None, refl, sym, subst, append-nil, arith}
use Rattle.std.specs.Prelude.{IfSome, if◌then◌else◌}
use Rattle.std.specs.Option.{option_map}
use Rattle.std.specs.List.{AllByRecursion}
use Rattle.std.proofs.lemmas.List.{length-map}
use Rattle.cert_bytes.specs.declared.item.StepRow.{StepRow}
use Rattle.cert_bytes.specs.declared.item.Item.{Item}
use Rattle.cert_bytes.specs.declared.item.Item.TheVariants as item
use Rattle.cert_bytes.specs.declared.order.DueItem.{DueItem}
use Rattle.cert_bytes.specs.declared.order.DueItem.TheVariants.{Head, Nodes, Marks, Sections, Done}
use Rattle.cert_bytes.specs.Due.{due_after}
use Rattle.cert_bytes.specs.Certificates.{IsCounted, IsLong, HasRoomFor, HasSpelling, Fits, AreDue}
use Rattle.cert_bytes.specs.Certificates.{AreCertificate}
use Rattle.cert_checker.specs.Accepted.{AreInOrder}
use Rattle.cert_trim.specs.Trimmed.{new_number, moved_row, if_used, trimmed_by}
use Rattle.cert_trim.specs.Behind.{CertificatesStaySo}

module _ (used : ℕ → Bool) where
  next_most : (b : Bool) (m n : ℕ) → m ≤ n → (if b then suc m else m) ≤ suc n
  next_most true m n h = omega (arith, h)
  next_most false m n h = omega (arith, h)

  not_above : (n : ℕ) → new_number used n ≤ n
  unfolding new_number
  not_above zero = omega arith
  not_above (suc n) = next_most (used n) _ _ (not_above n)

  long : (n : ℕ) → IsLong n → IsLong (new_number used n)
  long n h = let s = not_above n in omega (arith, s, h)

  all_long : (ns : List ℕ) → AllByRecursion IsLong ns
      → AllByRecursion IsLong (map (new_number used) ns)
  all_long [] h = tt
  all_long (n ∷ ns) h = (long n h.0, all_long ns h.1)

  if_long : (w : Option ℕ) → IfSome w IsLong → IfSome (option_map (new_number used) w) IsLong
  if_long None h = h
  if_long (Some n) h = long n h

  still_counted : (ns : List ℕ) → IsCounted ns → IsCounted (map (new_number used) ns)
  still_counted ns h = let e = length-map ns (new_number used) in omega (arith, e, h)

  row_fits : (r : StepRow) → HasRoomFor r → HasRoomFor (moved_row used r)
  row_fits r h = record {
    rule = h.rule;
    arg = h.arg;
    fact = h.fact;
    with = if_long r.with h.with;
    premises = all_long r.premises h.premises;
  }

  -- ---- what is due doesn't depend on what is cited

  step_due : (d : DueItem) (r t : StepRow) → due_after d (item.Step r) ≡ due_after d (item.Step t)
  step_due (Marks zero) r t = refl
  step_due (Sections (suc w)) r t = refl
  step_due Head r t = refl
  step_due (Nodes zero) r t = refl
  step_due (Nodes (suc n)) r t = refl
  step_due (Marks (suc n)) r t = refl
  step_due (Sections zero) r t = refl
  step_due Done r t = refl

  leaf_due : (d : DueItem) (r t : List ℕ) → due_after d (item.Leaf r) ≡ due_after d (item.Leaf t)
  leaf_due (Marks zero) r t = refl
  leaf_due (Sections (suc w)) r t = refl
  leaf_due Head r t = refl
  leaf_due (Nodes zero) r t = refl
  leaf_due (Nodes (suc n)) r t = refl
  leaf_due (Marks (suc n)) r t = refl
  leaf_due (Sections zero) r t = refl
  leaf_due Done r t = refl

  dead_due : (d : DueItem) (r t : ℕ) → due_after d (item.Dead r) ≡ due_after d (item.Dead t)
  dead_due (Marks zero) r t = refl
  dead_due (Sections (suc w)) r t = refl
  dead_due Head r t = refl
  dead_due (Nodes zero) r t = refl
  dead_due (Nodes (suc n)) r t = refl
  dead_due (Marks (suc n)) r t = refl
  dead_due (Sections zero) r t = refl
  dead_due Done r t = refl

  -- ---- a step that goes

  root_begins : (items : List Item)
      → AreDue (Some (Sections 1)) items → AreDue (Some (Marks 0)) items
  root_begins [] h = absurd (cc h)
  root_begins (item.Step r ∷ items) h = h
  root_begins (item.Cut x ps ∷ items) h =
      (h.0, subst (λ n. AreDue (Some (Sections n)) items) (omega arith) h.1)
  root_begins (item.Leaf refs ∷ items) h = h
  root_begins (item.Dead r ∷ items) h = h
  root_begins (_ ∷ items) h = absurd h.1

  without_step : (d : DueItem) (r : StepRow) (items : List Item)
      → AreDue (due_after d (item.Step r)) items → AreDue (Some d) items
  without_step (Marks zero) r items h = root_begins items h
  without_step (Sections (suc w)) r items h = h
  without_step Head r items h = absurd h
  without_step (Nodes zero) r items h = absurd h
  without_step (Nodes (suc n)) r items h = absurd h
  without_step (Marks (suc n)) r items h = absurd h
  without_step (Sections zero) r items h = absurd h
  without_step Done r items h = absurd h

  row_left : (b : Bool) (d : DueItem) (r : StepRow) (items rest : List Item)
      → HasSpelling (item.Step r) × Fits (item.Step r)
      → AreDue (due_after d (item.Step r)) (items ++ rest)
      → AreDue (Some d) (if_used b (moved_row used r) items ++ rest)
  row_left true d r items rest h due = (
    (still_counted r.premises h.0, row_fits r h.1),
    subst (λ o. AreDue o (items ++ rest)) (step_due d r (moved_row used r)) due,
  )
  row_left false d r items rest h due = without_step d r (items ++ rest) due

  -- whatever stands behind
  pub in_order : (items rest : List Item) (n : ℕ) (d : Option DueItem)
      → AreDue d (items ++ rest) → AreDue d (trimmed_by used n items ++ rest)
  in_order items rest n None h = absurd h
  in_order [] rest n (Some d) h = h
  in_order (item.Step r ∷ items) rest n (Some d) h =
      row_left (used n) d r _ rest h.0 (in_order items rest (n + 1) _ h.1)
  in_order (item.Leaf refs ∷ items) rest n (Some d) h = (
    (still_counted refs h.0.0, all_long refs h.0.1),
    subst (λ o. AreDue o (trimmed_by used n items ++ rest)) (leaf_due d refs _)
        (in_order items rest n _ h.1),
  )
  in_order (item.Dead r ∷ items) rest n (Some d) h = (
    (tt, long r h.0.1),
    subst (λ o. AreDue o (trimmed_by used n items ++ rest)) (dead_due d r _)
        (in_order items rest n _ h.1),
  )
  in_order (item.Nodes k ∷ items) rest n (Some d) h = (h.0, in_order items rest n _ h.1)
  in_order (item.Node k ∷ items) rest n (Some d) h = (h.0, in_order items rest n _ h.1)
  in_order (item.Marks k ∷ items) rest n (Some d) h = (h.0, in_order items rest n _ h.1)
  in_order (item.Mark k ∷ items) rest n (Some d) h = (h.0, in_order items rest n _ h.1)
  in_order (item.Cases k ∷ items) rest n (Some d) h = (h.0, in_order items rest n _ h.1)
  in_order (item.Cut x ps ∷ items) rest n (Some d) h = (h.0, in_order items rest n _ h.1)
  in_order (item.End ∷ items) rest n (Some d) h = (h.0, in_order items rest n _ h.1)

  -- ---- spellings alone

  spelled_left : (b : Bool) (r : StepRow) (items : List Item)
      → IsCounted r.premises → AllByRecursion HasSpelling items
      → AllByRecursion HasSpelling (if_used b (moved_row used r) items)
  spelled_left true r items h k = (still_counted r.premises h, k)
  spelled_left false r items h k = k

  pub still_spelled : (items : List Item) (n : ℕ)
      → AllByRecursion HasSpelling items → AllByRecursion HasSpelling (trimmed_by used n items)
  still_spelled [] n h = h
  still_spelled (item.Step r ∷ items) n h =
      spelled_left (used n) r _ h.0 (still_spelled items (n + 1) h.1)
  still_spelled (item.Leaf refs ∷ items) n h = (still_counted refs h.0, still_spelled items n h.1)
  still_spelled (item.Dead r ∷ items) n h = (h.0, still_spelled items n h.1)
  still_spelled (item.Nodes k ∷ items) n h = (h.0, still_spelled items n h.1)
  still_spelled (item.Node k ∷ items) n h = (h.0, still_spelled items n h.1)
  still_spelled (item.Marks k ∷ items) n h = (h.0, still_spelled items n h.1)
  still_spelled (item.Mark k ∷ items) n h = (h.0, still_spelled items n h.1)
  still_spelled (item.Cases k ∷ items) n h = (h.0, still_spelled items n h.1)
  still_spelled (item.Cut x ps ∷ items) n h = (h.0, still_spelled items n h.1)
  still_spelled (item.End ∷ items) n h = (h.0, still_spelled items n h.1)

pub still_certificate : (used : ℕ → Bool) (items : List Item)
    → AreCertificate items → AreCertificate (trimmed_by used 0 items)
still_certificate used items h =
    subst AreCertificate (append-nil (trimmed_by used 0 items))
    (in_order used items [] 0 (Some Head) (subst AreCertificate (sym (append-nil items)) h))

-- items behind others
due_front : (before items others : List Item) (d : Option DueItem)
    → ((o : Option DueItem) → AreDue o items → AreDue o others)
    → AreDue d (before ++ items) → AreDue d (before ++ others)
due_front [] items others d h due = h d due
due_front (i ∷ before) items others None h due = absurd due
due_front (i ∷ before) items others (Some d) h due =
    (due.0, due_front before items others (due_after d i) h due.1)

pub certificates_stay_so : CertificatesStaySo
certificates_stay_so used n before items later h =
    due_front before (items ++ later) (trimmed_by used n items ++ later) (Some Head)
    (λ o due. in_order used items later n o due) h

pub certificate_in_order : (o : Option DueItem) (items : List Item)
    → AreDue o items → AreInOrder o items
certificate_in_order None items h = h
certificate_in_order (Some d) [] h = h
certificate_in_order (Some d) (i ∷ items) h = certificate_in_order (due_after d i) items h.1
