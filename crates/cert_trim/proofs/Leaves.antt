-- A section that isn't cut, without its unused steps.
use Rattle.std.proofs.Common.{◌≡◌, ◌≤◌, ◌<◌, ◌+◌, ℕ, Bool, true, false, List, [], ◌∷◌, ◌++◌, length}
use Rattle.std.proofs.Common.{take, map, refl, sym, ap, subst, ◌∙◌, append-nil, arith}
use Rattle.std.specs.List.{AllByRecursion}
use Rattle.std.proofs.lemmas.List.{take-append-le, length-append}
use Rattle.cert_bytes.specs.declared.item.StepRow.{StepRow}
use Rattle.cert_bytes.specs.declared.item.Item.{Item}
use Rattle.cert_bytes.specs.declared.item.Item.TheVariants as item
use Rattle.cert_checker.specs.declared.subject.Subject.{Subject}
use Rattle.cert_checker.specs.declared.open.Citable.{Citable}
use Rattle.cert_checker.specs.Contexts.{Context}
use Rattle.cert_checker.specs.Steps.{givens, IsConcluded}
use Rattle.cert_checker.specs.After.{after, around_of, cuts_behind}
use Rattle.cert_checker.specs.Accepted.{LeadsTo}
use Rattle.cert_trim.specs.Trimmed.{new_number, number_behind_all, moved_row, trimmed_by, if_used}
use Rattle.cert_trim.specs.Used.{cited, AreUsed, AreEnough}
use Rattle.cert_trim.specs.Behind.{stays_behind, trimmed_behind, section_of, with_next}
use Rattle.cert_trim.specs.Behind.{IsLeafOrDead, LeavesAreTrimmed}
use Rattle.cert_trim.proofs.Numbers.{on_both, next_of_used, next_of_unused}
use Rattle.cert_trim.proofs.Kept.{kept, renumbered, kept_append, found_again, if_kept}
use Rattle.cert_trim.proofs.Kept.{concluded_again, settled_again, shown_again}
use Rattle.cert_trim.proofs.Enough.{cite_earlier}
use Rattle.cert_trim.proofs.AllUsed.{left_count}
use Rattle.cert_trim.proofs.Trims.{image, made}
use Rattle.cert_trim.proofs.Places.{same_below, behind_stay, same_at_start, enough_behind}

-- ---- what may be cited behind the section

-- As many of the used steps as of all may be cited behind it, and these are the same.
record AreSame (steps others : List Citable) (n : ℕ) : Type 0 where
  within : n ≤ length steps
  within_others : n ≤ length others
  front : take n others ≡ take n steps

same_grown : (steps others xs ys : List Citable) (n : ℕ)
    → AreSame steps others n → AreSame (steps ++ xs) (others ++ ys) n
same_grown steps others xs ys n h =
    let k = length-append steps xs in
    let m = length-append others ys in
    let w = h.within in
    let v = h.within_others in
    record {
      within = omega (arith, k, w);
      within_others = omega (arith, m, v);
      front = take-append-le n others ys v ∙ h.front ∙ sym (take-append-le n steps xs w);
    }

module _ (used : ℕ → Bool) (s : Subject) (last : Item) (ends : IsLeafOrDead last) where
  abbrev AtEnd : Context → Context
  AtEnd end = with_next end (new_number used end.next)

  abbrev Ends : List StepRow → Type 0
  Ends rows = (c : Context) (begun flag : Bool) (end : Context)
      → AreSame c.steps (kept used c.steps) (around_of (cuts_behind c.cuts))
      → AreEnough used c.next (section_of rows last)
      → (begun ≡ false → 1 ≡ length s.cases) → LeadsTo s c (section_of rows last) end
      → LeadsTo s (image used c c.cuts begun flag)
      (trimmed_by used c.next (section_of rows last)) (AtEnd end)

  -- a step
  step_ends : (b : Bool) (r : StepRow) (rows : List StepRow) → Ends rows
      → (c : Context) (begun flag : Bool) (end : Context) → used c.next ≡ b
      → AreSame c.steps (kept used c.steps) (around_of (cuts_behind c.cuts))
      → (used c.next ≡ true → AreUsed used (cited r))
      → AreEnough used (c.next + 1) (section_of rows last)
      → (begun ≡ false → 1 ≡ length s.cases)
      → IsConcluded (givens s c) c.steps r
      → LeadsTo s (after c (item.Step r)) (section_of rows last) end
      → LeadsTo s (image used c c.cuts begun flag)
      (if_used b (moved_row used r) (trimmed_by used (c.next + 1) (section_of rows last)))
      (AtEnd end)
  step_ends true r rows rest c begun flag end e same cites enough one concluded leads =
      let row : Citable = record { number = c.next; fact = r.fact } in
      let grown : kept used (c.steps ++ row ∷ []) ≡ kept used c.steps ++ renumbered used row ∷ [] =
      kept_append used c.steps (row ∷ [])
      ∙ ap (λ b. kept used c.steps ++ if_kept b (renumbered used row) []) e in
      let same_now = subst (λ l. AreSame (c.steps ++ row ∷ []) l (around_of (cuts_behind c.cuts)))
      (sym grown) (same_grown c.steps (kept used c.steps) (row ∷ []) (renumbered used row ∷ [])
      (around_of (cuts_behind c.cuts)) same) in
      let h = rest (after c (item.Step r)) true false end same_now enough (λ n. absurd (cc n))
      leads in
      let g = on_both (λ l n. made (after c (item.Step r)) l n c.cuts true false) grown
      (next_of_used used c.next e) in
      let again = concluded_again used (givens s c) c.steps r (cites e) concluded in (
        ((λ n q. one n), again),
        subst (λ x. LeadsTo s x (trimmed_by used (c.next + 1) (section_of rows last)) (AtEnd end))
            g h,
      )
  step_ends false r rows rest c begun flag end e same cites enough one concluded leads =
      let row : Citable = record { number = c.next; fact = r.fact } in
      let grown : kept used (c.steps ++ row ∷ []) ≡ kept used c.steps = kept_append used c.steps
      (row ∷ []) ∙ ap (λ b. kept used c.steps ++ if_kept b (renumbered used row) []) e
      ∙ append-nil (kept used c.steps) in
      let still = subst (λ l. AreSame (c.steps ++ row ∷ []) l (around_of (cuts_behind c.cuts)))
      (append-nil (kept used c.steps)) (same_grown c.steps (kept used c.steps) (row ∷ []) []
      (around_of (cuts_behind c.cuts)) same) in
      let same_now = subst (λ l. AreSame (c.steps ++ row ∷ []) l (around_of (cuts_behind c.cuts)))
      (sym grown) still in
      let h = rest (after c (item.Step r)) begun flag end same_now enough one leads in
      let g = on_both (λ l n. made c l n c.cuts begun flag) grown (next_of_unused used c.next e) in
      subst (λ x. LeadsTo s x (trimmed_by used (c.next + 1) (section_of rows last)) (AtEnd end)) g h

-- the item that ends it
last_ends : (used : ℕ → Bool) (s : Subject) (last : Item) (ends : IsLeafOrDead last)
    → Ends used s last ends []
last_ends used s (item.Leaf refs) ends c begun flag end same enough one leads =
    let lines = shown_again used c.steps c.lines refs enough.0 in
    let settled = settled_again used c.steps s.goals refs enough.0 leads.0.1 in
    let now : Context = after c (item.Leaf refs) in
    let e : after (image used c c.cuts begun flag) (item.Leaf (map (new_number used) refs))
    ≡ with_next now (new_number used c.next) =
    on_both (λ steps ls. record now { steps = steps; next = new_number used c.next; lines = ls })
    same.front lines in
    (((λ n q. one n), settled), e ∙ ap (AtEnd used s (item.Leaf refs) ends) leads.1)
last_ends used s (item.Dead r) ends c begun flag end same enough one leads =
    let now : Context = after c (item.Dead r) in
    let e : after (image used c c.cuts begun flag) (item.Dead (new_number used r))
    ≡ with_next now (new_number used c.next) =
    ap (λ steps. record now { steps = steps; next = new_number used c.next }) same.front in (
      ((λ n q. one n), found_again used c.steps r enough.0 ∙ leads.0.1),
      e ∙ ap (AtEnd used s (item.Dead r) ends) leads.1,
    )
last_ends used s _ ends c begun flag end same enough one leads = absurd ends

section_ends : (used : ℕ → Bool) (s : Subject) (last : Item) (ends : IsLeafOrDead last)
    (rows : List StepRow) → Ends used s last ends rows
section_ends used s last ends [] c begun flag end same enough one leads =
    last_ends used s last ends c begun flag end same enough one leads
section_ends used s last ends (r ∷ rows) c begun flag end same enough one leads =
    step_ends used s last ends (used c.next) r rows (section_ends used s last ends rows)
    c begun flag end refl same enough.0 enough.1 one leads.0.1 leads.1

-- ---- where it begins

-- each of these steps stays as it is
all_kept : (used : ℕ → Bool) (start : ℕ) → ((n : ℕ) → n < start → used n ≡ true)
    → (steps : List Citable) → AllByRecursion (λ q. q.number < start) steps
    → kept used steps ≡ steps
all_kept used start stay [] below = refl
all_kept used start stay (q ∷ steps) below =
    let l = below.0 in
    let number : new_number used q.number ≡ q.number =
    same_below used start stay q.number (omega (arith, l)) in
    ap (λ b. if_kept b (renumbered used q) (kept used steps)) (stay q.number l)
    ∙ on_both (λ n rest. record q { number = n } ∷ rest) number
    (all_kept used start stay steps below.1)

-- the first item tells
one_case : (s : Subject) (c end : Context) (rows : List StepRow) (last : Item)
    → IsLeafOrDead last → LeadsTo s c (section_of rows last) end
    → c.begun ≡ false → 1 ≡ length s.cases
one_case s c end (r ∷ rows) last ends leads none = leads.0.0 none refl
one_case s c end [] (item.Leaf refs) ends leads none = leads.0.0 none refl
one_case s c end [] (item.Dead r) ends leads none = leads.0.0 none refl
one_case s c end [] _ ends leads none = absurd ends

-- the number of the next step behind it
end_next : (s : Subject) (rows : List StepRow) (last : Item) → IsLeafOrDead last
    → (c end : Context) → LeadsTo s c (section_of rows last) end
    → end.next ≡ number_behind_all c.next (section_of rows last)
end_next s (r ∷ rows) last ends c end leads =
    end_next s rows last ends (after c (item.Step r)) end leads.1
end_next s [] (item.Leaf refs) ends c end leads = ap (λ x. x.next) (sym leads.1)
end_next s [] (item.Dead r) ends c end leads = ap (λ x. x.next) (sym leads.1)
end_next s [] _ ends c end leads = absurd ends

pub leaves_are_trimmed : LeavesAreTrimmed
leaves_are_trimmed s c end rows last here ends leads =
    let own : List Item = section_of rows last in
    let used = stays_behind c.next own in
    let earlier = cite_earlier s own c end here.below leads in
    let steps : kept used c.steps ≡ c.steps =
    all_kept used c.next (behind_stay c.next own) c.steps here.below in
    let room = here.room in
    let same : AreSame c.steps (kept used c.steps) (around_of (cuts_behind c.cuts)) =
    subst (λ l. AreSame c.steps l (around_of (cuts_behind c.cuts))) (sym steps)
    (record { within = room; within_others = room; front = refl }) in
    let h = section_ends used s last ends rows c c.begun c.ended end same
    (enough_behind c.next own earlier) (one_case s c end rows last ends leads) leads in
    let begin : image used c c.cuts c.begun c.ended ≡ c =
    on_both (λ l n. record c { steps = l; next = n }) steps (same_at_start c.next own) in
    let count : new_number used end.next ≡ number_behind_all c.next (trimmed_behind c.next own) =
    ap (new_number used) (end_next s rows last ends c end leads)
    ∙ sym (left_count used own c.next)
    ∙ ap (λ n. number_behind_all n (trimmed_behind c.next own)) (same_at_start c.next own) in (
      earlier,
      subst (λ n. LeadsTo s c (trimmed_behind c.next own) (with_next end n)) count
          (subst (λ x. LeadsTo s x (trimmed_behind c.next own) (with_next end (new_number used
          end.next)))
          begin h),
    )
