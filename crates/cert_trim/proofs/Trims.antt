-- Items with which nothing is wrong, without the steps that no other item cites.
use Rattle.std.proofs.Common.{◌≡◌, inl, ◌<◌, ◌+◌, ℕ, Bool, true, false, List, [], ◌∷◌, ◌++◌, length}
use Rattle.std.proofs.Common.{take, Some, refl, sym, ap, subst, ◌∙◌, append-nil}
use Rattle.goals.specs.declared.line.Line.{Line}
use Rattle.cert_bytes.specs.declared.item.StepRow.{StepRow}
use Rattle.cert_bytes.specs.declared.item.Item.{Item}
use Rattle.cert_bytes.specs.declared.item.Item.TheVariants as item
use Rattle.cert_bytes.specs.declared.order.DueItem.TheVariants.{Head}
use Rattle.cert_checker.specs.declared.subject.Subject.{Subject}
use Rattle.cert_checker.specs.declared.open.Citable.{Citable}
use Rattle.cert_checker.specs.declared.open.OpenCut.{OpenCut}
use Rattle.cert_checker.specs.Contexts.{Context, first}
use Rattle.cert_checker.specs.Steps.{givens, IsConcluded}
use Rattle.cert_checker.specs.After.{after, around_of, cuts_behind, case_behind, lines_with}
use Rattle.cert_checker.specs.Accepted.{LeadsTo}
use Rattle.cert_checker.specs.Faults.{HasCases}
use Rattle.cert_trim.specs.Trimmed.{new_number, moved_row, trimmed_by, if_used}
use Rattle.cert_trim.specs.Used.{cited, AreUsed, AreEnough}
use Rattle.cert_trim.specs.Law.{TrimmedAreAccepted}
use Rattle.cert_trim.proofs.Numbers.{on_both, next_of_used, next_of_unused}
use Rattle.cert_trim.proofs.Kept.{kept, renumbered, kept_append, found_again, if_kept}
use Rattle.cert_trim.proofs.Kept.{concluded_again, settled_again, shown_again}
use Rattle.cert_trim.proofs.CasesFirst.{CasesFirst, Begins, cases_first, still_one, still_told}
use Rattle.cert_trim.proofs.CasesFirst.{goes_first}
use Rattle.cert_trim.proofs.Cuts.{AreLike, like_depth, like_case, like_piece, like_grown}
use Rattle.cert_trim.proofs.Cuts.{like_behind, like_cut}

-- the context of the items without unused steps: what is told of the sections' begin may come
-- later,
-- and whether the last item is the end plays no part
abbrev pub made : Context → List Citable → ℕ → List OpenCut → Bool → Bool → Context
made c steps next copies begun flag = record {
  nodes = c.nodes;
  marked = c.marked;
  steps = steps;
  next = next;
  section = c.section;
  cuts = copies;
  case = c.case;
  begun = begun;
  lines = c.lines;
  ended = flag;
}

abbrev pub image : (ℕ → Bool) → Context → List OpenCut → Bool → Bool → Context
image used c copies begun flag =
    made c (kept used c.steps) (new_number used c.next) copies begun flag

abbrev Shows : Subject → Context → List Item → Context → Type 0
Shows s c items end = (other : Context) × LeadsTo s c items other
    × (other.lines ≡ end.lines) × (other.case ≡ end.case)

-- the context behind a section that ends
abbrev left_behind : Context → List Line → Context
left_behind c lines = record c {
  lines = lines;
  section = c.section + 1;
  cuts = cuts_behind c.cuts;
  case = case_behind c.case (cuts_behind c.cuts);
  steps = take (around_of (cuts_behind c.cuts)) c.steps;
  begun = true;
  ended = false;
}

-- the same of the items without unused steps
abbrev left_image : (ℕ → Bool) → Context → List OpenCut → List Line → Context
left_image used c copies lines = record {
  nodes = c.nodes;
  marked = c.marked;
  steps = take (around_of (cuts_behind copies)) (kept used c.steps);
  next = new_number used c.next;
  section = c.section + 1;
  cuts = cuts_behind copies;
  case = case_behind c.case (cuts_behind copies);
  begun = true;
  lines = lines;
  ended = false;
}

module _ (used : ℕ → Bool) (s : Subject) where
  abbrev Trims : List Item → Type 0
  Trims items = (c : Context) (copies : List OpenCut) (begun flag : Bool) (end : Context)
      → AreLike used c.steps (kept used c.steps) c.cuts copies → AreEnough used c.next items
      → CasesFirst items → Begins s c.begun begun items → LeadsTo s c items end
      → Shows s (image used c copies begun flag) (trimmed_by used c.next items) end

  -- a step
  step_trims : (b : Bool) (r : StepRow) (items : List Item) → Trims items
      → (c : Context) (copies : List OpenCut) (begun flag : Bool) (end : Context)
      → used c.next ≡ b → AreLike used c.steps (kept used c.steps) c.cuts copies
      → (used c.next ≡ true → AreUsed used (cited r)) → AreEnough used (c.next + 1) items
      → CasesFirst (item.Step r ∷ items) → Begins s c.begun begun items → HasCases s c (item.Step r)
      → IsConcluded (givens s c) c.steps r → LeadsTo s (after c (item.Step r)) items end
      → Shows s (image used c copies begun flag)
      (if_used b (moved_row used r) (trimmed_by used (c.next + 1) items)) end
  step_trims true r items rest
      c copies begun flag end e like cites enough order begins has concluded leads =
      let row : Citable = record { number = c.next; fact = r.fact } in
      let grown : kept used (c.steps ++ row ∷ []) ≡ kept used c.steps ++ renumbered used row ∷ [] =
      kept_append used c.steps (row ∷ [])
      ∙ ap (λ b. kept used c.steps ++ if_kept b (renumbered used row) []) e in
      let like_now = subst (λ l.
      AreLike used (c.steps ++ row ∷ []) l c.cuts copies) (sym grown) (like_grown used c.steps
      (kept used c.steps) (row ∷ []) (renumbered used row ∷ []) c.cuts copies like) in
      let h = rest (after c (item.Step r))
      copies true false end like_now enough order.1 (inl refl) leads in
      let g = on_both (λ l n. made (after c (item.Step r)) l n copies true false) grown
      (next_of_used used c.next e) in
      let piece = like_piece used c.steps (kept used c.steps) c.cuts copies like in
      let again = concluded_again used (givens s c) c.steps r (cites e) concluded in
      let here = subst (λ p. IsConcluded (record (givens s c) { piece = p })
      (kept used c.steps) (moved_row used r)) (sym piece) again in (
        h.0,
        (
          (still_one s c.begun begun true items begins has, here),
          subst (λ x. LeadsTo s x (trimmed_by used (c.next + 1) items) h.0) g h.1,
        ),
        h.2,
        h.3,
      )
  step_trims false r items rest
      c copies begun flag end e like cites enough order begins has concluded leads =
      let row : Citable = record { number = c.next; fact = r.fact } in
      let grown : kept used (c.steps ++ row ∷ []) ≡ kept used c.steps = kept_append used c.steps
      (row ∷ []) ∙ ap (λ b. kept used c.steps ++ if_kept b (renumbered used row) []) e
      ∙ append-nil (kept used c.steps) in
      let still = subst (λ l. AreLike used (c.steps ++ row ∷ []) l c.cuts copies)
      (append-nil (kept used c.steps))
      (like_grown used c.steps (kept used c.steps) (row ∷ []) [] c.cuts copies like) in
      let like_now = subst (λ l. AreLike used (c.steps ++ row ∷ []) l c.cuts copies)
      (sym grown) still in
      let h = rest (after c (item.Step r)) copies begun flag end like_now enough order.1
      (goes_first s c.begun begun items begins has order.0) leads in (
        h.0,
        subst (λ x. LeadsTo s x (trimmed_by used (c.next + 1) items) h.0) (on_both (λ l n.
            made c l n copies begun flag) grown (next_of_unused used c.next e)) h.1,
        h.2,
        h.3,
      )

  -- a section ends
  behind_trims : (items : List Item) → Trims items
      → (c : Context) (lines : List Line) (copies : List OpenCut) (end : Context)
      → AreLike used c.steps (kept used c.steps) c.cuts copies → AreEnough used c.next items
      → CasesFirst items → LeadsTo s (left_behind c lines) items end
      → Shows s (left_image used c copies lines) (trimmed_by used c.next items) end
  behind_trims items rest c lines copies end like enough order leads =
      let b = like_behind used c.steps (kept used c.steps) c.cuts copies like in
      let now = left_behind c lines in
      let like_now = subst (λ l. AreLike used (take (around_of (cuts_behind c.cuts)) c.steps) l
      (cuts_behind c.cuts) (cuts_behind copies)) b.front b.like in
      let h = rest now (cuts_behind copies) true false end like_now enough order (inl refl) leads in
      let case = like_case used _ _ (cuts_behind c.cuts) (cuts_behind copies) c.case b.like in
      let same = on_both (λ l k. made (record now { case = k }) l
      (new_number used c.next) (cuts_behind copies) true false) (sym b.front) (sym case) in
      (h.0, subst (λ x. LeadsTo s x (trimmed_by used c.next items) h.0) same h.1, h.2, h.3)

  trims : (items : List Item) → Trims items
  trims [] c copies begun flag end like enough order begins leads =
      (image used c copies begun flag, refl, ap (λ x. x.lines) leads, ap (λ x. x.case) leads)
  trims (item.Step r ∷ items) c copies begun flag end like enough order begins leads =
      step_trims (used c.next) r items (trims items)
      c copies begun flag end refl like enough.0 enough.1 order begins leads.0.0 leads.0.1 leads.1
  trims (item.Nodes n ∷ items) c copies begun flag end like enough order begins leads =
      let h = trims items (after c
      (item.Nodes n)) copies begun false end like enough order begins leads.1 in
      (h.0, ((still_one s c.begun begun false items begins leads.0.0, leads.0.1), h.1), h.2, h.3)
  trims (item.Node n ∷ items) c copies begun flag end like enough order begins leads = let h =
      trims items (after c (item.Node n)) copies begun false end like enough order begins leads.1 in
      (h.0, ((still_one s c.begun begun false items begins leads.0.0, leads.0.1), h.1), h.2, h.3)
  trims (item.Marks n ∷ items) c copies begun flag end like enough order begins leads =
      let h = trims items (after c
      (item.Marks n)) copies begun false end like enough order begins leads.1 in
      (h.0, ((still_one s c.begun begun false items begins leads.0.0, leads.0.1), h.1), h.2, h.3)
  trims (item.Mark m ∷ items) c copies begun flag end like enough order begins leads = let h =
      trims items (after c (item.Mark m)) copies begun false end like enough order begins leads.1 in
      (h.0, ((still_one s c.begun begun false items begins leads.0.0, leads.0.1), h.1), h.2, h.3)
  trims (item.Cases n ∷ items) c copies begun flag end like enough order begins leads =
      let h = trims items (after c
      (item.Cases n)) copies true false end like enough order (inl refl) leads.1 in
      (h.0, ((still_told s c.begun begun n items begins leads.0.0, leads.0.1), h.1), h.2, h.3)
  trims (item.Cut x ps ∷ items) c copies begun flag end like enough order begins leads =
      let cut : OpenCut = record {
        var = x;
        points = ps;
        entered = 1;
        around = length (kept used c.steps);
      } in
      let h = trims items (after c (item.Cut x ps)) (cut ∷ copies) true false end
      (like_cut used c.steps c.cuts copies x ps like) enough order (inl refl) leads.1 in
      let d = like_depth used c.steps (kept used c.steps) c.cuts copies like in (
        h.0,
        (
          (
            still_one s c.begun begun true items begins leads.0.0,
            (leads.0.1.0, subst (λ n. n < 64) (sym d) leads.0.1.1),
          ),
          h.1,
        ),
        h.2,
        h.3,
      )
  trims (item.Leaf refs ∷ items) c copies begun flag end like enough order begins leads =
      let lines = shown_again used c.steps c.lines refs enough.0 in
      let h = behind_trims items (trims items) c
      (lines_with c.steps c.lines refs) copies end like enough.1 order leads.1 in
      let settled = settled_again used c.steps s.goals refs enough.0 leads.0.1 in (
        h.0,
        (
          (still_one s c.begun begun true items begins leads.0.0, settled),
          subst (λ l. LeadsTo s (left_image used c copies l) (trimmed_by used c.next items) h.0)
              (sym lines) h.1,
        ),
        h.2,
        h.3,
      )
  trims (item.Dead r ∷ items) c copies begun flag end like enough order begins leads =
      let h = behind_trims items (trims items) c c.lines copies end like enough.1 order leads.1 in (
        h.0,
        (
          (
            still_one s c.begun begun true items begins leads.0.0,
            found_again used c.steps r enough.0 ∙ leads.0.1,
          ),
          h.1,
        ),
        h.2,
        h.3,
      )
  trims (item.End ∷ items) c copies begun flag end like enough order begins leads = let h =
      trims items (after c item.End) copies begun true end like enough order begins leads.1 in
      (h.0, ((still_one s c.begun begun false items begins leads.0.0, leads.0.1), h.1), h.2, h.3)

pub trimmed_are_accepted : TrimmedAreAccepted
unfolding new_number
trimmed_are_accepted used s items end enough order leads = trims used s items
    (first s) [] false false end tt enough (cases_first (Some Head) items order) (inl refl) leads
