-- The items of a tree of boxes, and that they are accepted with the lines of its leaves.
use Rattle.std.specs.Prelude.{◌≡◌, ◌≤◌, ◌<◌, ◌+◌, ◌-◌, ◌^◌, ℕ, zero, suc, true, false, List, []}
use Rattle.std.specs.Prelude.{◌∷◌, ◌++◌, length, take, map, nat_lt, Option, Some, None, refl}
use Rattle.std.proofs.Common.{sym, ◌∙◌, ap, subst, inl, inr, arith}
use Rattle.std.proofs.lemmas.List.{length-append}
use Rattle.std.proofs.lemmas.Option.{slice_get_within}
use Rattle.std.proofs.lemmas.Bool.{cases_lt}
use Rattle.fx_model.specs.declared.Node.{Node}
use Rattle.fx_model.specs.declared.Node.TheVariants as node
use Rattle.fx_model.specs.declared.ExprId.{ExprId}
use Rattle.dyadic.specs.declared.number.Dyadic.{Dyadic}
use Rattle.interval.specs.declared.interval.Interval.{Interval}
use Rattle.facts.specs.declared.fact.Fact.{Fact}
use Rattle.facts.specs.declared.fact.Slot.{Slot}
use Rattle.facts.specs.declared.fact.Fact.TheVariants as fact
use Rattle.facts.specs.declared.fact.Slot.TheVariants as slot
use Rattle.facts.specs.declared.hint.HintRow.{HintRow}
use Rattle.facts.proofs.CommonParts.{void_is}
use Rattle.goals.specs.declared.goal.Goal.{Goal}
use Rattle.goals.specs.declared.line.Line.{Line}
use Rattle.derivation.specs.Derivations.{Setting, At}
use Rattle.derivation.specs.Known.{Piece}
use Rattle.derivation.specs.Rounds.{IsProper}
use Rattle.derivation.specs.Exists.{table_at}
use Rattle.cert_bytes.specs.declared.item.Item.{Item}
use Rattle.cert_bytes.specs.declared.item.Item.TheVariants as item
use Rattle.cert_bytes.specs.declared.item.StepRow.{StepRow}
use Rattle.cert_bytes.specs.Certificates.{AreDue, IsShort}
use Rattle.cert_bytes.specs.declared.order.DueItem.TheVariants.{Sections}
use Rattle.cert_checker.specs.declared.open.Citable.{Citable}
use Rattle.cert_checker.specs.declared.open.OpenCut.{OpenCut}
use Rattle.cert_checker.specs.declared.subject.Subject.{Subject}
use Rattle.cert_checker.specs.Open.{Numbered}
use Rattle.cert_checker.specs.Contexts.{Context, piece_fact, open_piece}
use Rattle.cert_checker.specs.Steps.{step_fact, case_facts, givens}
use Rattle.cert_checker.specs.Faults.{AreSettled, IsVariable, JudgesItem}
use Rattle.cert_checker.specs.After.{after, behind as behind_section, case_behind, cuts_behind}
use Rattle.cert_checker.specs.After.{around_of, lines_with}
use Rattle.cert_checker.specs.Accepted.{LeadsTo}
use Rattle.tree_certificates.specs.Sections.{behind, AreAccepted, ArePlaces, AreBelow, AllBelow}
use Rattle.tree_certificates.specs.Writing.{IsWritable, givens_of}
use Rattle.tree_certificates.specs.Traces.{HaveFields, Trace, IsCutTo, most_steps}
use Rattle.tree_certificates.specs.Trees.{Tree, Trees, leaf, cut, last, next, lines_at, leaf_lines}
use Rattle.tree_certificates.specs.Trees.{lines_of_tree, lines_of_trees, steps_in, steps_in_each}
use Rattle.tree_certificates.specs.Trees.{AllSettled, cut_of, IsProved, AreProved, IsSubjectOf}
use Rattle.tree_certificates.specs.Walks.{numbered, behind_steps, IsLater, MayBegin, IsOpen}
use Rattle.tree_certificates.specs.Walks.{IsBehind, IsEndOf, IsInCut, Frame, LiesIn, IsDue}
use Rattle.tree_certificates.specs.Moves.{AreSteps, IsEntered, frame_of, turned}
use Rattle.tree_certificates.proofs.Moves.{lead_both, next_behind}
use Rattle.tree_certificates.proofs.Cited.{below_behind, found_long}
use Rattle.tree_certificates.proofs.Come.{child_trace}
use Rattle.tree_certificates.proofs.Written.{AreWritten, rows_written, settled_long}

-- ---- contexts
-- where the sections have begun, the number of cases was judged
pub may_go_on : (subject : Subject) (c : Context) → c.begun ≡ true → MayBegin subject c
may_go_on subject c e b = let f : true ≡ false = sym e ∙ b in cc

steps_lead : (subject : Subject) (c : Context) (rows : List StepRow)
    → MayBegin subject c → AreAccepted (givens subject c) (numbered c) rows
    → LeadsTo subject c (map item.Step rows) (behind_steps c rows)
steps_lead subject c [] m a = refl
steps_lead subject c (row ∷ rows) m a = (
  (λ b r. m b, a.0),
  steps_lead subject (after c (item.Step row)) rows
      (may_go_on subject (after c (item.Step row)) refl) a.1,
)

append_none : (xs : List Citable) → xs ≡ xs ++ []
append_none [] = refl
append_none (x ∷ xs) = ap (λ l. x ∷ l) (append_none xs)

append_more : (xs ys zs : List Citable) → (xs ++ ys) ++ zs ≡ xs ++ (ys ++ zs)
append_more [] ys zs = refl
append_more (x ∷ xs) ys zs = ap (λ l. x ∷ l) (append_more xs ys zs)

steps_later : (c : Context) (rows : List StepRow) → IsLater c (behind_steps c rows)
steps_later c [] = record {
  nodes = refl;
  cuts = refl;
  case = refl;
  lines = refl;
  begun = λ e. e;
  ended = λ e. e;
  more = [];
  steps = append_none c.steps;
  next = omega arith;
}
steps_later c (row ∷ rows) =
    let l = steps_later (after c (item.Step row)) rows in
    record {
      nodes = l.nodes;
      cuts = l.cuts;
      case = l.case;
      lines = l.lines;
      begun = λ e. let f : true ≡ false = l.begun e in cc;
      ended = λ e. l.ended refl;
      more = record { number = c.next; fact = row.fact } ∷ l.more;
      steps =
          l.steps ∙ append_more c.steps (record { number = c.next; fact = row.fact } ∷ []) l.more;
      next = let n : c.next + 1 ≤ (behind_steps (after c (item.Step row)) rows).next = l.next in
          omega (arith, n);
    }

numbered_behind : (c : Context) (rows : List StepRow)
    → numbered (behind_steps c rows) ≡ behind (numbered c) rows
numbered_behind c [] = refl
numbered_behind c (row ∷ rows) = numbered_behind (after c (item.Step row)) rows

-- ---- the end of a section
take_front : {X : Type 0} (n : ℕ) (xs ys : List X) → n ≤ length xs → take n (xs ++ ys) ≡ take n xs
take_front zero xs ys h = refl
take_front (suc n) [] ys h = absurd (omega arith)
take_front (suc n) (x ∷ xs) ys h = ap (λ l. x ∷ l) (take_front n xs ys (omega arith))

-- behind the last item of a section
ends : (c d : Context) (lines : List Line)
    → IsLater c d → around_of (cuts_behind c.cuts) ≤ length c.steps → IsEndOf c
    (record (behind_section (record d { lines = lines })) { begun = true; ended = false }) lines
ends c d lines l room = record {
  nodes = l.nodes;
  cuts = ap cuts_behind l.cuts;
  case = ap (λ k. case_behind k (cuts_behind d.cuts)) l.case
      ∙ ap (λ y. case_behind c.case (cuts_behind y)) l.cuts;
  steps = ap (λ x. take (around_of (cuts_behind x)) d.steps) l.cuts
      ∙ (ap (take (around_of (cuts_behind c.cuts))) l.steps
      ∙ take_front (around_of (cuts_behind c.cuts)) c.steps l.more room);
  next = l.next;
  shown = refl;
  begun = refl;
  ended = refl;
}

-- ---- the leaf
-- a step for each goal
abbrev refs_at : (Slot → ℕ) → List Goal → List ℕ
refs_at place goals = map (λ (g : Goal). place g.of) goals

all_settled : (s : List Citable) (at : At) (place : Slot → ℕ)
    → ((t : Slot) (f : Fact) → at t ≡ Some f → step_fact s (place t) ≡ Some f) → (goals : List Goal)
    → AllSettled at goals → AreSettled s goals (refs_at place goals)
all_settled s at place p [] a = tt
all_settled s at place p (g ∷ goals) a =
    (((a.0).0, p g.of (a.0).0 (a.0).1, (a.0).2), all_settled s at place p goals a.1)

settled_lines : (s : List Citable) (at : At) (place : Slot → ℕ)
    → ((t : Slot) (f : Fact) → at t ≡ Some f → step_fact s (place t) ≡ Some f) → (goals : List Goal)
    → AllSettled at goals → (lines : List Line)
    → lines_with s lines (refs_at place goals) ≡ lines_at at goals lines
settled_lines s at place p [] a [] = refl
settled_lines s at place p [] a (l ∷ lines) = refl
settled_lines s at place p (g ∷ goals) a [] = refl
settled_lines s at place p (g ∷ goals) a (l ∷ lines) =
    let e : step_fact s (place g.of) ≡ at g.of = p g.of (a.0).0 (a.0).1 ∙ sym (a.0).1 in
    let r : lines_with s lines (refs_at place goals) ≡ lines_at at goals lines =
    settled_lines s at place p goals a.1 lines in
    rw (e, r) refl

-- ---- which items are due
steps_due : (n : ℕ) (rows : List StepRow) (items rest : List Item)
    → AreWritten rows → AreDue (Some (Sections (suc n))) (items ++ rest)
    → AreDue (Some (Sections (suc n))) ((map item.Step rows ++ items) ++ rest)
steps_due n [] items rest c d = d
steps_due n (row ∷ rows) items rest c d = (c.0, steps_due n rows items rest c.1 d)

pub append_items : (xs ys zs : List Item) → (xs ++ ys) ++ zs ≡ xs ++ (ys ++ zs)
append_items [] ys zs = refl
append_items (x ∷ xs) ys zs = ap (λ l. x ∷ l) (append_items xs ys zs)

refs_counted : (place : Slot → ℕ) (goals : List Goal) → length (refs_at place goals) ≡ length goals
refs_counted place [] = refl
refs_counted place (g ∷ goals) = let h = refs_counted place goals in omega (arith, h)

below_later : (rows : List Citable) (n m : ℕ) → n ≤ m → AllBelow n rows → AllBelow m rows
below_later [] n m h b = tt
below_later (r ∷ rows) n m h b =
    (let l : r.number < n = b.0 in omega arith, below_later rows n m h b.1)

take_whole : {X : Type 0} (xs : List X) → take (length xs) xs ≡ xs
take_whole [] = refl
take_whole (x ∷ xs) = ap (λ l. x ∷ l) (take_whole xs)

longer : (xs ys : List Citable) → length xs ≤ length (xs ++ ys)
longer xs ys = omega (arith, length-append xs ys)

-- behind the last piece, and behind another
cuts_last : (x : ExprId) (points : List Dyadic) (k n : ℕ) (cuts : List OpenCut) → k ≡ length points
    → cuts_behind (cut_of x points (k + 1) n ∷ cuts) ≡ cuts_behind cuts
cuts_last x points k n cuts e =
    let q : nat_lt (length points) (k + 1) ≡ true = grind (arith, e) in rw q refl

cuts_more : (x : ExprId) (points : List Dyadic) (k n : ℕ) (cuts : List OpenCut) → k < length points
    → cuts_behind (cut_of x points (k + 1) n ∷ cuts) ≡ cut_of x points (k + 1 + 1) n ∷ cuts
cuts_more x points k n cuts e =
    let q : nat_lt (length points) (k + 1) ≡ false = grind (arith, e) in rw q refl

piece_room : (x : ExprId) (points : List Dyadic) (k n : ℕ) (cuts : List OpenCut)
    → k ≤ length points → around_of (cuts_behind cuts) ≤ n
    → around_of (cuts_behind (cut_of x points (k + 1) n ∷ cuts)) ≤ n
piece_room x points k n cuts h r =
    elim (cases_lt k (length points)) [
      | inl l ↦ subst (λ y. around_of y ≤ n) (sym (cuts_more x points k n cuts l)) (omega arith)
      | inr l ↦ subst (λ y. around_of y ≤ n) (sym (cuts_last x points k n cuts (omega arith))) r
    ]

-- behind the last piece the box ends
pub last_ends : (d e f : Context) (x : ExprId) (points : List Dyadic) (k : ℕ) (lines : List Line)
    → IsInCut d x points k e → k ≡ length points → IsEndOf e f lines → IsEndOf d f lines
last_ends d e f x points k lines c h n =
    let q : cuts_behind e.cuts ≡ cuts_behind d.cuts =
    ap cuts_behind c.cuts ∙ cuts_last x points k (length d.steps) d.cuts h in
    record {
      nodes = n.nodes ∙ c.nodes;
      cuts = n.cuts ∙ q;
      case = n.case ∙ (ap (λ y. case_behind e.case y) q
          ∙ ap (λ y. case_behind y (cuts_behind d.cuts)) c.case);
      steps = n.steps ∙ (ap (λ y. take (around_of y) e.steps) q
          ∙ ap (take (around_of (cuts_behind d.cuts))) c.steps);
      next = let a = c.next in let b = n.next in omega (arith, a, b);
      shown = n.shown;
      begun = n.begun;
      ended = n.ended;
    }

-- behind another piece the next is entered
pub next_enters : (d e f : Context) (x : ExprId) (points : List Dyadic) (k : ℕ) (lines : List Line)
    → IsInCut d x points k e → k < length points → IsEndOf e f lines → IsInCut d x points (k + 1) f
next_enters d e f x points k lines c h n =
    let q : cuts_behind e.cuts ≡ cut_of x points (k + 1 + 1) (length d.steps) ∷ d.cuts =
    ap cuts_behind c.cuts ∙ cuts_more x points k (length d.steps) d.cuts h in
    record {
      nodes = n.nodes ∙ c.nodes;
      case = n.case ∙ (ap (λ y. case_behind e.case y) q ∙ c.case);
      cuts = n.cuts ∙ q;
      steps = n.steps ∙ (ap (λ y. take (around_of y) e.steps) q
          ∙ (ap (take (length d.steps)) c.steps ∙ take_whole d.steps));
      next = let a = c.next in let b = n.next in omega (arith, a, b);
      begun = n.begun;
      ended = n.ended;
    }

-- what is behind the steps is the end of the box
pub end_behind : (c d f : Context) (lines : List Line) → IsLater c d
    → around_of (cuts_behind c.cuts) ≤ length c.steps → IsEndOf d f lines → IsEndOf c f lines
end_behind c d f lines l r n = record {
  nodes = n.nodes ∙ l.nodes;
  cuts = n.cuts ∙ ap cuts_behind l.cuts;
  case = n.case ∙ (ap (λ y. case_behind y (cuts_behind d.cuts)) l.case
      ∙ ap (λ y. case_behind c.case (cuts_behind y)) l.cuts);
  steps = n.steps ∙ (ap (λ y. take (around_of (cuts_behind y)) d.steps) l.cuts
      ∙ (ap (take (around_of (cuts_behind c.cuts))) l.steps
      ∙ take_front (around_of (cuts_behind c.cuts)) c.steps l.more r));
  next = let a = l.next in let b = n.next in omega (arith, a, b);
  shown = n.shown;
  begun = n.begun;
  ended = n.ended;
}

both_due : (n m : ℕ) (items more rest : List Item)
    → m ≡ suc n → ((n : ℕ) → IsDue (suc n) n items) → AreDue (Some (Sections n)) (more ++ rest)
    → AreDue (Some (Sections m)) ((items ++ more) ++ rest)
both_due n m items more rest e d r =
    let Q : List Item → Type 0 = λ y. AreDue (Some (Sections m)) y in
    subst Q (sym (append_items items more rest)) (subst
    (λ y. AreDue (Some (Sections y)) (items ++ (more ++ rest))) (sym e) (d n (more ++ rest) r))

alone_due : (n m : ℕ) (items rest : List Item) → m ≡ suc n → ((n : ℕ) → IsDue (suc n) n items)
    → AreDue (Some (Sections n)) rest → AreDue (Some (Sections m)) (items ++ rest)
alone_due n m items rest e d r =
    subst (λ y. AreDue (Some (Sections y)) (items ++ rest)) (sym e) (d n rest r)

-- before the first piece all are left
all_due : (n : ℕ) (points : List Dyadic) (items : List Item)
    → AreDue (Some (Sections (n + (length points + 1 - 0)))) items
    → AreDue (Some (Sections (n + (length points + 1)))) items
all_due n points items d =
    let e : n + (length points + 1 - 0) ≡ n + (length points + 1) = omega arith in
    subst (λ y. AreDue (Some (Sections y)) items) e d

variable_short : (nodes : List Node) (x : ExprId) → length nodes < 2 ^ 16
    → IsVariable nodes x → IsShort x.0
variable_short nodes x h v =
    let l = slice_get_within nodes x.0 (node.Var v.0) v.1 in omega (arith, h, l)

-- ---- sections
module _ (u : Setting) (hints : List HintRow) (w : IsWritable u hints) (height most : ℕ)
    (enough : most_steps u height ≤ most) (goals : List Goal) (subject : Subject) (case : ℕ)
    (same : IsSubjectOf subject case u hints goals) where
  -- The items of a section that begins here, with the context behind it, and no more steps than
  -- that.
  pub record Section (c : Context) (count : ℕ) (lines : List Line) : Type 0 where
    pub items : List Item
    pub behind : Context
    pub leads : LeadsTo subject c items behind
    pub end : IsEndOf c behind lines
    pub far : behind.next ≤ c.next + count
    pub due : (n : ℕ) → IsDue (suc n) n items

  -- the steps of the box, and what they lead to
  record Begun (c : Context) (pieces : List Piece) : Type 0 where
    rows : List StepRow
    written : AreWritten rows
    place : Slot → ℕ
    leads : LeadsTo subject c (map item.Step rows) (behind_steps c rows)
    later : IsLater c (behind_steps c rows)
    far : (behind_steps c rows).next ≤ c.next + most
    below : AreBelow (numbered (behind_steps c rows))
    proper : IsProper (table_at u height pieces)
    found : (t : Slot) (f : Fact) → table_at u height pieces t ≡ Some f
        → step_fact (behind_steps c rows).steps (place t) ≡ Some f

  facts_same : (c : Context) → c.case ≡ case → u.hypotheses ≡ case_facts subject.cases c.case
  facts_same c e = sym (ap (case_facts subject.cases) e ∙ same.facts)

  may_later : (c d : Context) → MayBegin subject c → IsLater c d → MayBegin subject d
  may_later c d m l b = m (l.begun b)

  begun : (c : Context) (pieces : List Piece) → IsOpen u hints height most subject case c pieces
      → c.next + most ≤ 2 ^ 64 → Begun c pieces
  begun c pieces o room =
      let t = o.trace in
      let few = t.few in
      let facts : u.hypotheses ≡ case_facts subject.cases c.case = facts_same c o.case in
      let same_givens : givens_of u hints (open_piece c.cuts) ≡ givens subject c =
      (λ k. record {
        facts = facts k;
        hints = sym same.rows k;
        nodes = sym o.nodes k;
        piece = open_piece c.cuts;
      }) in
      let accepted : AreAccepted (givens subject c) (numbered c) t.rows =
      subst (λ g. AreAccepted g (numbered c) t.rows) same_givens t.traced.accepted in
      let n : behind (numbered c) t.rows ≡ numbered (behind_steps c t.rows) =
      sym (numbered_behind c t.rows) in
      let ahead = next_behind c t.rows in
      record {
        rows = t.rows;
        written = rows_written (givens_of u hints (open_piece c.cuts)) (numbered c) t.rows o.below
            (omega (arith, few, room)) w.few_nodes t.traced.accepted t.fields;
        place = t.place;
        leads = steps_lead subject c t.rows o.begun accepted;
        later = steps_later c t.rows;
        far = omega (arith, ahead, few);
        below = subst AreBelow n (below_behind (numbered c) t.rows o.below);
        proper = t.proper;
        found = λ s f e. subst (λ (x : Numbered). step_fact x.rows (t.place s) ≡ Some f) n
            (t.traced.placed s f e);
      }

  -- ---- a leaf
  leaf_section : (c : Context) (pieces : List Piece) (depth : ℕ)
      → IsOpen u hints height most subject case c pieces → IsProved u height goals leaf pieces depth
      → c.next + most ≤ 2 ^ 64
      → Section c most (lines_of_tree u height goals leaf pieces c.lines)
  leaf_section c pieces depth o p room =
      let b = begun c pieces o room in
      let d : Context = behind_steps c b.rows in
      let at : At = table_at u height pieces in
      let far = b.far in
      let long : d.next ≤ 2 ^ 64 = omega (arith, far, room) in
      elim p [
        | inl v ↦
            let is : step_fact d.steps (b.place slot.Void) ≡ Some fact.Void = b.found slot.Void
            fact.Void (v.1 ∙ ap Some (void_is v.0 (b.proper slot.Void v.0 v.1))) in
            let shown : c.lines ≡ leaf_lines (at slot.Void) at goals c.lines =
            ap (λ x. leaf_lines x at goals c.lines) (sym v.1) in
            let P : List Line → Type 0 = λ l. Section c most l in
            subst P shown (record {
              items = map item.Step b.rows ++ item.Dead (b.place slot.Void) ∷ [];
              behind = after d (item.Dead (b.place slot.Void));
              leads = lead_both subject c d (after d (item.Dead (b.place slot.Void)))
                  (map item.Step b.rows) (item.Dead (b.place slot.Void) ∷ []) b.leads
                  ((λ e r. may_later c d o.begun b.later e, is), refl);
              end = let e = ends c d d.lines b.later o.room in record {
                nodes = e.nodes;
                cuts = e.cuts;
                case = e.case;
                steps = e.steps;
                next = e.next;
                shown = b.later.lines;
                begun = refl;
                ended = refl;
              };
              far = far;
              due = λ n rest r. steps_due n b.rows
                  (item.Dead (b.place slot.Void) ∷ []) rest b.written (
                    (tt, found_long d.steps (b.place slot.Void) d.next fact.Void b.below long is),
                    r,
                  );
            })
        | inr v ↦
            let refs : List ℕ = refs_at b.place goals in
            let settled : AreSettled d.steps subject.goals refs =
            subst (λ g. AreSettled d.steps g refs) (sym same.wanted)
            (all_settled d.steps at b.place b.found goals v.1) in
            let shown : lines_with d.steps d.lines refs
            ≡ leaf_lines (at slot.Void) at goals c.lines =
            ap (λ l. lines_with d.steps l refs) b.later.lines
            ∙ (settled_lines d.steps at b.place b.found goals v.1 c.lines
            ∙ ap (λ x. leaf_lines x at goals c.lines) (sym v.0)) in
            let counted : length refs ≤ 65535 = let m = refs_counted b.place goals in
            let few = same.few_goals in omega (arith, m, few) in
            record {
              items = map item.Step b.rows ++ item.Leaf refs ∷ [];
              behind = after d (item.Leaf refs);
              leads = lead_both subject c d (after d (item.Leaf refs))
                  (map item.Step b.rows) (item.Leaf refs ∷ []) b.leads
                  ((λ e r. may_later c d o.begun b.later e, settled), refl);
              end = let e = ends c d (lines_with d.steps d.lines refs) b.later o.room in record {
                nodes = e.nodes;
                cuts = e.cuts;
                case = e.case;
                steps = e.steps;
                next = e.next;
                shown = shown;
                begun = refl;
                ended = refl;
              };
              far = far;
              due = λ n rest r. steps_due n b.rows (item.Leaf refs ∷ []) rest b.written (
                (counted, settled_long d.steps d.next subject.goals refs b.below long settled),
                r,
              );
            }
      ]

  -- ---- a box that is cut
  -- the items from here to the end of the box
  pub record Rest (d e : Context) (left count : ℕ) (lines : List Line) : Type 0 where
    pub items : List Item
    pub behind : Context
    pub leads : LeadsTo subject e items behind
    pub end : IsEndOf d behind lines
    pub far : behind.next ≤ e.next + count
    pub due : (n : ℕ) → IsDue (n + left) n items

  piece_is_open : (d e : Context) (pieces : List Piece) (x : ExprId)
      (points : List Dyadic) (k : ℕ) (i : Interval) (p : Fact) → IsBehind u height case d pieces
      → IsInCut d x points k e → IsVariable u.nodes x
      → k ≤ length points → piece_fact (cut_of x points 0 0) k ≡ Some p
      → IsCutTo (table_at u height pieces) p (x, i)
      → IsOpen u hints height most subject case e ((x, i) ∷ pieces)
  piece_is_open d e pieces x points k i p b c v h q t =
      let below : AreBelow (numbered e) = subst (λ r. AllBelow e.next r) (sym c.steps)
      (below_later d.steps d.next e.next c.next b.below) in
      let placed : ArePlaces (numbered e) (table_at u height pieces) b.place =
      λ s f y. subst (λ r. step_fact r (b.place s) ≡ Some f) (sym c.steps) (b.found s f y) in
      let back : (k + 1) - 1 ≡ k = omega arith in
      let opened : Some p ≡ open_piece e.cuts = sym (ap open_piece c.cuts
      ∙ (ap (piece_fact (cut_of x points (k + 1) (length d.steps))) back ∙ q)) in
      let trace = child_trace u hints w (numbered e) below height (x, i) pieces p b.place
      (slice_get_within u.nodes x.0 (node.Var v.0) v.1) b.proper placed t in
      let few = trace.few in
      let P : Option Fact → Type 0 =
      λ o. Trace (givens_of u hints o) (numbered e) (table_at u height ((x, i) ∷ pieces)) most in
      let allowed : P (Some p) = record {
        rows = trace.rows;
        place = trace.place;
        proper = trace.proper;
        traced = trace.traced;
        fields = trace.fields;
        few = omega (arith, few, enough);
      } in
      record {
        nodes = c.nodes ∙ b.nodes;
        case = c.case ∙ b.case;
        begun = may_go_on subject e c.begun;
        below = below;
        ended = c.ended;
        room = subst (λ y. around_of (cuts_behind y) ≤ length e.steps) (sym c.cuts)
            (subst (λ y. around_of (cuts_behind (cut_of x points (k + 1) (length d.steps) ∷ d.cuts))
            ≤ length y) (sym c.steps) (piece_room x points k (length d.steps) d.cuts h b.room));
        trace = subst P opened allowed;
      }

  -- behind the last piece no other comes
  pub no_more : (trees : Trees) (x : ExprId) (points : List Dyadic)
      (k : ℕ) (pieces : List Piece) (depth : ℕ) (lines : List Line) → k ≡ length points
      → AreProved u height goals x points trees (k + 1) pieces depth
      → lines ≡ lines_of_trees u height goals x trees pieces lines
  no_more last x points k pieces depth lines h p = refl
  no_more (next i tree trees) x points k pieces depth lines h p =
      let l : k + 1 ≤ length points = p.0 in absurd (omega (arith, h, l))

  behind_steps_of : (c : Context) (pieces : List Piece)
      (o : IsOpen u hints height most subject case c pieces) → (b : Begun c pieces)
      → IsBehind u height case (behind_steps c b.rows) pieces
  behind_steps_of c pieces o b = record {
    nodes = b.later.nodes ∙ o.nodes;
    case = b.later.case ∙ o.case;
    place = b.place;
    below = b.below;
    proper = b.proper;
    found = b.found;
    room = subst (λ y. around_of (cuts_behind y)
        ≤ length (behind_steps c b.rows).steps) (sym b.later.cuts)
        (subst (λ y. around_of (cuts_behind c.cuts) ≤ length y) (sym b.later.steps)
        (let r = o.room in let l = longer c.steps b.later.more in omega (arith, r, l)));
  }

  mutual
    -- A tree whose leaves are settled has a section that is accepted.
    pub tree_section : (t : Tree) (c : Context) (pieces : List Piece) (depth : ℕ)
        → IsOpen u hints height most subject case c pieces → length c.cuts ≡ depth
        → IsProved u height goals t pieces depth
        → c.next + steps_in most t ≤ 2 ^ 64
        → Section c (steps_in most t) (lines_of_tree u height goals t pieces c.lines)
    tree_section leaf c pieces depth o l p room = leaf_section c pieces depth o p room
    tree_section (cut x points trees) c pieces depth o l p room =
        let b = begun c pieces o (omega (arith, room)) in
        let d : Context = behind_steps c b.rows in
        let e : Context = after d (item.Cut x points) in
        let far = b.far in
        let deep : length d.cuts ≡ depth = ap length b.later.cuts ∙ l in
        let variable : IsVariable d.nodes x =
        subst (λ n. IsVariable n x) (sym (b.later.nodes ∙ o.nodes)) p.0 in
        let in_cut : IsInCut d x points 0 e = record {
          nodes = refl;
          case = refl;
          cuts = refl;
          steps = refl;
          next = omega arith;
          begun = refl;
          ended = refl;
        } in
        let rest = trees_section trees x points 0 d e pieces (depth + 1)
        (behind_steps_of c pieces o b) in_cut p.0 (omega (arith, deep))
        (omega arith) p.3 (omega (arith, far, room)) in
        let beyond = rest.far in
        let shown : lines_of_trees u height goals x trees pieces d.lines
        ≡ lines_of_trees u height goals x trees pieces c.lines =
        ap (lines_of_trees u height goals x trees pieces) b.later.lines in
        let P : List Line → Type 0 = λ y. Section c (most + steps_in_each most trees) y in
        subst P shown (record {
          items = map item.Step b.rows ++ item.Cut x points ∷ rest.items;
          behind = rest.behind;
          leads = lead_both subject c d rest.behind (map item.Step b.rows)
              (item.Cut x points ∷ rest.items) b.leads (
                (
                  λ y r. may_later c d o.begun b.later y,
                  (variable, subst (λ n. n < 64) (sym deep) p.1),
                ),
                rest.leads,
              );
          end = end_behind c d rest.behind
              (lines_of_trees u height goals x trees pieces d.lines) b.later o.room rest.end;
          far = omega (arith, far, beyond);
          due = λ n more r. steps_due n b.rows (item.Cut x points ∷ rest.items) more b.written (
            ((p.2).some, (variable_short u.nodes x w.few_nodes p.0, ((p.2).few, (p.2).rising))),
            all_due n points (rest.items ++ more) (rest.due n more r),
          );
        })

    -- The pieces of a box from number k on, behind its steps and the pieces before, end the box.
    pub trees_section : (trees : Trees) (x : ExprId) (points : List Dyadic)
        (k : ℕ) (d e : Context) (pieces : List Piece) (depth : ℕ) → IsBehind u height case d pieces
        → IsInCut d x points k e → IsVariable u.nodes x
        → length d.cuts + 1 ≡ depth → k ≤ length points
        → AreProved u height goals x points trees k pieces depth
        → e.next + steps_in_each most trees ≤ 2 ^ 64
        → Rest d e (length points + 1 - k) (steps_in_each most trees)
        (lines_of_trees u height goals x trees pieces e.lines)
    trees_section last x points k d e pieces depth b c v l h p room =
        let q : k ≡ length points + 1 = p in absurd (omega (arith, h, q))
    trees_section (next i tree trees) x points k d e pieces depth b c v l h p room =
        let o = piece_is_open d e pieces x points k i (p.1).0 b c v h (p.1).1 (p.1).2 in
        let deep : length e.cuts ≡ depth = ap length c.cuts ∙ omega (arith, l) in
        let first = tree_section tree e ((x, i) ∷ pieces) depth o deep p.2 (omega (arith, room)) in
        let f : Context = first.behind in
        let far = first.far in
        let shown : List Line = lines_of_tree u height goals tree ((x, i) ∷ pieces) e.lines in
        let P : List Line → Type 0 =
        λ y. Rest d e (length points + 1 - k) (steps_in most tree + steps_in_each most trees) y in
        elim (cases_lt k (length points)) [
          | inl m ↦
              let rest = trees_section trees x points (k + 1) d f pieces depth b (next_enters d e f
              x points k shown c m first.end) v l (omega arith) p.3 (omega (arith, far, room)) in
              let beyond = rest.far in
              subst P (ap (lines_of_trees u height goals x trees pieces) first.end.shown) (record {
                items = first.items ++ rest.items;
                behind = rest.behind;
                leads =
                    lead_both subject e f rest.behind first.items rest.items first.leads rest.leads;
                end = rest.end;
                far = omega (arith, far, beyond);
                due = λ n more r. both_due (n + (length points + 1 - (k + 1)))
                    (n + (length points + 1 - k)) first.items rest.items more
                    (omega (arith, m)) first.due (rest.due n more r);
              })
          | inr m ↦
              let whole : k ≡ length points = omega arith in
              subst P (no_more trees x points k pieces depth shown whole p.3) (record {
                items = first.items;
                behind = f;
                leads = first.leads;
                end = last_ends d e f x points k shown c whole first.end;
                far = omega (arith, far);
                due = λ n more r. alone_due n (n + (length points + 1 - k)) first.items more
                    (omega (arith, whole)) first.due r;
              })
        ]

  -- ---- a walk moves
  rows_due : (n : ℕ) (rows : List StepRow) (rest : List Item)
      → AreWritten rows → AreDue (Some (Sections (suc n))) rest
      → AreDue (Some (Sections (suc n))) (map item.Step rows ++ rest)
  rows_due n [] rest c d = d
  rows_due n (row ∷ rows) rest c d = (c.0, rows_due n rows rest c.1 d)

  pub rows_lead : (c : Context) (pieces : List Piece) (rows : List StepRow)
      → IsOpen u hints height most subject case c pieces
      → AreAccepted (givens_of u hints (open_piece c.cuts)) (numbered c) rows → HaveFields rows
      → c.next + length rows ≤ 2 ^ 64 → AreSteps subject c rows
  rows_lead c pieces rows o a fields room =
      let facts : u.hypotheses ≡ case_facts subject.cases c.case = facts_same c o.case in
      let same_givens : givens_of u hints (open_piece c.cuts) ≡ givens subject c =
      (λ k. record {
        facts = facts k;
        hints = sym same.rows k;
        nodes = sym o.nodes k;
        piece = open_piece c.cuts;
      }) in
      let written = rows_written (givens_of u hints (open_piece c.cuts))
      (numbered c) rows o.below room w.few_nodes a fields in
      record {
        leads = steps_lead subject c rows o.begun
            (subst (λ g. AreAccepted g (numbered c) rows) same_givens a);
        later = steps_later c rows;
        due = λ n rest r. rows_due n rows rest written r;
      }

  pub rows_placed : (c : Context) (pieces : List Piece) (rows : List StepRow) (place : Slot → ℕ)
      → IsOpen u hints height most subject case c pieces
      → ArePlaces (behind (numbered c) rows) (table_at u height pieces) place
      → IsBehind u height case (behind_steps c rows) pieces
  rows_placed c pieces rows place o p =
      let n : behind (numbered c) rows ≡ numbered (behind_steps c rows) =
      sym (numbered_behind c rows) in
      let l = steps_later c rows in
      record {
        nodes = l.nodes ∙ o.nodes;
        case = l.case ∙ o.case;
        place = place;
        below = subst AreBelow n (below_behind (numbered c) rows o.below);
        proper = o.trace.proper;
        found = λ t f e. subst (λ (x : Numbered). step_fact x.rows (place t) ≡ Some f) n (p t f e);
        room =
            subst (λ y. around_of (cuts_behind y) ≤ length (behind_steps c rows).steps) (sym l.cuts)
            (subst (λ y. around_of (cuts_behind c.cuts) ≤ length y) (sym l.steps) (let r = o.room in
            let m = longer c.steps l.more in omega (arith, r, m)));
      }

  pub cut_enters : (c : Context) (rows : List StepRow) (x : ExprId)
      (points : List Dyadic) (i : Interval) (tree : Tree) (trees : Trees) (pieces : List Piece)
      (depth : ℕ) (frames : List Frame)
      → IsEntered u hints height most goals subject case c (cut x points (next i tree trees)) pieces
      depth frames → AreSteps subject c rows → IsBehind u height case (behind_steps c rows) pieces
      → JudgesItem subject (behind_steps c rows) (item.Cut x points) None
      × IsEntered u hints height most goals subject case
      (after (behind_steps c rows) (item.Cut x points)) tree ((x, i) ∷ pieces) (depth + 1)
      (frame_of c rows x points trees pieces (depth + 1) ∷ frames)
  cut_enters c rows x points i tree trees pieces depth frames n a b =
      let d : Context = behind_steps c rows in
      let e : Context = after d (item.Cut x points) in
      let p = n.proved in
      let each = p.3 in
      let same : length d.cuts ≡ length c.cuts = ap length a.later.cuts in
      let at = n.deep in
      let deep : length d.cuts ≡ depth = omega (arith, same, at) in
      let variable : IsVariable d.nodes x = subst (λ ns. IsVariable ns x) (sym b.nodes) p.0 in
      let in_cut : IsInCut d x points 0 e = record {
        nodes = refl;
        case = refl;
        cuts = refl;
        steps = refl;
        next = omega arith;
        begun = refl;
        ended = refl;
      } in
      let here = each.1 in (
        (
          (λ y r. may_later c d n.opened.begun a.later y),
          (variable, subst (λ k. k < 64) (sym deep) p.1),
        ),
        record {
          opened =
              piece_is_open d e pieces x points 0 i here.0 b in_cut p.0 (omega arith) here.1 here.2;
          deep = omega (arith, deep);
          proved = each.2;
          lies = (
            record {
              entered = in_cut;
              behind = b;
              variable = p.0;
              deep = omega (arith, deep);
              within = omega arith;
              proved = each.3;
              after = a.later;
              room = n.opened.room;
            },
            n.lies,
          );
        },
      )

  pub leaf_ends : (c : Context) (pieces : List Piece) (rows : List StepRow) (refs : List ℕ)
      → IsOpen u hints height most subject case c pieces → AreSteps subject c rows
      → AreSettled (behind_steps c rows).steps subject.goals refs →
      JudgesItem subject (behind_steps c rows) (item.Leaf refs) None × IsEndOf c (after
      (behind_steps c rows) (item.Leaf refs)) (lines_with (behind_steps c rows).steps c.lines refs)
  leaf_ends c pieces rows refs o a s =
      let d : Context = behind_steps c rows in
      let shown : lines_with d.steps d.lines refs ≡ lines_with d.steps c.lines refs =
      ap (λ l. lines_with d.steps l refs) a.later.lines in
      let e = ends c d (lines_with d.steps d.lines refs) a.later o.room in (
        (λ y r. may_later c d o.begun a.later y, s),
        record {
          nodes = e.nodes;
          cuts = e.cuts;
          case = e.case;
          steps = e.steps;
          next = e.next;
          shown = shown;
          begun = refl;
          ended = refl;
        },
      )

  pub dead_ends : (c : Context) (pieces : List Piece) (rows : List StepRow) (r : ℕ)
      → IsOpen u hints height most subject case c pieces → AreSteps subject c rows
      → step_fact (behind_steps c rows).steps r ≡ Some fact.Void →
      JudgesItem subject (behind_steps c rows) (item.Dead r) None
      × IsEndOf c (after (behind_steps c rows) (item.Dead r)) c.lines
  dead_ends c pieces rows r o a s =
      let d : Context = behind_steps c rows in
      let e = ends c d d.lines a.later o.room in (
        (λ y r. may_later c d o.begun a.later y, s),
        record {
          nodes = e.nodes;
          cuts = e.cuts;
          case = e.case;
          steps = e.steps;
          next = e.next;
          shown = a.later.lines;
          begun = refl;
          ended = refl;
        },
      )

  follows_as : (c d : Context) (lines : List Line) (fr : Frame) (i : Interval) (tree : Tree)
      (trees : Trees) (frames : List Frame) → LiesIn u height goals case c (fr ∷ frames)
      → AreProved u height goals fr.var fr.points (next i tree trees)
      (fr.piece + 1) fr.pieces fr.depth → IsEndOf c d lines
      → IsEntered u hints height most goals subject case d tree ((fr.var, i) ∷ fr.pieces) fr.depth
      (turned fr trees ∷ frames)
  follows_as c d lines fr i tree trees frames l p n =
      let here = l.0 in
      let in_cut : IsInCut fr.steps fr.var fr.points (fr.piece + 1) d =
      next_enters fr.steps c d fr.var fr.points fr.piece lines here.entered
      (let q : fr.piece + 1 ≤ length fr.points = p.0 in omega (arith, q)) n in
      let piece = p.1 in
      let long : length d.cuts ≡ length (cut_of fr.var fr.points (fr.piece + 1 + 1)
      (length fr.steps.steps) ∷ fr.steps.cuts) = ap length in_cut.cuts in
      let deep = here.deep in
      record {
        opened = piece_is_open fr.steps d fr.pieces fr.var fr.points
            (fr.piece + 1) i piece.0 here.behind in_cut here.variable p.0 piece.1 piece.2;
        deep = omega (arith, long, deep);
        proved = p.2;
        lies = (
          record {
            entered = in_cut;
            behind = here.behind;
            variable = here.variable;
            deep = here.deep;
            within = p.0;
            proved = p.3;
            after = here.after;
            room = here.room;
          },
          l.1,
        );
      }

  pub piece_follows : (c d : Context) (lines : List Line) (fr : Frame) (i : Interval) (tree : Tree)
      (trees : Trees) (frames : List Frame) → LiesIn u height goals case c (fr ∷ frames)
      → fr.later ≡ next i tree trees → IsEndOf c d lines → IsEntered u hints height most goals
      subject case d tree ((fr.var, i) ∷ fr.pieces) fr.depth (turned fr trees ∷ frames)
  piece_follows c d lines fr i tree trees frames l e n =
      follows_as c d lines fr i tree trees frames l (subst (λ ts. AreProved u height goals fr.var
      fr.points ts (fr.piece + 1) fr.pieces fr.depth) e (l.0).proved) n

  pub box_ends : (c d : Context) (lines : List Line) (fr : Frame) (frames : List Frame)
      → LiesIn u height goals case c (fr ∷ frames) → fr.later ≡ last → IsEndOf c d lines
      → IsEndOf fr.begin d lines
  box_ends c d lines fr frames l e n =
      let here = l.0 in
      let q : fr.piece + 1 ≡ length fr.points + 1 = subst (λ ts. AreProved u height goals fr.var
      fr.points ts (fr.piece + 1) fr.pieces fr.depth) e here.proved in
      end_behind fr.begin fr.steps d lines here.after here.room
      (last_ends fr.steps c d fr.var fr.points fr.piece lines here.entered (omega (arith, q)) n)
