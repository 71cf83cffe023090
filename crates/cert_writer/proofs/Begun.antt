-- What stands before the root sections, and that the first is to begin behind it.
use Rattle.std.specs.Prelude.{◌≡◌, ◌≤◌, ◌+◌, ◌*◌, ℕ, zero, suc, false, List, [], ◌∷◌, ◌++◌, length}
use Rattle.std.specs.Prelude.{map, Some, None, slice_get, refl}
use Rattle.std.proofs.Common.{sym, ◌∙◌, ap, subst, append-nil, arith}
use Rattle.std.proofs.lemmas.List.{append_assoc, length-append}
use Rattle.fx_model.specs.declared.Node.{Node}
use Rattle.facts.specs.declared.hint.HintMark.{HintMark}
use Rattle.goals.specs.declared.goal.Goal.{Goal}
use Rattle.goals.specs.declared.line.Line.{Line}
use Rattle.goals.specs.declared.line.Line.TheVariants as line
use Rattle.derivation.specs.Derivations.{Setting}
use Rattle.derivation.specs.Exists.{table_at}
use Rattle.saturate.specs.Universes.{setting_of}
use Rattle.cert_bytes.specs.declared.item.Item.{Item}
use Rattle.cert_bytes.specs.declared.item.Item.TheVariants as item
use Rattle.cert_bytes.specs.declared.order.DueItem.TheVariants.{Nodes, Marks, Sections}
use Rattle.cert_bytes.specs.Certificates.{AreDue}
use Rattle.cert_bytes.specs.declared.style.Seen.{Seen}
use Rattle.cert_bytes.specs.Styles.{seen_in}
use Rattle.cert_checker.specs.declared.subject.Subject.{Subject}
use Rattle.cert_checker.specs.Contexts.{Context, first, open_piece}
use Rattle.cert_checker.specs.After.{after, around_of, cuts_behind}
use Rattle.cert_checker.specs.Accepted.{LeadsTo}
use Rattle.tree_certificates.specs.Sections.{AllBelow}
use Rattle.tree_certificates.specs.Writing.{givens_of}
use Rattle.tree_certificates.specs.Traces.{Trace}
use Rattle.tree_certificates.specs.Trees.{Tree, IsProved, lines_of_tree, steps_in, AreTaken}
use Rattle.tree_certificates.specs.Roots.{roots_are_counted, cases_items}
use Rattle.tree_certificates.specs.Walks.{numbered, MayBegin, IsOpen}
use Rattle.tree_certificates.specs.Laws.{TracesExist}
use Rattle.tree_certificates.proofs.Moves.{lead_both, marks_due, root_due}
use Rattle.box_trace.specs.Short.{bytes_a_box}
use Rattle.cert_writer.specs.Standing.{IsAt, most_for, steps_left, lines_left, at_root}
use Rattle.cert_writer.proofs.Sized.{head_sized}
use Rattle.cert_writer.specs.Heads.{head_items}
use Rattle.cert_writer.specs.Laws.{OfAims}
use Rattle.cert_writer.proofs.Seen.{head_seen}

-- ---- what they come to
abbrev with_nodes : Context → List Node → Context
with_nodes c [] = c
with_nodes c (n ∷ rest) = with_nodes (after c (item.Node n)) rest

abbrev with_marks : Context → List HintMark → Context
with_marks c [] = c
with_marks c (m ∷ rest) = with_marks (after c (item.Mark m)) rest

-- nothing but nodes and marks has come
record IsEarly (c : Context) (nodes : List Node) (marked : ℕ) (lines : List Line) : Type 0 where
  nodes_are : c.nodes ≡ nodes
  marked_is : c.marked ≡ marked
  next : c.next ≡ 0
  steps : c.steps ≡ []
  cuts : c.cuts ≡ []
  case : c.case ≡ 0
  begun : c.begun ≡ false
  lines_are : c.lines ≡ lines
  ended : c.ended ≡ false

early_nodes : (c : Context) (rest nodes : List Node) (lines : List Line) → IsEarly c nodes 0 lines
    → IsEarly (with_nodes c rest) (nodes ++ rest) 0 lines
early_nodes c [] nodes lines e = subst (λ ns. IsEarly c ns 0 lines) (sym (append-nil nodes)) e
early_nodes c (n ∷ rest) nodes lines e =
    let d : Context = after c (item.Node n) in
    let here : IsEarly d (nodes ++ n ∷ []) 0 lines = record {
      nodes_are = ap (λ ns. ns ++ n ∷ []) e.nodes_are;
      marked_is = e.marked_is;
      next = e.next;
      steps = e.steps;
      cuts = e.cuts;
      case = e.case;
      begun = e.begun;
      lines_are = e.lines_are;
      ended = refl;
    } in
    subst (λ ns. IsEarly (with_nodes d rest) ns 0 lines) (append_assoc nodes (n ∷ []) rest)
    (early_nodes d rest (nodes ++ n ∷ []) lines here)

early_marks : (c : Context) (rest : List HintMark) (nodes : List Node) (k : ℕ) (lines : List Line)
    → IsEarly c nodes k lines → (n : ℕ) × IsEarly (with_marks c rest) nodes n lines
early_marks c [] nodes k lines e = (k, e)
early_marks c (m ∷ rest) nodes k lines e =
    early_marks (after c (item.Mark m)) rest nodes (k + 1) lines
    (record {
      nodes_are = e.nodes_are;
      marked_is = ap (λ n. n + 1) e.marked_is;
      next = e.next;
      steps = e.steps;
      cuts = e.cuts;
      case = e.case;
      begun = e.begun;
      lines_are = e.lines_are;
      ended = refl;
    })

-- ---- nothing is wrong with them
nodes_lead : (s : Subject) (c : Context) (rest : List Node) → AreTaken s c.nodes rest
    → LeadsTo s c (map item.Node rest) (with_nodes c rest)
nodes_lead s c [] t = refl
nodes_lead s c (n ∷ rest) t = (((λ b r. cc), t.0), nodes_lead s (after c (item.Node n)) rest t.3)

mark_there : (before : List HintMark) (m : HintMark) (rest : List HintMark)
    → slice_get (before ++ m ∷ rest) (length before) ≡ Some m
mark_there [] m rest = refl
mark_there (x ∷ before) m rest = mark_there before m rest

marks_lead : (s : Subject) (c : Context) (before rest : List HintMark) → s.marks ≡ before ++ rest
    → c.marked ≡ length before → LeadsTo s c (map item.Mark rest) (with_marks c rest)
marks_lead s c before [] all k = refl
marks_lead s c before (m ∷ rest) all k =
    let here : slice_get s.marks c.marked ≡ Some m = ap (λ ms. slice_get ms c.marked) all
    ∙ (ap (λ n. slice_get (before ++ m ∷ rest) n) k ∙ mark_there before m rest) in (
      ((λ b r. cc), here),
      marks_lead s (after c (item.Mark m))
          (before ++ m ∷ []) rest (all ∙ sym (append_assoc before (m ∷ []) rest))
          (ap (λ n. n + 1) k ∙ sym (length-append before (m ∷ []))),
    )

-- ---- they are due
nodes_due : (s : Subject) (before rest : List Node) (more tail : List Item)
    → AreTaken s before rest → AreDue (Some (Nodes zero)) (more ++ tail)
    → AreDue (Some (Nodes (length rest))) ((map item.Node rest ++ more) ++ tail)
nodes_due s before [] more tail t d = d
nodes_due s before (n ∷ rest) more tail t d =
    ((t.1, t.2), nodes_due s (before ++ n ∷ []) rest more tail t.3 d)

-- ---- the number of cases
with_cases : Context → ℕ → Context
with_cases c zero = c
with_cases c (suc zero) = c
with_cases c (suc (suc n)) = after c (item.Cases (suc (suc n)))

cases_lead : (s : Subject) (c : Context) (n : ℕ) → n ≡ length s.cases
    → LeadsTo s c (cases_items n) (with_cases c n)
unfolding with_cases
cases_lead s c zero e = refl
cases_lead s c (suc zero) e = refl
cases_lead s c (suc (suc n)) e = (((λ b r. e), refl), refl)

cases_due : (n : ℕ) (rest : List Item) → 1 ≤ n → n ≤ 64 → AreDue (Some (Sections n)) rest
    → AreDue (Some (Marks zero)) (cases_items n ++ rest)
cases_due zero rest l h d = absurd (omega (arith, l))
cases_due (suc zero) rest l h d = root_due rest d
cases_due (suc (suc n)) rest l h d = (((omega arith, h), tt), d)

-- the root section of the first case is open
record IsReady (s : Subject) (c : Context) (nodes : List Node) (lines : List Line) : Type 0 where
  nodes_are : c.nodes ≡ nodes
  next : c.next ≡ 0
  steps : c.steps ≡ []
  cuts : c.cuts ≡ []
  case : c.case ≡ 0
  begun : MayBegin s c
  lines_are : c.lines ≡ lines
  ended : c.ended ≡ false

ready : (s : Subject) (c : Context) (n : ℕ) (nodes : List Node) (k : ℕ) (lines : List Line) → 1 ≤ n
    → n ≡ length s.cases → IsEarly c nodes k lines → IsReady s (with_cases c n) nodes lines
unfolding with_cases
ready s c zero nodes k lines l e r = absurd (omega (arith, l))
ready s c (suc zero) nodes k lines l e r = record {
  nodes_are = r.nodes_are;
  next = r.next;
  steps = r.steps;
  cuts = r.cuts;
  case = r.case;
  begun = λ b. e;
  lines_are = r.lines_are;
  ended = r.ended;
}
ready s c (suc (suc n)) nodes k lines l e r = record {
  nodes_are = r.nodes_are;
  next = r.next;
  steps = r.steps;
  cuts = r.cuts;
  case = r.case;
  begun = λ b. cc;
  lines_are = r.lines_are;
  ended = refl;
}

-- ---- the root
module _ (exist : TracesExist) where
  pub begins : OfAims (λ t. t.target.number ≡ 0
      → (tree : Tree) → IsProved (setting_of t.world) t.height t.world.goals tree [] 0
      → steps_in (most_for t) tree + steps_left t ≤ 8192 * bytes_a_box
      → t.lines ≡ lines_left t (lines_of_tree (setting_of t.world) t.height t.world.goals tree []
      (map (λ g. line.Empty) t.world.goals))
      → (c : Context) × (c.next ≡ 0) × IsAt t (at_root t c tree))
  begins t a number tree proved room shown =
      let v : Setting = setting_of t.world in
      let most : ℕ = most_for t in
      let s : Subject = t.target.subject in
      let n : ℕ = length s.cases in
      let counted = roots_are_counted s t.world.hints t.height most t.world.goals t.world.nodes
      t.target.later (t.target.number + 1) a.later in
      let count : n ≡ suc (0 + length t.target.later) = omega (arith, counted, number) in
      let marks : List HintMark = s.marks in
      let start : Context = first s in
      let lines : List Line = map (λ g. line.Empty) s.goals in
      let c : Context = with_nodes start v.nodes in
      let m : Context = after c (item.Marks (length marks)) in
      let q : Context = with_marks m marks in
      let r : Context = with_cases q n in
      let e0 : IsEarly start [] 0 lines = record {
        nodes_are = refl;
        marked_is = refl;
        next = refl;
        steps = refl;
        cuts = refl;
        case = refl;
        begun = refl;
        lines_are = refl;
        ended = refl;
      } in
      let e1 = early_nodes start v.nodes [] lines e0 in
      let e2 : IsEarly m v.nodes 0 lines = record {
        nodes_are = e1.nodes_are;
        marked_is = e1.marked_is;
        next = e1.next;
        steps = e1.steps;
        cuts = e1.cuts;
        case = e1.case;
        begun = e1.begun;
        lines_are = e1.lines_are;
        ended = refl;
      } in
      let e = early_marks m marks v.nodes 0 lines e2 in
      let at : IsReady s r v.nodes lines =
      ready s q n v.nodes e.0 lines (omega (arith, count)) refl e.1 in
      let below : AllBelow r.next r.steps = subst (λ x. AllBelow r.next x) (sym at.steps) tt in
      let found = exist.root v t.world.hints a.writable (numbered r) below t.height in
      let short = found.few in
      let enough = a.enough in
      let hypotheses = a.writable.few_hypotheses in
      let root : Trace (givens_of v t.world.hints None) (numbered r)
      (table_at v t.height []) most = record {
        rows = found.rows;
        place = found.place;
        proper = found.proper;
        traced = found.traced;
        fields = found.fields;
        few = omega (arith, short, enough, hypotheses);
      } in
      let opened : IsOpen v t.world.hints t.height most s t.target.number r [] = record {
        nodes = at.nodes_are;
        case = at.case ∙ sym number;
        begun = at.begun;
        below = below;
        ended = at.ended;
        room = subst (λ y. around_of (cuts_behind y) ≤ length r.steps) (sym at.cuts) (omega arith);
        trace = subst (λ o. Trace (givens_of v t.world.hints o) (numbered r)
            (table_at v t.height []) most) (sym (ap open_piece at.cuts)) root;
      } in
      let goals : s.goals ≡ t.world.goals = a.subject.wanted in
      let empty : map (λ (g : Goal). line.Empty) t.world.goals ≡ r.lines =
      sym (at.lines_are ∙ ap (map (λ (g : Goal). line.Empty)) goals) in
      let none = at.next in
      let unseen : (seen_in (head_items t.world.nodes marks n)).sections ≡ 0 =
      ap (λ (s : Seen). s.sections) (head_seen t.world.nodes marks n) in
      let few = a.few in
      let marked = a.subject.few_marks in
      let head = head_sized t.world.nodes marks n a.writable.few_nodes (omega (arith, marked)) in
      let Due : List Item → Type 0 = λ x. AreDue (Some (Marks (length marks))) x in (
        r,
        at.next,
        record {
          written = record {
            leads = (
              ((λ b x. cc), a.subject.own),
              lead_both s start c r (map item.Node v.nodes)
                  (item.Marks (length marks) ∷ (map item.Mark marks ++ cases_items n))
                  (nodes_lead s start v.nodes a.subject.taken) (
                    ((λ b x. cc), refl),
                    lead_both s m q r (map item.Mark marks) (cases_items n)
                        (marks_lead s m [] marks refl e2.marked_is) (cases_lead s q n refl),
                  ),
            );
            due = λ rest d. (
              (tt, a.writable.few_nodes),
              nodes_due s [] v.nodes (item.Marks (length marks)
                  ∷ (map item.Mark marks ++ cases_items n)) rest a.subject.taken (
                    (tt, a.subject.few_marks),
                    subst Due (sym (append_assoc (map item.Mark marks) (cases_items n) rest))
                        (marks_due marks (cases_items n ++ rest)
                        (cases_due n rest (omega (arith, count)) few
                        (subst (λ k. AreDue (Some (Sections k)) rest) (sym count) d))),
                  ),
            );
          };
          entered = record {
            opened = opened;
            deep = ap length at.cuts;
            proved = proved;
            lies = (at.cuts, at.case ∙ sym number, at.nodes_are);
          };
          room = omega (arith, none, unseen, room);
          short = omega (arith, head, room);
          shown = shown
              ∙ ap (λ ls. lines_left t (lines_of_tree v t.height t.world.goals tree [] ls)) empty;
        },
      )
