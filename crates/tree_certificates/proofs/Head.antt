-- Every tree whose leaves are settled has a certificate that is accepted with the lines of its
-- leaves.
use Rattle.std.specs.Prelude.{◌≡◌, ◌≤◌, ◌+◌, ◌^◌, ⊤, ℕ, zero, suc, false, List, [], ◌∷◌, ◌++◌}
use Rattle.std.specs.Prelude.{length, map, Some, slice_get, refl}
use Rattle.std.proofs.Common.{sym, ◌∙◌, ap, subst, arith}
use Rattle.std.proofs.lemmas.List.{append_assoc, length-append}
use Rattle.fx_model.specs.declared.Node.{Node}
use Rattle.facts.specs.declared.hint.HintMark.{HintMark}
use Rattle.facts.specs.declared.hint.HintRow.{HintRow}
use Rattle.goals.specs.declared.goal.Goal.{Goal}
use Rattle.goals.specs.declared.line.Line.{Line}
use Rattle.goals.specs.declared.line.Line.TheVariants as line
use Rattle.derivation.specs.Derivations.{Setting}
use Rattle.cert_bytes.specs.declared.item.Item.{Item}
use Rattle.cert_bytes.specs.declared.item.Item.TheVariants as item
use Rattle.cert_bytes.specs.Certificates.{AreDue}
use Rattle.cert_bytes.specs.declared.order.DueItem.TheVariants.{Nodes, Marks, Sections}
use Rattle.cert_checker.specs.declared.subject.Subject.{Subject}
use Rattle.cert_checker.specs.Contexts.{Context, first}
use Rattle.cert_checker.specs.After.{after}
use Rattle.cert_checker.specs.Accepted.{LeadsTo, Accepts}
use Rattle.tree_certificates.specs.Writing.{IsWritable}
use Rattle.tree_certificates.specs.Trees.{AreTaken}
use Rattle.tree_certificates.specs.Walks.{Ending}
use Rattle.tree_certificates.specs.Roots.{Root, AreRoots, roots_are_counted, steps_in_roots}
use Rattle.tree_certificates.specs.Roots.{lines_of_roots}
use Rattle.tree_certificates.proofs.Treed.{may_go_on}
use Rattle.tree_certificates.proofs.Rooted.{IsAtRoot, roots_end}
use Rattle.tree_certificates.proofs.Moves.{lead_both, marks_due, root_due}

-- ---- the head
abbrev behind_nodes : Context → List Node → Context
behind_nodes c [] = c
behind_nodes c (n ∷ rest) = behind_nodes (after c (item.Node n)) rest

nodes_lead : (subject : Subject) (c : Context) (rest : List Node) → AreTaken subject c.nodes rest
    → LeadsTo subject c (map item.Node rest) (behind_nodes c rest)
nodes_lead subject c [] t = refl
nodes_lead subject c (n ∷ rest) t =
    (((λ b r. cc), t.0), nodes_lead subject (after c (item.Node n)) rest t.3)

abbrev behind_marks : Context → List HintMark → Context
behind_marks c [] = c
behind_marks c (m ∷ rest) = behind_marks (after c (item.Mark m)) rest

-- the marks from number k on
abbrev AreFrom : List HintMark → ℕ → List HintMark → Type 0
AreFrom all k [] = ⊤
AreFrom all k (m ∷ rest) = (slice_get all k ≡ Some m) × AreFrom all (k + 1) rest

marks_lead : (subject : Subject) (c : Context) (rest : List HintMark)
    → AreFrom subject.marks c.marked rest
    → LeadsTo subject c (map item.Mark rest) (behind_marks c rest)
marks_lead subject c [] t = refl
marks_lead subject c (m ∷ rest) t =
    (((λ b r. cc), t.0), marks_lead subject (after c (item.Mark m)) rest t.1)

-- what the head leaves for the sections
record IsBehindHead (c : Context) (ns : List Node) (shown : List Line) : Type 0 where
  nodes : c.nodes ≡ ns
  next : c.next ≡ 0
  steps : c.steps ≡ []
  cuts : c.cuts ≡ []
  case : c.case ≡ 0
  lines : c.lines ≡ shown
  begun : c.begun ≡ false
  ended : c.ended ≡ false

-- what nodes leave as it is
record IsPastNodes (c d : Context) (rest : List Node) : Type 0 where
  nodes : d.nodes ≡ c.nodes ++ rest
  marked : d.marked ≡ c.marked
  next : d.next ≡ c.next
  steps : d.steps ≡ c.steps
  cuts : d.cuts ≡ c.cuts
  case : d.case ≡ c.case
  begun : d.begun ≡ c.begun
  lines : d.lines ≡ c.lines

append_none : (xs : List Node) → xs ≡ xs ++ []
append_none [] = refl
append_none (x ∷ xs) = ap (λ l. x ∷ l) (append_none xs)

append_more : (xs ys zs : List Node) → (xs ++ ys) ++ zs ≡ xs ++ (ys ++ zs)
append_more [] ys zs = refl
append_more (x ∷ xs) ys zs = ap (λ l. x ∷ l) (append_more xs ys zs)

past_nodes : (c : Context) (rest : List Node) → IsPastNodes c (behind_nodes c rest) rest
past_nodes c [] = record {
  nodes = append_none c.nodes;
  marked = refl;
  next = refl;
  steps = refl;
  cuts = refl;
  case = refl;
  begun = refl;
  lines = refl;
}
past_nodes c (n ∷ rest) =
    let p = past_nodes (after c (item.Node n)) rest in
    record {
      nodes = p.nodes ∙ append_more c.nodes (n ∷ []) rest;
      marked = p.marked;
      next = p.next;
      steps = p.steps;
      cuts = p.cuts;
      case = p.case;
      begun = p.begun;
      lines = p.lines;
    }

past_marks : (c : Context) (rest : List HintMark) (ns : List Node) (lines : List Line)
    → IsBehindHead c ns lines → IsBehindHead (behind_marks c rest) ns lines
past_marks c [] ns lines r = r
past_marks c (m ∷ rest) ns lines r = past_marks (after c (item.Mark m)) rest ns lines (record {
  nodes = r.nodes;
  next = r.next;
  steps = r.steps;
  cuts = r.cuts;
  case = r.case;
  lines = r.lines;
  begun = r.begun;
  ended = refl;
})

-- ---- which items are due
nodes_due : (subject : Subject) (before rest : List Node) (more : List Item)
    → AreTaken subject before rest → AreDue (Some (Nodes zero)) more
    → AreDue (Some (Nodes (length rest))) (map item.Node rest ++ more)
nodes_due subject before [] more t d = d
nodes_due subject before (n ∷ rest) more t d =
    ((t.1, t.2), nodes_due subject (before ++ n ∷ []) rest more t.3 d)

-- ---- the marks are the subject's
from_all : (before rest : List HintMark) → AreFrom (before ++ rest) (length before) rest
from_all before [] = tt
from_all before (m ∷ rest) = (
  there before m rest,
  subst (λ all. AreFrom all (length before + 1) rest) (append_assoc before (m ∷ []) rest)
      (subst (λ k. AreFrom ((before ++ m ∷ []) ++ rest) k rest) (length-append before (m ∷ []))
      (from_all (before ++ m ∷ []) rest)),
)
  where
    there : (before : List HintMark) (m : HintMark) (rest : List HintMark)
        → slice_get (before ++ m ∷ rest) (length before) ≡ Some m
    there [] m rest = refl
    there (x ∷ before) m rest = there before m rest

-- ---- the sections
abbrev AreSections : Subject → Context → List Line → Type 0
AreSections subject r lines = (tail : List Item) × (f : Context) × LeadsTo subject r tail f
    × AreDue (Some (Marks zero)) tail × (f.case ≡ length subject.cases) × (f.lines ≡ lines)

end_leads : (subject : Subject) (c : Context) → LeadsTo subject c (item.End ∷ []) (after c item.End)
end_leads subject c = (((λ b r. cc), refl), refl)

-- the items of the root sections, and the end
closed : (subject : Subject) (r : Context) (n : ℕ) (lines : List Line) → Ending subject r n lines →
    (tail : List Item) × (f : Context) × LeadsTo subject r tail f × AreDue (Some (Sections n)) tail
    × (f.case ≡ length subject.cases) × (f.lines ≡ lines)
closed subject r n lines e = (
  e.items ++ item.End ∷ [],
  after e.behind item.End,
  lead_both subject r e.behind (after e.behind item.End) e.items (item.End ∷ []) e.leads
      (end_leads subject e.behind),
  e.due (item.End ∷ []) ((tt, tt), refl),
  e.cases,
  e.shown,
)

module _ (subject : Subject) (hints : List HintRow) (height most : ℕ) (goals : List Goal)
    (nodes : List Node) (c : Context) (lines : List Line) (at : IsBehindHead c nodes lines) where
  sections : (root : Root) (later : List Root)
      → AreRoots subject hints height most goals nodes 0 (root ∷ later) → length subject.cases ≤ 64
      → steps_in_roots most (root ∷ later) ≤ 2 ^ 64
      → AreSections subject c (lines_of_roots height goals (root ∷ later) lines)
  sections root [] are few room =
      let none = at.next in
      let one : 1 ≡ length subject.cases =
      let e = roots_are_counted subject hints height most goals nodes (root ∷ []) 0 are in
      omega (arith, e) in
      let here : IsAtRoot subject nodes 0 c = record {
        nodes_are = at.nodes;
        steps = at.steps;
        cuts = at.cuts;
        case_is = at.case;
        begun = λ b. one;
        ended = at.ended;
      } in
      let s = closed subject c 1 _ (roots_end subject hints height most goals nodes
      (root ∷ []) 0 c here are (omega (arith, none, room))) in (
        s.0,
        s.1,
        s.2,
        root_due s.0 s.3,
        s.4,
        s.5 ∙ ap (lines_of_roots height goals (root ∷ [])) at.lines,
      )
  sections root (second ∷ later) are few room =
      let none = at.next in
      let n : ℕ = suc (suc (length later)) in
      let many : n ≡ length subject.cases = let e = roots_are_counted subject hints height most
      goals nodes (root ∷ second ∷ later) 0 are in omega (arith, e) in
      let d : Context = after c (item.Cases n) in
      let here : IsAtRoot subject nodes 0 d = record {
        nodes_are = at.nodes;
        steps = at.steps;
        cuts = at.cuts;
        case_is = at.case;
        begun = may_go_on subject d refl;
        ended = refl;
      } in
      let s = closed subject d n _ (roots_end subject hints height most goals nodes
      (root ∷ second ∷ later) 0 d here are (omega (arith, none, room))) in (
        item.Cases n ∷ s.0,
        s.1,
        (((λ b r. many), refl), s.2),
        (((omega arith, omega (arith, many, few)), tt), s.3),
        s.4,
        s.5 ∙ ap (lines_of_roots height goals (root ∷ second ∷ later)) at.lines,
      )

-- ---- the certificate
-- Trees whose leaves are settled, one for each case, have a certificate that is accepted, with the
-- lines of their leaves.
pub certificate_exists : (hints : List HintRow)
    (height most : ℕ) (goals : List Goal) (subject : Subject) (r : Root) (later : List Root)
    → AreRoots subject hints height most goals r.setting.nodes 0 (r ∷ later)
    → length subject.cases ≤ 64 → steps_in_roots most (r ∷ later) ≤ 2 ^ 64 →
    (items : List Item) × Accepts subject items (lines_of_roots height goals (r ∷ later)
    (map (λ g. line.Empty) subject.goals))
certificate_exists hints height most goals subject root later are few room =
    let u : Setting = root.setting in
    let w : IsWritable u hints = are.0.writable in
    let same = are.0.subject_is in
    let start : Context = first subject in
    let lines : List Line = map (λ g. line.Empty) subject.goals in
    let c : Context = behind_nodes start u.nodes in
    let p = past_nodes start u.nodes in
    let m : Context = after c (item.Marks (length subject.marks)) in
    let r : Context = behind_marks m subject.marks in
    let at : IsBehindHead r u.nodes lines =
    past_marks m subject.marks u.nodes lines (record {
      nodes = p.nodes;
      next = p.next;
      steps = p.steps;
      cuts = p.cuts;
      case = p.case;
      lines = p.lines;
      begun = p.begun;
      ended = refl;
    }) in
    let s = sections subject hints height most goals u.nodes r lines at root later are few room in
    let tail : List Item = s.0 in
    let f : Context = s.1 in
    let marked : List Item =
    item.Marks (length subject.marks) ∷ (map item.Mark subject.marks ++ tail) in
    let marks_from : AreFrom subject.marks m.marked subject.marks =
    subst (λ k. AreFrom subject.marks k subject.marks) (sym p.marked) (from_all [] subject.marks) in
    let marks_then : LeadsTo subject m (map item.Mark subject.marks ++ tail) f = lead_both subject m
    r f (map item.Mark subject.marks) tail (marks_lead subject m subject.marks marks_from) s.2 in (
      item.Nodes (length u.nodes) ∷ (map item.Node u.nodes ++ marked),
      record {
        certificate = (
          (tt, w.few_nodes),
          nodes_due subject [] u.nodes marked same.taken
              ((tt, same.few_marks), marks_due subject.marks tail s.3),
        );
        end = f;
        leads = (
          ((λ b x. cc), same.own),
          lead_both subject start c f (map item.Node u.nodes) marked
              (nodes_lead subject start u.nodes same.taken) (((λ b x. cc), refl), marks_then),
        );
        cases = s.4;
        shown = s.5;
      },
    )
