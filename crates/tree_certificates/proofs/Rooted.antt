-- The root sections of several cases, one behind the other, and what a walk over one of them goes
-- on to.
use Rattle.std.specs.Prelude.{◌≡◌, ◌≤◌, ◌+◌, ◌-◌, ◌^◌, ℕ, suc, false, List, [], ◌∷◌, ◌++◌, length}
use Rattle.std.specs.Prelude.{take, Option, Some, None, refl}
use Rattle.std.proofs.Common.{sym, ◌∙◌, ap, subst, inl, inr, arith}
use Rattle.std.proofs.lemmas.Bool.{cases_lt}
use Rattle.fx_model.specs.declared.Node.{Node}
use Rattle.facts.specs.declared.fact.Fact.{Fact}
use Rattle.facts.specs.declared.hint.HintRow.{HintRow}
use Rattle.goals.specs.declared.goal.Goal.{Goal}
use Rattle.goals.specs.declared.line.Line.{Line}
use Rattle.derivation.specs.Derivations.{Setting}
use Rattle.derivation.specs.Known.{Piece}
use Rattle.derivation.specs.Exists.{table_at}
use Rattle.cert_bytes.specs.declared.item.Item.{Item}
use Rattle.cert_bytes.specs.Certificates.{AreDue}
use Rattle.cert_bytes.specs.declared.order.DueItem.TheVariants.{Sections}
use Rattle.cert_checker.specs.declared.subject.Subject.{Subject}
use Rattle.cert_checker.specs.Contexts.{Context, open_piece}
use Rattle.cert_checker.specs.After.{case_behind, cuts_behind, around_of}
use Rattle.tree_certificates.specs.Sections.{AllBelow}
use Rattle.tree_certificates.specs.Writing.{IsWritable, givens_of}
use Rattle.tree_certificates.specs.Traces.{Trace, most_steps}
use Rattle.tree_certificates.specs.Trees.{Tree, IsProved, lines_of_tree, lines_of_trees, steps_in}
use Rattle.tree_certificates.specs.Trees.{IsSubjectOf}
use Rattle.tree_certificates.specs.Roots.{Root, IsRoot, AreRoots, steps_in_roots, lines_of_roots}
use Rattle.tree_certificates.specs.Walks.{numbered, MayBegin, IsOpen, IsEndOf, Frame, LiesIn}
use Rattle.tree_certificates.specs.Walks.{lines_behind, left_in, steps_behind, IsDue, Ending}
use Rattle.tree_certificates.specs.Moves.{IsEntered}
use Rattle.tree_certificates.proofs.Moves.{lead_both}
use Rattle.tree_certificates.proofs.Come.{root_trace}
use Rattle.tree_certificates.proofs.Treed.{tree_section, trees_section, no_more, append_items}
use Rattle.tree_certificates.proofs.Treed.{next_enters, last_ends, end_behind, may_go_on}

-- No section is open but the root section of the case with this number, in which no step stands.
pub record IsAtRoot (subject : Subject) (nodes : List Node) (case : ℕ) (c : Context) : Type 0 where
  pub nodes_are : c.nodes ≡ nodes
  pub steps : c.steps ≡ []
  pub cuts : c.cuts ≡ []
  pub case_is : c.case ≡ case
  pub begun : MayBegin subject c
  pub ended : c.ended ≡ false

-- behind the root section of a case that of the next is open
pub next_root : (subject : Subject) (nodes : List Node) (case : ℕ) (c d : Context)
    (lines : List Line) → c.nodes ≡ nodes → c.cuts ≡ [] → c.case ≡ case → IsEndOf c d lines
    → IsAtRoot subject nodes (case + 1) d
next_root subject nodes case c d lines ns none here e = record {
  nodes_are = e.nodes ∙ ns;
  steps = e.steps ∙ ap (λ ks. take (around_of (cuts_behind ks)) c.steps) none;
  cuts = e.cuts ∙ ap cuts_behind none;
  case_is = e.case ∙ (ap (λ ks. case_behind c.case (cuts_behind ks)) none ∙ ap (λ k. k + 1) here);
  begun = may_go_on subject d e.begun;
  ended = e.ended;
}

both_due : (n m k : ℕ) (items more rest : List Item) → IsDue n m items → IsDue m k more
    → AreDue (Some (Sections k)) rest → AreDue (Some (Sections n)) ((items ++ more) ++ rest)
both_due n m k items more rest d e r = subst (λ y. AreDue (Some (Sections n)) y)
    (sym (append_items items more rest)) (d (more ++ rest) (e rest r))

module _ (subject : Subject) (hints : List HintRow) (height most : ℕ) (goals : List Goal)
    (nodes : List Node) where
  -- the root's box may begin there
  pub root_is_open : (case : ℕ) (r : Root) (c : Context)
      → IsRoot subject hints height most goals nodes case r → IsAtRoot subject nodes case c
      → IsOpen r.setting hints height most subject case c []
  root_is_open case r c is at =
      let u : Setting = r.setting in
      let below = subst (λ x. AllBelow c.next x) (sym at.steps) tt in
      let found = root_trace u hints is.writable (numbered c) below height in
      let P : Option Fact → Type 0 =
      λ o. Trace (givens_of u hints o) (numbered c) (table_at u height []) most in
      let short = found.few in
      let enough = is.few in
      let trace : P None = record {
        rows = found.rows;
        place = found.place;
        proper = found.proper;
        traced = found.traced;
        fields = found.fields;
        few = omega (arith, short, enough);
      } in
      record {
        nodes = at.nodes_are ∙ sym is.nodes_are;
        case = at.case_is;
        begun = at.begun;
        below = below;
        ended = at.ended;
        room = subst (λ y. around_of (cuts_behind y) ≤ length c.steps) (sym at.cuts) (omega arith);
        trace = subst P (sym (ap open_piece at.cuts)) trace;
      }

  pub root_enters : (case : ℕ) (r : Root) (c : Context)
      → IsRoot subject hints height most goals nodes case r → IsAtRoot subject nodes case c
      → IsEntered r.setting hints height most goals subject case c r.tree [] 0 []
  root_enters case r c is at = record {
    opened = root_is_open case r c is at;
    deep = ap length at.cuts;
    proved = is.proved;
    lies = (at.cuts, at.case_is, at.nodes_are ∙ sym is.nodes_are);
  }

  -- Where the root section of a case is open, there are items to the end of the last one.
  pub roots_end : (roots : List Root) (case : ℕ) (c : Context)
      → IsAtRoot subject nodes case c → AreRoots subject hints height most goals nodes case roots
      → c.next + steps_in_roots most roots ≤ 2 ^ 64
      → Ending subject c (length roots) (lines_of_roots height goals roots c.lines)
  roots_end [] case c at are room = record {
    items = [];
    behind = c;
    leads = refl;
    cases = at.case_is ∙ are;
    shown = refl;
    due = λ rest r. r;
  }
  roots_end (r ∷ roots) case c at are room =
      let is = are.0 in
      let u : Setting = r.setting in
      let s = tree_section u hints is.writable height
      most is.few goals subject case is.subject_is r.tree c [] 0 (root_is_open case r c is at)
      (ap length at.cuts) is.proved (omega (arith, room)) in
      let far = s.far in
      let shown : List Line = lines_of_tree u height goals r.tree [] c.lines in
      let next = next_root subject nodes case c s.behind shown at.nodes_are
      at.cuts at.case_is s.end in
      let rest = roots_end roots (case + 1) s.behind next are.1 (omega (arith, far, room)) in
      record {
        items = s.items ++ rest.items;
        behind = rest.behind;
        leads = lead_both subject c s.behind rest.behind s.items rest.items s.leads rest.leads;
        cases = rest.cases;
        shown = rest.shown ∙ ap (lines_of_roots height goals roots) s.end.shown;
        due = λ more d. both_due (suc (length roots))
            (length roots) 0 s.items rest.items more (s.due (length roots)) rest.due d;
      }

-- ---- a walk that stands somewhere
module _ (u : Setting) (hints : List HintRow) (w : IsWritable u hints) (height most : ℕ)
    (enough : most_steps u height ≤ most) (goals : List Goal) (subject : Subject) (case : ℕ)
    (same : IsSubjectOf subject case u hints goals) where
  left_same : (fr : Frame) (frames : List Frame) → fr.piece ≡ length fr.points
      → left_in frames ≡ left_in (fr ∷ frames)
  left_same fr frames e = omega (arith, e)

  module _ (later : List Root)
      (roots : AreRoots subject hints height most goals u.nodes (case + 1) later) where
    -- Behind each section there are items that end all boxes in which it lies, and the later cases.
    pub walk_ends : (frames : List Frame) (c f : Context) (lines : List Line)
        → LiesIn u height goals case c frames → IsEndOf c f lines
        → f.next + (steps_behind most frames + steps_in_roots most later) ≤ 2 ^ 64
        → Ending subject f (left_in frames + length later)
        (lines_of_roots height goals later (lines_behind u height goals frames lines))
    walk_ends [] c f lines l n room =
        let at = next_root subject u.nodes case c f lines l.2 l.0 l.1 n in
        let e = roots_end subject hints height most goals u.nodes later (case + 1) f at roots
        (omega (arith, room)) in
        let none : length later ≡ 0 + length later = omega arith in
        record {
          items = e.items;
          behind = e.behind;
          leads = e.leads;
          cases = e.cases;
          shown = e.shown ∙ ap (lines_of_roots height goals later) n.shown;
          due = subst (λ k. IsDue k 0 e.items) none e.due;
        }
    walk_ends (fr ∷ frames) c f lines l n room =
        let here = l.0 in
        elim (cases_lt fr.piece (length fr.points)) [
          | inl m ↦
              let rest = trees_section u hints w height most enough goals subject case same fr.later
              fr.var fr.points (fr.piece + 1) fr.steps f fr.pieces fr.depth here.behind
              (next_enters fr.steps c f fr.var fr.points fr.piece lines here.entered m n)
              here.variable here.deep (omega arith) here.proved (omega (arith, room)) in
              let far = rest.far in
              let e = end_behind fr.begin fr.steps rest.behind (lines_of_trees u height goals fr.var
              fr.later fr.pieces f.lines) here.after here.room rest.end in
              let up = walk_ends frames fr.begin rest.behind (lines_of_trees u height goals fr.var
              fr.later fr.pieces f.lines) l.1 e (omega (arith, far, room)) in
              let P : List Line → Type 0 =
              λ y. Ending subject f (left_in (fr ∷ frames) + length later) y in
              subst P
              (ap (λ y. lines_of_roots height goals later (lines_behind u height goals frames
              (lines_of_trees u height goals fr.var fr.later fr.pieces y))) n.shown) (record {
                items = rest.items ++ up.items;
                behind = up.behind;
                leads = lead_both subject f rest.behind up.behind rest.items
                    up.items rest.leads up.leads;
                cases = up.cases;
                shown = up.shown;
                due = λ more r. walk_due (left_in frames + length later)
                    ((left_in frames + length later) + (length fr.points + 1 - (fr.piece + 1)))
                    (left_in (fr ∷ frames) + length later) rest.items
                    up.items more (omega (arith, m))
                    (rest.due (left_in frames + length later)) (up.due more r);
              })
          | inr m ↦
              let whole : fr.piece ≡ length fr.points = let h = here.within in omega (arith, h) in
              let e = end_behind fr.begin fr.steps f lines here.after here.room
              (last_ends fr.steps c f fr.var fr.points fr.piece lines here.entered whole n) in
              let up = walk_ends frames fr.begin f lines l.1 e (omega (arith, room)) in
              let P : List Line → Type 0 =
              λ y. Ending subject f (left_in (fr ∷ frames) + length later) y in
              subst P (ap (λ y. lines_of_roots height goals later (lines_behind u height goals
              frames y)) (no_more u hints w height most enough goals subject case same fr.later
              fr.var fr.points fr.piece fr.pieces fr.depth lines whole here.proved)) (record {
                items = up.items;
                behind = up.behind;
                leads = up.leads;
                cases = up.cases;
                shown = up.shown;
                due = λ more r. subst (λ y. AreDue (Some (Sections (y + length later)))
                    (up.items ++ more)) (left_same fr frames whole) (up.due more r);
              })
        ]
      where
        walk_due : (n m k : ℕ) (items more rest : List Item)
            → m ≡ k → IsDue m n items → AreDue (Some (Sections n)) (more ++ rest)
            → AreDue (Some (Sections k)) ((items ++ more) ++ rest)
        walk_due n m k items more rest e d r =
            let Q : List Item → Type 0 = λ y. AreDue (Some (Sections k)) y in
            subst Q (sym (append_items items more rest)) (subst
            (λ y. AreDue (Some (Sections y)) (items ++ (more ++ rest))) e (d (more ++ rest) r))

    -- Where the section of a box may begin, there are items that end it and all boxes in which it
    -- lies, and the later cases: whatever was written so far begins a certificate that is accepted.
    pub goes_on : (t : Tree) (c : Context) (pieces : List Piece) (depth : ℕ) (frames : List Frame)
        → IsOpen u hints height most subject case c pieces → length c.cuts ≡ depth
        → IsProved u height goals t pieces depth
        → LiesIn u height goals case c frames
        → c.next + (steps_in most t + steps_behind most frames + steps_in_roots most later) ≤ 2 ^ 64
        → Ending subject c (suc (left_in frames + length later)) (lines_of_roots height goals later
        (lines_behind u height goals frames (lines_of_tree u height goals t pieces c.lines)))
    goes_on t c pieces depth frames o d p l room =
        let s = tree_section u hints w height most enough goals subject case same t c pieces depth o
        d p (omega (arith, room)) in
        let far = s.far in
        let up = walk_ends frames c s.behind (lines_of_tree u height goals t pieces c.lines) l s.end
        (omega (arith, far, room)) in
        record {
          items = s.items ++ up.items;
          behind = up.behind;
          leads = lead_both subject c s.behind up.behind s.items up.items s.leads up.leads;
          cases = up.cases;
          shown = up.shown;
          due = λ more r. both_due (suc (left_in frames + length later))
              (left_in frames + length later) 0 s.items up.items more
              (s.due (left_in frames + length later)) up.due r;
        }

  pub walk_goes_on : (t : Tree) (c : Context) (pieces : List Piece)
      (depth : ℕ) (frames : List Frame) → IsOpen u hints height most subject case c pieces
      → length c.cuts ≡ depth → IsProved u height goals t pieces depth
      → LiesIn u height goals case c frames → (later : List Root)
      → AreRoots subject hints height most goals u.nodes (case + 1) later
      → c.next + (steps_in most t + steps_behind most frames + steps_in_roots most later) ≤ 2 ^ 64 →
      Ending subject c (suc (left_in frames + length later)) (lines_of_roots height goals later
      (lines_behind u height goals frames (lines_of_tree u height goals t pieces c.lines)))
  walk_goes_on t c pieces depth frames o d p l later roots room =
      goes_on later roots t c pieces depth frames o d p l room

  pub rest_of_walk : (c d : Context) (lines : List Line) (frames : List Frame)
      → LiesIn u height goals case c frames → IsEndOf c d lines
      → (later : List Root) → AreRoots subject hints height most goals u.nodes (case + 1) later
      → d.next + (steps_behind most frames + steps_in_roots most later) ≤ 2 ^ 64
      → Ending subject d (left_in frames + length later)
      (lines_of_roots height goals later (lines_behind u height goals frames lines))
  rest_of_walk c d lines frames l n later roots room =
      walk_ends later roots frames c d lines l n room

  -- behind the root section of a case that of the next is entered
  pub next_case : (c d : Context) (lines : List Line) (later : Setting) (tree : Tree)
      → LiesIn u height goals case c [] → IsEndOf c d lines
      → IsRoot subject hints height most goals u.nodes (case + 1)
      (record { setting = later; tree = tree })
      → IsEntered later hints height most goals subject (case + 1) d tree [] 0 []
  next_case c d lines later tree l n is = root_enters subject hints height most goals u.nodes
      (case + 1) (record { setting = later; tree = tree }) d is
      (next_root subject u.nodes case c d lines l.2 l.0 l.1 n)
