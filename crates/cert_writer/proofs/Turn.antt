-- How the walk goes from box to box.
use Rattle.std.specs.Prelude.{◌≡◌, ◌<◌, ◌+◌, ◌-◌, ℕ, suc, List, [], ◌∷◌, ◌++◌, length, Option, Some}
use Rattle.std.specs.Prelude.{None, refl}
use Rattle.std.specs.Borrow.{Bor}
use Rattle.std.specs.Io.KnownBytes.{Appends}
use Rattle.std.proofs.Common.{sym, ◌∙◌, ap, subst, append-nil, arith}
use Rattle.std.proofs.lemmas.List.{append_assoc, length-append}
use Rattle.std.proofs.lemmas.Option.{slice_get_within}
use Rattle.fx_model.specs.declared.ExprId.{ExprId}
use Rattle.fx_model.specs.declared.Node.TheVariants.{Var}
use Rattle.dyadic.specs.declared.number.Dyadic.{Dyadic}
use Rattle.interval.specs.declared.interval.Interval.{Interval}
use Rattle.facts.specs.declared.fact.Fact.{Fact}
use Rattle.facts.specs.declared.fact.Fact.TheVariants as fact
use Rattle.facts.specs.declared.fact.Slot.TheVariants as slot
use Rattle.derivation.specs.Derivations.{Setting}
use Rattle.derivation.specs.Known.{Piece, IsTableAt}
use Rattle.derivation.specs.Exists.{joined}
use Rattle.derivation.specs.Rounds.{IsSame}
use Rattle.derivation.specs.Laws.{TablesAreOne}
use Rattle.rule_universe.specs.Worlds.{World}
use Rattle.box_tree.specs.Plans.{piece_at, pieces_at, with_last}
use Rattle.cert_bytes.specs.declared.item.Item.{Item}
use Rattle.cert_bytes.specs.declared.item.Item.TheVariants as item
use Rattle.cert_bytes.specs.declared.item.StepRow.{StepRow}
use Rattle.cert_bytes.specs.declared.style.Seen.{Seen}
use Rattle.cert_bytes.specs.Styles.{none_seen, seen_behind, seen_in}
use Rattle.cert_bytes.proofs.Styles.{seen_both}
use Rattle.cert_bytes.specs.Spelling.{spelled_behind, certificate_of}
use Rattle.cert_bytes.proofs.Spelling.{spelled_both}
use Rattle.cert_checker.specs.Contexts.{open_piece, piece_fact}
use Rattle.cert_checker.specs.Open.{Numbered}
use Rattle.cert_checker.specs.Steps.{step_fact, met_with, IsEnough}
use Rattle.cert_trim.specs.Behind.{section_of}
use Rattle.tree_certificates.specs.Sections.{ArePlaces}
use Rattle.tree_certificates.specs.Traces.{IsCutTo}
use Rattle.tree_certificates.specs.Trees.{Tree, Trees, cut, last, next, cut_of, IsProved, AreProved}
use Rattle.tree_certificates.specs.Walks.{numbered, behind_steps, Frame, IsPieceOf, LiesIn}
use Rattle.tree_certificates.specs.Moves.{frame_of, turned}
use Rattle.tree_certificates.proofs.Moves.{next_behind}
use Rattle.box_trace.specs.declared.known.Known.{Known}
use Rattle.box_trace.specs.Boxes.{IsBox, IsOfUniverse, IsItsSection}
use Rattle.box_trace.specs.Tables.{known_at, place_in, HasRows}
use Rattle.answer_certificates.specs.Boxes.{range_of_piece, pieces_from}
use Rattle.whole_texts.specs.Pieces.{AppendsFront}
use Rattle.whole_texts.proofs.Pieces.{appends_both}
use Rattle.cert_writer.specs.Standing.{Aim, IsBegun, SectionStart, IsAt, Ended, HasEnded}
use Rattle.cert_writer.specs.Standing.{AreBoxSteps, AreShort, inside, beside, around}
use Rattle.cert_writer.specs.Courses.{Course, IsCourse, HasBest, setting, best_at, below, Grew}
use Rattle.cert_writer.specs.Courses.{GrewToFront, IsBefore, IsPast, IsKnownAt, IsWithin, HasDone}
use Rattle.cert_writer.specs.Laws.{WritingGoesOn}
use Rattle.cert_writer.proofs.Seen.{own_steps_seen, seen_with}

-- ---- what the file takes
-- A front of items that stand behind those before.
pub begun_front : (t : Aim) (before more items : List Item) (old new : Option (List ℕ))
    → IsBegun t (certificate_of items) → items ≡ before ++ more
    → AppendsFront old new (spelled_behind (seen_in before) more) → GrewToFront t before old new
begun_front t before more items old new b e a =
    let front : List ℕ = a.0 in
    let rest : List ℕ = (a.1).0 in
    let tail : List ℕ = (b.2).0 in
    let spelled : certificate_of items ≡ certificate_of before ++ (front ++ rest) =
    ap certificate_of e ∙ (spelled_both none_seen before more
    ∙ ap (λ bs. certificate_of before ++ bs) (a.1).1) in
    let left : certificate_of items ≡ (certificate_of before ++ front) ++ rest =
    spelled ∙ sym (append_assoc (certificate_of before) front rest) in
    let whole : certificate_of b.0 ≡ (certificate_of before ++ front) ++ (rest ++ tail) = (b.2).1
    ∙ (ap (λ bs. bs ++ tail) left ∙ append_assoc (certificate_of before ++ front) rest tail) in
    (front, a.2, (b.0, b.1, (rest ++ tail, whole)))

pub appends_none : (a b : Option (List ℕ)) → a ≡ b → Appends a b []
appends_none None b e = tt
appends_none (Some x) None e = cc
appends_none (Some x) (Some y) e = let n : x ≡ y = cc in sym n ∙ sym (append-nil x)

-- Nothing.
pub begun_still : (t : Aim) (before : List Item) (old new : Option (List ℕ))
    → IsBegun t (certificate_of before) → old ≡ new → GrewToFront t before old new
begun_still t before old new b e = (
  [],
  appends_none old new e,
  subst (λ bs. IsBegun t bs) (sym (append-nil (certificate_of before))) b,
)

-- Items, and then a front of more.
pub begun_later : (t : Aim) (before items : List Item) (old mid new : Option (List ℕ))
    → Grew before old mid items → GrewToFront t items mid new → GrewToFront t before old new
begun_later t before items old mid new g f =
    let more : List Item = g.0 in
    let front : List ℕ = f.0 in
    let bytes : List ℕ = spelled_behind (seen_in before) more in
    let spelled : certificate_of items ≡ certificate_of before ++ bytes =
    ap certificate_of g.1 ∙ spelled_both none_seen before more in
    let both : certificate_of items ++ front ≡ certificate_of before ++ (bytes ++ front) =
    ap (λ bs. bs ++ front) spelled ∙ append_assoc (certificate_of before) bytes front in (
      bytes ++ front,
      appends_both old mid new bytes front g.2 f.1,
      subst (λ bs. IsBegun t bs) both f.2,
    )

pub grew_both : (before items later : List Item) (old mid new : Option (List ℕ))
    → Grew before old mid items → Grew items mid new later → Grew before old new later
grew_both before items later old mid new g h =
    let e : later ≡ before ++ (g.0 ++ h.0) =
    h.1 ∙ (ap (λ y. y ++ h.0) g.1 ∙ append_assoc before g.0 h.0) in
    let s : Seen = seen_in before in
    let more : Appends mid new (spelled_behind (seen_behind s g.0) h.0) =
    subst (λ q. Appends mid new (spelled_behind q h.0))
    (ap seen_in g.1 ∙ seen_both none_seen before g.0) h.2
    in (
      g.0 ++ h.0,
      e,
      subst (λ bs. Appends old new bs) (sym (spelled_both s g.0 h.0))
          (appends_both old mid new (spelled_behind s g.0) (spelled_behind (seen_behind s g.0) h.0)
          g.2 more),
    )

-- ---- a piece of a box
-- the number of the next step where the section of a box begins
pub next_is : (u : World) (piece : Option Piece) (parent : Option (Bor Known)) (first : ℕ)
    (s : Numbered) (o : Option Fact) → IsItsSection u piece parent first s o → s.next ≡ first
next_is u None None first s o i = (i.0).0
next_is u (Some piece) (Some parent) first s o i = ((i.2).0).0
next_is u None (Some parent) first s o i = absurd i
next_is u (Some piece) None first s o i = absurd i

-- The checker's piece k of a cut leaves of what is known the plan's range.
abbrev pub IsCutAs : Course → Frame → ℕ → Interval → Type 0
IsCutAs c fr k i = (p : Fact) × (piece_fact (cut_of fr.var fr.points 0 0) k ≡ Some p)
    × IsCutTo (best_at c fr.pieces) p (fr.var, i)

cut_number : (x : ExprId) (points : List Dyadic) (n k : ℕ) (p : Fact)
    → piece_fact (cut_of x points 0 0) k ≡ Some p
    → piece_fact (cut_of x points (k + 1) n) (k + 1 - 1) ≡ Some p
cut_number x points n k p e = let m : k + 1 - 1 ≡ k = omega arith in
    ap (λ j. piece_fact (cut_of x points 0 0) j) m ∙ e

pub child_of : (c : Course) (path : List ℕ) (known : Known)
    (p : SectionStart) (old : Option (List ℕ)) (n i : ℕ) (number : Seen) (new : Option (List ℕ))
    (w : IsWithin c path known p old n i number new) (child : List ℕ) → child ≡ path ++ i ∷ []
    → (b : Bor Known) → b.now ≡ known → IsBefore c child (Some b) number w.place
child_of c path known p old n i number new w child e b q =
    subst (λ y. IsBefore c y (Some b) number w.place) (sym e) (w.before b q)

module _ (one : TablesAreOne) where
  known_best : (c : Course)
      → HasBest c → (path : List ℕ) (known : Known) (s : Numbered) → IsKnownAt c path known s
      → IsSame (known_at c.aim.world known) (best_at c (pieces_at c.plan path))
  known_best c best path known s k =
      one (setting c) c.aim.height (pieces_at c.plan path) (known_at c.aim.world known)
      (best_at c (pieces_at c.plan path)) k.table (best (pieces_at c.plan path)) k.no_void

  -- The certificate stands where a piece of the box begins: the walk is before it.
  pub piece_before : (c : Course) → HasBest c → (path : List ℕ) (known : Known)
      (i : ℕ) (first : Seen) (q : SectionStart) (fr : Frame) (frames : List Frame) → IsAt c.aim q
      → q.frames ≡ fr ∷ frames
      → IsKnownAt c path known (numbered fr.steps) → fr.pieces ≡ pieces_at c.plan path
      → q.pieces ≡ (fr.var, range_of_piece (piece_at c.plan (path ++ i ∷ []))) ∷ fr.pieces
      → piece_at c.plan (path ++ i ∷ [])
      ≡ Some (fr.var, range_of_piece (piece_at c.plan (path ++ i ∷ [])))
      → pieces_at c.plan (path ++ i ∷ []) ≡ with_last (piece_at c.plan (path ++ i ∷ []))
      (pieces_at c.plan path) → q.tree ≡ below c (35 - length path) (path ++ i ∷ [])
      → q.context.next ≡ first.steps → seen_in q.items ≡ first
      → IsCutAs c fr fr.piece (range_of_piece (piece_at c.plan (path ++ i ∷ []))) → (b : Bor Known)
      → b.now ≡ known → IsBefore c (path ++ i ∷ []) (Some b) first q
  piece_before c best path known i first q fr frames here f k ps qs at more tree
      number seen cut_as b e =
      let u : World = c.aim.world in
      let v : Setting = setting c in
      let here_path : List ℕ = path ++ i ∷ [] in
      let r : Interval = range_of_piece (piece_at c.plan here_path) in
      let piece : Piece = (fr.var, r) in
      let lies : LiesIn v c.aim.height u.goals c.aim.target.number q.context (fr ∷ frames) = subst
      (λ y. LiesIn v c.aim.height u.goals c.aim.target.number q.context y) f here.entered.lies in
      let of : IsPieceOf v c.aim.height u.goals c.aim.target.number q.context fr = lies.0 in
      let entered = of.entered in
      let variable = of.variable in
      let low : fr.var.0 < length u.nodes =
      slice_get_within u.nodes fr.var.0 (Var variable.0) variable.1 in
      let opened : open_piece q.context.cuts ≡ Some cut_as.0 = ap open_piece entered.cuts
      ∙ cut_number fr.var fr.points (length fr.steps.steps) fr.piece cut_as.0 cut_as.1 in
      let placed : ArePlaces (numbered q.context) (known_at u b.now) (place_in u b.now) =
      λ s g w. subst (λ rows. step_fact rows (place_in u b.now s) ≡ Some g)
      (sym entered.steps) (subst (λ z. step_fact fr.steps.steps (place_in u z s) ≡ Some g) (sym e)
      (k.placed s g (subst (λ z. known_at u z s ≡ Some g) e w))) in
      let same : best_at c (pieces_at c.plan path) (slot.Bnd fr.var) ≡ known_at u known
      (slot.Bnd fr.var) = known_best c best path known (numbered fr.steps) k (slot.Bnd fr.var) in
      let IsLeft : Option Fact
      → Type 0 = λ o. IsEnough (met_with (Some cut_as.0) o) (joined o (fact.Bnd fr.var r)) in
      let left : IsLeft (best_at c (pieces_at c.plan path) (slot.Bnd fr.var)) =
      subst (λ y. IsLeft (best_at c y (slot.Bnd fr.var))) ps cut_as.2 in
      let left_known : IsLeft (known_at u b.now (slot.Bnd fr.var)) =
      subst (λ z. IsLeft (known_at u z (slot.Bnd fr.var))) (sym e) (subst IsLeft same left) in
      let table : IsTableAt v c.aim.height fr.pieces (known_at u b.now) =
      subst (λ z. IsTableAt v c.aim.height fr.pieces (known_at u z)) (sym e)
      (subst (λ y. IsTableAt v c.aim.height y (known_at u known)) (sym ps) k.table) in
      let long : 36 - length here_path ≡ 35 - length path =
      omega (arith, length-append path (i ∷ [])) in
      record {
        here = here;
        tree = tree ∙ ap (λ n. below c n here_path) (sym long);
        pieces = qs ∙ (ap (λ y. piece ∷ y) ps
            ∙ sym (more ∙ ap (λ o. with_last o (pieces_at c.plan path)) at));
        box = subst (λ o. IsBox u c.aim.height o (Some b) q.pieces) (sym at) (fr.pieces, qs, table);
        of = subst (λ o. IsOfUniverse u o (Some b)) (sym at)
            (low, subst (λ z. HasRows u z) (sym e) k.rows);
        section = subst (λ o. IsItsSection u o (Some b) first.steps (numbered q.context)
            (open_piece q.context.cuts)) (sym at)
            (cut_as.0, opened, ((number, here.entered.opened.below), placed, left_known));
        seen_is = seen;
      }

  module _ (go : WritingGoesOn) where
    pub enter_at : (c : Course) → IsCourse c
        → (path : List ℕ) (parent : Option (Bor Known)) (first : Seen) (p : SectionStart)
        → IsBefore c path parent first p → (rows : List StepRow) → AreBoxSteps c.aim p rows
        → (x : ExprId) (points : List Dyadic)
        → AreShort c.aim rows (item.Cut x points) → (n : ℕ) → n ≡ length points + 1
        → p.tree ≡ cut x points (pieces_from c.plan (below c (35 - length path)) path 0 n)
        → IsAt c.aim (inside p rows x points (range_of_piece (piece_at c.plan (path ++ 0 ∷ [])))
        (below c (35 - length path) (path ++ 0 ∷ []))
        (pieces_from c.plan (below c (35 - length path)) path (0 + 1) (length points)))
    enter_at c a path parent first p before rows own x points small n count tree =
        let one_more : n ≡ suc (length points) = omega (arith, count) in
        go.enters c.aim a.aim p rows x points (range_of_piece (piece_at c.plan (path ++ 0 ∷ [])))
        (below c (35 - length path) (path ++ 0 ∷ []))
        (pieces_from c.plan (below c (35 - length path)) path (0 + 1) (length points))
        (tree ∙ ap (λ m. cut x points
        (pieces_from c.plan (below c (35 - length path)) path 0 m)) one_more) before.here own small

    -- Behind its steps the box is cut, and the walk is before its first piece.
    pub enter : (c : Course) → IsCourse c → HasBest c → ((path : List ℕ) (i : ℕ) → pieces_at c.plan
        (path ++ i ∷ []) ≡ with_last (piece_at c.plan (path ++ i ∷ [])) (pieces_at c.plan path))
        → (path : List ℕ) (parent : Option (Bor Known)) (first : Seen) (p : SectionStart)
        → IsBefore c path parent first p → (rows : List StepRow) → AreBoxSteps c.aim p rows
        → (known : Known) → IsKnownAt c path known (numbered (behind_steps p.context rows))
        → (x : ExprId) (points : List Dyadic) → AreShort c.aim rows (item.Cut x points)
        → (n : ℕ) → n ≡ length points + 1
        → p.tree ≡ cut x points (pieces_from c.plan (below c (35 - length path)) path 0 n) →
        ((k : ℕ) → k < n → piece_at c.plan (path ++ k ∷ [])
        ≡ Some (x, range_of_piece (piece_at c.plan (path ++ k ∷ []))))
        → (old new : Option (List ℕ))
        → Appends old new
        (spelled_behind (seen_in p.items) (section_of rows (item.Cut x points)))
        → (number : Seen) → number ≡ seen_behind first (section_of rows (item.Cut x points))
        → IsWithin c path known p old n 0 number new
    enter c a best more path parent first p before rows own known k x points small n count tree
        of_variable old new grew number same =
        let u : World = c.aim.world in
        let v : Setting = setting c in
        let r : Interval = range_of_piece (piece_at c.plan (path ++ 0 ∷ [])) in
        let inner : Tree = below c (35 - length path) (path ++ 0 ∷ []) in
        let later : Trees = pieces_from c.plan (below c (35 - length path)) path
        (0 + 1) (length points) in
        let one_more : n ≡ suc (length points) = omega (arith, count) in
        let node : p.tree ≡ cut x points (next r inner later) = tree ∙ ap (λ m.
        cut x points (pieces_from c.plan (below c (35 - length path)) path 0 m)) one_more in
        let q : SectionStart = inside p rows x points r inner later in
        let fr : Frame = frame_of p.context rows x points later p.pieces (p.depth + 1) in
        let at : IsAt c.aim q =
        enter_at c a path parent first p before rows own x points small n count tree in
        let proved : IsProved v c.aim.height u.goals
        (cut x points (next r inner later)) p.pieces p.depth = subst
        (λ t. IsProved v c.aim.height u.goals t p.pieces p.depth) node before.here.entered.proved in
        let d = next_behind p.context rows in
        let f = next_is u (piece_at c.plan path) parent first.steps (numbered p.context)
        (open_piece p.context.cuts) before.section in
        let left : n - (0 + 1) ≡ length points = omega (arith, count) in
        let items : List Item = section_of rows (item.Cut x points) in
        let steps : number.steps ≡ first.steps + length rows =
        ap (λ (s : Seen). s.steps) same
        ∙ own_steps_seen first rows (item.Cut x points) (λ s. (refl, refl)) in
        record {
          place = q;
          frame = fr;
          before =
              piece_before c best path known 0 number q fr p.frames at refl k before.pieces refl
              (of_variable 0 (omega (arith, count))) (more path 0) refl (omega (arith, d, f, steps))
              (seen_with p.items items first before.seen_is ∙ sym same) (proved.3.1);
          frames = refl;
          later =
              ap (λ m. pieces_from c.plan (below c (35 - length path)) path (0 + 1) m) (sym left);
          pieces = before.pieces;
          of_variable = of_variable;
          known_is = k;
          grew = (section_of rows (item.Cut x points), refl, grew);
        }

    -- Behind the section of a piece the walk is before the next piece, or behind the box.
    pub turn : (c : Course) → IsCourse c → HasBest c → ((path : List ℕ) (i : ℕ) → pieces_at c.plan
        (path ++ i ∷ []) ≡ with_last (piece_at c.plan (path ++ i ∷ [])) (pieces_at c.plan path))
        → (path : List ℕ) (known : Known) (p : SectionStart) (old new : Option (List ℕ))
        (n i : ℕ) (number : Seen) (w : IsWithin c path known p old n i number new) → i < n
        → (later : Seen) (newer : Option (List ℕ))
        → IsPast c w.place new later newer → HasDone c path known p old n (i + 1) later newer
    turn c a best more path known p old new n i number w l later newer past = (goes_on, comes_out)
      where
        e : Ended
        e = past.0

        fr : Frame
        fr = w.frame

        ended : HasEnded c.aim e
        ended = past.1

        frames_are : e.frames ≡ fr ∷ p.frames
        frames_are = past.2 ∙ w.frames

        grown : Grew p.items old newer e.items
        grown = grew_both p.items w.place.items e.items old new newer w.grew past.4

        goes_on : i + 1 < n → IsWithin c path known p old n (i + 1) later newer
        goes_on m =
            let u : World = c.aim.world in
            let v : Setting = setting c in
            let j : ℕ = i + 1 in
            let r : Interval = range_of_piece (piece_at c.plan (path ++ j ∷ [])) in
            let inner : Tree = below c (35 - length path) (path ++ j ∷ []) in
            let rest : Trees = pieces_from c.plan (below c (35 - length path)) path
            (j + 1) (n - (j + 1)) in
            let count : n - (i + 1) ≡ suc (n - (j + 1)) = omega (arith, m) in
            let node : fr.later ≡ next r inner rest = w.later
            ∙ ap (λ k. pieces_from c.plan (below c (35 - length path)) path (i + 1) k) count in
            let q : SectionStart = beside e fr r inner rest p.frames in
            let f : Frame = turned fr rest in
            let at : IsAt c.aim q =
            go.follows c.aim a.aim e fr r inner rest p.frames frames_are node ended in
            let lies : LiesIn v c.aim.height u.goals c.aim.target.number e.begin (fr ∷ p.frames) =
            subst (λ y. LiesIn v c.aim.height u.goals c.aim.target.number e.begin y)
            frames_are ended.lies in
            let proved : AreProved v c.aim.height u.goals fr.var fr.points (next r inner rest)
            (fr.piece + 1) fr.pieces fr.depth =
            subst (λ y. AreProved v c.aim.height u.goals fr.var fr.points y
            (fr.piece + 1) fr.pieces fr.depth) node (lies.0).proved in
            record {
              place = q;
              frame = f;
              before = piece_before c best path known j later q f p.frames at refl w.known_is
                  w.pieces refl (w.of_variable j m) (more path j) refl (sym past.3) past.5 proved.1;
              frames = refl;
              later = refl;
              pieces = w.pieces;
              of_variable = w.of_variable;
              known_is = w.known_is;
              grew = grown;
            }

        comes_out : i + 1 ≡ n → IsPast c p old later newer
        comes_out m =
            let none : n - (i + 1) ≡ 0 = omega (arith, m) in
            let node : fr.later ≡ last = w.later
            ∙ ap (λ k. pieces_from c.plan (below c (35 - length path)) path (i + 1) k) none in (
              around e fr p.frames,
              go.ends c.aim a.aim e fr p.frames frames_are node ended,
              refl,
              past.3,
              grown,
              past.5,
            )
