-- How the walk goes on from case to case.
use Rattle.std.specs.Prelude.{◌≡◌, ◌≤◌, ◌+◌, ℕ, List, [], ◌∷◌, length, drop, Option, Some, None}
use Rattle.std.specs.Prelude.{slice_get, refl}
use Rattle.std.proofs.Common.{sym, ◌∙◌, ap, subst, append-nil}
use Rattle.std.proofs.lemmas.List.{drop_more}
use Rattle.std.proofs.lemmas.Option.{slice_get_within, get_or_from_slice_get}
use Rattle.script_claims.specs.declared.claim.Claim.{Claim}
use Rattle.script_claims.specs.Facts.{facts_of}
use Rattle.script_grammar.specs.Cases.{cases_of}
use Rattle.script_grammar.specs.Spells.{View}
use Rattle.rule_universe.specs.Worlds.{World, IsWhole as IsWholeWorld}
use Rattle.saturate.specs.Universes.{setting_of}
use Rattle.box_tree.specs.Pieces.{piece_count}
use Rattle.box_tree.specs.Plans.{cut_at, piece_at}
use Rattle.box_tree.proofs.InRanges.{root_pieces}
use Rattle.box_tree.specs.Regions.{PlanParts, region_below}
use Rattle.cert_bytes.specs.declared.item.Item.{Item}
use Rattle.cert_bytes.specs.declared.item.Item.TheVariants as item
use Rattle.cert_bytes.specs.declared.style.Seen.{Seen}
use Rattle.cert_bytes.specs.Styles.{none_seen, seen_in}
use Rattle.cert_bytes.specs.Spelling.{spelled_behind, certificate_of}
use Rattle.cert_bytes.proofs.Spelling.{spelled_both}
use Rattle.cert_checker.specs.Contexts.{open_piece}
use Rattle.tree_certificates.specs.Roots.{Root, IsRoot}
use Rattle.tree_certificates.specs.Trees.{Tree}
use Rattle.tree_certificates.specs.Walks.{numbered, LiesIn}
use Rattle.box_trace.specs.Boxes.{IsBox, IsOfUniverse, IsItsSection}
use Rattle.answer_certificates.specs.Boxes.{boxes_of}
use Rattle.answer_certificates.specs.Roots.{AreRootsOf}
use Rattle.answer_certificates.specs.Scripts.{in_case, HasSlots}
use Rattle.cert_writer.specs.Standing.{IsAim, IsBegun, Ended, HasEnded, next_root}
use Rattle.cert_writer.specs.Courses.{Course, IsCourse, course, IsBefore, IsPast, Grew, GrewToFront}
use Rattle.cert_writer.specs.Cases.{Task, task, plan_in, target_of, aim_of, whole_aim, IsBeforeCase}
use Rattle.cert_writer.specs.Cases.{StandsAt, OfStanding, GrewFront}
use Rattle.cert_writer.specs.Laws.{WritingGoesOn}
use Rattle.cert_writer.proofs.Turn.{appends_none, begun_still}

-- ---- lists
pub drop_none : {X : Type 0} (xs : List X) → drop 0 xs ≡ xs
drop_none [] = refl
drop_none (x ∷ xs) = refl

-- what is left where an item stands begins with it
pub drop_there : {X : Type 0} (xs : List X) (i : ℕ) (x : X) → slice_get xs i ≡ Some x
    → drop i xs ≡ x ∷ drop (i + 1) xs
drop_there xs i x e =
    drop_more xs i x (slice_get_within xs i x e)
    ∙ ap (λ y. y ∷ drop (i + 1) xs) (get_or_from_slice_get xs i x x e)

-- ---- what the file takes
pub grew_none : (items : List Item) (told : Option (List ℕ)) → Grew items told told items
grew_none items told = ([], sym (append-nil items), appends_none told told refl)

-- ---- the root
pub root_piece : (plan : PlanParts) → piece_at plan [] ≡ None
unfolding piece_at region_below
root_piece plan = refl

-- ---- before a case
-- What is written is a front.
pub stands_begun : WritingGoesOn → (w : Task) (number : ℕ) (cases : List (List Claim)) (next : Seen)
    (items : List Item) → StandsAt w number cases next items
    → IsBegun (whole_aim w) (certificate_of items)
stands_begun go w number [] next items (whole, seen) = (
  whole.0,
  whole.1,
  (
    spelled_behind (seen_in items) (item.End ∷ []),
    sym whole.2 ∙ spelled_both none_seen items (item.End ∷ []),
  ),
)
stands_begun go w number (claims ∷ later) next items b =
    subst (λ is. IsBegun (whole_aim w) (certificate_of is)) b.items_are
    (go.begun (aim_of w number claims b.roots) b.aim b.place b.here)

-- Where nothing is written it is so.
pub still : WritingGoesOn → (s : View) (u : World) (rounds depth number : ℕ) (next : Seen)
    (told : Option (List ℕ)) → OfStanding s u rounds depth number next
    (λ w items. GrewFront w items told told)
still go s u rounds depth number next told t lines items stands =
    let w : Task = task s u rounds depth t lines in
    begun_still (whole_aim w) items told told (stands_begun go w number
    (drop number (cases_of s)) next items stands) refl

-- Behind the root section of a case the walk stands before the next, or the certificate is whole.
next_case : WritingGoesOn → (w : Task) (number : ℕ) (claims : List Claim)
    (later : List (List Claim)) (roots : List Root)
    → AreRootsOf w.script w.world w.rounds w.depth later roots
    → IsAim (aim_of w number claims roots) → (e : Ended) → HasEnded (aim_of w number claims roots) e
    → e.frames ≡ [] → (next : Seen) → next.steps ≡ e.context.next → seen_in e.items ≡ next
    → StandsAt w (number + 1) later next e.items
next_case go w number claims [] [] are aim e ended frames next same seen =
    (go.whole (aim_of w number claims []) aim e frames refl ended, seen)
next_case go w number claims [] (r ∷ roots) are aim e ended frames next same seen = absurd are
next_case go w number claims (c ∷ later) [] are aim e ended frames next same seen = absurd are
next_case go w number claims (c ∷ later) (r ∷ roots) are aim e ended frames next same seen =
    let t = aim_of w number claims (r ∷ roots) in
    let tree : Tree = boxes_of (plan_in w c) are.0.states in
    let here : Root = record { setting = setting_of (in_case w.world c); tree = tree } in
    let root : IsRoot w.subject t.world.hints t.height t.target.most t.world.goals t.world.nodes
    (number + 1) here =
    subst (IsRoot w.subject t.world.hints t.height t.target.most t.world.goals t.world.nodes
    (number + 1)) are.0.is aim.later.0 in
    record {
      roots = roots;
      are = are.1;
      states = are.0.states;
      are_states = are.0.are_states;
      aim = record {
        writable = root.writable;
        subject = root.subject_is;
        enough = aim.enough;
        small = record {
          hypotheses = root.writable.few_hypotheses;
          nodes = aim.small.nodes;
          premises = aim.small.premises;
        };
        low = aim.low;
        wide = aim.wide;
        later = aim.later.1;
        few = aim.few;
      };
      place = next_root e tree;
      here = go.next_case t aim e (facts_of c) tree roots frames
          (ap (λ x. x ∷ roots) are.0.is) ended;
      tree = refl;
      pieces = refl;
      frames = refl;
      next_is = sym same;
      seen_is = seen;
      items_are = refl;
    }

-- The walk over the boxes of a case, with its universe and its plan.
module _ (w : Task) (number : ℕ) (claims : List Claim) (later : List (List Claim)) (next : Seen)
    (items : List Item) (b : IsBeforeCase w number claims later next items) where
  abbrev pub over : World → PlanParts → Course
  over u plan = course u plan w.rounds (target_of w number b.roots) w.lines b.states

  module _ (u : World) (plan : PlanParts) (same : u ≡ in_case w.world claims)
      (cuts : plan ≡ plan_in w claims) where
    -- what is so of those is so of the course's
    given : (P : World → PlanParts → Type 0) → P (in_case w.world claims) (plan_in w claims)
        → P u plan
    given P h = subst (λ v. P v plan) (sym same) (subst (P (in_case w.world claims)) (sym cuts) h)

    pub is_course : IsWholeWorld u → HasSlots u u.goals
        → ((path : List ℕ) → 36 ≤ length path → piece_count (cut_at plan path) ≡ 0)
        → IsCourse (over u plan)
    is_course whole slots bottom =
        given (λ v q. IsCourse (over v q))
        (record {
          aim = b.aim;
          whole = subst IsWholeWorld same whole;
          goals = subst (λ v. HasSlots v v.goals) same slots;
          states = b.are_states;
          depth = subst (λ q. (path : List ℕ) → 36 ≤ length path → piece_count (cut_at q path) ≡ 0)
              cuts bottom;
        })

    pub is_before : (path : List ℕ) → path ≡ [] → IsBefore (over u plan) path None next b.place
    is_before path root =
        let v : World = in_case w.world claims in
        let q : PlanParts = plan_in w claims in
        let p = b.place in
        let lies = subst (LiesIn (setting_of v) w.rounds v.goals number p.context) b.frames
        b.here.entered.lies in
        let none : open_piece p.context.cuts ≡ None = ap open_piece lies.0 in
        subst (λ y. IsBefore (over u plan) y None next p) (sym root)
        (given (λ x z. IsBefore (over x z) [] None next p)
        (record {
          here = b.here;
          tree = b.tree;
          pieces = b.pieces ∙ sym (root_pieces q);
          box = subst (λ x. IsBox v w.rounds x None p.pieces) (sym (root_piece q)) b.pieces;
          of = subst (λ x. IsOfUniverse v x None) (sym (root_piece q)) tt;
          section = subst (λ x. IsItsSection v x None next.steps (numbered p.context)
              (open_piece p.context.cuts)) (sym (root_piece q))
              ((b.next_is, b.here.entered.opened.below), none);
          seen_is = ap seen_in b.items_are ∙ b.seen_is;
        }))

    -- Broken off in them it leaves a front.
    pub front_case : (old new : Option (List ℕ))
        → GrewToFront (over u plan).aim b.place.items old new → GrewFront w items old new
    front_case old new h = subst (λ is. GrewFront w is old new) b.items_are h

    -- Behind them it stands before the next case.
    pub past_case : WritingGoesOn → (old new : Option (List ℕ)) (number_next : Seen)
        → IsPast (over u plan) b.place old number_next new
        → (more : List Item) × Grew items old new more
        × StandsAt w (number + 1) later number_next more
    past_case go old new number_next past =
        let e : Ended = past.0 in
        let ended : HasEnded (aim_of w number claims b.roots) e =
        subst (λ v. HasEnded (over v plan).aim e) same past.1 in (
          e.items,
          subst (λ is. Grew is old new e.items) b.items_are past.4,
          next_case go w number claims later b.roots b.are b.aim e ended
              (past.2 ∙ b.frames) number_next past.3 past.5,
        )
