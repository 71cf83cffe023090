-- The lines of a proved script are hulls of best known facts.
use Rattle.std.specs.Prelude.{◌≡◌, ◌<◌, ◌↔◌, ◌+◌, ◌++◌, ℕ, zero, suc, List, [], ◌∷◌, length, map}
use Rattle.std.specs.Prelude.{Option, Some, None, slice_get, Contains, refl}
use Rattle.std.proofs.Common.{sym, ◌∙◌, ap, subst, arith}
use Rattle.std.proofs.lemmas.Option.{slice_get_within, get_or_from_slice_get, slice_get_read}
use Rattle.std.proofs.lemmas.List.FromFn.{get_or-map-range_with_len, length-map-range_with_len}
use Rattle.pair_closure.specs.Reached.{Has}
use Rattle.facts.specs.declared.fact.Fact.{Fact}
use Rattle.goals.specs.declared.goal.Goal.{Goal}
use Rattle.goals.specs.declared.line.Line.{Line}
use Rattle.goals.specs.declared.line.Line.TheVariants as line
use Rattle.goals.specs.Settles.{Settles}
use Rattle.script_claims.specs.declared.claim.Claim.{Claim}
use Rattle.script_claims.specs.Facts.{goal_of}
use Rattle.script_grammar.specs.Spells.{View}
use Rattle.script_grammar.specs.Cases.{cases_of}
use Rattle.derivation.specs.Derivations.{Setting}
use Rattle.derivation.specs.Known.{Piece}
use Rattle.rule_universe.specs.Worlds.{World}
use Rattle.saturate.specs.Universes.{setting_of}
use Rattle.box_tree.specs.Plans.{pieces_at}
use Rattle.box_tree.specs.Regions.{PlanParts}
use Rattle.bisect.specs.declared.settler.State.{State}
use Rattle.bisect.specs.declared.settler.State.TheVariants as state
use Rattle.bisect.specs.declared.outcome.Leaf.{Leaf}
use Rattle.bisect.specs.Trees.{Tree, child_count, IsLeaf}
use Rattle.bisect.specs.Boxes.{AreBoxes, first_open, leaves_of, leaf_at, with_leaf, open_goal}
use Rattle.bisect.specs.Boxes.{or_later}
use Rattle.bisect.proofs.Boxes.{not_some, later_none}
use Rattle.bisect.specs.Gathered.{with_known, with_state, line_with, line_of, lines_of}
use Rattle.bisect.specs.declared.outcome.OpenLeaf.{OpenLeaf}
use Rattle.case_trees.specs.Listed.{Listed, AreListed, first_open_from, all_leaves}
use Rattle.case_trees.specs.Listed.{or_later as or_later_case}
use Rattle.settler.specs.Standing.{IsBestKnown, AreSettledBy, StandsAs, AreStates}
use Rattle.settler.specs.Answers.{Options, plan_of, tree_by, IsTreeOf, AreTrees, IsProved}
use Rattle.settler.specs.Tight.{Gives, GiveEach, hull_over, LeavesOf, LeavesOfEach, GiveInEach}
use Rattle.settler.specs.Tight.{AreTight}

-- ---- lists
pub has_contained : (xs : List (List ℕ)) (p : List ℕ) → Contains xs p → Has xs p
has_contained xs p c = (c.0, slice_get_read xs (length xs) c.0 p refl c.1 (sym c.2))

contained_has : (xs : List (List ℕ)) (p : List ℕ) → Has xs p → Contains xs p
contained_has xs p h = (h.0, slice_get_within xs h.0 p h.1, get_or_from_slice_get xs h.0 p p h.1)

-- ---- the paths of leaves
abbrev pub paths_of : List Leaf → List (List ℕ)
paths_of leaves = map (λ (l : Leaf). l.path) leaves

at_count : (n : ℕ) (P : ℕ → Type 0) → (n ≡ zero → P zero) → ((m : ℕ) → n ≡ suc m → P (suc m)) → P n
at_count zero P z s = z refl
at_count (suc m) P z s = s m refl

-- a leaf more
first_more : (q : List ℕ) (st : State) (n : ℕ) (later : List Leaf) → n ≡ zero
    → Has (paths_of (with_leaf n (record { path = q; state = st }) later)) q
first_more q st n later e = subst (λ m.
    Has (paths_of (with_leaf m (record { path = q; state = st }) later)) q) (sym e) (zero, refl)

later_more : (l : Leaf) (n : ℕ) (later : List Leaf) (p : List ℕ) → Has (paths_of later) p
    → Has (paths_of (with_leaf n l later)) p
later_more l zero later p h = (suc h.0, h.1)
later_more l (suc n) later p h = h

module _ (t : Tree) where
  leaf_there : (ps : List (List ℕ)) (p : List ℕ) → Has ps p → child_count t p ≡ 0
      → Has (paths_of (leaves_of t ps)) p
  leaf_there [] p h z = absurd (none h.0 h.1)
    where
      none : (k : ℕ) → slice_get [] k ≡ Some p → ⊥
      none k e = cc
  leaf_there (q ∷ ps) p (zero, e) z =
      let same : q ≡ p = cc in
      subst (λ r. Has (paths_of (leaves_of t (q ∷ ps))) r) same
      (first_more q (t.state_at q) (child_count t q) (leaves_of t ps) (ap (child_count t) same ∙ z))
  leaf_there (q ∷ ps) p (suc k, e) z =
      later_more (leaf_at t q) (child_count t q) (leaves_of t ps) p (leaf_there ps p (k, e) z)

  leaf_only : (ps : List (List ℕ)) (p : List ℕ) → Has (paths_of (leaves_of t ps)) p
      → Has ps p × (child_count t p ≡ 0)
  leaf_only [] p h = absurd (none h.0 h.1)
    where
      none : (k : ℕ) → slice_get [] k ≡ Some p → ⊥
      none k e = cc
  leaf_only (q ∷ ps) p h =
      at_count (child_count t q) (λ n. Has (paths_of (with_leaf n (leaf_at t q) (leaves_of t ps))) p
      → Has (q ∷ ps) p × (child_count t p ≡ 0))
      (λ z w. here z (λ m. leaf_only ps p m) w) (λ m z w. let r = leaf_only ps p w in
      ((suc (r.0).0, (r.0).1), r.1)) h
    where
      here : child_count t q ≡ 0
          → (Has (paths_of (leaves_of t ps)) p → Has ps p × (child_count t p ≡ 0))
          → Has (q ∷ paths_of (leaves_of t ps)) p → Has (q ∷ ps) p × (child_count t p ≡ 0)
      here z f (zero, e) = let same : q ≡ p = cc in
          ((zero, ap Some same), ap (child_count t) (sym same) ∙ z)
      here z f (suc k, e) = let r = f (k, e) in ((suc (r.0).0, (r.0).1), r.1)

  pub leaves_are : (ps : List (List ℕ)) → AreBoxes t ps → (p : List ℕ)
      → Has (paths_of (leaves_of t ps)) p ↔ IsLeaf t p
  leaves_are ps b p = (
    (λ h. let r = leaf_only ps p h in (b.only p (contained_has ps p r.0), r.1)),
    (λ l. leaf_there ps p (has_contained ps p (b.all p l.0)) l.1),
  )

-- ---- what each gives
-- the state's fact of the goal number k
abbrev pub given_by : ℕ → State → Option Fact
given_by k (state.Settled facts) = slice_get facts k
given_by k _ = None

abbrev pub given_of : ℕ → List Leaf → List (Option Fact)
given_of k leaves = map (λ (l : Leaf). given_by k l.state) leaves

with_given : (k : ℕ) (l : Line) (s : State) → with_state k l s ≡ with_known l (given_by k s)
with_given k l (state.Settled facts) = refl
with_given k l state.Void = refl
with_given k l (state.Open goal) = refl

pub hull_is : (k : ℕ) (l : Line) (leaves : List Leaf)
    → line_with k l leaves ≡ hull_over l (given_of k leaves)
hull_is k l [] = refl
hull_is k l (x ∷ xs) = ap (λ m. line_with k m xs) (with_given k l x.state)
    ∙ hull_is k (with_known l (given_by k x.state)) xs

-- the best fact of the goal number k, of a settled box
pub settled_fact : (u : Setting) (height : ℕ) (pieces : List Piece) (goals : List Goal)
    (facts : List Fact) → AreSettledBy u height pieces goals facts → (k : ℕ) (g : Goal)
    → slice_get goals k ≡ Some g
    → (f : Fact) × (slice_get facts k ≡ Some f) × IsBestKnown u height pieces g.of f × Settles g f
settled_fact u height pieces [] [] a k g e = cc
settled_fact u height pieces [] (f ∷ fs) a k g e = absurd a
settled_fact u height pieces (g ∷ gs) [] a k h e = absurd a
settled_fact u height pieces (g ∷ gs) (f ∷ fs) a zero h e =
    let same : g ≡ h = cc in (
      f,
      refl,
      subst (λ (x : Goal). IsBestKnown u height pieces x.of f) same a.0,
      subst (λ x. Settles x f) same a.1,
    )
settled_fact u height pieces (g ∷ gs) (f ∷ fs) a (suc k) h e =
    settled_fact u height pieces gs fs a.2 k h e

module _ (u : World) (plan : PlanParts)
    (height : ℕ) (t : Tree) (stand : AreStates u plan height t.state_at) (k : ℕ) (goal : Goal)
    (there : slice_get u.goals k ≡ Some goal) where
  gives : (path : List ℕ) (s : State)
      → StandsAs (setting_of u) u.goals height (pieces_at plan path) s
      → (rest : Option (List ℕ × ℕ)) → or_later path (open_goal zero s) rest ≡ None
      → Gives (setting_of u) height (pieces_at plan path) goal (given_by k s)
  gives path state.Void w rest e = w
  gives path (state.Settled facts) w rest e =
      let f = settled_fact (setting_of u) height
      (pieces_at plan path) u.goals facts w.1 k goal there in
      subst (Gives (setting_of u) height (pieces_at plan path) goal) (sym f.1) (w.0, f.2, f.3)
  gives path (state.Open g) w rest e = absurd (not_some (path, g) e)

  with_one : (path : List ℕ) (n : ℕ) (leaves : List Leaf) (rest : Option (List ℕ × ℕ))
      → or_later path (open_goal n (t.state_at path)) rest ≡ None
      → GiveEach u plan height goal (paths_of leaves) (given_of k leaves) →
      GiveEach u plan height goal (paths_of (with_leaf n (leaf_at t path) leaves))
      (given_of k (with_leaf n (leaf_at t path) leaves))
  with_one path zero leaves rest e h = (gives path (t.state_at path) (stand path) rest e, h)
  with_one path (suc n) leaves rest e h = h

  pub give_each : (ps : List (List ℕ)) → first_open t ps ≡ None
      → GiveEach u plan height goal (paths_of (leaves_of t ps)) (given_of k (leaves_of t ps))
  give_each [] e = tt
  give_each (p ∷ ps) e =
      with_one p (child_count t p) (leaves_of t ps) (first_open t ps) e
      (give_each ps (later_none p (open_goal (child_count t p) (t.state_at p)) (first_open t ps) e))

-- ---- lines
pub goal_there : (claims : List Claim) (k : ℕ) (c : Claim) → slice_get claims k ≡ Some c
    → slice_get (map goal_of claims) k ≡ Some (goal_of c)
goal_there [] k c e = cc
goal_there (d ∷ claims) zero c e = let same : d ≡ c = cc in ap (λ x. Some (goal_of x)) same
goal_there (d ∷ claims) (suc k) c e = goal_there claims k c e

-- the line in the place k
pub line_there : (leaves : List Leaf) (n k : ℕ) → k < n
    → slice_get (lines_of leaves n) k ≡ Some (line_of leaves k)
line_there leaves n k h =
    let long : length (lines_of leaves n) ≡ n = length-map-range_with_len (line_of leaves) 0 n in
    slice_get_read (lines_of leaves n) n k (line_of leaves k) (sym long) h
    (sym (get_or-map-range_with_len (line_of leaves) 0 n k k (line_of leaves k) h (omega arith)))

same_line : (x y : Line) (o : Option Line) → o ≡ Some x → o ≡ Some y → x ≡ y
same_line x y o e f = let g : Some x ≡ Some y = sym e ∙ f in cc

-- ---- cases
none_first : (case : ℕ) (o : Option (List ℕ × ℕ)) (later : Option OpenLeaf)
    → or_later_case case o later ≡ None → (o ≡ None) × (later ≡ None)
none_first case None later e = (refl, e)
none_first case (Some x) later e = cc

given_over : (k : ℕ) (xs ys : List Leaf) → given_of k (xs ++ ys) ≡ given_of k xs ++ given_of k ys
given_over k [] ys = refl
given_over k (x ∷ xs) ys = ap (λ gs. given_by k x.state ∷ gs) (given_over k xs ys)

-- the leaves of a case's tree, whose boxes are these
abbrev leaves_of_case : (s : View) (o : Options) (claims : List Claim) (t : Tree) (l : Listed)
    → IsTreeOf s o claims t → l.tree ≡ t → AreBoxes l.tree l.boxes → LeavesOf s o claims
leaves_of_case s o claims t l is same are = record {
  universe = is.universe;
  is_universe = is.is_universe;
  states = is.states;
  are_states = is.are_states;
  leaves = paths_of (leaves_of l.tree l.boxes);
  are_leaves = subst (λ v. (path : List ℕ) → Has (paths_of (leaves_of l.tree l.boxes)) path
      ↔ IsLeaf v path) (same ∙ is.is_tree) (leaves_are l.tree l.boxes are);
}

abbrev leaves_of_cases : (s : View) (o : Options) (cases : List (List Claim)) (ts : List Tree)
    (ls : List Listed) → AreTrees s o cases ts → AreListed ts ls → LeavesOfEach s o cases
leaves_of_cases s o [] [] [] are listed = tt
leaves_of_cases s o [] [] (l ∷ ls) are listed = absurd listed
leaves_of_cases s o [] (t ∷ ts) ls are listed = absurd are
leaves_of_cases s o (c ∷ cases) [] ls are listed = absurd are
leaves_of_cases s o (c ∷ cases) (t ∷ ts) [] are listed = absurd listed
leaves_of_cases s o (c ∷ cases) (t ∷ ts) (l ∷ ls) are listed = (
  leaves_of_case s o c t l are.0 listed.0 listed.1,
  leaves_of_cases s o cases ts ls are.1 listed.2,
)

module _ (s : View) (o : Options) (k : ℕ) (c : Claim) (at : slice_get s.goals k ≡ Some c) where
  -- what the leaves of one case give
  give_case : (claims : List Claim) (t : Tree) (l : Listed) (is : IsTreeOf s o claims t)
      → l.tree ≡ t → first_open l.tree l.boxes ≡ None
      → GiveEach is.universe (plan_of s claims o.depth) o.rounds (goal_of c)
      (paths_of (leaves_of l.tree l.boxes)) (given_of k (leaves_of l.tree l.boxes))
  give_case claims t l is same none =
      let here : slice_get is.universe.goals k ≡ Some (goal_of c) =
      ap (λ gs. slice_get gs k) is.is_universe.goals ∙ goal_there s.goals k c at in
      subst (λ v. first_open v l.boxes ≡ None → GiveEach is.universe (plan_of s claims o.depth)
      o.rounds (goal_of c) (paths_of (leaves_of v l.boxes)) (given_of k (leaves_of v l.boxes)))
      (sym (same ∙ is.is_tree)) (give_each is.universe (plan_of s claims o.depth) o.rounds
      (tree_by s claims o is.states) is.are_states k (goal_of c) here l.boxes) none

  give_cases : (case : ℕ) (cases : List (List Claim)) (ts : List Tree) (ls : List Listed)
      (are : AreTrees s o cases ts) (listed : AreListed ts ls) → first_open_from case ls ≡ None
      → GiveInEach s o cases (leaves_of_cases s o cases ts ls are listed) (goal_of c)
      (given_of k (all_leaves ls))
  give_cases case [] [] [] are listed e = refl
  give_cases case [] [] (l ∷ ls) are listed e = absurd listed
  give_cases case [] (t ∷ ts) ls are listed e = absurd are
  give_cases case (d ∷ cases) [] ls are listed e = absurd are
  give_cases case (d ∷ cases) (t ∷ ts) [] are listed e = absurd listed
  give_cases case (d ∷ cases) (t ∷ ts) (l ∷ ls) are listed e =
      let none = none_first case (first_open l.tree l.boxes) (first_open_from (case + 1) ls) e in (
        given_of k (leaves_of l.tree l.boxes),
        given_of k (all_leaves ls),
        give_case d t l are.0 listed.0 none.0,
        give_cases (case + 1) cases ts ls are.1 listed.2 none.1,
        given_over k (leaves_of l.tree l.boxes) (all_leaves ls),
      )

pub proved_tight : (s : View) (o : Options) (lines : List Line)
    → IsProved s o lines → AreTight s o lines
proved_tight s o lines (count, (leaves, came, are)) =
    let ls = came.is_answer.0 in
    let by = came.is_answer.2 in
    record {
      leaves = leaves_of_cases s o (cases_of s) came.trees ls came.are_trees came.is_answer.1;
      count = ap length are ∙ length-map-range_with_len (line_of leaves) 0 (length s.goals);
      hulls = λ k c l g e.
          let same : l ≡ line_of leaves k = same_line l (line_of leaves k) (slice_get lines k) e
          (ap (λ xs. slice_get xs k) are
          ∙ line_there leaves (length s.goals) k (slice_get_within s.goals k c g)) in (
            given_of k (all_leaves ls),
            give_cases s o k c g 0 (cases_of s) came.trees ls came.are_trees came.is_answer.1 by.1,
            same ∙ ap (λ xs. line_of xs k) by.3 ∙ hull_is k line.Empty (all_leaves ls),
          );
    }
