-- Cases are answered one after the other.
use Rattle.std.specs.Prelude.{◌≡◌, ◌≢◌, ◌≤◌, ◌+◌, ℕ, zero, suc, List, [], ◌∷◌, length, drop, Some}
use Rattle.std.specs.Prelude.{slice_get, refl}
use Rattle.std.specs.List.{AllByRecursion}
use Rattle.std.proofs.Common.{arith, sym, ◌∙◌, ap, subst}
use Rattle.script_claims.specs.declared.claim.Claim.{Claim}
use Rattle.script_claims.specs.Facts.{facts_of}
use Rattle.script_grammar.specs.Spells.{View}
use Rattle.rule_universe.specs.Worlds.{World}
use Rattle.rule_universe.specs.Assumed.{assuming}
use Rattle.box_tree.specs.declared.cut.Cut.{Cut}
use Rattle.box_tree.specs.Pieces.{piece_count}
use Rattle.box_tree.specs.Plans.{cut_at}
use Rattle.bisect.specs.declared.settler.State.{State}
use Rattle.bisect.specs.declared.outcome.Outcome.{Outcome}
use Rattle.bisect.specs.declared.outcome.Outcome.TheVariants as outcome
use Rattle.bisect.specs.Trees.{tree_of}
use Rattle.bisect.specs.Answers.{IsAnswer}
use Rattle.case_trees.specs.Gathered.{Seen, HasBoxes, EndsAs, IsWithin, boxes_left, with_outcome}
use Rattle.case_trees.specs.Laws.{GoesOn, StopsOver, StopsAtNone}
use Rattle.settler.specs.declared.cases.Case.{Case}
use Rattle.settler.specs.Cases.{IsCaseOf, AreCases, tree_in, trees_in}
use Rattle.settler.specs.Decided.{state_at}

-- each tree that isn't cut too deep has boxes
abbrev pub TreesHaveBoxes : Type 0
TreesHaveBoxes = (cuts : List ℕ → Cut) (states : List ℕ → State) → ((path : List ℕ)
    → 36 ≤ length path → piece_count (cuts path) ≡ 0) → HasBoxes (tree_of cuts states)

-- the cases are planned ones of the script
abbrev pub ArePlanned : View → List Case → Type 0
ArePlanned s cs = (depth : ℕ) × ((claims : List (List Claim)) × AreCases s depth claims cs)

no_case : (i : ℕ) (c : Case) → slice_get [] i ≡ Some c → ⊥
no_case i c e = cc

some_same : (x y : Case) → Some x ≡ Some y → x ≡ y
some_same x y e = cc

at_in : (s : View) (depth : ℕ) (claims : List (List Claim)) (cs : List Case)
    → AreCases s depth claims cs → (i : ℕ) (c : Case) → slice_get cs i ≡ Some c → IsCaseOf s depth c
at_in s depth claims [] are i c e = absurd (no_case i c e)
at_in s depth [] (x ∷ cs) are i c e = absurd are
at_in s depth (y ∷ claims) (x ∷ cs) are zero c e = subst (IsCaseOf s depth) (some_same x c e) are.1
at_in s depth (y ∷ claims) (x ∷ cs) are (suc i) c e = at_in s depth claims cs are.2 i c e

pub planned_at : (s : View) (cs : List Case) → ArePlanned s cs → (i : ℕ) (c : Case)
    → slice_get cs i ≡ Some c → (depth : ℕ) × IsCaseOf s depth c
planned_at s cs p i c e = (p.0, at_in s p.0 p.1.0 cs p.1.1 i c e)

drop_in : (s : View) (depth : ℕ) (claims : List (List Claim)) (cs : List Case)
    → AreCases s depth claims cs → (i : ℕ) → ArePlanned s (drop i cs)
drop_in s depth claims cs are zero = (depth, (claims, are))
drop_in s depth [] [] are (suc i) = (depth, ([], tt))
drop_in s depth [] (x ∷ cs) are (suc i) = absurd are
drop_in s depth (y ∷ claims) [] are (suc i) = absurd are
drop_in s depth (y ∷ claims) (x ∷ cs) are (suc i) = drop_in s depth claims cs are.2 i

pub planned_drop : (s : View) (cs : List Case) → ArePlanned s cs → (i : ℕ)
    → ArePlanned s (drop i cs)
planned_drop s cs p i = drop_in s p.0 p.1.0 cs p.1.1 i

next : (i : ℕ) → suc i + 1 ≡ suc (i + 1)
next i = omega arith

pub drop_at : (cs : List Case) (i : ℕ) (c : Case) → slice_get cs i ≡ Some c
    → drop i cs ≡ c ∷ drop (i + 1) cs
drop_at [] i c e = absurd (no_case i c e)
drop_at (x ∷ cs) zero c e = ap (λ y. y ∷ cs) (some_same x c e)
drop_at (x ∷ cs) (suc i) c e = drop_at cs i c e ∙ ap (λ k. c ∷ drop k (x ∷ cs)) (sym (next i))

pub drop_none : (cs : List Case) → drop 0 cs ≡ cs
drop_none [] = refl
drop_none (x ∷ cs) = refl

pub drop_all : (cs : List Case) (i : ℕ) → length cs ≤ i → drop i cs ≡ []
drop_all [] zero h = refl
drop_all [] (suc i) h = refl
drop_all (x ∷ cs) zero h = absurd (omega (arith, h))
drop_all (x ∷ cs) (suc i) h = drop_all cs i (omega (arith, h))

-- the limit stays, and there is one case more
pub same_limit : (w : Seen) (o : Outcome) → (with_outcome w o).limit ≡ w.limit
same_limit w (outcome.Leaves n ls) = refl
same_limit w (outcome.Unproved n x) = refl
same_limit w outcome.BoxLimit = refl

pub stays_within : (w : Seen) (o : Outcome) → w.boxes ≤ w.limit → IsWithin (boxes_left w) o
    → (with_outcome w o).boxes ≤ (with_outcome w o).limit
stays_within w (outcome.Leaves n ls) room h = omega (arith, room, h)
stays_within w (outcome.Unproved n x) room h = omega (arith, room, h)
stays_within w outcome.BoxLimit room h = room

pub one_more_case : (w : Seen) (o : Outcome) → (with_outcome w o).cases ≤ w.cases + 1
one_more_case w (outcome.Leaves n ls) = omega arith
one_more_case w (outcome.Unproved n x) = omega arith
one_more_case w outcome.BoxLimit = omega arith

module _ (boxes : TreesHaveBoxes) (s : View) (u : World) (rounds : ℕ) where
  have_boxes : (depth : ℕ) (claims : List (List Claim)) (cs : List Case)
      → AreCases s depth claims cs → AllByRecursion HasBoxes (trees_in u rounds cs)
  have_boxes depth [] [] are = tt
  have_boxes depth [] (c ∷ cs) are = absurd are
  have_boxes depth (x ∷ xs) [] are = absurd are
  have_boxes depth (x ∷ xs) (c ∷ cs) are = (
    boxes (cut_at c.plan)
        (state_at (assuming u (facts_of c.claims)) c.plan rounds) are.1.lawful.shallow,
    have_boxes depth xs cs are.2,
  )

  planned_boxes : (cs : List Case) → ArePlanned s cs
      → AllByRecursion HasBoxes (trees_in u rounds cs)
  planned_boxes cs p = have_boxes p.0 p.1.0 cs p.1.1

  -- no box is left for this case
  pub none_left : StopsAtNone → (w : Seen) (c : Case) (cs : List Case) → ArePlanned s (c ∷ cs)
      → w.limit ≤ w.boxes → EndsAs w (trees_in u rounds (c ∷ cs)) outcome.BoxLimit
  none_left stops w c cs p none = let b = planned_boxes (c ∷ cs) p in
      stops w (tree_in u rounds c) (trees_in u rounds cs) none b.0 b.1

  -- the case's tree, over the universe with its claims assumed
  case_answer : (v : World) (c : Case) (left : ℕ) (o : Outcome) → v ≡ assuming u (facts_of c.claims)
      → IsAnswer (tree_of (cut_at c.plan) (state_at v c.plan rounds)) left o
      → IsAnswer (tree_in u rounds c) left o
  case_answer v c left o e a =
      subst (λ w. IsAnswer (tree_of (cut_at c.plan) (state_at w c.plan rounds)) left o) e a

  -- it has more boxes than are left
  pub too_many : StopsOver → (w : Seen) (v : World) (c : Case)
      (cs : List Case) (left : ℕ) (o : Outcome) → ArePlanned s (c ∷ cs) → w.boxes ≤ w.limit
      → v ≡ assuming u (facts_of c.claims) → left ≡ boxes_left w
      → IsAnswer (tree_of (cut_at c.plan) (state_at v c.plan rounds)) left o → o ≡ outcome.BoxLimit
      → EndsAs w (trees_in u rounds (c ∷ cs)) outcome.BoxLimit
  too_many stops w v c cs left o p room e l a limit =
      let here : IsAnswer (tree_in u rounds c) (boxes_left w) outcome.BoxLimit =
      subst (λ n. IsAnswer (tree_in u rounds c) n outcome.BoxLimit) l
      (subst (IsAnswer (tree_in u rounds c) left) limit (case_answer v c left o e a)) in
      stops w (tree_in u rounds c) (trees_in u rounds cs) room here (planned_boxes (c ∷ cs) p).1

  -- it joins what was seen
  pub joins : GoesOn → (w x : Seen) (v : World) (c : Case) (cs : List Case) (left : ℕ) (o : Outcome)
      → w.boxes ≤ w.limit → v ≡ assuming u (facts_of c.claims) → left ≡ boxes_left w
      → IsAnswer (tree_of (cut_at c.plan) (state_at v c.plan rounds)) left o
      → o ≢ outcome.BoxLimit → x ≡ with_outcome w o
      → (found : Outcome) → EndsAs x (trees_in u rounds cs) found
      → EndsAs w (trees_in u rounds (c ∷ cs)) found
  joins goes w x v c cs left o room e l a n more found ends =
      goes w (tree_in u rounds c) (trees_in u rounds cs) o found room
      (subst (λ m. IsAnswer (tree_in u rounds c) m o) l (case_answer v c left o e a)) n
      (subst (λ y. EndsAs y (trees_in u rounds cs) found) more ends)
