-- The lines that leaves show, gathered goal by goal or leaf by leaf.
use Rattle.std.specs.Prelude.{◌≡◌, ◌+◌, ℕ, zero, suc, List, [], ◌∷◌, ◌++◌, length, map, Option}
use Rattle.std.specs.Prelude.{Some, None, slice_get, refl}
use Rattle.std.specs.List.{range_with_len}
use Rattle.std.proofs.Common.{sym, ◌∙◌, ap, arith}
use Rattle.facts.specs.declared.fact.Fact.{Fact}
use Rattle.facts.specs.declared.fact.Fact.TheVariants as fact
use Rattle.facts.specs.declared.fact.Slot.TheVariants as slot
use Rattle.facts.proofs.CommonParts.{at_option}
use Rattle.goals.specs.declared.goal.Goal.{Goal}
use Rattle.goals.specs.declared.line.Line.{Line}
use Rattle.goals.specs.declared.line.Line.TheVariants as line
use Rattle.derivation.specs.Derivations.{Setting, At}
use Rattle.derivation.specs.Known.{Piece, IsTableAt}
use Rattle.derivation.proofs.Parts.{none_some}
use Rattle.derivation.specs.Exists.{table_at}
use Rattle.bisect.specs.declared.settler.State.{State}
use Rattle.bisect.specs.declared.settler.State.TheVariants as state
use Rattle.bisect.specs.declared.outcome.Leaf.{Leaf}
use Rattle.bisect.specs.Trees.{Tree, child_count}
use Rattle.bisect.specs.Boxes.{open_goal, leaf_at, with_leaf, leaves_of}
use Rattle.bisect.specs.Gathered.{with_known, with_state, line_with, line_of}
use Rattle.settler.specs.Standing.{StandsAs}
use Rattle.cert_checker.specs.After.{with_cited}
use Rattle.tree_certificates.specs.Trees.{lines_at, leaf_lines}
use Rattle.answer_certificates.specs.Boxes.{rows_from}
use Rattle.answer_certificates.proofs.Leaves.{AreAt, no_void, facts_at}

line_both : (k : ℕ) (l : Line) (xs ys : List Leaf)
    → line_with k l (xs ++ ys) ≡ line_with k (line_with k l xs) ys
line_both k l [] ys = refl
line_both k l (x ∷ xs) ys = line_both k (with_state k l x.state) xs ys

pub rows_both : (k : ℕ) (lines : List Line) (xs ys : List Leaf)
    → rows_from k lines (xs ++ ys) ≡ rows_from k (rows_from k lines xs) ys
rows_both k [] xs ys = refl
rows_both k (l ∷ lines) xs ys =
    let head : line_with k l (xs ++ ys) ≡ line_with k (line_with k l xs) ys = line_both k l xs ys in
    let tail : rows_from (k + 1) lines (xs ++ ys)
    ≡ rows_from (k + 1) (rows_from (k + 1) lines xs) ys = rows_both (k + 1) lines xs ys in
    (λ i. head i ∷ tail i)

pub rows_none : (k : ℕ) (lines : List Line) → rows_from k lines [] ≡ lines
rows_none k [] = refl
rows_none k (l ∷ lines) = ap (λ ls. l ∷ ls) (rows_none (k + 1) lines)

pub rows_length : (k : ℕ) (lines : List Line) (xs : List Leaf)
    → length (rows_from k lines xs) ≡ length lines
rows_length k [] xs = refl
rows_length k (l ∷ lines) xs = let h = rows_length (k + 1) lines xs in omega (arith, h)

-- the lines of goals are those, begun with none
pub lines_are_rows : (leaves : List Leaf) (k : ℕ) (goals : List Goal) (n : ℕ) → n ≡ length goals
    → map (line_of leaves) (range_with_len k n) ≡ rows_from k (map (λ g. line.Empty) goals) leaves
lines_are_rows leaves k [] zero e = refl
lines_are_rows leaves k [] (suc n) e = absurd (omega (arith, e))
lines_are_rows leaves k (g ∷ goals) zero e = absurd (omega (arith, e))
lines_are_rows leaves k (g ∷ goals) (suc n) e =
    ap (λ ls. line_of leaves k ∷ ls) (lines_are_rows leaves (k + 1) goals n (omega (arith, e)))

-- ---- one leaf
void_rows : (k : ℕ) (lines : List Line) (path : List ℕ)
    → rows_from k lines (record { path = path; state = state.Void } ∷ []) ≡ lines
void_rows k [] path = refl
void_rows k (l ∷ lines) path = ap (λ ls. l ∷ ls) (void_rows (k + 1) lines path)

cited_known : (l : Line) (o : Option Fact) → with_cited l o ≡ with_known l o
cited_known l None = refl
cited_known l (Some f) = refl

-- the facts from number k on are those of the goals that are left
settled_rows : (at : At) (path : List ℕ) (facts : List Fact) (k : ℕ) (goals : List Goal)
    (left : List Fact) (lines : List Line) → AreAt at goals left
    → ((j : ℕ) → slice_get facts (k + j) ≡ slice_get left j)
    → length lines ≡ length goals → lines_at at goals lines
    ≡ rows_from k lines (record { path = path; state = state.Settled facts } ∷ [])
settled_rows at path facts k [] left [] a f e = refl
settled_rows at path facts k [] left (l ∷ lines) a f e = absurd (omega (arith, e))
settled_rows at path facts k (g ∷ goals) left [] a f e = absurd (omega (arith, e))
settled_rows at path facts k (g ∷ goals) [] (l ∷ lines) a f e = absurd a
settled_rows at path facts k (g ∷ goals) (x ∷ left) (l ∷ lines) a f e =
    let zeroth : k + 0 ≡ k = omega arith in
    let first : slice_get facts k ≡ Some x = ap (slice_get facts) (sym zeroth) ∙ f 0 in
    let head : with_cited l (at g.of) ≡ with_known l (slice_get facts k) =
    ap (with_cited l) a.0 ∙ cited_known l (Some x) ∙ ap (with_known l) (sym first) in
    let tail : lines_at at goals lines
    ≡ rows_from (k + 1) lines (record { path = path; state = state.Settled facts } ∷ []) =
    settled_rows at path facts (k + 1) goals left lines a.1 (λ j. let s : k + 1 + j ≡ k + suc j =
    omega arith in ap (slice_get facts) s ∙ f (suc j)) (omega (arith, e)) in
    (λ i. head i ∷ tail i)

-- where VOID isn't known, or is
lines_by : (o : Option Fact) (at : At) (goals : List Goal) (lines : List Line) → o ≡ None
    → leaf_lines o at goals lines ≡ lines_at at goals lines
lines_by None at goals lines e = refl
lines_by (Some v) at goals lines e = cc

lines_void : (o : Option Fact) (v : Fact) (at : At) (goals : List Goal) (lines : List Line)
    → o ≡ Some v → leaf_lines o at goals lines ≡ lines
lines_void None v at goals lines e = cc
lines_void (Some w) v at goals lines e = refl

some_open : (k : ℕ) → open_goal zero (state.Open k) ≡ None → ⊥
some_open k e = cc

pub leaf_rows : (u : Setting) (height : ℕ) (pieces : List Piece)
    → IsTableAt u height pieces (table_at u height pieces)
    → (goals : List Goal) (path : List ℕ) (s : State) → StandsAs u goals height pieces s
    → open_goal zero s ≡ None → (lines : List Line) → length lines ≡ length goals →
    leaf_lines (table_at u height pieces slot.Void) (table_at u height pieces) goals lines
    ≡ rows_from 0 lines (record { path = path; state = s } ∷ [])
leaf_rows u height pieces best goals path state.Void w n lines e =
    at_option (table_at u height pieces slot.Void) (λ o. table_at u height pieces slot.Void ≡ o
    → leaf_lines (table_at u height pieces slot.Void) (table_at u height pieces) goals lines
    ≡ rows_from 0 lines (record { path = path; state = state.Void } ∷ []))
    (λ a q. let y = best.least a fact.Void w in
    absurd (none_some y.0 (table_at u height pieces slot.Void) a y.1))
    (λ v a q. lines_void (table_at u height pieces slot.Void) v
    (table_at u height pieces) goals lines q ∙ sym (void_rows 0 lines path))
    refl
leaf_rows u height pieces best goals path (state.Settled facts) w n lines e =
    let none = no_void u height pieces best w.0 in
    lines_by (table_at u height pieces slot.Void) (table_at u height pieces) goals lines none
    ∙ settled_rows (table_at u height pieces) path facts 0 goals facts lines
    (facts_at u height pieces best none goals facts w.1) (λ j. let s : 0 + j ≡ j = omega arith in
    ap (slice_get facts) s) e
leaf_rows u height pieces best goals path (state.Open k) w n lines e = absurd (some_open k n)

-- ---- leaves of lists
with_both : (n : ℕ) (l : Leaf) (xs ys : List Leaf)
    → with_leaf n l (xs ++ ys) ≡ with_leaf n l xs ++ ys
with_both zero l xs ys = refl
with_both (suc n) l xs ys = refl

pub leaves_both : (t : Tree) (ps qs : List (List ℕ))
    → leaves_of t (ps ++ qs) ≡ leaves_of t ps ++ leaves_of t qs
leaves_both t [] qs = refl
leaves_both t (p ∷ ps) qs = ap (with_leaf (child_count t p) (leaf_at t p)) (leaves_both t ps qs)
    ∙ with_both (child_count t p) (leaf_at t p) (leaves_of t ps) (leaves_of t qs)
