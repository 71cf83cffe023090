-- Sorted leaves are those of the tree, in order.
use Rattle.std.proofs.Common.{◌≡◌, ◌==◌, inl, inr, ℕ, zero, suc, ◌+◌, Bool, false, true≢false, cond}
use Rattle.std.proofs.Common.{List, [], ◌∷◌, map, All, Option, slice_index_or, sym, refl, ap, ◌∙◌}
use Rattle.std.proofs.Common.{subst, arith}
use Rattle.std.specs.List.{AllPairs}
use Rattle.std.proofs.lemmas.Cmp.{nat_list_cmp_total}
use Rattle.std.proofs.lemmas.List.MinMax.{ranks_by}
use Rattle.std.proofs.lemmas.List.Sorted.{sorted_far}
use Rattle.std.specs.List.Sorted.{IsSortedByKey, IsSortedBy}
use Rattle.std.specs.Cmp.Lexicographic.{slice_cmp}
use Rattle.std.specs.Ordering.{nat_cmp, is_lt}
use Rattle.std.specs.declared.cmp.Ordering.TheVariants.{Less}
use Rattle.std.proofs.lemmas.Bool.Decides.{eqb_tells}
use Rattle.std.proofs.lemmas.List.Elements.{All-head, All-tail, All-cons, All-nil, All-map}
use Rattle.bisect.specs.Trees.{Tree, child_count}
use Rattle.bisect.specs.Boxes.{IsBefore, leaf_at, with_leaf, leaves_of, open_goal, or_later}
use Rattle.bisect.specs.Boxes.{first_open}
use Rattle.bisect.specs.declared.outcome.Leaf.{Leaf}
use Rattle.accounts.specs.Weights.{total, one}
use Rattle.accounts.proofs.SumsLaws.{total_map, some_positive, same_or_not, one_same}
use Rattle.box_workers.specs.Answers.{first_open_in}
use Rattle.box_workers.specs.Gathered.{leaf_only}
use Rattle.box_workers.specs.Records.{IsLeafWithState}

-- no later path is before an earlier one
abbrev pub IsOrdered : List (List ℕ) → Type 0
IsOrdered [] = Unit {0}
IsOrdered (p ∷ ps) = All (λ q. is_lt (slice_cmp nat_cmp q p) ≡ false) ps × IsOrdered ps

-- each path is before all later ones
abbrev pub IsRising : List (List ℕ) → Type 0
IsRising [] = Unit {0}
IsRising (p ∷ ps) = All (IsBefore p) ps × IsRising ps

pub rising : (ps : List (List ℕ)) → AllPairs IsBefore ps → IsRising ps
rising [] a = tt
rising (p ∷ ps) a = (
  (λ j d l. a 0 (suc j) d (omega arith) (omega arith)),
  rising ps (λ i j d lt l. a (suc i) (suc j) d (omega arith) (omega arith)),
)

-- two lists of the same paths, one in order and one rising, are one list
pub same_in_order : (xs ys : List (List ℕ)) → IsOrdered xs → IsRising ys
    → ((h : List ℕ → ℕ) → total h xs ≡ total h ys) → xs ≡ ys
same_in_order [] [] o r e = refl
same_in_order [] (y ∷ ys) o r e = absurd (let z = e (λ _. 1) in omega arith)
same_in_order (x ∷ xs) [] o r e = absurd (let z = e (λ _. 1) in omega arith)
same_in_order (x ∷ xs) (y ∷ ys) o r e = elim (same_or_not x y) [
  | inl s ↦
      let rest = same_in_order xs ys o.1 r.1 (λ h. let z = e h in
      let a : h x ≡ h y = ap h s.0 in omega arith) in
      ap (λ (p : List ℕ). p ∷ xs) s.0 ∙ ap (λ (ps : List (List ℕ)). y ∷ ps) rest
  | inr other ↦
      let a = e (one x) in let b = one_same x in let c = other.1 in
      let z = some_positive (IsBefore y) (one x) ys r.0 (omega arith) in
      let before : slice_cmp nat_cmp y x ≡ Less = elim (same_or_not x z.0) [
        | inl s ↦ subst (λ (q : List ℕ). slice_cmp nat_cmp y q ≡ Less) (sym s.0) z.1
        | inr n ↦ absurd (let m = z.2 in let k = n.1 in omega arith)
      ] in
      let d = e (one y) in let f = one_same y in
      let g : one y x ≡ 0 =
      elim (same_or_not y x) [ inl s ↦ absurd (other.0 (sym s.0)) | inr n ↦ n.1 ] in
      let w = some_positive (λ (q : List ℕ). is_lt (slice_cmp nat_cmp q x) ≡ false)
      (one y) xs o.0 (omega arith) in
      let not_before : is_lt (slice_cmp nat_cmp y x) ≡ false = elim (same_or_not y w.0) [
        | inl s ↦ subst (λ (q : List ℕ). is_lt (slice_cmp nat_cmp q x) ≡ false) (sym s.0) w.1
        | inr n ↦ absurd (let m = w.2 in let k = n.1 in omega arith)
      ] in
      absurd (true≢false (ap is_lt (sym before) ∙ not_before))
]

-- the leaves of rising boxes rise
with_leaf_all : (P : List ℕ → Type 0) (n : ℕ) (l : Leaf) (later : List Leaf)
    → P l.path → All P (map (λ (l : Leaf). l.path) later)
    → All P (map (λ (l : Leaf). l.path) (with_leaf n l later))
with_leaf_all P zero l later here all =
    All-cons P l.path (map (λ (l : Leaf). l.path) later) here all
with_leaf_all P (suc n) l later here all = all

all_leaves : (t : Tree) (P : List ℕ → Type 0) (ps : List (List ℕ)) → All P ps
    → All P (map (λ (l : Leaf). l.path) (leaves_of t ps))
all_leaves t P [] a = All-nil P
all_leaves t P (p ∷ ps) a = with_leaf_all P (child_count t p) (leaf_at t p) (leaves_of t ps)
    (All-head P p ps a) (all_leaves t P ps (All-tail P p ps a))

with_leaf_rising : (n : ℕ) (l : Leaf) (later : List Leaf)
    → All (IsBefore l.path) (map (λ (l : Leaf). l.path) later)
    → IsRising (map (λ (l : Leaf). l.path) later)
    → IsRising (map (λ (l : Leaf). l.path) (with_leaf n l later))
with_leaf_rising zero l later all r = (all, r)
with_leaf_rising (suc n) l later all r = r

leaves_rise : (t : Tree) (ps : List (List ℕ)) → IsRising ps
    → IsRising (map (λ (l : Leaf). l.path) (leaves_of t ps))
leaves_rise t [] r = tt
leaves_rise t (p ∷ ps) r = with_leaf_rising (child_count t p) (leaf_at t p) (leaves_of t ps)
    (all_leaves t (IsBefore p) ps r.0) (leaves_rise t ps r.1)

-- what leaves weigh
with_leaf_total : (h : List ℕ → ℕ) (n : ℕ) (l : Leaf) (later : List Leaf)
    → total (λ (l : Leaf). h l.path) (with_leaf n l later)
    ≡ cond {A = ℕ} (n == 0) (h l.path) 0 + total (λ (l : Leaf). h l.path) later
with_leaf_total h zero l later = refl
with_leaf_total h (suc n) l later =
    elim (eqb_tells (suc n) 0) [
      | inl same ↦ absurd (let s = same.1 in omega arith)
      | inr other ↦ let z : cond {A = ℕ} (suc n == 0) (h l.path) 0 ≡ 0 =
          ap (λ (r : Bool). cond {A = ℕ} r (h l.path) 0) other.0 in omega arith
    ]

pub leaves_total : (t : Tree) (h : List ℕ → ℕ) (ps : List (List ℕ))
    → total (λ (l : Leaf). h l.path) (leaves_of t ps) ≡ total (leaf_only t h) ps
leaves_total t h [] = refl
leaves_total t h (p ∷ ps) = let ih = leaves_total t h ps in
    let w = with_leaf_total h (child_count t p) (leaf_at t p) (leaves_of t ps) in omega arith

-- leaves with their states are told by their paths
pub with_states : (t : Tree) (ls : List Leaf) → All (IsLeafWithState t) ls
    → ls ≡ map (leaf_at t) (map (λ (l : Leaf). l.path) ls)
with_states t [] all = refl
with_states t (l ∷ ls) all =
    ap (λ (x : Leaf). x ∷ ls) (All-head (IsLeafWithState t) l ls all).0
    ∙ ap (λ (xs : List Leaf). leaf_at t l.path ∷ xs)
    (with_states t ls (All-tail (IsLeafWithState t) l ls all))

with_leaf_states : (t : Tree) (n : ℕ) (p : List ℕ) (later : List Leaf)
    → later ≡ map (leaf_at t) (map (λ (l : Leaf). l.path) later) → with_leaf n (leaf_at t p) later
    ≡ map (leaf_at t) (map (λ (l : Leaf). l.path) (with_leaf n (leaf_at t p) later))
with_leaf_states t zero p later e = ap (λ (xs : List Leaf). leaf_at t p ∷ xs) e
with_leaf_states t (suc n) p later e = e

leaves_with_states : (t : Tree) (ps : List (List ℕ))
    → leaves_of t ps ≡ map (leaf_at t) (map (λ (l : Leaf). l.path) (leaves_of t ps))
leaves_with_states t [] = refl
leaves_with_states t (p ∷ ps) =
    with_leaf_states t (child_count t p) p (leaves_of t ps) (leaves_with_states t ps)

-- leaves in order, with the weights of the tree's leaves, are these
pub leaves_in_order : (t : Tree) (ps : List (List ℕ)) (ls : List Leaf) → AllPairs IsBefore ps
    → All (IsLeafWithState t) ls → IsOrdered (map (λ (l : Leaf). l.path) ls)
    → ((h : List ℕ → ℕ) → total (λ (l : Leaf). h l.path) ls ≡ total (leaf_only t h) ps)
    → ls ≡ leaves_of t ps
leaves_in_order t ps ls pairs states order weights =
    let paths = same_in_order (map (λ (l : Leaf). l.path) ls)
    (map (λ (l : Leaf). l.path) (leaves_of t ps)) order (leaves_rise t ps (rising ps pairs))
    (λ h. total_map h (λ (l : Leaf). l.path) ls ∙ weights h ∙ sym (leaves_total t h ps)
    ∙ sym (total_map h (λ (l : Leaf). l.path) (leaves_of t ps))) in
    with_states t ls states ∙ ap (λ (qs : List (List ℕ)). map (leaf_at t) qs) paths
    ∙ sym (leaves_with_states t ps)

-- the first open leaf
with_leaf_open : (n : ℕ) (l : Leaf) (later : List Leaf) (first : Option (List ℕ × ℕ))
    → first_open_in later ≡ first
    → first_open_in (with_leaf n l later) ≡ or_later l.path (open_goal n l.state) first
with_leaf_open zero l later first e = ap (or_later l.path (open_goal 0 l.state)) e
with_leaf_open (suc n) l later first e = e

pub open_leaves : (t : Tree) (ps : List (List ℕ)) → first_open_in (leaves_of t ps) ≡ first_open t ps
open_leaves t [] = refl
open_leaves t (p ∷ ps) = with_leaf_open (child_count t p) (leaf_at t p) (leaves_of t ps)
    (first_open t ps) (open_leaves t ps)

-- sorted leaves are in order
ordered_tail : (lt : Leaf → Leaf → Bool) (l : Leaf) (ls : List Leaf)
    → IsSortedBy lt (l ∷ ls) → IsSortedBy lt ls
ordered_tail lt l ls s = λ k d low high.
    let e : suc k + 1 ≡ suc (k + 1) = omega arith in
    let P : ℕ → Type 0 =
    λ n. lt (slice_index_or (l ∷ ls) n d) (slice_index_or (l ∷ ls) (suc k) d) ≡ false in
    subst P e (s (suc k) d (omega arith) (omega arith))

pub ordered : (ls : List Leaf) → IsSortedByKey (λ (l : Leaf). l.path) (slice_cmp nat_cmp) ls
    → IsOrdered (map (λ (l : Leaf). l.path) ls)
ordered [] s = tt
ordered (l ∷ ls) s =
    let lt : Leaf → Leaf → Bool = λ a b. is_lt (slice_cmp nat_cmp a.path b.path) in
    let far = sorted_far lt (ranks_by nat_list_cmp_total (λ (l : Leaf). l.path)) (l ∷ ls) s in (
      All-map (λ (q : List ℕ). is_lt (slice_cmp nat_cmp q l.path) ≡ false)
          (λ (l : Leaf). l.path) ls (λ j d below. far 0 (suc j) d (omega arith) (omega arith)),
      ordered ls (ordered_tail lt l ls s),
    )
