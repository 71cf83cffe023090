-- The answer of the whole tree.
use Rattle.std.proofs.Common.{◌≡◌, ℕ, ◌+◌, ◌<◌, List, [], ◌∷◌, length, All, Option, Some, None}
use Rattle.std.proofs.Common.{MatchOption, refl, ap, ◌∙◌, subst, arith, sum_by}
use Rattle.std.specs.List.Sorted.{IsPermutation, IsSortedByKey}
use Rattle.std.specs.Cmp.Lexicographic.{slice_cmp}
use Rattle.std.specs.Ordering.{nat_cmp}
use Rattle.std.proofs.lemmas.List.Elements.{All-nil, All-weaker}
use Rattle.std.proofs.lemmas.List.Sorted.{All-permutation, sum_by-IsPermutation}
use Rattle.std.proofs.lemmas.List.Sums.{sum_by-cons}
use Rattle.boxcar.specs.Table.{Shelves}
use Rattle.bisect.specs.Trees.{Tree}
use Rattle.bisect.specs.Boxes.{first_open, leaves_of}
use Rattle.bisect.specs.Walks.{IsListed, boxes_from}
use Rattle.bisect.specs.declared.outcome.Leaf.{Leaf}
use Rattle.accounts.specs.Weights.{total}
use Rattle.box_workers.specs.declared.record.Record.{Record}
use Rattle.box_workers.specs.Seen.{BoxTask}
use Rattle.box_workers.specs.Answers.{first_open_in}
use Rattle.box_workers.specs.Gathered.{leaf_only, IsAccount, records_rest, left_rest, Went, nothing}
use Rattle.box_workers.proofs.Gathered.{Few, IsPart}
use Rattle.box_workers.specs.Ends.{HeldFits, RecordFits}
use Rattle.box_workers.specs.declared.fate.Held.{Held}
use Rattle.box_workers.specs.Records.{IsLeafWithState}
use Rattle.box_workers.proofs.Finishing.{both}
use Rattle.box_workers.proofs.Order.{leaves_in_order, open_leaves, ordered}
use Rattle.box_workers.proofs.Walking.{total_ones}
use Rattle.box_workers.proofs.Whole.{whole}

total_sum_by : {X : Type 0} (f : X → ℕ) (xs : List X) → total f xs ≡ sum_by f xs
total_sum_by f [] = refl
total_sum_by f (x ∷ xs) = let ih = total_sum_by f xs in let c = sum_by-cons f x xs in omega arith

few : {E : Type 0} (t : Tree) (path_of : E → List ℕ) (board : Shelves) (o : Option (Held E))
    → MatchOption o (Unit {0}) (HeldFits t path_of board) → Few t o
few t path_of board None m = tt
few t path_of board (Some b) m = m.few

pub parts : {E : Type 0} (t : Tree) (path_of : E → List ℕ) (board : Shelves)
    (records : List (Record E)) → All (RecordFits t path_of board) records → All (IsPart t) records
parts t path_of board records all = All-weaker (RecordFits t path_of board) (IsPart t)
    (λ r f. (f.leaves, few t path_of board r.held f.held)) records all

module _ {E : Type 0} (t : Tree) (listed : IsListed t)
    (records : List (Record E)) (left : List (BoxTask E)) (fits : All (IsPart t) records)
    (account : IsAccount t records left) where
  -- the whole tree, by what was to be done
  to_do : (g : List ℕ → ℕ)
      → total g (boxes_from t 36 []) ≡ records_rest t records g + left_rest t left g
  to_do g = whole t listed g records left fits account

  count_all : length (boxes_from t 36 [])
      ≡ records_rest t records (λ _. 1) + left_rest t left (λ _. 1)
  count_all = let o = total_ones (boxes_from t 36 []) in let d = to_do (λ _. 1) in omega arith

  pub too_many_records : (limit : ℕ) → limit < 0 + records_rest t records (λ _. 1)
      → limit < length (boxes_from t 36 [])
  too_many_records limit over = let c = count_all in omega arith

  pub too_many_left : (b limit limit' : ℕ) (l : List Leaf)
      → Went t 0 [] b l (records_rest t records) nothing → limit ≡ limit'
      → limit < b + left_rest t left (λ _. 1) → limit' < length (boxes_from t 36 [])
  too_many_left b limit limit' l w same over = let c = count_all in let n = w.count in omega arith

  module _ (b c : ℕ) (l m sorted : List Leaf)
      (first : Went t 0 [] b l (records_rest t records) nothing)
      (second : Went t b l c m (left_rest t left) nothing)
      (same : IsPermutation m sorted)
      (order : IsSortedByKey (λ (x : Leaf). x.path) (slice_cmp nat_cmp) sorted) where
    went : Went t 0 [] c m (λ g. records_rest t records g + left_rest t left g) nothing
    went = both t 0 b c [] l m (records_rest t records) (left_rest t left) first second

    pub counted : c ≡ length (boxes_from t 36 [])
    counted = let n = went.count in let a = count_all in omega arith

    pub leaves_are : sorted ≡ leaves_of t (boxes_from t 36 [])
    leaves_are =
        leaves_in_order t (boxes_from t 36 []) sorted listed.boxes.rising
        (All-permutation (IsLeafWithState t) m sorted same (went.are (All-nil (IsLeafWithState t))))
        (ordered sorted order)
        (λ h.
        let w = went.weigh h in let d = to_do (leaf_only t h) in
        let p = sum_by-IsPermutation (λ (x : Leaf). h x.path) m sorted same in
        let a = total_sum_by (λ (x : Leaf). h x.path) m in
        let e = total_sum_by (λ (x : Leaf). h x.path) sorted in
        omega arith)

    pub first_is : first_open_in sorted ≡ first_open t (boxes_from t 36 [])
    first_is = ap first_open_in leaves_are ∙ open_leaves t (boxes_from t 36 [])

pub from_start : (t : Tree) (a b : ℕ) (k l : List Leaf) (x y : (List ℕ → ℕ) → ℕ) → a ≡ 0 → k ≡ []
    → Went t a k b l x y → Went t 0 [] b l x y
from_start t a b k l x y e f w = let P : ℕ → Type 0 = λ n. Went t n [] b l x y in
    let Q : List Leaf → Type 0 = λ ls. Went t a ls b l x y in subst P e (subst Q f w)
