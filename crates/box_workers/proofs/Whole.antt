-- The whole tree is what was settled and split, and the trees below what is held or left.
use Rattle.std.proofs.Common.{◌≡◌, ℕ, zero, suc, ◌+◌, ◌-◌, List, [], ◌∷◌, ◌++◌, length, All, Option}
use Rattle.std.proofs.Common.{Some, None, refl, ap, length-append, arith}
use Rattle.std.proofs.lemmas.List.Elements.{All-head, All-tail}
use Rattle.bisect.specs.Trees.{Tree, child_count}
use Rattle.bisect.specs.Walks.{IsListed, pieces_from, boxes_from}
use Rattle.bisect.specs.declared.outcome.Leaf.{Leaf}
use Rattle.accounts.specs.Paths.{child}
use Rattle.accounts.specs.Weights.{total, kids}
use Rattle.accounts.proofs.SumsLaws.{total_append, total_snoc, kids_le}
use Rattle.box_workers.specs.declared.fate.Held.{Held}
use Rattle.box_workers.specs.declared.record.Record.{Record}
use Rattle.box_workers.specs.Seen.{BoxTask}
use Rattle.box_workers.specs.Fates.{children_of}
use Rattle.box_workers.specs.Gathered.{below, IsAccount, held_rest_of, record_rest}
use Rattle.box_workers.proofs.Gathered.{Few, IsPart}
use Rattle.box_workers.specs.Records.{children_of_all, children_of_held, held_weight, record_weight}
use Rattle.box_workers.specs.Records.{IsLeafWithState}

pub children_total : (h : List ℕ → ℕ) (p : List ℕ) (c : ℕ) → total h (children_of p c) ≡ kids h p c
children_total h p zero = refl
children_total h p (suc c) = let ih = children_total h p c in
    let s = total_snoc h (children_of p c) (p ++ c ∷ []) in omega arith

pieces_total : (g B : List ℕ → ℕ) (f : List ℕ → List (List ℕ)) (p : List ℕ)
    → ((i : ℕ) → total g (f (child p i)) ≡ B (child p i)) → (i n : ℕ)
    → total g (pieces_from f p i n) + kids B p i ≡ kids B p (i + n)
pieces_total g B f p same i zero = let e : kids B p i ≡ kids B p (i + 0) =
    ap (kids B p) (let z : i ≡ i + 0 = omega arith in z) in omega arith
pieces_total g B f p same i (suc n) =
    let ih = pieces_total g B f p same (i + 1) n in
    let a = total_append g (f (child p i)) (pieces_from f p (i + 1) n) in
    let s = same i in
    let k : kids B p (i + 1) ≡ kids B p i + B (child p i) =
    ap (kids B p) (let z : i + 1 ≡ suc i = omega arith in z) in
    let e : kids B p (i + 1 + n) ≡ kids B p (i + suc n) =
    ap (kids B p) (let z : i + 1 + n ≡ i + suc n = omega arith in z) in
    omega arith

module _ (t : Tree) (listed : IsListed t) (g : List ℕ → ℕ) where
  -- a box and those below its children
  pub below_law : (p : List ℕ) → below t g p ≡ g p + kids (below t g) p (child_count t p)
  below_law p =
      let e = ap (λ (ps : List (List ℕ)). total g ps) (listed.pieces p) in
      let same : (i : ℕ)
      → total g (boxes_from t (36 - (length p + 1)) (child p i)) ≡ below t g (child p i) =
      λ i. ap (λ (n : ℕ). total g (boxes_from t n (child p i))) (let l = length-append p (i ∷ []) in
      let z : 36 - (length p + 1) ≡ 36 - length (child p i) = omega arith in z) in
      let k = pieces_total g (below t g)
      (boxes_from t (36 - (length p + 1))) p same 0 (child_count t p) in
      let z : kids (below t g) p (0 + child_count t p) ≡ kids (below t g) p (child_count t p) =
      ap (kids (below t g) p) (let y : 0 + child_count t p ≡ child_count t p = omega arith in y) in
      omega arith

  pub leaf_law : (p : List ℕ) → child_count t p ≡ 0 → below t g p ≡ g p
  leaf_law p leaf = let b = below_law p in
      let z : kids (below t g) p (child_count t p) ≡ 0 = ap (kids (below t g) p) leaf in omega arith

  settled_total : (leaves : List Leaf) → All (IsLeafWithState t) leaves
      → total (λ (l : Leaf). below t g l.path) leaves ≡ total (λ (l : Leaf). g l.path) leaves
  settled_total [] all = refl
  settled_total (l ∷ leaves) all =
      let ih = settled_total leaves (All-tail (IsLeafWithState t) l leaves all) in
      let e = leaf_law l.path (All-head (IsLeafWithState t) l leaves all).1 in omega arith

  split_total : (ps : List (List ℕ))
      → total (below t g) ps ≡ total g ps + total (below t g) (children_of_all t ps)
  split_total [] = refl
  split_total (p ∷ ps) =
      let ih = split_total ps in
      let b = below_law p in
      let c = children_total (below t g) p (child_count t p) in
      let a = total_append (below t g) (children_of p (child_count t p)) (children_of_all t ps) in
      omega arith

  module _ {E : Type 0} where
    held_total : (o : Option (Held E)) → Few t o
        → held_weight (below t g) o ≡ held_rest_of t g o + total (below t g) (children_of_held o)
    held_total None few = refl
    held_total (Some b) few =
        let law = below_law b.task.path in
        let c = children_total (below t g) b.task.path b.pushed in
        let le = kids_le (below t g) b.task.path b.pushed (child_count t b.task.path) few in
        omega arith

    records_total : (rs : List (Record E)) → All (IsPart t) rs →
        total (λ (r : Record E). record_weight (below t g) r.settled.items r.split.items r.held) rs
        ≡ total (record_rest t g) rs + total (λ (r : Record E).
        total (below t g) (children_of_all t r.split.items ++ children_of_held r.held)) rs
    records_total [] all = refl
    records_total (r ∷ rs) all =
        let ih = records_total rs (All-tail (IsPart t) r rs all) in
        let fits = All-head (IsPart t) r rs all in
        let s = settled_total r.settled.items fits.0 in
        let p = split_total r.split.items in
        let o = held_total r.held fits.1 in
        let a = total_append (below t g) (children_of_all t r.split.items)
        (children_of_held r.held) in
        omega arith

    -- the whole tree is what the records say, and what is below the boxes that are left
    pub whole : (records : List (Record E)) (left : List (BoxTask E)) → All (IsPart t) records
        → IsAccount t records left
        → below t g [] ≡ total (record_rest t g) records
        + total (λ (b : BoxTask E). below t g b.path) left
    whole records left fits account =
        let a = account (below t g) in
        let r = records_total records fits in
        omega arith
