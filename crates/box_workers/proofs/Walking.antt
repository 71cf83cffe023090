-- Walks over what is left.
use Rattle.std.proofs.Common.{◌≡◌, ℕ, zero, suc, ◌+◌, ◌-◌, List, [], ◌∷◌, ◌++◌, length, All, sym}
use Rattle.std.proofs.Common.{refl, ap, ◌∙◌, subst, arith}
use Rattle.std.proofs.lemmas.List.Elements.{All-cons, All-nil, All-append}
use Rattle.bisect.specs.Trees.{Tree, child_count}
use Rattle.bisect.specs.Boxes.{leaf_at, with_leaf, leaves_of}
use Rattle.bisect.specs.Walks.{Seen, after, boxes_from}
use Rattle.bisect.specs.declared.outcome.Leaf.{Leaf}
use Rattle.accounts.specs.Weights.{total}
use Rattle.accounts.proofs.SumsLaws.{total_append}
use Rattle.box_workers.specs.Gathered.{below, leaf_only, Went, nothing}
use Rattle.box_workers.specs.Records.{IsLeafWithState}
use Rattle.box_workers.proofs.Order.{leaves_total}

pub went_trans : (t : Tree) (a b c : ℕ) (k l m : List Leaf) (x y z : (List ℕ → ℕ) → ℕ)
    → Went t a k b l x y → Went t b l c m y z → Went t a k c m x z
went_trans t a b c k l m x y z p q = record {
  count = p.count ∙ q.count;
  weigh = (λ h. p.weigh h ∙ q.weigh h);
  are = (λ s. q.are (p.are s));
}

-- with more that is left alone
pub went_frame : (t : Tree) (a b : ℕ) (k l : List Leaf) (x y f : (List ℕ → ℕ) → ℕ)
    → Went t a k b l x y → Went t a k b l (λ g. f g + x g) (λ g. f g + y g)
went_frame t a b k l x y f p = record {
  count = (let c = p.count in omega arith);
  weigh = (λ h. let w = p.weigh h in omega arith);
  are = p.are;
}

pub went_as : (t : Tree) (a b : ℕ) (k l : List Leaf) (x y x' y' : (List ℕ → ℕ) → ℕ)
    → ((g : List ℕ → ℕ) → x g ≡ x' g) → ((g : List ℕ → ℕ) → y g ≡ y' g)
    → Went t a k b l x y → Went t a k b l x' y'
went_as t a b k l x y x' y' e f p = record {
  count = (let c = p.count in let u = e (λ _. 1) in let v = f (λ _. 1) in omega arith);
  weigh = (λ h. let w = p.weigh h in let u = e (leaf_only t h) in
      let v = f (leaf_only t h) in omega arith);
  are = p.are;
}

pub total_ones : {X : Type 0} (xs : List X) → total (λ (x : X). 1) xs ≡ length xs
total_ones [] = refl
total_ones (x ∷ xs) = let ih = total_ones xs in omega arith

with_leaf_states : (t : Tree) (n : ℕ) (p : List ℕ) (later : List Leaf) → child_count t p ≡ n
    → All (IsLeafWithState t) later → All (IsLeafWithState t) (with_leaf n (leaf_at t p) later)
with_leaf_states t zero p later e all =
    All-cons (IsLeafWithState t) (leaf_at t p) later (refl, e) all
with_leaf_states t (suc n) p later e all = all

leaves_states : (t : Tree) (ps : List (List ℕ)) → All (IsLeafWithState t) (leaves_of t ps)
leaves_states t [] = All-nil (IsLeafWithState t)
leaves_states t (p ∷ ps) =
    with_leaf_states t (child_count t p) p (leaves_of t ps) refl (leaves_states t ps)

-- a walk over the box and those below it
pub visited : (t : Tree) (p : List ℕ) (old new : Seen) →
    (after t old (boxes_from t (36 - length p) p)).boxes
    ≡ old.boxes + length (boxes_from t (36 - length p) p)
    → (after t old (boxes_from t (36 - length p) p)).leaves
    ≡ old.leaves ++ leaves_of t (boxes_from t (36 - length p) p)
    → new ≡ after t old (boxes_from t (36 - length p) p)
    → Went t old.boxes old.leaves new.boxes new.leaves (λ g. below t g p) nothing
visited t p old new boxes leaves e =
    let b = ap (λ (s : Seen). s.boxes) e ∙ boxes in
    let l = ap (λ (s : Seen). s.leaves) e ∙ leaves in
    record {
      count = (let n = total_ones (boxes_from t (36 - length p) p) in omega arith);
      weigh = (λ h.
          let a = total_append (λ (l : Leaf). h l.path) old.leaves
          (leaves_of t (boxes_from t (36 - length p) p)) in
          let s = leaves_total t h (boxes_from t (36 - length p) p) in
          let z = ap (λ (ls : List Leaf). total (λ (l : Leaf). h l.path) ls) l in
          omega arith);
      are = (λ all. subst (All (IsLeafWithState t)) (sym l)
          (All-append (IsLeafWithState t) old.leaves (leaves_of t (boxes_from t (36 - length p) p))
          all (leaves_states t (boxes_from t (36 - length p) p))));
    }
