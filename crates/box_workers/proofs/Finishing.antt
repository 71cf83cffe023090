-- The steps by which the caller finishes.
use Rattle.std.proofs.Common.{◌≡◌, ℕ, suc, ◌+◌, ◌<◌, ◌≤◌, Bool, inl, inr, cond, List, [], ◌∷◌, ◌++◌}
use Rattle.std.proofs.Common.{length, All, Option, Some, MatchOption, sym, refl, ap, ◌∙◌, subst}
use Rattle.std.proofs.Common.{arith, eq-eqb}
use Rattle.std.proofs.lemmas.List.Elements.{All-head, All-tail, All-cons, All-nil, All-append}
use Rattle.std.proofs.lemmas.Bool.Decides.{eqb_tells}
use Rattle.box_tree.specs.Pieces.{piece_count}
use Rattle.bisect.specs.Trees.{Tree, child_count}
use Rattle.bisect.proofs.Trees.{all_pieces}
use Rattle.bisect.specs.Walks.{IsListed}
use Rattle.bisect.specs.declared.outcome.Leaf.{Leaf}
use Rattle.accounts.specs.Weights.{total, kids}
use Rattle.accounts.proofs.SumsLaws.{total_append, total_snoc, kids_le}
use Rattle.box_workers.specs.declared.fate.Held.{Held}
use Rattle.box_workers.proofs.Whole.{below_law}
use Rattle.box_workers.specs.Gathered.{below, leaf_only, Went, nothing, left_rest, children_rest}
use Rattle.box_workers.specs.Gathered.{held_rest, record_rest, records_rest}
use Rattle.box_workers.specs.declared.record.Record.{Record}
use Rattle.box_workers.specs.Records.{IsLeafWithState}
use Rattle.box_workers.specs.Seen.{BoxTask}
use Rattle.box_workers.proofs.Walking.{went_trans, went_frame, went_as, total_ones}

-- after one more of several parts
part : (t : Tree) (a b c : ℕ) (k l m : List Leaf) (whole rest more less : (List ℕ → ℕ) → ℕ)
    → ((g : List ℕ → ℕ) → rest g ≡ less g + more g) → Went t a k b l whole rest
    → Went t b l c m more nothing → Went t a k c m whole less
part t a b c k l m whole rest more less split p q =
    went_trans t a b c k l m whole rest less p
    (went_as t b c l m (λ g. less g + more g) (λ g. less g + nothing g) rest less
    (λ g. sym (split g)) (λ g. let z : less g + 0 ≡ less g = omega arith in
    z) (went_frame t b c l m more nothing less q))

-- where a part has too many boxes, so has the whole
too_many : (t : Tree) (a b limit limit' : ℕ) (k l : List Leaf)
    (whole rest more less : (List ℕ → ℕ) → ℕ) → ((g : List ℕ → ℕ) → rest g ≡ less g + more g)
    → Went t a k b l whole rest
    → limit ≡ limit' → limit < b + more (λ _. 1) → limit' < a + whole (λ _. 1)
too_many t a b limit limit' k l whole rest more less split p e over = let c = p.count in
    let s = split (λ _. 1) in omega arith

module _ {E : Type 0} (t : Tree) where
  left_split : (old new : List (BoxTask E)) (task : BoxTask E) → old ≡ new ++ task ∷ []
      → (g : List ℕ → ℕ) → left_rest t old g ≡ left_rest t new g + below t g task.path
  left_split old new task e g =
      let s = total_snoc (λ (b : BoxTask E). below t g b.path) new task in
      let z : left_rest t old g ≡ left_rest t (new ++ task ∷ []) g =
      ap (λ (bs : List (BoxTask E)). left_rest t bs g) e in omega arith

  pub left_step : (a b c : ℕ) (k l m : List Leaf) (first old new : List (BoxTask E))
      (task : BoxTask E) → old ≡ new ++ task ∷ []
      → Went t a k b l (left_rest t first) (left_rest t old)
      → Went t b l c m (λ g. below t g task.path) nothing
      → Went t a k c m (left_rest t first) (left_rest t new)
  left_step a b c k l m first old new task e p q = part t a b c k l m (left_rest t first)
      (left_rest t old) (λ g. below t g task.path) (left_rest t new) (left_split old new task e) p q

  pub left_over : (a b limit limit' : ℕ) (k l : List Leaf) (first old new : List (BoxTask E))
      (task : BoxTask E) → old ≡ new ++ task ∷ []
      → Went t a k b l (left_rest t first) (left_rest t old) → limit ≡ limit'
      → limit < b + below t (λ _. 1) task.path → limit' < a + left_rest t first (λ _. 1)
  left_over a b limit limit' k l first old new task e p same over =
      too_many t a b limit limit' k l (left_rest t first) (left_rest t old)
      (λ g. below t g task.path) (left_rest t new) (left_split old new task e) p same over

module _ (t : Tree) (path q : List ℕ) (first i count : ℕ) (is : q ≡ path ++ i ∷ [])
    (more : i < count) where
  child_split : (g : List ℕ → ℕ)
      → children_rest t path i count g ≡ children_rest t path (i + 1) count g + below t g q
  child_split g =
      let k : kids (below t g) path (i + 1) ≡ kids (below t g) path i + below t g (path ++ i ∷ []) =
      ap (kids (below t g) path) (let z : i + 1 ≡ suc i = omega arith in z) in
      let e : below t g q ≡ below t g (path ++ i ∷ []) = ap (below t g) is in
      let le = kids_le (below t g) path (i + 1) count (omega arith) in omega arith

  pub child_step : (a b c : ℕ) (k l m : List Leaf)
      → Went t a k b l (children_rest t path first count) (children_rest t path i count)
      → Went t b l c m (λ g. below t g q) nothing
      → Went t a k c m (children_rest t path first count) (children_rest t path (i + 1) count)
  child_step a b c k l m p v =
      part t a b c k l m (children_rest t path first count) (children_rest t path i count)
      (λ g. below t g q) (children_rest t path (i + 1) count) child_split p v

  pub child_over : (a b limit limit' : ℕ) (k l : List Leaf)
      → Went t a k b l (children_rest t path first count) (children_rest t path i count)
      → limit ≡ limit' → limit < b + below t (λ _. 1) q
      → limit' < a + children_rest t path first count (λ _. 1)
  child_over a b limit limit' k l p same over = too_many t a b limit limit' k l
      (children_rest t path first count) (children_rest t path i count) (λ g. below t g q)
      (children_rest t path (i + 1) count) child_split p same over

all_front : {X : Type 0} (P : X → Type 0) (xs : List X) (x : X) → All P (xs ++ x ∷ []) → All P xs
all_front P [] x all = All-nil P
all_front P (y ∷ xs) x all = All-cons P y xs (All-head P y (xs ++ x ∷ []) all)
    (all_front P xs x (All-tail P y (xs ++ x ∷ []) all))

all_last : {X : Type 0} (P : X → Type 0) (xs : List X) (x : X) → All P (xs ++ x ∷ []) → P x
all_last P [] x all = All-head P x [] all
all_last P (y ∷ xs) x all = all_last P xs x (All-tail P y (xs ++ x ∷ []) all)

pub front_fits : {X : Type 0} (P : X → Type 0) (old new : List X) (x : X)
    → old ≡ new ++ x ∷ [] → All P old → All P new
front_fits P old new x e all = all_front P new x (subst (All P) e all)

pub last_fits : {X : Type 0} (P : X → Type 0) (old new : List X) (x : X)
    → old ≡ new ++ x ∷ [] → All P old → P x
last_fits P old new x e all = all_last P new x (subst (All P) e all)

-- a published box that is held
module _ {E : Type 0} (t : Tree) (listed : IsListed t) (b : Held E)
    (path : List ℕ) (n : ℕ) (is : path ≡ b.task.path) (inner : 0 < child_count t b.task.path)
    (pieces : n ≡ piece_count (t.cut_at path)) (few : b.pushed ≤ child_count t b.task.path) where
  held_split : (g : List ℕ → ℕ)
      → held_rest t g b ≡ children_rest t path b.pushed n g + g b.task.path
  held_split g =
      let law = below_law t listed g b.task.path in
      let c : n ≡ child_count t b.task.path = pieces ∙ ap (λ (p : List ℕ). piece_count (t.cut_at p))
      is ∙ sym (all_pieces (t.cut_at b.task.path) (t.state_at b.task.path) inner) in
      let k : kids (below t g) path n ≡ kids (below t g) b.task.path (child_count t b.task.path) =
      ap (λ (p : List ℕ). kids (below t g) p n) is ∙ ap (kids (below t g) b.task.path) c in
      let f : kids (below t g) path b.pushed ≡ kids (below t g) b.task.path b.pushed =
      ap (λ (p : List ℕ). kids (below t g) p b.pushed) is in
      let le = kids_le (below t g) b.task.path b.pushed (child_count t b.task.path) few in
      omega arith

  no_leaf : (h : List ℕ → ℕ) → leaf_only t h b.task.path ≡ 0
  no_leaf h = elim (eqb_tells (child_count t b.task.path) 0) [
    | inl same ↦ absurd (let s = same.1 in omega arith)
    | inr other ↦ ap (λ (r : Bool). cond {A = ℕ} r (h b.task.path) 0) other.0
  ]

  pub held_step : (a c d : ℕ) (l m : List Leaf)
      → c ≡ a + 1 → Went t c l d m (children_rest t path b.pushed n) nothing
      → Went t a l d m (λ g. held_rest t g b) nothing
  held_step a c d l m one w =
      went_trans t a c d l l m (λ g. held_rest t g b)
      (children_rest t path b.pushed n) nothing (record {
        count = (let s = held_split (λ _. 1) in omega arith);
        weigh = (λ h. let s = held_split (leaf_only t h) in let z = no_leaf h in omega arith);
        are = (λ s. s);
      }) w

  pub held_over : (a c limit : ℕ) → c ≡ a + 1 → limit < c + children_rest t path b.pushed n (λ _. 1)
      → limit < a + held_rest t (λ _. 1) b
  held_over a c limit one over = let s = held_split (λ _. 1) in omega arith

pub held_more : {E : Type 0} (t : Tree) (listed : IsListed t) (b : Held E)
    → 0 < child_count t b.task.path → b.pushed ≤ child_count t b.task.path → (a limit : ℕ)
    → a ≡ limit → limit < a + held_rest t (λ _. 1) b
held_more t listed b inner few a limit same =
    let law = below_law t listed (λ _. 1) b.task.path in
    let le = kids_le (below t (λ _. 1)) b.task.path b.pushed (child_count t b.task.path) few in
    omega arith

pub published : {X : Type 0} (o : Option X) (s : X) (P : Type 0) (Q : X → Type 0) → o ≡ Some s
    → MatchOption o P Q → Q s
published o s P Q e m = let F : Option _ → Type 0 = λ z. MatchOption z P Q in subst F e m

-- the boxes of a record
module _ (t : Tree) (a b : ℕ) (l m settled : List Leaf) (split : List (List ℕ))
    (leaves : All (IsLeafWithState t) settled) (inner : All (λ p. 0 < child_count t p) split) where
  leaf_weights : (h : List ℕ → ℕ) (xs : List Leaf) → All (IsLeafWithState t) xs
      → total (λ (x : Leaf). leaf_only t h x.path) xs ≡ total (λ (x : Leaf). h x.path) xs
  leaf_weights h [] all = refl
  leaf_weights h (x ∷ xs) all =
      let ih = leaf_weights h xs (All-tail (IsLeafWithState t) x xs all) in
      let e : leaf_only t h x.path ≡ h x.path = ap (λ (r : Bool). cond {A = ℕ} r (h x.path) 0)
      (eq-eqb (child_count t x.path) 0 (All-head (IsLeafWithState t) x xs all).1) in omega arith

  inner_weights : (h : List ℕ → ℕ) (ps : List (List ℕ)) → All (λ p. 0 < child_count t p) ps
      → total (leaf_only t h) ps ≡ 0
  inner_weights h [] all = refl
  inner_weights h (p ∷ ps) all =
      let ih = inner_weights h ps (All-tail (λ (p : List ℕ). 0 < child_count t p) p ps all) in
      let more = All-head (λ (p : List ℕ). 0 < child_count t p) p ps all in
      elim (eqb_tells (child_count t p) 0) [
        | inl same ↦ absurd (let s = same.1 in omega arith)
        | inr other ↦ let z : leaf_only t h p ≡ 0 =
            ap (λ (r : Bool). cond {A = ℕ} r (h p) 0) other.0 in omega arith
      ]

  pub record_seen : b ≡ a + (length settled + length split) → m ≡ l ++ settled
      → Went t a l b m (λ g. total (λ (x : Leaf). g x.path) settled + total g split) nothing
  record_seen count are = record {
    count = (let s = total_ones settled in let p = total_ones split in omega arith);
    weigh = (λ h.
        let s = leaf_weights h settled leaves in let p = inner_weights h split inner in
        let e = ap (λ (ls : List Leaf). total (λ (x : Leaf). h x.path) ls) are in
        let c = total_append (λ (x : Leaf). h x.path) l settled in omega arith);
    are = (λ all. subst (All (IsLeafWithState t)) (sym are)
        (All-append (IsLeafWithState t) l settled all leaves));
  }

-- two walks, one after the other
pub both : (t : Tree) (a b c : ℕ) (k l m : List Leaf) (x y : (List ℕ → ℕ) → ℕ)
    → Went t a k b l x nothing → Went t b l c m y nothing → Went t a k c m (λ g. x g + y g) nothing
both t a b c k l m x y p q =
    went_trans t a b c k l m (λ g. x g + y g) y nothing
    (went_as t a b k l (λ g. y g + x g)
    (λ g. y g + nothing g) (λ g. x g + y g) y (λ g. let z : y g + x g ≡ x g + y g = omega arith in
    z) (λ g. let z : y g + 0 ≡ y g = omega arith in z) (went_frame t a b k l x nothing y p)) q

pub both_over : (t : Tree) (a b limit limit' : ℕ) (k l : List Leaf) (x : (List ℕ → ℕ) → ℕ) (y : ℕ)
    → Went t a k b l x nothing → limit ≡ limit' → limit < b + y → limit' < a + (x (λ _. 1) + y)
both_over t a b limit limit' k l x y p e over = let c = p.count in omega arith

module _ {E : Type 0} (t : Tree) where
  records_split : (old new : List (Record E)) (r : Record E) → old ≡ new ++ r ∷ []
      → (g : List ℕ → ℕ) → records_rest t old g ≡ records_rest t new g + record_rest t g r
  records_split old new r e g =
      let s = total_snoc (record_rest t g) new r in
      let z : records_rest t old g ≡ records_rest t (new ++ r ∷ []) g =
      ap (λ (bs : List (Record E)). records_rest t bs g) e in omega arith

  pub record_step : (a b c : ℕ) (k l m : List Leaf) (first old new : List (Record E)) (r : Record E)
      → old ≡ new ++ r ∷ []
      → Went t a k b l (records_rest t first) (records_rest t old)
      → Went t b l c m (λ g. record_rest t g r) nothing
      → Went t a k c m (records_rest t first) (records_rest t new)
  record_step a b c k l m first old new r e p q =
      part t a b c k l m (records_rest t first) (records_rest t old) (λ g. record_rest t g r)
      (records_rest t new) (records_split old new r e) p q

  pub record_over : (a b limit limit' : ℕ) (k l : List Leaf) (first old new : List (Record E))
      (r : Record E) → old ≡ new ++ r ∷ []
      → Went t a k b l (records_rest t first) (records_rest t old) → limit ≡ limit'
      → limit < b + record_rest t (λ _. 1) r → limit' < a + records_rest t first (λ _. 1)
  record_over a b limit limit' k l first old new r e p same over =
      too_many t a b limit limit' k l (records_rest t first) (records_rest t old)
      (λ g. record_rest t g r) (records_rest t new) (records_split old new r e) p same over
