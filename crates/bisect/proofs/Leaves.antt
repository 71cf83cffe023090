-- Each assignment lies in some leaf, and the gathered lines hold of it.
use Rattle.std.specs.Prelude.{◌≡◌, ◌<◌, ◌≤◌, ◌+◌, ◌++◌, ◌∷◌, [], ℕ, zero, suc, List, length, map}
use Rattle.std.specs.Prelude.{Option, Some, None, refl, slice_get}
use Rattle.std.specs.List.{AllByRecursion}
use Rattle.std.proofs.Common.{sym, ◌∙◌, ap, subst, inl, inr, arith, length-append}
use Rattle.fx_model.specs.Expression.{Assignment}
use Rattle.fx_model.specs.declared.Node.{Node}
use Rattle.facts.specs.declared.fact.Fact.{Fact}
use Rattle.facts.specs.declared.fact.Slot.{Slot}
use Rattle.facts.specs.Holds.{Holds}
use Rattle.facts.specs.Order.{slot_of}
use Rattle.goals.specs.declared.line.Line.{Line}
use Rattle.goals.specs.declared.line.Line.TheVariants as line
use Rattle.goals.specs.Holds.{LineHolds, IsOfGoal, LineHoldsFirst, LineHoldsOn}
use Rattle.bisect.specs.declared.settler.State.{State}
use Rattle.bisect.specs.declared.settler.State.TheVariants as state
use Rattle.bisect.specs.declared.outcome.Leaf.{Leaf}
use Rattle.bisect.specs.Trees.{Tree, child_count, IsBox, IsLeaf}
use Rattle.bisect.proofs.Trees.{IsShallow}
use Rattle.bisect.specs.Boxes.{AreBoxes, first_open, leaves_of, leaf_at, with_leaf, open_goal}
use Rattle.bisect.specs.Boxes.{or_later}
use Rattle.bisect.specs.Gathered.{with_known, with_state, line_with, line_of, IsTrueState}
use Rattle.bisect.proofs.Keeping.{leaves_keep}
use Rattle.bisect.proofs.Paths.{root_path, child_path}
use Rattle.bisect.proofs.Listings.{Has, from_contains}

-- ---- some leaf
at_nat : (n : ℕ) (P : ℕ → Type 0) → (n ≡ 0 → P zero) → ((m : ℕ) → n ≡ suc m → P (suc m)) → P n
at_nat zero P z s = z refl
at_nat (suc m) P z s = s m refl

module _ (t : Tree) (In : List ℕ → Type 0) (s : IsShallow t) (step : (p : List ℕ) → In p
    → 0 < child_count t p → (i : ℕ) × (i < child_count t p) × In (p ++ i ∷ [])) where
  find_leaf : (f : ℕ) (p : List ℕ) → 36 ≤ f + length p → IsBox t p → In p
      → (q : List ℕ) × IsLeaf t q × In q
  find_leaf zero p d b h = (p, (b, s p (omega (arith, d))), h)
  find_leaf (suc f) p d b h = at_nat (child_count t p) (λ _. (q : List ℕ) × IsLeaf t q × In q)
      (λ e. (p, (b, e), h))
      (λ m e. let c = step p h (omega (arith, e)) in
      find_leaf f (p ++ c.0 ∷ []) (omega (arith, d, length-append p (c.0 ∷ [])))
      (child_path (child_count t) p c.0 b c.1) c.2)

  pub some_leaf : In [] → (q : List ℕ) × IsLeaf t q × In q
  some_leaf h = find_leaf 36 [] (omega arith) (root_path (child_count t)) h

-- ---- no leaf is open
pub not_open : (t : Tree) (ps : List (List ℕ)) (p : List ℕ) (g : ℕ) → Has ps p → child_count t p ≡ 0
    → t.state_at p ≡ state.Open g → ¬ (first_open t ps ≡ None)
not_open t [] p g h z e n = absurd h
not_open t (q ∷ ps) p g (inl same) z e n =
    let o : open_goal (child_count t q) (t.state_at q) ≡ Some g = rw same (rw (z, e) refl) in
    let k : or_later q (Some g) (first_open t ps) ≡ None =
    ap (λ (x : Option ℕ). or_later q x (first_open t ps)) (sym o) ∙ n in
    cc
not_open t (q ∷ ps) p g (inr h) z e n = not_open t ps p g h z e
    (later q (open_goal (child_count t q) (t.state_at q)) (first_open t ps) n)
  where
    later : (q : List ℕ) (o : Option ℕ) (rest : Option (List ℕ × ℕ))
        → or_later q o rest ≡ None → rest ≡ None
    later q None rest n = n
    later q (Some g) rest n = cc

-- ---- lines
module _ (first : LineHoldsFirst) (more : LineHoldsOn) (nodes : List Node) (a : Assignment)
    (s : Slot) (k : ℕ) where
  -- the fact of one leaf
  fact_of : (x : State) (facts : List Fact) (f : Fact) (l : Line) → x ≡ state.Settled facts
      → slice_get facts k ≡ Some f → IsOfGoal f → slot_of f ≡ s → Holds nodes a f
      → LineHolds nodes a s (with_state k l x)
  fact_of x facts f l e g i w h =
      let P : State → Type 0 = λ y. LineHolds nodes a s (with_state k l y) in
      let Q : Option Fact → Type 0 = λ o. LineHolds nodes a s (with_known l o) in
      subst P (sym e) (subst Q (sym g) (first nodes a s l f i w h))

  with_first : (t : Tree) (n : ℕ) (p : List ℕ) (l : Line) (xs : List Leaf)
      → n ≡ 0 → LineHolds nodes a s (with_state k l (t.state_at p))
      → LineHolds nodes a s (line_with k l (with_leaf n (leaf_at t p) xs))
  with_first t n p l xs z h = let P : ℕ
      → Type 0 = λ m. LineHolds nodes a s (line_with k l (with_leaf m (leaf_at t p) xs)) in
      subst P (sym z) (leaves_keep more nodes a s k (with_state k l (t.state_at p)) xs h)

  with_later : (t : Tree) (n : ℕ) (p : List ℕ) (l : Line) (xs : List Leaf)
      → ((m : Line) → LineHolds nodes a s (line_with k m xs))
      → LineHolds nodes a s (line_with k l (with_leaf n (leaf_at t p) xs))
  with_later t zero p l xs h = h (with_state k l (t.state_at p))
  with_later t (suc n) p l xs h = h l

  gathered : (t : Tree) (ps : List (List ℕ)) (p : List ℕ) (facts : List Fact) (f : Fact) → Has ps p
      → child_count t p ≡ 0 → t.state_at p ≡ state.Settled facts → slice_get facts k ≡ Some f
      → IsOfGoal f → slot_of f ≡ s → Holds nodes a f → (l : Line)
      → LineHolds nodes a s (line_with k l (leaves_of t ps))
  gathered t [] p facts f m z e g i w h l = absurd m
  gathered t (q ∷ ps) p facts f (inl same) z e g i w h l =
      with_first t (child_count t q) q l (leaves_of t ps) (ap (child_count t) same ∙ z)
      (fact_of (t.state_at q) facts f l (ap t.state_at same ∙ e) g i w h)
  gathered t (q ∷ ps) p facts f (inr m) z e g i w h l =
      with_later t (child_count t q) q l (leaves_of t ps) (gathered t ps p facts f m z e g i w h)

-- the fact in a goal's place
fact_at : (P Q : Fact → Type 0) (facts : List Fact) (slots : List Slot) (k : ℕ) (s : Slot)
    → map slot_of facts ≡ slots → AllByRecursion P facts → AllByRecursion Q facts
    → slice_get slots k ≡ Some s
    → (f : Fact) × (slice_get facts k ≡ Some f) × P f × (slot_of f ≡ s) × Q f
fact_at P Q [] [] k s e p q g = cc
fact_at P Q [] (x ∷ xs) k s e p q g = cc
fact_at P Q (f ∷ fs) [] k s e p q g = cc
fact_at P Q (f ∷ fs) (x ∷ xs) zero s e p q g = let u : slot_of f ≡ x = cc in let v : x ≡ s = cc in
    (f, refl, p.0, u ∙ v, q.0)
fact_at P Q (f ∷ fs) (x ∷ xs) (suc k) s e p q g = let u : map slot_of fs ≡ xs = cc in
    fact_at P Q fs xs k s u p.1 q.1 g

pub line_holds : (first : LineHoldsFirst) (more : LineHoldsOn) (nodes : List Node) (a : Assignment)
    (slots : List Slot) (t : Tree) (ps : List (List ℕ)) (p : List ℕ)
    → AreBoxes t ps → IsLeaf t p → first_open t ps ≡ None → (x : State) → t.state_at p ≡ x
    → IsTrueState (Holds nodes a) slots x
    → (k : ℕ) (s : Slot) → slice_get slots k ≡ Some s
    → LineHolds nodes a s (line_of (leaves_of t ps) k)
line_holds first more nodes a slots t ps p b leaf none (state.Settled facts) e h k s g =
    let m = from_contains ps p (b.all p leaf.0) in
    let f = fact_at IsOfGoal (Holds nodes a) facts slots k s h.0 h.1 h.2 g in
    gathered first more nodes a s k t ps p facts f.0 m leaf.1 e f.1 f.2 f.3 f.4 line.Empty
line_holds first more nodes a slots t ps p b leaf none state.Void e h k s g = absurd h
line_holds first more nodes a slots t ps p b leaf none (state.Open goal) e h k s g =
    absurd (not_open t ps p goal (from_contains ps p (b.all p leaf.0)) leaf.1 e none)
