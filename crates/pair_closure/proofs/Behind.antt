-- Differences behind the script's nodes: which they are, and that they stand in order.
use Rattle.std.specs.Prelude.{◌≡◌, ◌⊎◌, ◌↔◌, ◌<◌, ◌≤◌, ◌+◌, ℕ, List, [], ◌∷◌, ◌++◌, Some, map, take}
use Rattle.std.specs.Prelude.{slice_get, length, refl}
use Rattle.std.specs.Option.{option_map}
use Rattle.std.proofs.Common.{inl, inr, arith, ap, sym, ◌∙◌, subst, length-append, append_assoc}
use Rattle.std.proofs.lemmas.List.{map-append}
use Rattle.std.proofs.lemmas.Option.{slice_get_within, slice_get-map}
use Rattle.std.proofs.lemmas.Bool.{cases_lt}
use Rattle.fx_model.specs.declared.ExprId.{ExprId}
use Rattle.fx_model.specs.declared.Node.{Node}
use Rattle.fx_model.specs.declared.Node.TheVariants.{Var, Lit, Neg, Add, Sub, Mul, Div, Abs, Round}
use Rattle.expr_dag.specs.Nodes.{IsAt, IsAbsent}
use Rattle.pair_closure.specs.Reached.{Has, IsEachOnce, IsListOf}
use Rattle.pair_closure.specs.Reached.IsReached.{begin, lead}
use Rattle.pair_closure.proofs.Members.{some-inj, has_first, has_cases, no_member, has_left}
use Rattle.pair_closure.proofs.Members.{has_right, has_either, kept_left, once_apart}
use Rattle.pair_closure.specs.Closure.{Pair, difference_of, rank, IsKnownPair, IsFollowed, IsTaken}
use Rattle.pair_closure.specs.Closure.{ClosuresAreOne}
use Rattle.pair_closure.specs.Closure.BeginsExpressions.{written, difference}
use Rattle.pair_closure.specs.Closure.LeadsToExpression.{operands, past_left, past_right}
use Rattle.pair_closure.specs.Differences.{IsBehind, sides_of, IsKnownDifference, HasKnownSides}
use Rattle.pair_closure.specs.Grown.{IsGrown}
use Rattle.pair_closure.proofs.Grown.{grown_none, grown_both, grown_same}
use Rattle.pair_closure.proofs.Whole.{same_pair, behind}
use Rattle.pair_closure.proofs.Rising.{one_list}

-- ---- what stands behind
sides_out : (n : Node) (p : Pair) → Has (sides_of n) p → n ≡ Sub p.0 p.1
sides_out (Var k) p h = absurd (no_member p h)
sides_out (Lit l) p h = absurd (no_member p h)
sides_out (Neg y) p h = absurd (no_member p h)
sides_out (Add y z) p h = absurd (no_member p h)
sides_out (Sub y z) p h = elim (has_cases (y, z) [] p h)
    [ inl e ↦ ap difference_of (sym e) | inr n ↦ absurd (no_member p n) ]
sides_out (Mul y z) p h = absurd (no_member p h)
sides_out (Div y z) p h = absurd (no_member p h)
sides_out (Abs y) p h = absurd (no_member p h)
sides_out (Round r y) p h = absurd (no_member p h)

sides_in : (n : Node) (p : Pair) → n ≡ Sub p.0 p.1 → Has (sides_of n) p
sides_in n p e = subst (λ m. Has (sides_of m) p) (sym e) (has_first p [])

module _ (all : List Node) (from : ℕ) where
  pub behind_start : (old : List Pair) → IsGrown old old (IsBehind all from from)
  behind_start old = grown_none old (IsBehind all from from) (λ p h. let l : from ≤ h.0 = h.1 in
      let m : h.0 < from = h.2 in omega arith)

  pub behind_more : (old mid new : List Pair) (i : ℕ) (n : Node)
      → from ≤ i → slice_get all i ≡ Some n → IsGrown old mid (IsBehind all from i)
      → IsGrown mid new (Has (sides_of n)) → IsGrown old new (IsBehind all from (i + 1))
  behind_more old mid new i n after at g h = grown_same old new (λ p. IsBehind all from i p
      ⊎ Has (sides_of n) p) (IsBehind all from (i + 1)) to back
      (grown_both old mid new (IsBehind all from i) (Has (sides_of n)) g h)
    where
      to : (p : Pair) → IsBehind all from i p ⊎ Has (sides_of n) p → IsBehind all from (i + 1) p
      to p (inl b) = (let l : b.0 < i = b.2 in (b.0, b.1, omega arith, b.3))
      to p (inr s) = (i, after, omega arith, at ∙ ap Some (sides_out n p s))

      back : (p : Pair) → IsBehind all from (i + 1) p → IsBehind all from i p ⊎ Has (sides_of n) p
      back p b = elim (cases_lt b.0 i) [
        | inl l ↦ inl (b.0, b.1, l, b.3)
        | inr l ↦ (let m : b.0 < i + 1 = b.2 in let e : b.0 ≡ i = omega arith in inr (sides_in n p
            (some-inj n (Sub p.0 p.1) (sym at ∙ ap (slice_get all) (sym e) ∙ b.3))))
      ]

  pub behind_end : (old new : List Pair) (i : ℕ) → length all ≤ i
      → IsGrown old new (IsBehind all from i) → IsGrown old new (IsBehind all from (length all))
  behind_end old new i e g =
      grown_same old new (IsBehind all from i) (IsBehind all from (length all))
      (λ p b. (b.0, b.1, slice_get_within all b.0 (Sub p.0 p.1) b.3, b.3))
      (λ p b. (let l : b.0 < length all = b.2 in (b.0, b.1, omega arith, b.3))) g

-- ---- one more behind
-- the difference of a pair is none of those of other pairs before it
pub absent_more : (nodes : List Node) (ps : List Pair) (i : ℕ) (p : Pair)
    → IsEachOnce ps → slice_get ps i ≡ Some p → IsAbsent nodes (difference_of p)
    → IsAbsent (nodes ++ map difference_of (take i ps)) (difference_of p)
absent_more nodes ps i p once at absent x h =
    elim (has_either nodes (map difference_of (take i ps)) (difference_of p) (x.0, h)) [
      | inl a ↦ absent (record { 0 = a.0 }) a.1
      | inr b ↦
          let f = behind (take i ps) b.0 (difference_of p) b.1 in
          let same : f.0 ≡ p = same_pair f.0 p (sym f.2) in
          let t = Rattle.pair_closure.proofs.Taken.taken_at ps i b.0 f.0 f.1 in
          let l : b.0 < i = t.0 in
          let e : b.0 ≡ i = once b.0 i p (t.1 ∙ ap Some same) at in
          absurd (omega arith)
    ]

pub front_within : (nodes all more : List Node) → all ≡ nodes ++ more → length nodes ≤ length all
front_within nodes all more e = let l : length all ≡ length (nodes ++ more) = ap length e in
    omega (arith, length-append nodes more, l)

pub put_more : (nodes all new : List Node) (ps : List Pair) (i : ℕ) (p : Pair)
    → take (i + 1) ps ≡ take i ps ++ p ∷ [] → all ≡ nodes ++ map difference_of (take i ps)
    → new ≡ all ++ difference_of p ∷ [] → new ≡ nodes ++ map difference_of (take (i + 1) ps)
put_more nodes all new ps i p t e f =
    f ∙ ap (λ l. l ++ difference_of p ∷ []) e
    ∙ append_assoc nodes (map difference_of (take i ps)) (difference_of p ∷ [])
    ∙ ap (λ l. nodes ++ l) (sym (map-append difference_of (take i ps) (p ∷ []))
    ∙ ap (map difference_of) (sym t))

-- ---- which pairs are collected
pub listed_by : (all : List Node) (from n : ℕ) (old found sorted : List Pair) → old ≡ [] → from ≡ n
    → IsGrown old found (IsBehind all from (length all)) → ((p : Pair) → Has sorted p ↔ Has found p)
    → (p : Pair) → Has sorted p ↔ IsBehind all n (length all) p
listed_by all from n old found sorted e f g s p = (
  λ h. elim (g.only p ((s p).0 h)) [
    | inl a ↦ absurd (no_member p (subst (λ l. Has l p) e a))
    | inr b ↦ subst (λ k. IsBehind all k (length all) p) f b
  ],
  λ b. (s p).1 (g.each p (subst (λ k. IsBehind all k (length all) p) (sym f) b)),
)

pub behind_known : (nodes all : List Node)
    → ((k : ℕ) (n : Node) → length nodes ≤ k → slice_get all k ≡ Some n → IsKnownDifference nodes n)
    → (p : Pair) → IsBehind all (length nodes) (length all) p → IsKnownPair nodes p
behind_known nodes all others p b = let d = others b.0 (difference_of p) b.1 b.3 in
    subst (IsKnownPair nodes) (sym (same_pair p d.0 d.1)) d.2

pub absent_behind : (nodes all : List Node) → ((x : ExprId) (n : Node) → IsAt nodes x n
    → IsAt all x n) → ((x y : ExprId) (n : Node) → IsAt all x n → IsAt all y n → x ≡ y) → (p : Pair)
    → IsBehind all (length nodes) (length all) p → IsAbsent nodes (difference_of p)
absent_behind nodes all begins distinct p b x h =
    let l = slice_get_within nodes x.0 (difference_of p) h in
    let m : length nodes ≤ b.0 = b.1 in
    let e : x.0 ≡ b.0 = ap (λ (z : ExprId). z.0)
    (distinct x (record { 0 = b.0 }) (difference_of p) (begins x (difference_of p) h) b.3) in
    absurd (omega arith)

-- ---- the same members
module _ (nodes all : List Node) (begins : (x : ExprId) (n : Node) → IsAt nodes x n → IsAt all x n)
    (others : (k : ℕ) (n : Node) → length nodes ≤ k → slice_get all k ≡ Some n
    → IsKnownDifference nodes n) (ps : List Pair)
    (listed : (p : Pair) → Has ps p ↔ IsBehind all (length nodes) (length all) p) where
  front : (k : ℕ) (n : Node) → k < length nodes → slice_get all k ≡ Some n → Has nodes n
  front k n l e =
      let d : Node = n in
      let at = Rattle.std.proofs.lemmas.Option.slice_get-get_or nodes k d l in
      let there = begins (record { 0 = k })
      (Rattle.std.specs.Prelude.slice_index_or nodes k d) at in
      (k, at ∙ sym there ∙ e)

  to : (n : Node) → Has nodes n ⊎ Has (map difference_of ps) n → Has all n
  to n (inl h) = (h.0, begins (record { 0 = h.0 }) n h.1)
  to n (inr h) = let f = behind ps h.0 n h.1 in let b = (listed f.0).0 (h.0, f.1) in
      (b.0, b.3 ∙ ap Some (sym f.2))

  mapped : (p : Pair) → Has ps p → Has (map difference_of ps) (difference_of p)
  mapped p h = (h.0, slice_get-map difference_of ps h.0 ∙ ap (option_map difference_of) h.1)

  back : (n : Node) → Has all n → Has (nodes ++ map difference_of ps) n
  back n h = elim (cases_lt h.0 (length nodes)) [
    | inl l ↦ has_left nodes (map difference_of ps) n (front h.0 n l h.1)
    | inr l ↦
        let d = others h.0 n l h.1 in
        has_right nodes (map difference_of ps) n (subst (Has (map difference_of ps)) (sym d.1)
        (mapped d.0 ((listed d.0).1 (h.0, l, slice_get_within all h.0 n h.1, h.1 ∙ ap Some d.1))))
  ]

  pub same_nodes : (n : Node) → Has (nodes ++ map difference_of ps) n ↔ Has all n
  same_nodes n = (λ h. to n (has_either nodes (map difference_of ps) n h), back n)

-- ---- what closing leaves behind the script's nodes
taken_cases : (nodes : List Node) (P : Pair → Type 0) (n : Node) → IsTaken nodes P n
    → Has nodes n ⊎ ((p : Pair) × (n ≡ difference_of p))
taken_cases nodes P n (begin _ (written _ h)) = inl h
taken_cases nodes P n (begin _ (difference a b p)) = inr ((a, b), refl)
taken_cases nodes P n (lead d _ r (operands x y a b m k _ _ _)) = inr ((a, b), refl)
taken_cases nodes P n (lead d _ r (past_left a b c _ _)) = inr ((b, c), refl)
taken_cases nodes P n (lead d _ r (past_right a b c _ _)) = inr ((a, b), refl)

pub others_of : (nodes all : List Node) (P : Pair → Type 0)
    → ((x : ExprId) (n : Node) → IsAt nodes x n → IsAt all x n) → IsListOf (IsTaken nodes P) all
    → ((n : Node) → IsTaken nodes P n → HasKnownSides nodes n)
    → (k : ℕ) (n : Node) → length nodes ≤ k → slice_get all k ≡ Some n → IsKnownDifference nodes n
others_of nodes all P begins list known k n l e =
    let t = list.only n (k, e) in
    elim (taken_cases nodes P n t) [
      | inl h ↦
          let same : h.0 ≡ k = list.once h.0 k n (begins (record { 0 = h.0 }) n h.1) e in
          let w = slice_get_within nodes h.0 n h.1 in
          absurd (omega arith)
      | inr d ↦ (d.0, d.1, known n t (d.0).0 (d.0).1 d.1)
    ]

pub relisted : (nodes all new : List Node) (P : Node → Type 0)
    → ((n : Node) → Has new n ↔ Has all n) → IsListOf P all → IsEachOnce new → IsListOf P new
relisted nodes all new P s l o =
    record { only = λ n h. l.only n ((s n).0 h); each = λ n p. (s n).1 (l.each n p); once = o }

pub begins_by : (nodes all : List Node) → IsFollowed nodes all → (x : ExprId) (n : Node)
    → IsAt nodes x n → IsAt all x n
begins_by nodes all f x n e =
    subst (λ l. IsAt l x n) (sym f.list) (kept_left nodes (map difference_of f.differences) x.0 n e)

-- ---- one closure
followers_in : (nodes all some : List Node) (P : Node → Type 0) (f : IsFollowed nodes all)
    (g : IsFollowed nodes some) → IsListOf P all → IsListOf P some → (p : Pair)
    → Has f.differences p → Has g.differences p
followers_in nodes all some P f g a b p h =
    let m : Has (map difference_of f.differences) (difference_of p) =
    (h.0, slice_get-map difference_of f.differences h.0 ∙ ap (option_map difference_of) h.1) in
    let here : Has all (difference_of p) = subst (λ l. Has l (difference_of p)) (sym f.list)
    (has_right nodes (map difference_of f.differences) (difference_of p) m) in
    let there : Has (nodes ++ map difference_of g.differences) (difference_of p) = subst (λ l. Has l
    (difference_of p)) g.list (b.each (difference_of p) (a.only (difference_of p) here)) in
    elim (has_either nodes (map difference_of g.differences) (difference_of p) there) [
      | inl n ↦ absurd (once_apart nodes (map difference_of f.differences)
          (subst IsEachOnce f.list a.once) (difference_of p) n m)
      | inr n ↦ (let w = behind g.differences n.0 (difference_of p) n.1 in
          (n.0, w.1 ∙ ap Some (sym (same_pair p w.0 w.2))))
    ]

pub closures_are_one : ClosuresAreOne
closures_are_one nodes starts all some found others a b =
    let f = a.order in
    let g = b.order in
    let same : f.differences ≡ g.differences = one_list rank f.differences
    g.differences f.rising g.rising (followers_in nodes all some _ f g a.expressions b.expressions)
    (followers_in nodes some all _ g f b.expressions a.expressions) in (
      f.list ∙ ap (λ ds. nodes ++ map difference_of ds) same ∙ sym g.list,
      one_list rank found others a.rising b.rising (λ p h. (b.pairs).each p ((a.pairs).only p h))
          (λ p h. (a.pairs).each p ((b.pairs).only p h)),
    )
