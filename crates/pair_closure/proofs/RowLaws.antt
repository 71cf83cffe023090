-- What the second sides of a first side are, and that none stands twice.
use Rattle.std.specs.Prelude.{◌≡◌, ◌↔◌, Bool, true, false, if◌then◌else◌, List, [], ◌∷◌, refl}
use Rattle.std.proofs.Common.{inl, inr, ap, sym, subst}
use Rattle.fx_model.specs.declared.ExprId.{ExprId}
use Rattle.pair_closure.specs.Reached.{Has, IsEachOnce}
use Rattle.pair_closure.proofs.Members.{no_member, has_first, has_rest, has_cases, once_nil}
use Rattle.pair_closure.proofs.Members.{once_cons, once_tail, once_front}
use Rattle.pair_closure.proofs.Ids.{same_ids, self_same}
use Rattle.pair_closure.specs.Closure.{Pair, is_same}
use Rattle.pair_closure.specs.Rows.{seconds}

pair_is : (p : Pair) (a b : ExprId) → p.0 ≡ a → b ≡ p.1 → (a, b) ≡ p
pair_is p a b e f = (λ i. (sym e i, f i))

out_by : (p : Pair) (ps : List Pair) (a b : ExprId) (c : Bool)
    → is_same p.0 a ≡ c → (Has (seconds ps a) b → Has ps (a, b))
    → Has (if c then (p.1 ∷ seconds ps a) else seconds ps a) b → Has (p ∷ ps) (a, b)
out_by p ps a b true e later h = elim (has_cases p.1 (seconds ps a) b h) [
  | inl f ↦ subst (Has (p ∷ ps)) (sym (pair_is p a b (same_ids p.0 a e) f)) (has_first p ps)
  | inr r ↦ has_rest p ps (a, b) (later r)
]
out_by p ps a b false e later h = has_rest p ps (a, b) (later h)

pub seconds_out : (ps : List Pair) (a b : ExprId) → Has (seconds ps a) b → Has ps (a, b)
seconds_out [] a b h = absurd (no_member b h)
seconds_out (p ∷ ps) a b h = out_by p ps a b (is_same p.0 a) refl (seconds_out ps a b) h

skip : (c : Bool) (y : ExprId) (l : List ExprId) (b : ExprId) → Has l b
    → Has (if c then (y ∷ l) else l) b
skip true y l b h = has_rest y l b h
skip false y l b h = h

pub seconds_in : (ps : List Pair) (a b : ExprId) → Has ps (a, b) → Has (seconds ps a) b
seconds_in [] a b h = absurd (no_member (a, b) h)
seconds_in (p ∷ ps) a b h = elim (has_cases p ps (a, b) h) [
  | inl e ↦
      let first : a ≡ p.0 = ap (λ (q : Pair). q.0) e in
      let second : b ≡ p.1 = ap (λ (q : Pair). q.1) e in
      let here : Has (if is_same a a then (b ∷ seconds ps a) else seconds ps a) b =
      subst (λ c. Has (if c then (b ∷ seconds ps a) else seconds ps a) b) (sym (self_same a))
      (has_first b (seconds ps a)) in
      subst (λ (q : Pair). Has (if is_same q.0 a then (q.1 ∷ seconds ps a)
      else seconds ps a) b) e here
  | inr r ↦ skip (is_same p.0 a) p.1 (seconds ps a) b (seconds_in ps a b r)
]

pub seconds_has : (ps : List Pair) (a b : ExprId) → Has (seconds ps a) b ↔ Has ps (a, b)
seconds_has ps a b = (seconds_out ps a b, seconds_in ps a b)

once_by : (p : Pair) (ps : List Pair) (a : ExprId) (c : Bool)
    → is_same p.0 a ≡ c → IsEachOnce (p ∷ ps) → IsEachOnce (seconds ps a)
    → IsEachOnce (if c then (p.1 ∷ seconds ps a) else seconds ps a)
once_by p ps a true e o l = once_cons p.1 (seconds ps a) (λ m. once_front p ps o
    (subst (Has ps) (pair_is p a p.1 (same_ids p.0 a e) refl) (seconds_out ps a p.1 m))) l
once_by p ps a false e o l = l

pub seconds_once : (ps : List Pair) (a : ExprId) → IsEachOnce ps → IsEachOnce (seconds ps a)
seconds_once [] a o = once_nil
seconds_once (p ∷ ps) a o =
    once_by p ps a (is_same p.0 a) refl o (seconds_once ps a (once_tail p ps o))
