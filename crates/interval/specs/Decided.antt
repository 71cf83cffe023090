-- Values that carry a proof, made where a test finds that it holds.
use Rattle.std.specs.Prelude.{◌≡◌, Bool, true, false, Option, Some, None, refl}
use Rattle.std.proofs.Common.{sym, ◌∙◌, ap}

-- `test` decides P, of which there is one proof at most, and `make` makes a value from what it
-- decides of.
module _ {A : Type 0} {T : Type 0} (P : A → Type 0)
    (prop : (a : A) → IsProp (P a)) (test : A → Bool) (test_in : (a : A) → test a ≡ true → P a)
    (test_out : (a : A) → P a → test a ≡ true) (make : (a : A) → P a → T) where
  abbrev by_test : (a : A) (b : Bool) → test a ≡ b → Option T
  by_test a true e = Some (make a (test_in a e))
  by_test a false e = None

  -- the value made of a; none where P doesn't hold of it
  pub made : A → Option T
  made a = by_test a (test a) refl

  some_by : (a : A) (b : Bool) (e : test a ≡ b) (p : P a) → by_test a b e ≡ Some (make a p)
  some_by a true e p = ap (λ q. Some (make a q)) (prop a (test_in a e) p)
  some_by a false e p = absurd (let g : true ≡ false = sym (test_out a p) ∙ e in cc)

  pub made-some : (a : A) (p : P a) → made a ≡ Some (make a p)
  unfolding made
  made-some a p = some_by a (test a) refl p

  none_by : (a : A) (b : Bool) (e : test a ≡ b) → ¬ P a → by_test a b e ≡ None
  none_by a true e n = absurd (n (test_in a e))
  none_by a false e n = refl

  pub made-none : (a : A) → ¬ P a → made a ≡ None
  unfolding made
  made-none a n = none_by a (test a) refl n

  out_by : (a : A) (b : Bool) (e : test a ≡ b) (t : T) → by_test a b e ≡ Some t
      → (p : P a) × (make a p ≡ t)
  out_by a true e t q = (test_in a e, cc)
  out_by a false e t q = cc

  pub made_out : (a : A) (t : T) → made a ≡ Some t → (p : P a) × (make a p ≡ t)
  unfolding made
  made_out a t q = out_by a (test a) refl t q
