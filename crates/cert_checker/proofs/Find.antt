-- The step that is found by its number.
use Rattle.std.proofs.Common.{◌≡◌, ◌≤◌, ◌<◌, ◌+◌, ◌==◌, ℕ, zero, suc, true, false, List, [], ◌∷◌}
use Rattle.std.proofs.Common.{◌++◌, length, take, Some, None, refl, sym, ap, subst, ◌∙◌, arith}
use Rattle.std.proofs.Common.{⊎_elim}
use Rattle.std.specs.Prelude.{slice_index_or}
use Rattle.std.proofs.lemmas.Bool.{cases_lt, ne_eqb, eq-eqb}
use Rattle.std.proofs.lemmas.List.{length-append, length-take}
use Rattle.facts.specs.declared.fact.Fact.{Fact}
use Rattle.cert_checker.specs.declared.open.Citable.{Citable}
use Rattle.cert_checker.specs.Open.{nowhere, number_at, AreNumbered}
use Rattle.cert_checker.specs.Steps.{step_fact}

-- row i has the number, and none before it has
pub found : (rows : List Citable) (n i : ℕ)
    → i < length rows → number_at rows i ≡ n → ((j : ℕ) → j < i → number_at rows j < n)
    → step_fact rows n ≡ Some (slice_index_or rows i nowhere).fact
found [] n i l e h = absurd (omega arith)
found (r ∷ rows) n zero l e h = let q : (r.number == n) ≡ true = eq-eqb r.number n e in rw q refl
found (r ∷ rows) n (suc i) l e h =
    let q : (r.number == n) ≡ false =
    ne_eqb r.number n (λ d. let z = h zero (omega arith) in absurd (omega (arith, d, z))) in
    rw q (found rows n i (omega arith) e (λ j k. h (suc j) (omega arith)))

pub absent : (rows : List Citable) (n : ℕ) → ((j : ℕ) → j < length rows → ¬ (number_at rows j ≡ n))
    → step_fact rows n ≡ None
absent [] n h = refl
absent (r ∷ rows) n h =
    let q : (r.number == n) ≡ false = ne_eqb r.number n (h zero (omega arith)) in
    rw q (absent rows n (λ j l. h (suc j) (omega arith)))

-- ---- the search
pub found_at : (rows : List Citable) (next n i : ℕ) (f : Fact) → AreNumbered rows next
    → i < length rows → number_at rows i ≡ n → (slice_index_or rows i nowhere).fact ≡ f
    → step_fact rows n ≡ Some f
found_at rows next n i f q l e g =
    found rows n i l e (λ j k. let z = q.rising j i k l in omega (arith, z, e)) ∙ ap Some g

-- all before `low` are below n, and all from `high` on above
pub record Narrows (rows : List Citable) (n low high : ℕ) : Type 0 where
  pub order : low ≤ high
  pub within : high ≤ length rows
  pub below : (i : ℕ) → i < low → number_at rows i < n
  pub above : (i : ℕ) → high ≤ i → i < length rows → n < number_at rows i

pub narrows_all : (rows : List Citable) (n : ℕ) → Narrows rows n 0 (length rows)
narrows_all rows n = record {
  order = omega arith;
  within = omega arith;
  below = λ i l. absurd (omega arith);
  above = λ i l k. absurd (omega arith);
}

pub narrows_up : (rows : List Citable) (next n low high mid : ℕ) → AreNumbered rows next
    → Narrows rows n low high → low ≤ mid → mid < high → number_at rows mid < n
    → Narrows rows n (mid + 1) high
narrows_up rows next n low high mid q w l h b = record {
  order = omega arith;
  within = w.within;
  below = λ i k. ⊎_elim (λ s. let z = q.rising i mid s (let t = w.within in omega (arith, t)) in
      omega (arith, z)) (λ s. let e : i ≡ mid = omega arith in
      subst (λ m. number_at rows m < n) (sym e) b) (cases_lt i mid);
  above = w.above;
}

pub narrows_down : (rows : List Citable) (next n low high mid : ℕ) → AreNumbered rows next
    → Narrows rows n low high → low ≤ mid → mid < high → n < number_at rows mid
    → Narrows rows n low mid
narrows_down rows next n low high mid q w l h b = record {
  order = l;
  within = let t = w.within in omega (arith, t);
  below = w.below;
  above = λ i k t. ⊎_elim (λ s. let z = q.rising mid i s t in omega (arith, z)) (λ s.
      let e : mid ≡ i = omega arith in subst (λ m. n < number_at rows m) e b) (cases_lt mid i);
}

pub narrowed : (rows : List Citable) (n low high : ℕ) → Narrows rows n low high → high ≤ low
    → step_fact rows n ≡ None
narrowed rows n low high w l = absent rows n (λ j k e. ⊎_elim (λ s. let z = w.below j s in
    absurd (omega (arith, z, e))) (λ s. let z = w.above j (let o = w.order in omega (arith, o)) k in
    absurd (omega (arith, z, e))) (cases_lt j low))

-- ---- what is kept
at_front : (xs ys : List Citable) (i : ℕ) → i < length xs
    → slice_index_or (xs ++ ys) i nowhere ≡ slice_index_or xs i nowhere
at_front [] ys i l = absurd (omega arith)
at_front (x ∷ xs) ys zero l = refl
at_front (x ∷ xs) ys (suc i) l = at_front xs ys i (omega arith)

at_last : (xs : List Citable) (y : Citable) (i : ℕ) → i ≡ length xs
    → slice_index_or (xs ++ y ∷ []) i nowhere ≡ y
at_last [] y zero e = refl
at_last [] y (suc i) e = absurd (omega arith)
at_last (x ∷ xs) y zero e = absurd (omega arith)
at_last (x ∷ xs) y (suc i) e = at_last xs y i (omega arith)

pub numbered_push : (rows : List Citable) (next : ℕ) (y : Citable) → y.number ≡ next
    → AreNumbered rows next → AreNumbered (rows ++ y ∷ []) (next + 1)
numbered_push rows next y e q = record {
  rising = λ i j l k. ⊎_elim
      (λ s. let P : Citable → Type 0 =
      λ z. (slice_index_or (rows ++ y ∷ []) i nowhere).number < z.number in
      let Q : Citable → Type 0 = λ z. z.number < number_at rows j in
      subst P (sym (at_front rows (y ∷ []) j s))
      (subst Q (sym (at_front rows (y ∷ []) i (omega arith))) (q.rising i j l s)))
      (λ s. let t : j ≡ length rows = omega (arith, length-append rows (y ∷ [])) in
      let P : Citable → Type 0 =
      λ z. (slice_index_or (rows ++ y ∷ []) i nowhere).number < z.number in
      let Q : Citable → Type 0 = λ z. z.number < y.number in
      subst P (sym (at_last rows y j t)) (subst Q (sym (at_front rows (y ∷ []) i (omega arith)))
      (let z = q.below i (omega arith) in omega (arith, z, e))))
      (cases_lt j (length rows));
  below = λ i k. ⊎_elim
      (λ s. let Q : Citable → Type 0 = λ z. z.number < next + 1 in
      subst Q (sym (at_front rows (y ∷ []) i s)) (let z = q.below i s in omega (arith, z)))
      (λ s. let t : i ≡ length rows = omega (arith, length-append rows (y ∷ [])) in let Q : Citable
      → Type 0 = λ z. z.number < next + 1 in subst Q (sym (at_last rows y i t)) (omega (arith, e)))
      (cases_lt i (length rows));
}

at_take : (n : ℕ) (xs : List Citable) (i : ℕ) → i < length (take n xs)
    → slice_index_or (take n xs) i nowhere ≡ slice_index_or xs i nowhere
at_take zero xs i l = absurd (omega arith)
at_take (suc n) [] i l = absurd (omega arith)
at_take (suc n) (x ∷ xs) zero l = refl
at_take (suc n) (x ∷ xs) (suc i) l = at_take n xs i (omega arith)

pub numbered_take : (rows : List Citable) (next n : ℕ) → AreNumbered rows next
    → AreNumbered (take n rows) next
numbered_take rows next n q = record {
  rising = λ i j l k.
      let P : Citable → Type 0 = λ z. number_at (take n rows) i < z.number in
      let Q : Citable → Type 0 = λ z. z.number < number_at rows j in
      subst P (sym (at_take n rows j k)) (subst Q (sym (at_take n rows i (omega arith)))
      (q.rising i j l (omega (arith, length-take n rows))));
  below = λ i k. let Q : Citable → Type 0 = λ z. z.number < next in
      subst Q (sym (at_take n rows i k)) (q.below i (omega (arith, length-take n rows)));
}

pub default_free : (rows : List Citable) (i : ℕ) (d e : Citable) → i < length rows
    → slice_index_or rows i d ≡ slice_index_or rows i e
default_free [] i d e l = absurd (omega arith)
default_free (r ∷ rows) zero d e l = refl
default_free (r ∷ rows) (suc i) d e l = default_free rows i d e (omega arith)

-- the row that was read
pub row_is : (rows : List Citable) (i : ℕ) (row : Citable) → i < length rows
    → row ≡ slice_index_or rows i row → slice_index_or rows i nowhere ≡ row
row_is rows i row l e = default_free rows i nowhere row l ∙ sym e
