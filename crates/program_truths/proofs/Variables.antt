-- The value of a variable, by its name.
use Rattle.std.proofs.Common.{◌≡◌, ◌+◌, ◌||◌, not, cond, ℕ, suc, List, [], ◌∷◌, ◌++◌, map, Bool}
use Rattle.std.proofs.Common.{true, false, refl, sym, ap, ◌∙◌, arith, slice_index_or, if◌then◌else◌}
use Rattle.std.specs.List.{list_any, position_or_len}
use Rattle.std.specs.Str.{bytes_eq}
use Rattle.std.proofs.lemmas.Slice.Eq.{bytes_eq-Decides}
use Rattle.fx_model.specs.Fraction.{Fraction, zero_ℚ}
use Rattle.script_nodes.specs.Known.{Name, variables_with}

abbrev at : List Fraction → ℕ → Fraction
at l i = slice_index_or l i zero_ℚ

at_next : (x : Fraction) (l : List Fraction) (n : ℕ) → at (x ∷ l) (1 + n) ≡ at l n
at_next x l n = ap (at (x ∷ l)) (one_more n)
  where
    one_more : (n : ℕ) → 1 + n ≡ suc n
    one_more n = omega arith

module _ (f : Name → Fraction) (t : Name) (more : List Name) where
  same_rest : (u : Name) (us : List Name) (c : Bool)
      → map f ((if c then u ∷ us else (u ∷ us) ++ (t ∷ [])) ++ more)
      ≡ f u ∷ map f ((if c then us else us ++ (t ∷ [])) ++ more)
  same_rest u us true = refl
  same_rest u us false = refl

  by_first : (u : Name) (us : List Name) (b : Bool) → bytes_eq t u ≡ b
      → at (map f (variables_with us t ++ more)) (position_or_len (bytes_eq t) us) ≡ f t
      → at (map f ((if b || list_any (bytes_eq t) us then u ∷ us else (u ∷ us) ++ (t ∷ []))
      ++ more)) (cond (not b) (1 + position_or_len (bytes_eq t) us) 0) ≡ f t
  by_first u us true e r = ap f (sym ((bytes_eq-Decides t u).0 e))
  by_first u us false e r =
      ap (λ l. at l (1 + position_or_len (bytes_eq t) us))
      (same_rest u us (list_any (bytes_eq t) us))
      ∙ at_next (f u) (map f (variables_with us t ++ more)) (position_or_len (bytes_eq t) us) ∙ r

  -- A variable that was put stands where its name does, whatever follows.
  pub variable_value : (names : List Name) → at (map f (variables_with names t ++ more))
      (position_or_len (bytes_eq t) names) ≡ f t
  variable_value [] = refl
  variable_value (u ∷ us) = by_first u us (bytes_eq t u) refl (variable_value us)
