-- An assignment that meets a script meets each of its rewritings.
use Rattle.std.specs.Prelude.{◌≡◌, List, [], ◌∷◌, length}
use Rattle.std.specs.List.{AllByRecursion}
use Rattle.std.proofs.Common.{⊎_elim, subst}
use Rattle.fx_model.specs.Fraction.{Fraction, ◌≤ℚ◌, le_refl, le_antisymm, lt_not, le_or_lt}
use Rattle.fx_model.specs.Expression.{Assignment, IsOrdered}
use Rattle.fx_model.specs.declared.Node.{Node}
use Rattle.poly_normal.specs.Mark.{EqualFormsHaveEqualValues}
use Rattle.script_hints.specs.declared.hint.Hint.{Hint}
use Rattle.script_hints.specs.Meets.{MeetsHint, MetSidesAreEqual}
use Rattle.script_grammar.specs.Names.{HintIsOf}
use Rattle.script_meets.specs.Meets.{IsAssumed, HasEqualSides, HintsAreMet, NeedsGiveEqualSides}

-- numbers that can't be different are equal
never_apart : (x y : Fraction) → ¬ (¬ (x ≡ y)) → x ≡ y
never_apart x y n = ⊎_elim
    (λ l. ⊎_elim (λ k. le_antisymm x y l k)
    (λ k. absurd (n (λ e. lt_not x y k (subst (λ z. z ≤ℚ x) e (le_refl x))))) (le_or_lt y x))
    (λ l. absurd (n (λ e. lt_not y x l (subst (λ z. x ≤ℚ z) e (le_refl x)))))
    (le_or_lt x y)

module _ (same_values : EqualFormsHaveEqualValues) (nodes : List Node)
    (ordered : IsOrdered nodes) (a : Assignment) where
  one_met : (h : Hint) → HintIsOf (length nodes) h
      → (IsAssumed nodes h → MeetsHint nodes a h) → MeetsHint nodes a h
  one_met h of assumed holds l r p q =
      never_apart l r (λ apart. apart (assumed (λ same. apart (same_values nodes h.left h.right
      ordered of.sides.0 of.sides.1 same.1 a l r p q)) holds l r p q))

  all_met : (hs : List Hint) → AllByRecursion (HintIsOf (length nodes)) hs
      → AllByRecursion (λ h. IsAssumed nodes h → MeetsHint nodes a h) hs
      → AllByRecursion (MeetsHint nodes a) hs
  all_met [] of assumed = tt
  all_met (h ∷ hs) of assumed = (one_met h of.0 assumed.0, all_met hs of.1 assumed.1)

  all_equal : MetSidesAreEqual → (hs : List Hint) → AllByRecursion (MeetsHint nodes a) hs
      → AllByRecursion (HasEqualSides nodes a) hs
  all_equal equal [] met = tt
  all_equal equal (h ∷ hs) met = (equal nodes a h met.0, all_equal equal hs met.1)

pub hints_are_met : EqualFormsHaveEqualValues → HintsAreMet
hints_are_met same a s ordered names meets =
    all_met same s.nodes ordered a s.hints.rewrites names.hints.rewrites meets.assumed

pub needs_give_equal_sides : EqualFormsHaveEqualValues → MetSidesAreEqual → NeedsGiveEqualSides
needs_give_equal_sides same equal a s ordered names meets = all_equal same s.nodes ordered a equal
    s.hints.rewrites (hints_are_met same a s ordered names meets)
