-- Where two agree on the values of expressions, they agree on claims and hints over these.
use Rattle.std.specs.Prelude.{◌≡◌, ◌&&◌, ◌||◌, ◌++◌, ◌+◌, ◌<◌, not, codes, ℕ, ℤ, List, [], ◌∷◌}
use Rattle.std.specs.Prelude.{Bool, true, Option, Some, if◌then◌else◌, refl}
use Rattle.std.specs.Fmt.{decimal}
use Rattle.std.specs.List.{AllByRecursion, list_all, list_any, flat_map}
use Rattle.std.proofs.Common.{ap, ◌∙◌}
use Rattle.fx_model.specs.Fraction.{Fraction, is_zero_ℚ}
use Rattle.fx_model.specs.declared.ExprId.{ExprId}
use Rattle.exact_fractions.specs.Wide.{are_narrow, multiple_numbers}
use Rattle.facts.specs.declared.hint.HintMark.{HintMark}
use Rattle.facts.specs.declared.hint.HintMark.TheVariants as mark
use Rattle.facts.proofs.CommonParts.{all_as}
use Rattle.script_claims.specs.declared.claim.Claim.{Claim}
use Rattle.script_claims.specs.declared.claim.Claim.TheVariants as claim
use Rattle.script_hints.specs.declared.hint.Constraint.{Constraint}
use Rattle.script_hints.specs.declared.hint.Constraint.TheVariants as constraint
use Rattle.script_hints.specs.declared.hint.Hint.{Hint}
use Rattle.point_values.specs.Numbers.{of_value, side_numbers, bound_numbers, error_of}
use Rattle.point_values.specs.Numbers.{error_numbers, claim_numbers, constraint_numbers}
use Rattle.point_values.specs.Numbers.{hint_numbers, marked_numbers, wide_from, or_else}
use Rattle.point_values.specs.Truth.{with_value, is_below, is_above, lies_within, are_zero}
use Rattle.point_values.specs.Truth.{is_multiple, claim_holds, constraint_holds, agree, hint_holds}
use Rattle.point_values.specs.Truth.{marked_holds}
use Rattle.point_values.specs.Text.{Bytes, value_text, relative_text, goal_text, is_asked}
use Rattle.point_values.specs.Text.{truth_text, goal_truth, hypothesis_line, goal_line, hint_line}
use Rattle.point_values.specs.Text.{point_line, lines_from}
use Rattle.point_values.specs.Evaluation.{pairs, meets_with, lines_with, wide_with}
use Rattle.point_values.specs.Among.{AreAmong}
use Rattle.point_values.proofs.CaseClaims.{has_cases}
use Rattle.point_values.specs.Within.{ClaimIsWithin, ConstraintIsWithin, HintIsWithin, AreWithin}
use Rattle.point_values.specs.declared.place.Place.{Place}
use Rattle.point_values.specs.declared.place.Place.TheVariants as place

-- ---- lists
same_wide : {A : Type 0} (p : ℕ → Place) (f g : A → List ℤ) (k : ℕ) (xs : List A)
    → AllByRecursion (λ x. f x ≡ g x) xs → wide_from p f k xs ≡ wide_from p g k xs
same_wide p f g k [] h = refl
same_wide p f g k (x ∷ xs) h =
    ap (λ zs. if are_narrow zs then wide_from p f (k + 1) xs else Some (p k)) h.0
    ∙ ap (λ o. if are_narrow (g x) then o else Some (p k)) (same_wide p f g (k + 1) xs h.1)

same_lines : {A : Type 0} (f g : ℕ → A → Bytes) (k : ℕ) (xs : List A)
    → AllByRecursion (λ x. (k : ℕ) → f k x ≡ g k x) xs → lines_from f k xs ≡ lines_from g k xs
same_lines f g k [] h = refl
same_lines f g k (x ∷ xs) h = ap (λ b. b ++ lines_from f (k + 1) xs) (h.0 k)
    ∙ ap (λ b. g k x ++ b) (same_lines f g (k + 1) xs h.1)

same_all : {A : Type 0} (f g : A → Bool) (xs : List A) → AllByRecursion (λ x. f x ≡ g x) xs
    → list_all f xs ≡ list_all g xs
same_all f g [] h = refl
same_all f g (x ∷ xs) h = ap (λ b. b && list_all f xs) h.0
    ∙ ap (λ b. g x && b) (same_all f g xs h.1)

same_numbers : {A : Type 0} (f g : A → List ℤ) (xs : List A) → AllByRecursion (λ x. f x ≡ g x) xs
    → flat_map f xs ≡ flat_map g xs
same_numbers f g [] h = refl
same_numbers f g (x ∷ xs) h = ap (λ zs. zs ++ flat_map f xs) h.0
    ∙ ap (λ zs. g x ++ zs) (same_numbers f g xs h.1)

each_pair : (P : Hint → Type 0) (Q : Hint × HintMark → Type 0)
    → ((h : Hint) (m : HintMark) → P h → Q (h, m)) → (hs : List Hint) (ms : List HintMark)
    → AllByRecursion P hs → AllByRecursion Q (pairs hs ms)
each_pair P Q f [] ms h = tt
each_pair P Q f (x ∷ xs) [] h = tt
each_pair P Q f (x ∷ xs) (m ∷ ms) h = (f x m h.0, each_pair P Q f xs ms h.1)

module _ (v w : ExprId → Option Fraction) (n : ℕ) (e : (x : ExprId) → x.0 < n → v x ≡ w x) where
  -- ---- claims
  claim_same : (c : Claim) → ClaimIsWithin n c → claim_numbers v c ≡ claim_numbers w c
  claim_same (claim.Bounded x l u) h = ap (λ o. bound_numbers l o ++ bound_numbers u o) (e x h)
  claim_same (claim.Asked x) h = refl
  claim_same (claim.Relative x y l u) h = both (e x h.0) (e y h.1)
    where
      both : {a b c d : Option Fraction} → a ≡ b → c ≡ d
          → (error_numbers a c
          ++ (bound_numbers (Some l) (error_of a c) ++ bound_numbers (Some u) (error_of a c)))
          ≡ (error_numbers b d
          ++ (bound_numbers (Some l) (error_of b d) ++ bound_numbers (Some u) (error_of b d)))
      both p q = cc
  claim_same (claim.RelativeAsked x y) h = ap (λ o. error_numbers o (v y)) (e x h.0)
      ∙ ap (error_numbers (w x)) (e y h.1)
  claim_same (claim.Above x b) h = ap (side_numbers b) (e x h)
  claim_same (claim.Below x b) h = ap (side_numbers b) (e x h)
  claim_same (claim.Multiple x k) h = ap (of_value (multiple_numbers k)) (e x h)

  holds_same : (c : Claim) → ClaimIsWithin n c → claim_holds v c ≡ claim_holds w c
  holds_same (claim.Bounded x l u) h = ap (lies_within l u) (e x h)
  holds_same (claim.Asked x) h = refl
  holds_same (claim.Relative x y l u) h = both (e x h.0) (e y h.1)
    where
      both : {a b c d : Option Fraction} → a ≡ b → c ≡ d
          → (are_zero a c || lies_within (Some l) (Some u) (error_of a c))
          ≡ (are_zero b d || lies_within (Some l) (Some u) (error_of b d))
      both p q = cc
  holds_same (claim.RelativeAsked x y) h = refl
  holds_same (claim.Above x b) h = ap (with_value (is_above b true)) (e x h)
  holds_same (claim.Below x b) h = ap (with_value (is_below b true)) (e x h)
  holds_same (claim.Multiple x k) h = ap (with_value (is_multiple k)) (e x h)

  text_same : (c : Claim) → ClaimIsWithin n c → goal_text v c ≡ goal_text w c
  text_same (claim.Bounded x l u) h = ap value_text (e x h)
  text_same (claim.Asked x) h = ap value_text (e x h)
  text_same (claim.Relative x y l u) h = ap (λ o. relative_text o (v y)) (e x h.0)
      ∙ ap (relative_text (w x)) (e y h.1)
  text_same (claim.RelativeAsked x y) h = ap (λ o. relative_text o (v y)) (e x h.0)
      ∙ ap (relative_text (w x)) (e y h.1)
  text_same (claim.Above x b) h = ap value_text (e x h)
  text_same (claim.Below x b) h = ap value_text (e x h)
  text_same (claim.Multiple x k) h = ap value_text (e x h)

  hypothesis_same : (c : Claim) → ClaimIsWithin n c → (k : ℕ) → hypothesis_line v k c
      ≡ hypothesis_line w k c
  unfolding hypothesis_line
  hypothesis_same c h k =
      ap (λ t. codes "hypothesis " ++ decimal (k + 1) ++ codes ": " ++ truth_text t ++ codes "\n")
      (holds_same c h)

  goal_same : (c : Claim) → ClaimIsWithin n c → (k : ℕ) → goal_line v k c ≡ goal_line w k c
  unfolding goal_line
  goal_same c h k = ap (λ t. codes "goal " ++ decimal (k + 1) ++ codes ": " ++ t ++ goal_truth v c
      ++ codes "\n") (text_same c h)
      ∙ ap (λ t. codes "goal " ++ decimal (k + 1) ++ codes ": " ++ goal_text w c
      ++ (if is_asked c then [] else codes ", " ++ truth_text t) ++ codes "\n") (holds_same c h)

  -- ---- hints
  constraint_same : (c : Constraint) → ConstraintIsWithin n c → constraint_numbers v c
      ≡ constraint_numbers w c
  constraint_same (constraint.NotZero x) h = refl
  constraint_same (constraint.Below x b strict) h = ap (side_numbers b) (e x h)
  constraint_same (constraint.Above x b strict) h = ap (side_numbers b) (e x h)

  constraint_holds_same : (c : Constraint) → ConstraintIsWithin n c → constraint_holds v c
      ≡ constraint_holds w c
  constraint_holds_same (constraint.NotZero x) h = ap (with_value (λ r. not (is_zero_ℚ r))) (e x h)
  constraint_holds_same (constraint.Below x b strict) h =
      ap (with_value (is_below b strict)) (e x h)
  constraint_holds_same (constraint.Above x b strict) h =
      ap (with_value (is_above b strict)) (e x h)

  hint_same : (h : Hint) → HintIsWithin n h → hint_numbers v h ≡ hint_numbers w h
  hint_same h i = same_numbers (constraint_numbers v) (constraint_numbers w) h.constraints
      (all_as (ConstraintIsWithin n) (λ c. constraint_numbers v c ≡ constraint_numbers w c)
      constraint_same h.constraints i.constraints)

  hint_holds_same : (h : Hint) → HintIsWithin n h → hint_holds v h ≡ hint_holds w h
  hint_holds_same h i =
      ap (λ b. not b || agree (v h.left) (v h.right))
      (same_all (constraint_holds v) (constraint_holds w) h.constraints
      (all_as (ConstraintIsWithin n) (λ c. constraint_holds v c ≡ constraint_holds w c)
      constraint_holds_same h.constraints i.constraints))
      ∙ ap (λ o. not (list_all (constraint_holds w) h.constraints) || agree o (v h.right))
      (e h.left i.left) ∙ ap (λ o. not (list_all (constraint_holds w) h.constraints)
      || agree (w h.left) o) (e h.right i.right)

  marked_same : (h : Hint) (m : HintMark) → HintIsWithin n h → marked_numbers v (h, m)
      ≡ marked_numbers w (h, m)
  unfolding marked_numbers
  marked_same h mark.Checked i = refl
  marked_same h mark.Assumed i = hint_same h i

  marked_holds_same : (h : Hint) (m : HintMark) → HintIsWithin n h → marked_holds v (h, m)
      ≡ marked_holds w (h, m)
  unfolding marked_holds
  marked_holds_same h mark.Checked i = refl
  marked_holds_same h mark.Assumed i = hint_holds_same h i

  hint_line_same : (h : Hint) (m : HintMark) → HintIsWithin n h → (k : ℕ) → hint_line v k (h, m)
      ≡ hint_line w k (h, m)
  unfolding hint_line
  hint_line_same h mark.Checked i k = refl
  hint_line_same h mark.Assumed i k =
      ap (λ t. codes "hint " ++ decimal (k + 1) ++ codes ": " ++ truth_text t ++ codes "\n")
      (hint_holds_same h i)

  -- ---- all of them
  all_same : (cs : List Claim) → AllByRecursion (ClaimIsWithin n) cs → list_all (claim_holds v) cs
      ≡ list_all (claim_holds w) cs
  all_same cs i =
      same_all (claim_holds v) (claim_holds w) cs
      (all_as (ClaimIsWithin n) (λ c. claim_holds v c ≡ claim_holds w c) holds_same cs i)

  cases_same : (cases : List (List Claim)) → AllByRecursion (AllByRecursion (ClaimIsWithin n)) cases
      → list_any (list_all (claim_holds v)) cases ≡ list_any (list_all (claim_holds w)) cases
  cases_same [] i = refl
  cases_same (c ∷ cases) i = ap (λ b. b || list_any (list_all (claim_holds v)) cases)
      (all_same c i.0) ∙ ap (λ b. list_all (claim_holds w) c || b) (cases_same cases i.1)

  pub meets_same : (cs : List Claim) (cases : List (List Claim)) (gs : List Claim) (hs : List Hint)
      (ms : List HintMark) → AreWithin n cs gs hs → AreAmong cs cases
      → meets_with v cases (pairs hs ms) ≡ meets_with w cases (pairs hs ms)
  meets_same cs cases gs hs ms i m = ap (λ b. b && list_all (marked_holds v) (pairs hs ms))
      (cases_same cases (has_cases (ClaimIsWithin n) cs cases i.hypotheses m))
      ∙ ap (λ b. list_any (list_all (claim_holds w)) cases && b)
      (same_all (marked_holds v) (marked_holds w) (pairs hs ms)
      (each_pair (HintIsWithin n) (λ p. marked_holds v p ≡ marked_holds w p) marked_holds_same
      hs ms i.hints))

  pub lines_same : (cs : List Claim) (cases : List (List Claim)) (gs : List Claim) (hs : List Hint)
      (ms : List HintMark) → AreWithin n cs gs hs → AreAmong cs cases
      → lines_with v cs cases gs (pairs hs ms) ≡ lines_with w cs cases gs (pairs hs ms)
  lines_same cs cases gs hs ms i m =
      ap (λ b. b
      ++ (lines_from (goal_line v) 0 gs
      ++ (lines_from (hint_line v) 0 (pairs hs ms)
      ++ point_line (meets_with v cases (pairs hs ms)))))
      (same_lines (hypothesis_line v) (hypothesis_line w) 0 cs
      (all_as (ClaimIsWithin n) (λ c. (k : ℕ) → hypothesis_line v k c ≡ hypothesis_line w k c)
      hypothesis_same cs i.hypotheses))
      ∙ ap (λ b. lines_from (hypothesis_line w) 0 cs
      ++ (b ++ (lines_from (hint_line v) 0 (pairs hs ms)
      ++ point_line (meets_with v cases (pairs hs ms)))))
      (same_lines (goal_line v) (goal_line w) 0 gs (all_as (ClaimIsWithin n) (λ c. (k : ℕ)
      → goal_line v k c ≡ goal_line w k c) goal_same gs i.goals))
      ∙ ap (λ b. lines_from (hypothesis_line w) 0 cs
      ++ (lines_from (goal_line w) 0 gs
      ++ (b ++ point_line (meets_with v cases (pairs hs ms)))))
      (same_lines (hint_line v) (hint_line w) 0 (pairs hs ms)
      (each_pair (HintIsWithin n) (λ p. (k : ℕ) → hint_line v k p ≡ hint_line w k p)
      hint_line_same hs ms i.hints))
      ∙ ap (λ b. lines_from (hypothesis_line w) 0 cs
      ++ (lines_from (goal_line w) 0 gs
      ++ (lines_from (hint_line w) 0 (pairs hs ms) ++ point_line b)))
      (meets_same cs cases gs hs ms i m)

  pub wide_same : (cs gs : List Claim) (hs : List Hint) (ms : List HintMark) → AreWithin n cs gs hs
      → wide_with v cs gs (pairs hs ms) ≡ wide_with w cs gs (pairs hs ms)
  wide_same cs gs hs ms i =
      ap (λ o. or_else o (or_else (wide_from place.Goal (claim_numbers v) 0 gs)
      (wide_from place.Hint (marked_numbers v) 0 (pairs hs ms))))
      (same_wide place.Hypothesis (claim_numbers v) (claim_numbers w) 0 cs
      (all_as (ClaimIsWithin n) (λ c. claim_numbers v c ≡ claim_numbers w c) claim_same cs
      i.hypotheses))
      ∙ ap (λ o. or_else (wide_from place.Hypothesis (claim_numbers w) 0 cs)
      (or_else o (wide_from place.Hint (marked_numbers v) 0 (pairs hs ms))))
      (same_wide place.Goal (claim_numbers v) (claim_numbers w) 0 gs
      (all_as (ClaimIsWithin n) (λ c. claim_numbers v c ≡ claim_numbers w c) claim_same gs
      i.goals))
      ∙ ap (λ o. or_else (wide_from place.Hypothesis (claim_numbers w) 0 cs)
      (or_else (wide_from place.Goal (claim_numbers w) 0 gs) o))
      (same_wide place.Hint (marked_numbers v) (marked_numbers w) 0 (pairs hs ms)
      (each_pair (HintIsWithin n) (λ p. marked_numbers v p ≡ marked_numbers w p) marked_same hs
      ms i.hints))
