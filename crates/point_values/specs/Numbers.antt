-- The numbers of an evaluation that have to be below 2^127, place by place.
use Rattle.std.specs.Prelude.{ℕ, ℤ, ◌+◌, List, [], ◌∷◌, ◌++◌, Option, Some, None, if◌then◌else◌}
use Rattle.std.specs.List.{flat_map}
use Rattle.fx_model.specs.Fraction.{Fraction, ◌-ℚ◌, ◌*ℚ◌, ◌/ℚ◌, is_zero_ℚ, one_ℚ}
use Rattle.fx_model.specs.Expression.{literal_value}
use Rattle.fx_model.specs.declared.ExprId.{ExprId}
use Rattle.fx_model.specs.declared.Node.{Node}
use Rattle.fx_model.specs.declared.Node.TheVariants.{Var, Lit, Neg, Add, Sub, Mul, Div, Abs, Round}
use Rattle.literal_order.specs.declared.written.Written.{Written}
use Rattle.literal_order.specs.Values.{written_value}
use Rattle.exact_fractions.specs.Wide.{are_narrow, numbers_of, sum_numbers, difference_numbers}
use Rattle.exact_fractions.specs.Wide.{comparison_numbers, rounding_numbers, multiple_numbers}
use Rattle.facts.specs.declared.hint.HintMark.{HintMark}
use Rattle.facts.specs.declared.hint.HintMark.TheVariants as mark
use Rattle.script_claims.specs.declared.claim.Claim.{Claim}
use Rattle.script_claims.specs.declared.claim.Claim.TheVariants as claim
use Rattle.script_hints.specs.declared.hint.Constraint.{Constraint}
use Rattle.script_hints.specs.declared.hint.Constraint.TheVariants as constraint
use Rattle.script_hints.specs.declared.hint.Hint.{Hint}
use Rattle.point_values.specs.declared.place.Place.{Place}
use Rattle.point_values.specs.Rows.{Row}

-- ---- parts that have no value have no numbers
abbrev pub of_value : (Fraction → List ℤ) → Option Fraction → List ℤ
of_value f None = []
of_value f (Some x) = f x

-- The numbers that a pair of values makes; none where either value is missing.
abbrev pub of_values : (Fraction → Fraction → List ℤ) → Option Fraction → Option Fraction → List ℤ
of_values f None y = []
of_values f (Some x) None = []
of_values f (Some x) (Some y) = f x y

-- ---- entries: both parts and the quotient
abbrev pub entry_numbers : Row → List ℤ
entry_numbers (w, None) = numbers_of (written_value w)
entry_numbers (w, Some l) = numbers_of (written_value w)
    ++ (numbers_of (literal_value l) ++ numbers_of (written_value w /ℚ literal_value l))

-- ---- nodes, from the values of their parts
abbrev pub product_numbers : Fraction → Fraction → List ℤ
product_numbers x y = numbers_of (x *ℚ y)

-- a quotient by 0 has no value
abbrev pub quotient_numbers : Fraction → Fraction → List ℤ
quotient_numbers x y = if is_zero_ℚ y then [] else numbers_of (x /ℚ y)

-- The numbers made for a node's value from those of its parts; a variable, a negative and an
-- absolute value make none.
abbrev pub node_numbers : (ExprId → Option Fraction) → Node → List ℤ
node_numbers v (Var n) = []
node_numbers v (Lit l) = numbers_of (literal_value l)
node_numbers v (Neg x) = []
node_numbers v (Add x y) = of_values sum_numbers (v x) (v y)
node_numbers v (Sub x y) = of_values difference_numbers (v x) (v y)
node_numbers v (Mul x y) = of_values product_numbers (v x) (v y)
node_numbers v (Div x y) = of_values quotient_numbers (v x) (v y)
node_numbers v (Abs x) = []
node_numbers v (Round r x) = of_value (rounding_numbers r.dir r.lsb) (v x)

-- ---- bounds: that of the bound, whether or not there is a value, and of the comparison with it
abbrev pub side_numbers : Written → Option Fraction → List ℤ
side_numbers w o = numbers_of (written_value w)
    ++ of_value (λ x. comparison_numbers x (written_value w)) o

-- The numbers of a bound and of the value's comparison with it; none where no bound is written.
abbrev pub bound_numbers : Option Written → Option Fraction → List ℤ
bound_numbers None o = []
bound_numbers (Some w) o = side_numbers w o

-- ---- claims
-- x / y - 1, where there is one
abbrev pub error_of : Option Fraction → Option Fraction → Option Fraction
error_of None y = None
error_of (Some x) None = None
error_of (Some x) (Some y) = if is_zero_ℚ y then None else Some ((x /ℚ y) -ℚ one_ℚ)

-- of the quotient, and of its difference with 1
abbrev pub difference_with_one : Fraction → Fraction → List ℤ
difference_with_one x y = if is_zero_ℚ y then [] else numbers_of (x /ℚ y)
    ++ difference_numbers (x /ℚ y) one_ℚ

-- The numbers made for x / y - 1; none where a side has no value or y is 0.
abbrev pub error_numbers : Option Fraction → Option Fraction → List ℤ
error_numbers x y = of_values difference_with_one x y

-- both comparisons of two bounds are made
abbrev pub claim_numbers : (ExprId → Option Fraction) → Claim → List ℤ
claim_numbers v (claim.Bounded x lower upper) = bound_numbers lower (v x)
    ++ bound_numbers upper (v x)
claim_numbers v (claim.Asked x) = []
claim_numbers v (claim.Relative x y lower upper) = error_numbers (v x) (v y)
    ++ (bound_numbers (Some lower) (error_of (v x) (v y))
    ++ bound_numbers (Some upper) (error_of (v x) (v y)))
claim_numbers v (claim.RelativeAsked x y) = error_numbers (v x) (v y)
claim_numbers v (claim.Above x w) = side_numbers w (v x)
claim_numbers v (claim.Below x w) = side_numbers w (v x)
claim_numbers v (claim.Multiple x k) = of_value (multiple_numbers k) (v x)

-- ---- hints: each constraint, also those after one that fails. Equality of fractions needs no
-- numbers.
abbrev pub constraint_numbers : (ExprId → Option Fraction) → Constraint → List ℤ
constraint_numbers v (constraint.NotZero x) = []
constraint_numbers v (constraint.Below x w strict) = side_numbers w (v x)
constraint_numbers v (constraint.Above x w strict) = side_numbers w (v x)

-- The numbers of all constraints of a hint, also of those after one that fails; comparing its two
-- sides needs none.
abbrev pub hint_numbers : (ExprId → Option Fraction) → Hint → List ℤ
hint_numbers v h = flat_map (constraint_numbers v) h.constraints

-- a hint that is checked isn't judged
unfoldable pub marked_numbers : (ExprId → Option Fraction) → Hint × HintMark → List ℤ
marked_numbers v (h, mark.Checked) = []
marked_numbers v (h, mark.Assumed) = hint_numbers v h

-- ---- places
-- The first of these, counted from k, that has a number which isn't below 2^127.
abbrev pub wide_from : {A : Type 0} → (ℕ → Place) → (A → List ℤ) → ℕ → List A → Option Place
wide_from place f k [] = None
wide_from place f k (x ∷ xs) = if are_narrow (f x) then wide_from place f (k + 1) xs else Some
    (place k)

-- the place, or else the other
abbrev pub or_else : Option Place → Option Place → Option Place
or_else None q = q
or_else (Some p) q = Some p
