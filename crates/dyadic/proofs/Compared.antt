-- Laws of what specs/Compared defines.
use Rattle.std.specs.Prelude.{◌≡◌, Bool, true, false, cond, refl}
use Rattle.std.proofs.Common.{sym, ◌∙◌}
use Rattle.std.specs.declared.cmp.Ordering.{Ordering}
use Rattle.std.specs.declared.cmp.Ordering.TheVariants.{Less, Equal, Greater}
use Rattle.std.specs.Ordering.{is_le, is_lt}
use Rattle.fx_model.specs.Fraction.{le_ℚ, ◌≤ℚ◌, ◌<ℚ◌, le_antisymm, lt_le}
use Rattle.fx_model.specs.Grid.{le_bound}
use Rattle.fx_model.specs.Enclosure.{BoundLe}
use Rattle.dyadic.specs.declared.number.Dyadic.{Dyadic}
use Rattle.dyadic.specs.declared.number.End.{End}
use Rattle.dyadic.specs.Values.{value_of}
use Rattle.dyadic.specs.Ends.{bound_of}
use Rattle.dyadic.specs.Order.{value_cmp, end_cmp, less_out, equal_out}
use Rattle.dyadic.specs.Compared.{BoundLe_in, BoundLe_out}

-- ---- from `a <= b`, `a.cmp(&b)` and `a == b` to the values, and back
le_test : (s t : Bool) → is_le (cond s (cond t Equal Less) Greater) ≡ s
le_test true true = refl
le_test true false = refl
le_test false t = refl

pub value_cmp-le : (a b : Dyadic) → is_le (value_cmp a b) ≡ true → value_of a ≤ℚ value_of b
value_cmp-le a b e = record {
  le = sym (le_test (le_ℚ (value_of a) (value_of b)) (le_ℚ (value_of b) (value_of a))) ∙ e;
}

pub le-value_cmp : (a b : Dyadic) → value_of a ≤ℚ value_of b → is_le (value_cmp a b) ≡ true
le-value_cmp a b l =
    le_test (le_ℚ (value_of a) (value_of b)) (le_ℚ (value_of b) (value_of a)) ∙ l.le

less_test : (r : Ordering) → is_lt r ≡ true → r ≡ Less
less_test Less e = refl
less_test Equal e = cc
less_test Greater e = cc

pub value_cmp-less : (a b : Dyadic) → value_cmp a b ≡ Less → value_of a <ℚ value_of b
value_cmp-less a b e =
    record { lt = (less_out (le_ℚ (value_of a) (value_of b)) (le_ℚ (value_of b) (value_of a)) e).1 }

pub value_cmp-lt : (a b : Dyadic) → is_lt (value_cmp a b) ≡ true → value_of a <ℚ value_of b
value_cmp-lt a b e = value_cmp-less a b (less_test (value_cmp a b) e)

pub lt-value_cmp : (a b : Dyadic) → value_of a <ℚ value_of b → is_lt (value_cmp a b) ≡ true
lt-value_cmp a b l =
    let h : value_of a ≤ℚ value_of b = lt_le (value_of a) (value_of b) l in rw (h.le, l.lt)

pub value_cmp-equal : (a b : Dyadic) → value_cmp a b ≡ Equal → value_of a ≡ value_of b
value_cmp-equal a b e =
    let p = equal_out (le_ℚ (value_of a) (value_of b)) (le_ℚ (value_of b) (value_of a)) e in
    le_antisymm (value_of a) (value_of b) (record { le = p.0 }) (record { le = p.1 })

pub end_cmp-le : (a b : End) → is_le (end_cmp a b) ≡ true → BoundLe (bound_of a) (bound_of b)
end_cmp-le a b e = BoundLe_in (bound_of a) (bound_of b)
    (sym (le_test (le_bound (bound_of a) (bound_of b)) (le_bound (bound_of b) (bound_of a))) ∙ e)

pub le-end_cmp : (a b : End) → BoundLe (bound_of a) (bound_of b) → is_le (end_cmp a b) ≡ true
le-end_cmp a b l = le_test (le_bound (bound_of a) (bound_of b)) (le_bound (bound_of b) (bound_of a))
    ∙ BoundLe_out (bound_of a) (bound_of b) l
