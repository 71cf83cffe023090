-- Exponents of multiples: kept within their range.
use Rattle.std.specs.Prelude.{◌≡◌, ◌&&◌, not, ℤ, pos, negsuc, ◌≤ℤ◌, ◌+ℤ◌, Bool, true, false, Option}
use Rattle.std.specs.Prelude.{Some, None, if◌then◌else◌, refl}
use Rattle.std.specs.Int.RustNames.{int_lt}
use Rattle.std.proofs.Common.{arith, sym, ap}
use Rattle.std.proofs.lemmas.Int.{ints}
use Rattle.std.proofs.Math.Dec.{T_prop}
use Rattle.interval.specs.Decided.{made, made-some, made-none, made_out}
use Rattle.facts.specs.declared.place.FixPlace.{FixPlace}

-- from -1024 to 512
pub record IsPlace (k : ℤ) : Type 0 where
  pub lowest : negsuc 1023 ≤ℤ k
  pub highest : k ≤ℤ pos 512

abbrev place_test : ℤ → Bool
place_test k = not (int_lt k (negsuc 1023)) && not (int_lt (pos 512) k)

IsPlace-prop : (k : ℤ) → IsProp (IsPlace k)
IsPlace-prop k = hlevel T_prop

not_below : (a b : ℤ) → b ≤ℤ a → int_lt a b ≡ false
not_below a b l = grind (arith, ints)

place_in : (k : ℤ) → place_test k ≡ true → IsPlace k
place_in k e = record { lowest = grind (arith, ints); highest = grind (arith, ints) }

place_out : (k : ℤ) → IsPlace k → place_test k ≡ true
place_out k p = rw (not_below k (negsuc 1023) p.lowest, not_below (pos 512) k p.highest) refl

placed : (k : ℤ) → IsPlace k → FixPlace
placed k p = record { exponent = k; lowest = p.lowest; highest = p.highest }

-- the exponent as that of a multiple; none where it is out of range
pub place_from : ℤ → Option FixPlace
place_from k = made IsPlace IsPlace-prop place_test place_in place_out placed k

pub place_from-some : (k : ℤ) (p : IsPlace k)
    → place_from k ≡ Some (record { exponent = k; lowest = p.lowest; highest = p.highest })
unfolding place_from placed
place_from-some k p = made-some IsPlace IsPlace-prop place_test place_in place_out placed k p

pub place_from-none : (k : ℤ) → ¬ IsPlace k → place_from k ≡ None
unfolding place_from
place_from-none k n = made-none IsPlace IsPlace-prop place_test place_in place_out placed k n

pub place_from_out : (k : ℤ) (p : FixPlace) → place_from k ≡ Some p → p.exponent ≡ k
unfolding place_from placed
place_from_out k p e = sym (ap (λ (q : FixPlace). q.exponent)
    (made_out IsPlace IsPlace-prop place_test place_in place_out placed k p e).1)

pub place_from_self : (p : FixPlace) → Some p ≡ place_from p.exponent
place_from_self p =
    sym (place_from-some p.exponent (record { lowest = p.lowest; highest = p.highest }))

-- the exponent, or 512 where it is above; none below -1024
abbrev pub kept : ℤ → Option FixPlace
kept k = place_from (if int_lt (pos 512) k then pos 512 else k)

-- of which power a product of multiples is one
abbrev pub sum_place : FixPlace → FixPlace → Option FixPlace
sum_place k n = kept (k.exponent +ℤ n.exponent)

-- The lesser of two exponents: what is a multiple of either power of two is one of its power.
abbrev pub lesser_place : FixPlace → FixPlace → FixPlace
lesser_place k n = if int_lt k.exponent n.exponent then k else n
