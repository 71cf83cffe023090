-- What follows the digits of a literal begins with none.
use Rattle.std.proofs.Common.{◌≡◌, List, [], ◌∷◌, ◌++◌, ℕ, Option, Some, None, Bool, true, false}
use Rattle.std.proofs.Common.{lit≤}
use Rattle.literal.specs.declared.scan.Form.{Form}
use Rattle.literal.specs.declared.scan.Form.TheVariants.{Decimal, Binary, Hexadecimal}
use Rattle.literal.specs.Spelling.{Exponent, base, is_hexadecimal, point_bytes, scale_bytes}
use Rattle.literal.specs.Parts.{IsNoDigitFirst}

pub tail_ends : (h : Bool) (f : Form) (p : List ℕ) (e : Option Exponent) → is_hexadecimal f ≡ h
    → IsNoDigitFirst (base h) (point_bytes p ++ scale_bytes f e)
tail_ends true f (d ∷ p) e k = lit≤ tt
tail_ends false f (d ∷ p) e k = lit≤ tt
tail_ends h f [] None k = tt
tail_ends true Decimal [] (Some e) k = cc
tail_ends true Binary [] (Some e) k = cc
tail_ends true Hexadecimal [] (Some e) k = lit≤ tt
tail_ends false Decimal [] (Some e) k = lit≤ tt
tail_ends false Binary [] (Some e) k = lit≤ tt
tail_ends false Hexadecimal [] (Some e) k = cc

pub scale_ends : (h : Bool) (f : Form) (e : Option Exponent) → is_hexadecimal f ≡ h
    → IsNoDigitFirst (base h) (scale_bytes f e)
scale_ends h f e k = tail_ends h f [] e k
