-- Bounds in normal form stay so.
use Rattle.std.specs.Prelude.{Some}
use Rattle.literal_order.specs.declared.written.Written.{Written}
use Rattle.literal_order.specs.Values.{IsWritten}
use Rattle.script_claims.specs.declared.part.Part.{Part}
use Rattle.script_claims.specs.declared.part.Part.TheVariants.{Nothing, Against, In, RelativeIn}
use Rattle.script_claims.specs.declared.part.Part.TheVariants.{AtMost, AtLeast, From, RelativeFrom}
use Rattle.script_claims.specs.declared.part.Part.TheVariants.{Made}
use Rattle.script_claims.specs.Parts.{bounded, IsNormalPart}

pub bounded_normal : (b : Written) (p : Part) → IsWritten (Some b) → IsNormalPart p
    → IsNormalPart (bounded b p)
bounded_normal b Nothing h n = tt
bounded_normal b (Against x) h n = tt
bounded_normal b (In x) h n = h
bounded_normal b (RelativeIn x y) h n = h
bounded_normal b (AtMost x) h n = (tt, h)
bounded_normal b (AtLeast x) h n = (h, tt)
bounded_normal b (From x a) h n = (n, h)
bounded_normal b (RelativeFrom x y a) h n = (n, h)
bounded_normal b (Made c) h n = n
