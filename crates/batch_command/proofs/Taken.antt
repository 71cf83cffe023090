-- The texts of names, read one after the other.
use Rattle.std.specs.Prelude.{◌≡◌, ◌<◌, ◌+◌, ◌++◌, ℕ, zero, suc, List, [], ◌∷◌, length, map, take}
use Rattle.std.specs.Prelude.{string_bytes, refl}
use Rattle.std.specs.declared.string.String.{String}
use Rattle.std.specs.declared.vec.Vec.{Vec}
use Rattle.std.specs.declared.alloc.Global.{Global}
use Rattle.std.proofs.Common.{arith, ap, sym, ◌∙◌, inl, inr, get_or}
use Rattle.std.proofs.lemmas.List.{length-map}
use Rattle.std.proofs.Math.Nat.{suc-add}
use Rattle.command_runs.specs.Runs.{Bytes, Told}
use Rattle.script_texts.specs.Texts.{IsScriptText}
use Rattle.batch_command.specs.Command.{IsIn}
use Rattle.batch_command.specs.Told.{AreRead}

pub one_more : (told : Told) (names : List Bytes) (texts : List (Vec ℕ Global)) (name : Bytes)
    (text : Vec ℕ Global) → AreRead told names texts → IsScriptText (told name) text.items
    → AreRead told (names ++ name ∷ []) (texts ++ text ∷ [])
one_more told [] [] name text r is = (is, tt)
one_more told [] (t ∷ texts) name text r is = absurd r
one_more told (n ∷ names) [] name text r is = absurd r
one_more told (n ∷ names) (t ∷ texts) name text r is =
    (r.0, one_more told names texts name text r.1 is)

-- one name more
pub take_more : (names : List (String Global)) (i : ℕ) (name : String Global) → i < length names
    → name ≡ get_or names i name
    → take (i + 1) (map string_bytes names)
    ≡ take i (map string_bytes names) ++ string_bytes name ∷ []
take_more [] i name h e = absurd (omega (arith, h))
take_more (n ∷ names) zero name h e = ap (λ x. string_bytes x ∷ []) (sym e)
take_more (n ∷ names) (suc i) name h e =
    ap (λ k. take k (map string_bytes (n ∷ names))) (suc-add i 1)
    ∙ ap (λ zs. string_bytes n ∷ zs) (take_more names i name (omega (arith, h)) e)

-- it is one of them
pub is_in : (names : List (String Global)) (i : ℕ) (name : String Global) → i < length names
    → name ≡ get_or names i name → IsIn (string_bytes name) (map string_bytes names)
is_in [] i name h e = absurd (omega (arith, h))
is_in (n ∷ names) zero name h e = inl (ap string_bytes e)
is_in (n ∷ names) (suc i) name h e = inr (is_in names i name (omega (arith, h)) e)

-- there are as many texts as names
as_many : (told : Told) (names : List Bytes) (texts : List (Vec ℕ Global))
    → AreRead told names texts → length texts ≡ length names
as_many told [] [] r = refl
as_many told [] (t ∷ texts) r = absurd r
as_many told (n ∷ names) [] r = absurd r
as_many told (n ∷ names) (t ∷ texts) r = ap suc (as_many told names texts r.1)

pub texts_many : (told : Told) (names : List (String Global)) (texts : List (Vec ℕ Global))
    → AreRead told (map string_bytes names) texts → length texts ≡ length names
texts_many told names texts r =
    as_many told (map string_bytes names) texts r ∙ length-map names string_bytes
