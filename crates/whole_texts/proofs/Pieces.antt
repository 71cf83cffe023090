-- Laws of what specs/Pieces defines.
use Rattle.std.specs.Prelude.{◌≡◌, ◌-◌, ◌++◌, ℕ, List, length, take, drop, Option, Some, None}
use Rattle.std.specs.Io.KnownBytes.{Appends, Keeps}
use Rattle.std.proofs.Common.{ap, sym, ◌∙◌, append_assoc, length-drop}
use Rattle.std.proofs.Math.Seq.{take-length}

-- ---- what is taken in turn
pub appends_both : (a b c : Option (List ℕ)) (bs cs : List ℕ)
    → Appends a b bs → Appends b c cs → Appends a c (bs ++ cs)
appends_both None b c bs cs p q = tt
appends_both (Some x) None c bs cs p q = absurd p
appends_both (Some x) (Some y) None bs cs p q = absurd q
appends_both (Some x) (Some y) (Some z) bs cs p q = q ∙ ap (λ l. l ++ cs) p ∙ append_assoc x bs cs

pub appends_kept : (a b c : Option (List ℕ)) (bs : List ℕ)
    → Appends a b bs → Keeps b c → Appends a c bs
appends_kept None b c bs p q = tt
appends_kept (Some x) None c bs p q = absurd p
appends_kept (Some x) (Some y) None bs p q = absurd q
appends_kept (Some x) (Some y) (Some z) bs p q = q ∙ p

pub rest_of : (bytes : List ℕ) (done : ℕ)
    → take (length bytes - done) (drop done bytes) ≡ drop done bytes
rest_of bytes done =
    ap (λ (i : ℕ). take i (drop done bytes)) (sym (length-drop done bytes))
    ∙ take-length (drop done bytes)
