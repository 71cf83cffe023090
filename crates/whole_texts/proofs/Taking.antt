-- What a file or a sink took, where its bytes are known.
use Rattle.std.specs.Prelude.{ℕ, List, take, drop, Option, Result, Ok, Err, OnErr}
use Rattle.std.proofs.Common.{sym}
use Rattle.std.specs.Io.KnownBytes.{Appends, Keeps}
use Rattle.std.proofs.lemmas.List.{take-append-drop}
use Rattle.whole_texts.specs.Pieces.{AppendsFront}
use Rattle.whole_texts.proofs.Pieces.{appends_kept}

-- the first bytes were taken, and then a call failed
pub on_failure : {T E : Type 0} (r : Result T E) (a b c : Option (List ℕ))
    (bytes : List ℕ) (done : ℕ)
    → Appends a b (take done bytes) → Keeps b c → OnErr r (AppendsFront a c bytes)
on_failure (Ok x) a b c bytes done p q = tt
on_failure (Err e) a b c bytes done p q = (
  take done bytes,
  (drop done bytes, sym (take-append-drop done bytes)),
  appends_kept a b c (take done bytes) p q,
)
