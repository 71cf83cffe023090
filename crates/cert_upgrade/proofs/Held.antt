-- What a file took, and what it holds.
use Rattle.std.specs.Prelude.{◌≡◌, ◌++◌, ℕ, List, [], Option, Some, None, refl}
use Rattle.std.specs.Io.KnownBytes.{Appends}
use Rattle.std.proofs.Common.{ap, sym, ◌∙◌, append-nil}
use Rattle.fx_edge.specs.Outside.{Empties}
use Rattle.whole_texts.specs.Pieces.{AppendsFront}
use Rattle.cert_upgrade.specs.Files.{Holds, HoldsFront}

-- ---- what is taken in turn
pub appends_none : (a : Option (List ℕ)) → Appends a a []
appends_none None = tt
appends_none (Some x) = sym (append-nil x)

-- ---- a file that was made new
some_is : {X : Type 0} (a b : X) → Some a ≡ Some b → a ≡ b
some_is a b e = cc

pub appends_new : (old fresh new : Option (List ℕ)) (bytes : List ℕ) → Empties old fresh
    → Appends fresh new bytes → Holds bytes old new
appends_new None fresh new bytes e a before o = cc
appends_new (Some x) None new bytes e a before o = cc
appends_new (Some x) (Some y) None bytes e a before o = absurd a
appends_new (Some x) (Some y) (Some z) bytes e a before o =
    ap Some (a ∙ ap (λ l. l ++ bytes) (some_is y [] e))

pub front_new : (old fresh new : Option (List ℕ)) (bytes : List ℕ) → Empties old fresh
    → AppendsFront fresh new bytes → HoldsFront bytes old new
front_new old fresh new bytes e (front, is, a) before o =
    (front, is, appends_new old fresh new front e a before o)

-- It couldn't be made new.
pub not_new : (old new : Option (List ℕ)) (bytes : List ℕ) → new ≡ Some []
    → HoldsFront bytes old new
not_new old new bytes e before o = ([], (bytes, refl), e)
