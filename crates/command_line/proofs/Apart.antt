-- Names that may stand together differ.
use Rattle.std.proofs.Common.{◌≡◌, ◌≢◌, ◌&&◌, Bool, true, false, not, Some}
use Rattle.std.specs.Str.{bytes_eq}
use Rattle.std.proofs.lemmas.Slice.Eq.{bytes_eq-Decides}
use Rattle.std.specs.Prelude.{length, ◌==◌}
use Rattle.clap.specs.Words.{Text}
use Rattle.command_line.specs.Simple.{are_names}

last_holds : (a b c : Bool) → (a && (b && not c)) ≡ true → c ≡ true → ⊥
last_holds false b c e q = cc
last_holds true false c e q = cc
last_holds true true true e q = cc
last_holds true true false e q = cc

pub names_differ : (name other : Text) → are_names name (Some other) ≡ true → name ≢ other
names_differ name other e same =
    last_holds (not (length name == 0)) (not (length other == 0)) (bytes_eq name other) e
    ((bytes_eq-Decides name other).1 same)
