-- Files in memory, by name.
use Rattle.std.specs.Prelude.{◌≡◌, ◌≢◌, ℕ, List, [], ◌∷◌, Option, None, Some, if◌then◌else◌, ⊤}
use Rattle.std.specs.Option.{option_or, option_map, unwrap_or}
use Rattle.std.specs.BTreeMap.{get_by_text}
use Rattle.std.specs.Str.{bytes_eq}
use Rattle.std.specs.declared.string.String.{String}
use Rattle.std.specs.declared.vec.Vec.{Vec}
use Rattle.std.specs.declared.alloc.Global.{Global}
use Rattle.std.specs.String.{string_bytes}
use Rattle.fx_edge.specs.declared.files.Files.{Files}
use Rattle.fx_edge.specs.Held.{Held, new_held, fitting, IsFullFor, with_front}

-- the file of a name, where it is there
abbrev pub file_at : Files → List ℕ → Option Held
file_at files name = get_by_text files.by_name name

-- the file of a name in a list, the last where there are several
abbrev pub last_file : ℕ → List (String Global × Vec ℕ Global) → List ℕ → Option Held
last_file room [] name = None
last_file room (f ∷ fs) name =
    let this = if bytes_eq (string_bytes f.0) name then Some (new_held room f.1.items) else None in
    option_or (last_file room fs name) this

-- the bytes of a file, where it is there
abbrev pub bytes_there : Option Held → Option (List ℕ)
bytes_there file = option_map (λ f. f.bytes) file

-- the same, none where it isn't there
abbrev pub bytes_or_none : Option Held → List ℕ
bytes_or_none file = unwrap_or (bytes_there file) []

-- how many bytes of a piece fit into a file, none where it isn't there
abbrev pub fitting_into : Option Held → List ℕ → ℕ
fitting_into None piece = 0
fitting_into (Some file) piece = fitting file piece

-- nothing can be added: the file isn't there, or nothing of a piece fits that isn't empty
abbrev pub CannotAdd : Option Held → List ℕ → Type 0
CannotAdd None piece = ⊤
CannotAdd (Some file) piece = IsFullFor file piece

-- a file with the first n bytes of a piece behind
abbrev pub grown : Option Held → ℕ → List ℕ → Option Held
grown file n piece = option_map (λ f. with_front f n piece) file

-- every other name has the file that it had
abbrev pub SameElsewhere : List ℕ → (List ℕ → Option Held) → (List ℕ → Option Held) → Type 0
SameElsewhere name old new = (other : List ℕ) → other ≢ name → new other ≡ old other
