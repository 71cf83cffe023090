-- The last file of a name, after one more file.
use Rattle.std.proofs.Common.{◌≡◌, ℕ, List, [], ◌∷◌, ◌++◌, Option, None, Some, Bool, true, false}
use Rattle.std.proofs.Common.{cond, refl, ap, sym, ◌∙◌, string_bytes}
use Rattle.std.specs.Option.{option_or}
use Rattle.std.specs.Str.{bytes_eq}
use Rattle.std.specs.declared.string.String.{String}
use Rattle.std.specs.declared.vec.Vec.{Vec}
use Rattle.std.specs.declared.alloc.Global.{Global}
use Rattle.fx_edge.specs.Held.{Held, new_held}
use Rattle.fx_edge.specs.Files.{last_file}

option_or-cond : (b : Bool) (x : Held) (a c : Option Held)
    → option_or (cond b (Some x) a) c ≡ cond b (Some x) (option_or a c)
option_or-cond true x a c = refl
option_or-cond false x a c = refl

-- it is the new one under its name, and what it was under another
pub last_file-append : (room : ℕ) (fs : List (String Global × Vec ℕ Global))
    (f : String Global × Vec ℕ Global) (name : List ℕ)
    → last_file room (fs ++ f ∷ []) name ≡ cond (bytes_eq (string_bytes f.0) name)
    (Some (new_held room f.1.items)) (last_file room fs name)
last_file-append room [] f name = refl
last_file-append room (g ∷ fs) f name =
    let earlier = cond (bytes_eq (string_bytes g.0) name) (Some (new_held room g.1.items)) None in
    ap (λ a. option_or a earlier) (last_file-append room fs f name)
    ∙ option_or-cond (bytes_eq (string_bytes f.0) name) (new_held room f.1.items)
    (last_file room fs name) earlier

-- a map that has the last files has them still, once the next file is put at its name
pub last_file-insert : (room : ℕ) (fs : List (String Global × Vec ℕ Global))
    (f : String Global × Vec ℕ Global) (name : List ℕ) (file : Held) (old new : Option Held)
    → file ≡ new_held room f.1.items → old ≡ last_file room fs name
    → new ≡ cond (bytes_eq (string_bytes f.0) name) (Some file) old
    → new ≡ last_file room (fs ++ f ∷ []) name
last_file-insert room fs f name file old new made before after =
    let here = bytes_eq (string_bytes f.0) name in
    after ∙ ap (λ (x : Held). cond here (Some x) old) made
    ∙ ap (cond here (Some (new_held room f.1.items))) before ∙ sym (last_file-append room fs f name)
