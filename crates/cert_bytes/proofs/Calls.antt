-- Laws of what specs/Calls defines.
use Rattle.std.specs.Prelude.{◌≡◌, ℕ, List, Option}
use Rattle.std.proofs.Common.{refl, ap, ◌∙◌}
use Rattle.std.proofs.Math.Nat.{le_refl, le_trans}
use Rattle.fx_edge.specs.OnlyReads.{OnlyReads}
use Rattle.fx_edge.proofs.OnlyReads.{told_of}
use Rattle.fx_edge.specs.declared.outside.Folder.{Ghosts}
use Rattle.cert_bytes.specs.declared.style.Style.{Style}
use Rattle.cert_bytes.specs.Pieces.{Ahead, AgreesTold, kept_of}
use Rattle.cert_bytes.specs.Calls.{ReadsOn}

module _ {D : Type 0} {folder : Ghosts D} where
  -- what is told of the name of the place before a call is told behind it
  pub told_behind : {a b : D} {P : Type 0} {told : List ℕ → Option (List ℕ)} {old new : Ahead}
      {o : Option (List ℕ)} → OnlyReads folder a b P → ReadsOn kept_of told old new
      → folder.told a old.name ≡ o → folder.told b new.name ≡ o
  told_behind h k e = told_of h (ap (λ (kept : List ℕ × Style). kept.0) k.kept) e

module _ {K : Type 0} {keeps : Ahead → K} where
  -- the place is the old one
  pub reads_on_none : {told : List ℕ → Option (List ℕ)} {s : Ahead}
      → AgreesTold (told s.name) s → ReadsOn keeps told s s
  reads_on_none {s = s} h = record { kept = refl; grows = le_refl s.at; agrees = h }

  -- behind the second call the place agrees as that says
  pub reads_on_then : {s t : List ℕ → Option (List ℕ)} {a b c : Ahead}
      → ReadsOn keeps s a b → ReadsOn keeps t b c → ReadsOn keeps t a c
  reads_on_then h k = record {
    kept = k.kept ∙ h.kept;
    grows = le_trans h.grows k.grows;
    agrees = k.agrees;
  }
