-- Laws of what specs/OnlyWrites defines.
use Rattle.std.specs.Prelude.{◌≡◌, ◌≢◌, ℕ, List, Result, Ok, Err, IsErr}
use Rattle.std.proofs.Common.{refl, ◌∙◌}
use Rattle.std.proofs.Math.Nat.{le_refl, le_trans}
use Rattle.fx_edge.specs.Outside.{Rose, HasCause}
use Rattle.fx_edge.proofs.OutsideLaws.{rose_later}
use Rattle.fx_edge.specs.declared.outside.Folder.{Ghosts}
use Rattle.whole_texts.specs.OnlyWrites.{OnlyWrites}

failed_rose : {T E : Type 0} (before now : ℕ) (r : Result T E) → HasCause before now r → IsErr r
    → Rose before now
failed_rose before now (Ok x) h e = absurd (cc e)
failed_rose before now (Err x) h e = h.failed

module _ {D : Type 0} {folder : Ghosts D} {name : List ℕ} where
  -- nothing was written yet, and nothing failed
  pub only_writes_none : {a : D} → OnlyWrites folder name a a ⊥
  only_writes_none {a = a} = record {
    others = λ _ _. refl;
    later = le_refl (folder.write_faults a);
    quiet = refl;
    cause = λ z. absurd z;
  }

  -- what the folder says of its own call
  pub only_writes_by : {T E : Type 0} {a b : D} (r : Result T E)
      → ((other : List ℕ) → other ≢ name → folder.told b other ≡ folder.told a other)
      → HasCause (folder.write_faults a) (folder.write_faults b) r
      → folder.read_faults b ≡ folder.read_faults a → OnlyWrites folder name a b (IsErr r)
  only_writes_by {a = a} {b = b} r others cause quiet = record {
    others = others;
    later = cause.later;
    quiet = quiet;
    cause = failed_rose (folder.write_faults a) (folder.write_faults b) r cause;
  }

  -- both fail by the folder where the second does
  pub only_writes_then : {a b c : D} {P Q R : Type 0} → OnlyWrites folder name a b P
      → OnlyWrites folder name b c Q → (R → Q) → OnlyWrites folder name a c R
  only_writes_then {a = a} {b = b} {c = c} h k fails = record {
    others = λ other n. k.others other n ∙ h.others other n;
    later = le_trans h.later k.later;
    quiet = k.quiet ∙ h.quiet;
    cause = λ r.
        rose_later (folder.write_faults a) (folder.write_faults b) (folder.write_faults c)
        h.later (k.cause (fails r));
  }

  -- neither has failed
  pub only_writes_on : {a b c : D} {P Q : Type 0} → OnlyWrites folder name a b P
      → OnlyWrites folder name b c Q → OnlyWrites folder name a c ⊥
  only_writes_on h k = only_writes_then h k (λ z. absurd z)
