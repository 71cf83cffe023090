-- Laws of what specs/OnlyReads defines.
use Rattle.std.specs.Prelude.{◌≡◌, ℕ, List, Option}
use Rattle.std.proofs.Common.{refl, ap, ◌∙◌}
use Rattle.std.proofs.Math.Nat.{le_refl, le_trans}
use Rattle.fx_edge.proofs.OutsideLaws.{rose_later}
use Rattle.fx_edge.specs.declared.outside.Folder.{Ghosts}
use Rattle.fx_edge.specs.OnlyReads.{OnlyReads}

module _ {D : Type 0} {folder : Ghosts D} where
  -- nothing was read yet, and nothing failed
  pub only_reads_none : {a : D} → OnlyReads folder a a ⊥
  only_reads_none {a = a} = record {
    told = λ _. refl;
    later = le_refl (folder.read_faults a);
    quiet = refl;
    cause = λ z. absurd z;
  }

  -- both fail by the folder where the second does
  pub only_reads_then : {a b c : D} {P Q R : Type 0}
      → OnlyReads folder a b P → OnlyReads folder b c Q → (R → Q) → OnlyReads folder a c R
  only_reads_then {a = a} {b = b} {c = c} h k fails = record {
    told = λ name. k.told name ∙ h.told name;
    later = le_trans h.later k.later;
    quiet = k.quiet ∙ h.quiet;
    cause = λ r.
        rose_later (folder.read_faults a) (folder.read_faults b) (folder.read_faults c)
        h.later (k.cause (fails r));
  }

  -- neither has failed
  pub only_reads_on : {a b c : D} {P Q : Type 0}
      → OnlyReads folder a b P → OnlyReads folder b c Q → OnlyReads folder a c ⊥
  only_reads_on h k = only_reads_then h k (λ z. absurd z)

  -- what is told of a name before a call is told behind it
  pub told_of : {a b : D} {P : Type 0} {old new : List ℕ} {o : Option (List ℕ)}
      → OnlyReads folder a b P → new ≡ old → folder.told a old ≡ o → folder.told b new ≡ o
  told_of {b = b} {old = old} h name e = ap (folder.told b) name ∙ h.told old ∙ e
