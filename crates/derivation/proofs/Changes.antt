-- Laws of what specs/Changes defines.
use Rattle.std.specs.Prelude.{◌≡◌, Bool, true, false, List, [], ◌∷◌, Option, Some, None, slice_get}
use Rattle.std.specs.Prelude.{Contains, refl}
use Rattle.std.proofs.Common.{zero, suc, sym, ◌∙◌, ap, inl, inr, arith}
use Rattle.facts.specs.declared.fact.Slot.{Slot}
use Rattle.facts.specs.declared.fact.Slot.TheVariants as slot
use Rattle.derivation.specs.Derivations.{Setting, At}
use Rattle.derivation.specs.Rounds.{all_at, with_first, concluded, IsAhead, AllSeen}
use Rattle.derivation.proofs.Parts.{some_same}
use Rattle.derivation.specs.Changes.{IsQuiet, IsListed, AreDue}

-- premises with the same facts are the same
pub agrees_all : (at new : At) (ss : List Slot) → ((s : Slot) → Contains ss s → new s ≡ at s)
    → all_at new ss ≡ all_at at ss
agrees_all at new [] same = refl
agrees_all at new (s ∷ ss) same =
    ap (λ o. with_first o (all_at new ss)) (same s (zero, omega arith, refl))
    ∙ ap (with_first (at s))
    (agrees_all at new ss (λ t w. same t (suc w.0, let l = w.1 in omega arith, w.2)))

-- a flag is set or isn't
pub true_false : (o : Option Bool) → o ≡ Some true → o ≡ Some false → ⊥
true_false o t f = let h : true ≡ false = some_same true false o t f in cc

-- After a whole round the instances whose premises stayed are quiet.
pub quiet_after : (u : Setting) (due : List Bool) (changed : List Slot) (at new : At)
    → IsAhead u at new AllSeen → new slot.Void ≡ None → IsListed changed at new
    → AreDue u.instances changed due → IsQuiet u due new
quiet_after u due changed at new a v listed marked k i c e d x =
    a.beats v k i c e tt (ap (concluded u.rules i) (sym (agrees_all at new i.premises same)) ∙ x)
  where
    same : (s : Slot) → Contains i.premises s → new s ≡ at s
    same s w = elim (listed s)
        [ inl h ↦ absurd (true_false (slice_get due k) (marked s h k (i, e, w)) d) | inr h ↦ h ]
