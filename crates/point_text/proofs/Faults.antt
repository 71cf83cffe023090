-- Texts that are too long, and bytes that are no text.
use Rattle.std.specs.Prelude.{◌≡◌, ℕ, List}
use Rattle.std.specs.declared.result.Result.{Result}
use Rattle.std.specs.declared.result.Result.TheVariants.{Ok, Err}
use Rattle.std.proofs.Common.{sym, ap, ◌∙◌, subst, inl, inr}
use Rattle.script_nodes.specs.Known.{Name}
use Rattle.point_text.specs.declared.fault.PointFault.{PointFault}
use Rattle.point_text.specs.declared.fault.PointStop.{PointStop}
use Rattle.point_text.specs.declared.fault.PointStop.TheVariants.{Fault, OutOfMemory}
use Rattle.point_text.specs.PointFaults.{IsPointFault, too_long, not_text, IsTextFault}

abbrev fault_or : {A : Type 0} → PointFault → Result A PointStop → PointFault
fault_or d (Ok p) = d
fault_or d (Err OutOfMemory) = d
fault_or d (Err (Fault f)) = f

text_told : (variables : List Name) (text : List ℕ) (f : PointFault) → IsTextFault text f
    → IsPointFault variables text f
text_told variables text f h = elim h [
  | inl a ↦ subst (IsPointFault variables text) (sym a.1) (too_long a.0)
  | inr b ↦ subst (λ k. IsPointFault variables text (record { kind = k; at = f.at })) (sym b.2)
      (not_text b.0 b.1)
]

pub text_fault_told : {A : Type 0} (variables : List Name) (text : List ℕ) (d f : PointFault)
    → IsTextFault text d → (let r : Result A PointStop = Err (Fault d) in r ≡ Err (Fault f))
    → IsPointFault variables text f
text_fault_told variables text d f h e =
    text_told variables text f (subst (IsTextFault text) (ap (fault_or d) e) h)

-- the fault that a `?` hands on
pub rose : {A : Type 0} (r : Result A PointStop) (d f : PointFault) (y : PointStop) → r ≡ Err y
    → y ≡ Fault d → r ≡ Err (Fault f) → d ≡ f
rose r d f y h g e = ap (fault_or d) (sym (h ∙ ap (λ z. Err z) g) ∙ e)

-- why there is no value
abbrev pub stop_in : {A : Type 0} → Result A PointStop → PointStop
stop_in (Ok a) = OutOfMemory
stop_in (Err s) = s

pub stop_is : {A : Type 0} (s : PointStop) (f : PointFault)
    → (let r : Result A PointStop = Err s in r ≡ Err (Fault f)) → s ≡ Fault f
stop_is s f e = ap stop_in e

pub fault_is : {A : Type 0} (d f : PointFault)
    → (let r : Result A PointStop = Err (Fault d) in r ≡ Err (Fault f)) → d ≡ f
fault_is d f e = ap (fault_or d) e
