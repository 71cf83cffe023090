-- A table that beats two facts with the ends of a third beats this too.
use Rattle.std.specs.Prelude.{◌≡◌, Some}
use Rattle.std.proofs.Common.{sym, ◌∙◌, ap, subst}
use Rattle.facts.specs.declared.fact.Fact.{Fact}
use Rattle.facts.specs.Order.{slot_of, IsStronger}
use Rattle.derivation.specs.Derivations.{At, Beats}
use Rattle.derivation.proofs.Parts.{some_same}
use Rattle.box_trace.specs.Ends.{IsLowBy, IsHighBy}
use Rattle.box_trace.proofs.EndsOrder.{ends_enough}

-- The table beats two facts on the slot of c whose ends are as far in as those of c, or further.
pub record BeatsEnds (new : At) (c : Fact) : Type 0 where
  pub low : Fact
  pub high : Fact
  pub low_slot : slot_of low ≡ slot_of c
  pub high_slot : slot_of high ≡ slot_of c
  pub low_end : IsLowBy c low
  pub high_end : IsHighBy c high
  pub beats_low : Beats new low
  pub beats_high : Beats new high

-- then it beats c
pub ends_beat : (new : At) (c : Fact) → BeatsEnds new c → Beats new c
ends_beat new c e =
    let g : Fact = e.beats_low.0 in
    let here : new (slot_of c) ≡ Some g = ap new (sym e.low_slot) ∙ e.beats_low.1 in
    let same : e.beats_high.0 ≡ g =
    some_same e.beats_high.0 g (new (slot_of c))
    (ap new (sym e.high_slot) ∙ e.beats_high.1) here in (
      g,
      here,
      ends_enough e.low e.high c g e.low_slot e.high_slot e.low_end e.high_end e.beats_low.2
          (subst (λ f. IsStronger f e.high) same e.beats_high.2),
    )
