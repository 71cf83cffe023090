-- Laws of what specs/Stealing defines.
use Rattle.std.specs.Prelude.{◌≢◌, ℕ, List}
use Rattle.std.proofs.Common.{sym, ◌∙◌, arith}
use Rattle.std.proofs.lemmas.List.Elements.{All-weaker}
use Rattle.box_deques.specs.Moments.{SamePasses}
use Rattle.box_deques.specs.Seen.{Thief, Hand, HasPass}
use Rattle.box_deques.specs.Stealing.{CanSteal}

-- a hand that keeps its passes can go on to
pub can_steal_stays : (capacity : ℕ) (old new : Hand) (thieves : List Thief) → SamePasses old new
    → CanSteal capacity old thieves → CanSteal capacity new thieves
can_steal_stays capacity old new thieves same can =
    All-weaker (λ (t : Thief). HasPass old.seats t.number t.name capacity × (old.number ≢ t.number))
    (λ (t : Thief). HasPass new.seats t.number t.name capacity × (new.number ≢ t.number))
    (λ t (has, other). (
      (
        let l = same.long in let b = has.0 in omega arith,
        same.lanes t.number ∙ has.1,
        same.rooms t.number ∙ has.2,
      ),
      λ e. other (sym same.number ∙ e),
    )) thieves can
