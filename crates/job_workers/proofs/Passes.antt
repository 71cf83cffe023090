-- A worker can take jobs of all lanes but its own, and goes on to.
use Rattle.std.proofs.Common.{◌≡◌, ◌≢◌, ◌<◌, ℕ, List, All, length, slice_index_or, Some, sym, ap}
use Rattle.std.proofs.Common.{◌∙◌, arith}
use Rattle.std.proofs.lemmas.List.Elements.{All-weaker}
use Rattle.box_deques.specs.Seen.{Lane, Thief, Seat, Hand, Name, HasPass, IsSeated, Lent, no_lane}
use Rattle.box_deques.specs.Stealing.{CanSteal}
use Rattle.job_workers.specs.Posts.{IsThief}

-- a hand that was made for the lanes, with thieves of all others
pub begins : (capacity number n : ℕ) (old new : List Lane) (hand : Hand) (thieves : List Thief)
    → length new ≡ length old → Lent n old new → IsSeated number capacity old hand
    → All (IsThief new number) thieves → CanSteal capacity hand thieves
begins capacity number n old new hand thieves long lent seated are =
    All-weaker (IsThief new number)
    (λ (t : Thief). HasPass hand.seats t.number t.name capacity × (hand.number ≢ t.number))
    (λ t (below, other, name).
    let lt : t.number < length old = omega arith in
    let seat = seated.2 t.number no_lane lt in
    let named : t.name ≡ (slice_index_or old t.number no_lane).name =
    name ∙ ap (λ (l : Lane). l.name) (lent t.number no_lane lt) in (
      (
        let l = seated.1 in omega arith,
        ap (λ (x : Seat). x.lane) seat ∙ ap (λ (m : Name). Some m) (sym named),
        ap (λ (x : Seat). x.room) seat,
      ),
      λ e. other (sym e ∙ seated.0),
    ))
    thieves are
