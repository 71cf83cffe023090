-- What a pass knows of a moment, in the words of its lane or seat.
use Rattle.std.proofs.Common.{◌≡◌, ℕ, ◌+◌, ◌<◌, ◌≤◌, List, [], ◌∷◌, ◌++◌, length, All, slice_get}
use Rattle.std.proofs.Common.{Some, refl, sym, ap, ◌∙◌, subst, arith}
use Rattle.box_deques.specs.declared.rule.View.{View}
use Rattle.box_deques.specs.Views.{Take}
use Rattle.box_deques.proofs.Fill.{places_below}
use Rattle.box_deques.specs.Rule.{Gone, taken_by, paths_of, Fitting, WasFirst, WasEmpty}
use Rattle.box_deques.specs.Seen as seen
use Rattle.box_deques.specs.Seen.{with_pop, with_take}
use Rattle.box_deques.specs.Moments.{LaneFits, SeatFits, MayBeEmpty, Pops, Takes}

-- the lane is what its owner's pass knows
pub record IsOwners (v : View) (l : seen.Lane) : Type 0 where
  pub boss : v.party ≡ 0
  pub takes : v.takes ≡ l.takes
  pub pushed : v.pushed ≡ l.pushed
  pub made : v.made ≡ l.hands

lane_fits : (v : View) (l : seen.Lane) (history : List Gone) (waiting : List (List ℕ))
    → IsOwners v l → Fitting v history waiting → LaneFits l history waiting
lane_fits v l history waiting own fits = record {
  took = sym own.takes ∙ fits.took ∙ ap (λ n. taken_by n 0 history) own.boss;
  parties = subst (λ n. All (λ (e : Gone). e.0 ≤ n) history) own.made (fits.parties own.boss);
  whole = sym own.pushed ∙ fits.whole own.boss;
}

-- what stands right after the history
at_front : (h : List Gone) (p : List ℕ) (rest : List (List ℕ))
    → slice_get (paths_of h ++ p ∷ rest) (length h) ≡ Some p
at_front [] p rest = refl
at_front (e ∷ h) p rest = at_front h p rest

pub pops : (capacity : ℕ) (v : View) (old new : seen.Lane) (place : ℕ) (path : List ℕ)
    → IsOwners v old → place < capacity → WasFirst v place path → new ≡ with_pop old (place, path)
    → Pops capacity old new path
pops capacity v old new place path own below was counted =
    let fits = lane_fits v old was.0 (path ∷ was.1) own was.3 in
    record {
      place = place;
      below = below;
      pushed = ap (λ n. slice_get old.pushed n) was.2
          ∙ ap (λ l. slice_get l (length was.0)) fits.whole ∙ at_front was.0 path was.1;
      history = was.0;
      rest = was.1;
      first = was.2;
      fits = fits;
      counted = counted;
    }

pub none_waits : (v : View) (l : seen.Lane) → IsOwners v l → WasEmpty v → MayBeEmpty l
none_waits v l own was = (was.0, lane_fits v l was.0 [] own was.1)

-- the seat is what its pass knows
pub record IsSeats (v : View) (s : seen.Seat) : Type 0 where
  pub party : v.party ≡ s.hand + 1
  pub takes : v.takes ≡ s.takes

seat_fits : (v : View) (s : seen.Seat) (history : List Gone) (waiting : List (List ℕ)) → IsSeats v s
    → Fitting v history waiting → SeatFits s history
seat_fits v s history waiting own fits =
    sym own.takes ∙ fits.took ∙ ap (λ n. taken_by n 0 history) own.party

seat_above : (s : seen.Seat) (history : List Gone) (place : ℕ) → place ≡ length history
    → SeatFits s history → All (λ (take : Take). take.0 < place) s.takes
seat_above s history place first fits = subst (λ l. All (λ (take : Take). take.0 < place) l)
    (sym fits) (λ j d below. let p = places_below (s.hand + 1) 0 history j d below in omega arith)

pub takes_first : (capacity : ℕ) (v : View) (old new : seen.Seat) (place : ℕ) (path : List ℕ)
    → IsSeats v old → place < capacity → WasFirst v place path → new ≡ with_take old (place, path)
    → Takes capacity old new path
takes_first capacity v old new place path own below was counted = record {
  place = place;
  below = below;
  history = was.0;
  first = was.2;
  above = seat_above old was.0 place was.2 (seat_fits v old was.0 (path ∷ was.1) own was.3);
  fits = seat_fits v old was.0 (path ∷ was.1) own was.3;
  counted = counted;
}
