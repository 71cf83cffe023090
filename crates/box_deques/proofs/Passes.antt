-- A change of one seat that leaves its pass leaves all passes, and those of the hand's own lane.
use Rattle.std.proofs.Common.{◌≡◌, ◌≢◌, ℕ, zero, suc, ◌<◌, List, [], ◌∷◌, length, All, slice_set}
use Rattle.std.proofs.Common.{refl, ap, sym, ◌∙◌, get_or-set_other, subst, Option, Some, None}
use Rattle.std.specs.Option.{IfSome, IfNone}
use Rattle.box_deques.specs.Views.{Take}
use Rattle.box_deques.specs.Seen as seen
use Rattle.box_deques.specs.Seen.{seat_at, no_seat, HasPass, hand_with, with_take, with_empty}
use Rattle.box_deques.specs.Moments.{SamePasses, SeatFits, Takes, Steals}

abbrev pub new_hand : seen.Hand → ℕ → seen.Seat → seen.Hand
new_hand h n s = record { number = h.number; seats = slice_set h.seats n s }

kept : {X : Type 0} (f : seen.Seat → X) (seats : List seen.Seat) (n : ℕ) (s : seen.Seat)
    → f s ≡ f (seat_at seats n) → (k : ℕ)
    → f (seat_at (slice_set seats n s) k) ≡ f (seat_at seats k)
kept f [] n s same k = refl
kept f (x ∷ seats) zero s same zero = same
kept f (x ∷ seats) zero s same (suc k) = refl
kept f (x ∷ seats) (suc n) s same zero = refl
kept f (x ∷ seats) (suc n) s same (suc k) = kept f seats n s same k

length_set : (seats : List seen.Seat) (n : ℕ) (s : seen.Seat)
    → length (slice_set seats n s) ≡ length seats
length_set [] n s = refl
length_set (x ∷ seats) zero s = refl
length_set (x ∷ seats) (suc n) s = ap suc (length_set seats n s)

pub passes_stay : (h : seen.Hand) (n : ℕ) (s : seen.Seat) → s.lane ≡ (seat_at h.seats n).lane
    → s.hand ≡ (seat_at h.seats n).hand → s.room ≡ (seat_at h.seats n).room → h.number ≢ n
    → SamePasses h (new_hand h n s)
passes_stay h n s lane hand room other = record {
  number = refl;
  long = length_set h.seats n s;
  lanes = kept (λ t. t.lane) h.seats n s lane;
  hands = kept (λ t. t.hand) h.seats n s hand;
  rooms = kept (λ t. t.room) h.seats n s room;
  own = ap (λ (t : seen.Seat). t.takes) (get_or-set_other h.seats n h.number s no_seat other);
}

-- the same of what the call answers
pub some_then : {X : Type 0} (P Q : X → Type 0) (r : Option X) → ((x : X) → P x → Q x)
    → IfSome r P → IfSome r Q
some_then P Q None f p = tt
some_then P Q (Some x) f p = f x p

pub none_then : {X : Type 0} (P Q : Type 0) (r : Option X) → (P → Q) → IfNone r P → IfNone r Q
none_then P Q None f p = f p
none_then P Q (Some x) f p = tt

pub steals : (capacity : ℕ) (h : seen.Hand) (n : ℕ) (old new : seen.Seat) (path : List ℕ)
    → old ≡ seat_at h.seats n → Takes capacity old new path
    → Steals capacity n h (new_hand h n new) path
steals capacity h n old new path is t = record {
  place = t.place;
  below = t.below;
  history = t.history;
  first = t.first;
  above = subst (λ (s : seen.Seat). All (λ (take : Take). take.0 < t.place) s.takes) is t.above;
  fits = subst (λ s. SeatFits s t.history) is t.fits;
  counted = ap (λ s. new_hand h n s) (t.counted ∙ ap (λ s. with_take s (t.place, path)) is);
}

pub finds_none : (h : seen.Hand) (n : ℕ) (old new : seen.Seat) → old ≡ seat_at h.seats n
    → new ≡ with_empty old → new_hand h n new ≡ hand_with h n with_empty
finds_none h n old new is e = ap (λ s. new_hand h n s) (e ∙ ap with_empty is)

pub same_itself : (h : seen.Hand) → SamePasses h h
same_itself h = record {
  number = refl;
  long = refl;
  lanes = λ k. refl;
  hands = λ k. refl;
  rooms = λ k. refl;
  own = refl;
}

-- a run of calls that each leave the passes leaves them
pub same_then : (h i j : seen.Hand) → SamePasses h i → SamePasses i j → SamePasses h j
same_then h i j a b = record {
  number = b.number ∙ a.number;
  long = b.long ∙ a.long;
  lanes = λ k. b.lanes k ∙ a.lanes k;
  hands = λ k. b.hands k ∙ a.hands k;
  rooms = λ k. b.rooms k ∙ a.rooms k;
  own = subst (λ n. (seat_at j.seats n).takes ≡ (seat_at i.seats n).takes) a.number b.own ∙ a.own;
}

pub still_has : (h i : seen.Hand) (n : ℕ) (name : seen.Name) (capacity : ℕ) → SamePasses h i
    → HasPass h.seats n name capacity → HasPass i.seats n name capacity
still_has h i n name capacity same has =
    (subst (λ m. n < m) (sym same.long) has.0, same.lanes n ∙ has.1, same.rooms n ∙ has.2)
