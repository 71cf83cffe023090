-- Pops and steals.
use Rattle.std.proofs.Common.{◌≡◌, ◌≢◌, inl, inr, ℕ, zero, suc, ◌+◌, ◌-◌, ◌^◌, ◌<◌, ◌≤◌, min, List}
use Rattle.std.proofs.Common.{[], ◌∷◌, ◌++◌, length, All, take, slice_index_or, sym, refl, ap, ◌∙◌}
use Rattle.std.proofs.Common.{subst, append_assoc, arith, get_or-set_same, get_or-set_other}
use Rattle.std.proofs.lemmas.Bool.Decides.{eqb_tells}
use Rattle.std.proofs.lemmas.List.Elements.{All-weaker, All-more, All-get_or}
use Rattle.std.proofs.lemmas.Bool.{cases_lt}
use Rattle.accounts.proofs.SumsLaws.{total_set, total_snoc}
use Rattle.box_deques.specs.Moments.{SamePasses, Steals, Pops}
use Rattle.box_deques.specs.Seen.{Lane, Thief, Seat, Hand, no_seat, seat_at, hand_with, HasPass}
use Rattle.box_deques.specs.Seen.{with_take, with_empty, with_pop}
use Rattle.box_deques.specs.Views.{Take}
use Rattle.box_deques.specs.Stealing.{CanSteal}
use Rattle.box_deques.proofs.Stealing.{can_steal_stays}
use Rattle.box_workers.specs.Taking.{weight_of, hand_took, took, GoesOn, Rose, NotBelow, HandWentOn}
use Rattle.box_workers.specs.Taking.{RoseAt}

pub goes_on_same : {X : Type 0} (xs : List X) → GoesOn xs xs
goes_on_same xs = ([], append_none xs) where
  append_none : {X : Type 0} (xs : List X) → xs ≡ xs ++ []
  append_none [] = refl
  append_none {X} (x ∷ xs) = ap (λ (l : List X). x ∷ l) (append_none xs)

pub goes_on_trans : {X : Type 0} (xs ys zs : List X) → GoesOn xs ys → GoesOn ys zs → GoesOn xs zs
goes_on_trans {X} xs ys zs a b =
    (a.0 ++ b.0, b.1 ∙ ap (λ (l : List X). l ++ b.0) a.1 ∙ append_assoc xs a.0 b.0)

pub not_below_same : (n : ℕ) → NotBelow n n
not_below_same n = inl (omega arith)

pub not_below_trans : (a b c : ℕ) → NotBelow a b → NotBelow b c → NotBelow a c
not_below_trans a b c (inl x) (inl y) = inl (omega arith)
not_below_trans a b c (inr x) (inl y) = inr (omega arith)
not_below_trans a b c x (inr y) = inr y

pub rose_trans : (a b c : ℕ) → Rose a b → NotBelow b c → Rose a c
rose_trans a b c (inl x) (inl y) = inl (omega arith)
rose_trans a b c (inr x) (inl y) = inr (omega arith)
rose_trans a b c x (inr y) = inr y

pub rose_after : (a b c : ℕ) → NotBelow a b → Rose b c → Rose a c
rose_after a b c (inl x) (inl y) = inl (omega arith)
rose_after a b c (inr x) (inl y) = inr (omega arith)
rose_after a b c x (inr y) = inr y

pub rises : (n : ℕ) → Rose n (min (n + 1) (2 ^ 64 - 1))
rises n = elim (cases_lt n (2 ^ 64 - 1)) [ inl lt ↦ inl (omega arith) | inr le ↦ inr (omega arith) ]

pub rose_not_below : (a b : ℕ) → Rose a b → NotBelow a b
rose_not_below a b (inl x) = inl (omega arith)
rose_not_below a b (inr x) = inr x

pub same_passes_trans : (a b c : Hand) → SamePasses a b → SamePasses b c → SamePasses a c
same_passes_trans a b c x y = record {
  number = y.number ∙ x.number;
  long = y.long ∙ x.long;
  lanes = (λ k. y.lanes k ∙ x.lanes k);
  hands = (λ k. y.hands k ∙ x.hands k);
  rooms = (λ k. y.rooms k ∙ x.rooms k);
  own = (let P : ℕ → Type 0 = λ n. (seat_at c.seats n).takes ≡ (seat_at b.seats n).takes in
      subst P x.number y.own) ∙ x.own;
}

pub went_on_trans : (a b c : Hand) → HandWentOn a b → HandWentOn b c → HandWentOn a c
went_on_trans a b c x y = record {
  passes = same_passes_trans a b c x.passes y.passes;
  takes = (λ k. goes_on_trans (seat_at a.seats k).takes (seat_at b.seats k).takes
      (seat_at c.seats k).takes (x.takes k) (y.takes k));
  empty = (λ k. not_below_trans (seat_at a.seats k).empty (seat_at b.seats k).empty
      (seat_at c.seats k).empty (x.empty k) (y.empty k));
}

pub went_on_same : (a : Hand) → HandWentOn a a
went_on_same a = record {
  passes = record {
    number = refl;
    long = refl;
    lanes = (λ k. refl);
    hands = (λ k. refl);
    rooms = (λ k. refl);
    own = refl;
  };
  takes = (λ k. goes_on_same (seat_at a.seats k).takes);
  empty = (λ k. not_below_same (seat_at a.seats k).empty);
}

-- a seat that changes
at_seat : (P : Seat → Seat → Type 0) (hand : Hand) (n : ℕ) (f : Seat → Seat) → n < length hand.seats
    → P (seat_at hand.seats n) (f (seat_at hand.seats n)) → ((s : Seat) → P s s)
    → (k : ℕ) → P (seat_at hand.seats k) (seat_at (hand_with hand n f).seats k)
at_seat P hand n f below here others k =
    elim (eqb_tells k n) [
      | inl same ↦
          let e : seat_at (hand_with hand n f).seats n ≡ f (seat_at hand.seats n) =
          get_or-set_same hand.seats n (f (seat_at hand.seats n)) no_seat below in
          let Q : ℕ → Type 0 = λ m. P (seat_at hand.seats m)
          (seat_at (hand_with hand n f).seats m) in
          subst Q (sym same.1) (subst (P (seat_at hand.seats n)) (sym e) here)
      | inr other ↦
          let e : seat_at (hand_with hand n f).seats k ≡ seat_at hand.seats k =
          get_or-set_other hand.seats n k (f (seat_at hand.seats n)) no_seat other.1 in
          subst (P (seat_at hand.seats k)) (sym e) (others (seat_at hand.seats k))
    ]

module _ (capacity n : ℕ) (old new : Hand) (passes : SamePasses old new)
    (below : n < length old.seats) where
  abbrev SeatWentOn : Seat → Seat → Type 0
  SeatWentOn s t = GoesOn s.takes t.takes × NotBelow s.empty t.empty

  went_on : (f : Seat → Seat) → new ≡ hand_with old n f
      → SeatWentOn (seat_at old.seats n) (f (seat_at old.seats n)) → HandWentOn old new
  went_on f e here =
      let each = at_seat SeatWentOn old n f below here
      (λ s. (goes_on_same s.takes, not_below_same s.empty)) in
      let at : (k : ℕ) → SeatWentOn (seat_at old.seats k) (seat_at new.seats k) = λ k.
      subst (λ (h : Hand). SeatWentOn (seat_at old.seats k) (seat_at h.seats k)) (sym e) (each k) in
      record { passes = passes; takes = (λ k. (at k).0); empty = (λ k. (at k).1) }

  -- a steal that took the path
  pub steal_took : (path : List ℕ) → Steals capacity n old new path
      → HandWentOn old new × ((h : List ℕ → ℕ) → hand_took h new ≡ hand_took h old + h path)
  steal_took path s = (
    went_on (λ x. with_take x (s.place, path)) s.counted
        (((s.place, path) ∷ [], refl), not_below_same (seat_at old.seats n).empty),
    (λ h.
        let t = total_set (λ (x : Seat). weight_of h x.takes) old.seats n no_seat
        (with_take (seat_at old.seats n) (s.place, path)) below in
        let m = total_snoc (λ (x : Take). h x.1) (seat_at old.seats n).takes (s.place, path) in
        let e : hand_took h new ≡ hand_took h (hand_with old n (λ x. with_take x (s.place, path))) =
        ap (hand_took h) s.counted in
        omega arith),
  )

  -- a steal that found nothing
  pub steal_missed : new ≡ hand_with old n with_empty
      → HandWentOn old new × ((h : List ℕ → ℕ) → hand_took h new ≡ hand_took h old)
      × Rose (seat_at old.seats n).empty (seat_at new.seats n).empty
  steal_missed e =
      let up = rises (seat_at old.seats n).empty in
      let at : seat_at (hand_with old n with_empty).seats n ≡ with_empty (seat_at old.seats n) =
      get_or-set_same old.seats n (with_empty (seat_at old.seats n)) no_seat below in (
        went_on with_empty e (goes_on_same (seat_at old.seats n).takes, rose_not_below _ _ up),
        (λ h.
            let t = total_set (λ (x : Seat). weight_of h x.takes) old.seats n no_seat
            (with_empty (seat_at old.seats n)) below in
            let same : hand_took h new
            ≡ hand_took h (hand_with old n with_empty) = ap (hand_took h) e in
            omega arith),
        subst (λ (h : Hand). Rose (seat_at old.seats n).empty (seat_at h.seats n).empty) (sym e)
            (subst (λ (s : Seat). Rose (seat_at old.seats n).empty s.empty) (sym at) up),
      )

-- what rose stays so
pub all_rose : (a b c : Hand) (thieves : List Thief) → HandWentOn b c → All (RoseAt a b) thieves
    → All (RoseAt a c) thieves
all_rose a b c thieves on all = All-weaker (RoseAt a b) (RoseAt a c)
    (λ t r. rose_trans (seat_at a.seats t.number).empty (seat_at b.seats t.number).empty
    (seat_at c.seats t.number).empty r (on.empty t.number)) thieves all

pub all_rose_after : (a b c : Hand) (thieves : List Thief) → HandWentOn a b
    → All (RoseAt b c) thieves → All (RoseAt a c) thieves
all_rose_after a b c thieves on all = All-weaker (RoseAt b c) (RoseAt a c)
    (λ t r. rose_after (seat_at a.seats t.number).empty (seat_at b.seats t.number).empty
    (seat_at c.seats t.number).empty (on.empty t.number) r) thieves all

-- the steals of one turn, as far as thief i
abbrev pub Tried : Hand → Hand → List Thief → Type 0
Tried old new tried = HandWentOn old new × ((h : List ℕ → ℕ) → hand_took h new ≡ hand_took h old)
    × All (RoseAt old new) tried

module _ (capacity : ℕ) (first old new : Hand) (thieves : List Thief) (i : ℕ) (t : Thief)
    (below : i < length thieves) (is : t ≡ slice_index_or thieves i t)
    (can : CanSteal capacity first thieves) (so_far : Tried first old (take i thieves))
    (passes : SamePasses old new) where
  in_seats : t.number < length old.seats
  in_seats =
      let P : Thief → Type 0 =
      λ t. HasPass old.seats t.number t.name capacity × (old.number ≢ t.number) in
      let all = can_steal_stays capacity first old thieves so_far.0.passes can in
      (subst P (sym is) (All-get_or P thieves i t below all)).0.0

  pub tried_took : (path : List ℕ) → Steals capacity t.number old new path
      → HandWentOn first new × ((h : List ℕ → ℕ) → hand_took h new ≡ hand_took h first + h path)
  tried_took path s =
      let r = steal_took capacity t.number old new passes in_seats path s in (
        went_on_trans first old new so_far.0 r.0,
        λ h. let a = so_far.1 h in let b = r.1 h in omega arith,
      )

  pub tried_more : new ≡ hand_with old t.number with_empty → Tried first new (take (i + 1) thieves)
  tried_more e =
      let r = steal_missed capacity t.number old new passes in_seats e in
      let here : RoseAt first new t =
      rose_after (seat_at first.seats t.number).empty (seat_at old.seats t.number).empty
      (seat_at new.seats t.number).empty (so_far.0.empty t.number) r.2 in (
        went_on_trans first old new so_far.0 r.0,
        (λ h. let a = so_far.1 h in let b = r.1 h in omega arith),
        All-more (RoseAt first new) thieves i t below (all_rose first old new
            (take i thieves) r.0 so_far.2) (subst (RoseAt first new) is here),
      )

take_whole : {X : Type 0} (n : ℕ) (xs : List X) → length xs ≤ n → take n xs ≡ xs
take_whole zero [] h = refl
take_whole (suc n) [] h = refl
take_whole zero (x ∷ xs) h = absurd (omega arith)
take_whole {X} (suc n) (x ∷ xs) h = ap (λ (l : List X). x ∷ l) (take_whole n xs (omega arith))

-- after the last thief
pub tried_all : (first old : Hand) (thieves : List Thief) (i : ℕ) → length thieves ≤ i
    → Tried first old (take i thieves) → Tried first old thieves
tried_all first old thieves i end so_far = (
  so_far.0,
  so_far.1,
  subst (λ (ts : List Thief). All (RoseAt first old) ts) (take_whole i thieves end) so_far.2,
)

pub pop_took : (capacity : ℕ) (old new : Lane) (path : List ℕ) (hand : Hand)
    → Pops capacity old new path → (h : List ℕ → ℕ) → took h new hand ≡ took h old hand + h path
pop_took capacity old new path hand p h =
    let m = total_snoc (λ (x : Take). h x.1) old.takes (p.place, path) in
    let e : took h new hand ≡ took h (with_pop old (p.place, path)) hand =
    ap (λ (l : Lane). took h l hand) p.counted in
    omega arith
