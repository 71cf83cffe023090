-- Lanes are closed one after another.
use Rattle.std.proofs.Common.{◌≡◌, ◌≢◌, ◌⊎◌, ℕ, ◌+◌, ◌<◌, List, [], ◌∷◌, ◌++◌, map, length, All}
use Rattle.std.proofs.Common.{take, drop, slice_index_or, sym, refl, ap, ◌∙◌, subst, arith, inl}
use Rattle.std.proofs.Common.{inr, Some, length-set, get_or-set_same, get_or-set_other}
use Rattle.std.proofs.lemmas.Bool.Decides.{eqb_tells}
use Rattle.std.proofs.lemmas.List.Elements.{All-weaker}
use Rattle.fx_edge.specs.declared.ledger.Ledger.{Ledger}
use Rattle.accounts.specs.Weights.{total}
use Rattle.accounts.proofs.SumsLaws.{total_append, total_map}
use Rattle.box_deques.specs.Close.{AreHands, IsLedgerOf}
use Rattle.box_deques.specs.Rule.{Gone, taken_by}
use Rattle.box_deques.specs.Seen.{Lane, Seat, Hand, Name, no_seat, seat_at, hand_with, without_pass}
use Rattle.box_deques.specs.Seen.{AllPasses, GaveBack}
use Rattle.box_workers.specs.Joins.{no_hand, taken_of_lane, lanes_pushed, lanes_took, CanClose}
use Rattle.box_workers.specs.Joins.{CanCloseAll}
use Rattle.box_workers.specs.Seen.{BoxTask}
use Rattle.box_workers.specs.Sums.{sum_to}
use Rattle.box_workers.specs.Taking.{weight_of}
use Rattle.box_workers.proofs.Sums.{sum_same, ledger_total}

pub first_out : {X : Type 0} (old new : List X) (x : X) → 0 < length old
    → x ≡ slice_index_or old 0 x → new ≡ take 0 old ++ drop (0 + 1) old → old ≡ x ∷ new
first_out [] new x some is rest = absurd (omega arith)
first_out {X} (y ∷ old) new x some is rest =
    ap (λ (z : X). z ∷ old) (sym is) ∙ ap (λ (l : List X). x ∷ l) (sym rest)

-- a seat of another lane
other_seat : (hand : Hand) (j i : ℕ) → i ≢ j
    → seat_at (hand_with hand j without_pass).seats i ≡ seat_at hand.seats i
other_seat hand j i other =
    get_or-set_other hand.seats j i (without_pass (seat_at hand.seats j)) no_seat other

-- the takes of a seat stay
same_takes : (hand : Hand) (j i : ℕ) → j < length hand.seats
    → (seat_at (hand_with hand j without_pass).seats i).takes ≡ (seat_at hand.seats i).takes
same_takes hand j i below = elim (eqb_tells i j) [
  | inl same ↦
      let e : seat_at (hand_with hand j without_pass).seats j
      ≡ without_pass (seat_at hand.seats j) =
      get_or-set_same hand.seats j (without_pass (seat_at hand.seats j)) no_seat below in
      let P : ℕ → Type 0 = λ n. (seat_at (hand_with hand j without_pass).seats n).takes
      ≡ (seat_at hand.seats n).takes in
      subst P (sym same.1) (ap (λ (s : Seat). s.takes) e)
  | inr other ↦ ap (λ (s : Seat). s.takes) (other_seat hand j i other.1)
]

module _ (j : ℕ) (name : Name) (old new : List Hand) (gave : GaveBack j old new)
    (long : length new ≡ length old) (had : AllPasses j name old) where
  took_same : (h : List ℕ → ℕ) (i : ℕ)
      → sum_to (taken_of_lane h new i) (length new) ≡ sum_to (taken_of_lane h old i) (length old)
  took_same h i =
      ap (λ (n : ℕ). sum_to (taken_of_lane h new i) n) long
      ∙ sum_same (taken_of_lane h new i) (taken_of_lane h old i) (length old) (λ k below.
      ap (λ (x : Hand). weight_of h (seat_at x.seats i).takes) (gave k no_hand below)
      ∙ ap (weight_of h) (same_takes (slice_index_or old k no_hand) j i (had k no_hand below).0))

  pub lanes_took_same : (h : List ℕ → ℕ) (i : ℕ) (ls : List Lane)
      → lanes_took h i ls new ≡ lanes_took h i ls old
  lanes_took_same h i [] = refl
  lanes_took_same h i (l ∷ ls) = let ih = lanes_took_same h (i + 1) ls in
      let t = took_same h i in omega arith

  can_close_stays : (i : ℕ) (l : Lane) → j < i → CanClose i l old → CanClose i l new
  can_close_stays i l later can = record {
    number = can.number;
    all = long ∙ can.all;
    below = (let b = can.below in omega arith);
    passes = (λ k d below.
        let lt : k < length old = omega arith in
        let was = can.passes k d lt in
        let s = other_seat (slice_index_or old k d) j i (λ z. absurd (omega arith)) in
        let n = length-set {A = Seat} (slice_index_or old k d).seats j
        (without_pass (seat_at (slice_index_or old k d).seats j)) in
        let P : Hand → Type 0 = λ x. (i < length x.seats) × ((seat_at x.seats i).lane ≡ Some l.name)
        × ((seat_at x.seats i).hand ≡ k) in
        let w = was.0 in
        subst P (sym (gave k d lt))
        (omega arith, ap (λ (x : Seat). x.lane) s ∙ was.1, ap (λ (x : Seat). x.hand) s ∙ was.2));
    own = (λ k d below same.
        let lt : k < length old = omega arith in
        let s = other_seat (slice_index_or old k d) j i (λ z. absurd (omega arith)) in
        subst (λ (x : Hand). (seat_at x.seats i).takes ≡ []) (sym (gave k d lt))
        (ap (λ (x : Seat). x.takes) s ∙ can.own k d lt same));
  }

  pub can_close_all_stays : (i : ℕ) (ls : List Lane) → j < i
      → CanCloseAll i ls old → CanCloseAll i ls new
  can_close_all_stays i [] later can = tt
  can_close_all_stays i (l ∷ ls) later can =
      (can_close_stays i l later can.0, can_close_all_stays (i + 1) ls (omega arith) can.1)

-- what was pushed was taken or stayed, so far as the lanes are closed
abbrev pub ClosedSoFar : {E : Type 0} → List Lane → List Hand → ℕ → List Lane → List Hand
    → List (BoxTask E) → Type 0
ClosedSoFar {E} all first j lanes hands left =
    (h : List ℕ → ℕ) → lanes_pushed h all + lanes_took h j lanes hands
    ≡ lanes_pushed h lanes + (lanes_took h 0 all first + total (λ (b : BoxTask E). h b.path) left)

module _ {E : Type 0} (all : List Lane) (first : List Hand) (j : ℕ) (old new : List Lane) (l : Lane)
    (hands hands' : List Hand) (left stayed : List (BoxTask E)) (out : old ≡ l ∷ new)
    (can : CanCloseAll j old hands) (so_far : ClosedSoFar all first j old hands left)
    (gave : GaveBack l.number hands hands') (long : length hands' ≡ length hands)
    (ledger : Ledger) (is : IsLedgerOf l hands ledger)
    (paths : map (λ (b : BoxTask E). b.path) stayed ≡ ledger.left) where
  here : CanClose j l hands × CanCloseAll (j + 1) new hands
  here = subst (λ (ls : List Lane). CanCloseAll j ls hands) out can

  same : l.number ≡ j
  same = here.0.number

  gave_here : GaveBack j hands hands'
  gave_here = subst (λ (n : ℕ). GaveBack n hands hands') same gave

  -- the owner's number is that of a hand too
  at_hand : (e : Gone) → (e.0 ≡ l.number) ⊎ (e.0 < length hands) → e.0 < length hands
  at_hand e (inl own) = let s = same in let b = here.0.below in omega arith
  at_hand e (inr hand) = hand

  close_next : CanCloseAll (j + 1) new hands'
  close_next = can_close_all_stays j l.name hands hands' gave_here long here.0.passes
      (j + 1) new (omega arith) here.1

  closed_one : ClosedSoFar all first (j + 1) new hands' (left ++ stayed)
  closed_one h =
      let before = so_far h in
      let a : lanes_took h j old hands ≡ lanes_took h j (l ∷ new) hands =
      ap (λ (ls : List Lane). lanes_took h j ls hands) out in
      let b : lanes_pushed h old ≡ lanes_pushed h (l ∷ new) = ap (lanes_pushed h) out in
      let t = lanes_took_same j l.name hands hands' gave_here long here.0.passes h (j + 1) new in
      let takes : List Gone = ledger.takes in
      let o : taken_by j 0 takes ≡ l.takes =
      subst (λ (n : ℕ). taken_by n 0 takes ≡ l.takes) same is.owner in
      let r : AreHands j hands takes = subst (λ (n : ℕ). AreHands n hands takes) same is.takes in
      let below : All (λ (e : Gone). e.0 < length hands) takes =
      All-weaker (λ (e : Gone). (e.0 ≡ l.number) ⊎ (e.0 < length hands))
      (λ (e : Gone). e.0 < length hands) at_hand takes is.workers in
      let all = ledger_total h j hands l.takes ledger.pushes takes ledger.left here.0.below
      is.whole below o r here.0.own in
      let p : total h ledger.pushes ≡ total h l.pushed =
      ap (λ (ps : List (List ℕ)). total h ps) is.pushes in
      let s : total (λ (b : BoxTask E). h b.path) stayed ≡ total h ledger.left = sym (total_map h
      (λ (b : BoxTask E). b.path) stayed) ∙ ap (λ (ps : List (List ℕ)). total h ps) paths in
      let c = total_append (λ (b : BoxTask E). h b.path) left stayed in
      omega arith

  -- one lane more is closed, and the others can be closed still
  pub close_one : ClosedSoFar all first (j + 1) new hands' (left ++ stayed)
      × CanCloseAll (j + 1) new hands'
  close_one = (closed_one, close_next)
