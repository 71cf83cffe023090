-- From the start of the workers to the account at their end.
use Rattle.std.proofs.Common.{◌≡◌, ◌≢◌, ◌==◌, inl, inr, ℕ, zero, suc, ◌+◌, ◌<◌, Bool, cond, List}
use Rattle.std.proofs.Common.{[], ◌∷◌, ◌++◌, map, length, All, Option, Some, None, MatchOption}
use Rattle.std.proofs.Common.{slice_index_or, slice_set, get_or-set_same, get_or-set_other, sym}
use Rattle.std.proofs.Common.{refl, ap, ◌∙◌, subst, arith}
use Rattle.std.proofs.lemmas.Bool.Decides.{eqb_tells}
use Rattle.std.proofs.lemmas.List.Elements.{All-weaker, All-nil, All-cons}
use Rattle.std.proofs.lemmas.Option.{same_Some}
use Rattle.boxcar.specs.Table.{Shelves}
use Rattle.bisect.specs.Trees.{Tree}
use Rattle.accounts.specs.Weights.{total}
use Rattle.accounts.proofs.SumsLaws.{total_append, total_map}
use Rattle.box_deques.specs.Rule.{Belongs}
use Rattle.box_deques.specs.Seen.{Lane, Thief, Seat, Hand, Name, seat_at, HasPass, IsNew, IsSeated}
use Rattle.box_deques.specs.Seen.{no_lane, with_hands, with_push}
use Rattle.box_deques.specs.Stealing.{CanSteal}
use Rattle.fact_board.specs.Sees.{Sees}
use Rattle.box_workers.specs.declared.fate.Held.{Held}
use Rattle.box_workers.specs.Ends.{HeldFits, RecordFits}
use Rattle.box_workers.specs.Fates.{IsHeld}
use Rattle.box_workers.specs.declared.post.Post.{Post}
use Rattle.box_workers.specs.declared.record.Record.{Record}
use Rattle.box_workers.specs.Seen.{BoxTask, board_of}
use Rattle.box_workers.specs.Starts.{IsThief, lane_name}
use Rattle.box_workers.proofs.Starts.{IsStart, AreStarts}
use Rattle.box_workers.specs.Sums.{sum_to}
use Rattle.box_workers.specs.Taking.{weight_of, took}
use Rattle.box_workers.specs.Joins.{no_hand, taken_of_lane, lanes_pushed, lanes_took, CanClose}
use Rattle.box_workers.specs.Joins.{CanCloseAll}
use Rattle.box_workers.specs.Records.{children_of_all, children_of_held, record_weight, IsRecord}
use Rattle.box_workers.specs.Gathered.{IsAccount}
use Rattle.box_workers.proofs.Sums.{sum_same, sum_plus, sum_swap, sum_zero, shifted, hand_by_lanes}

-- a worker at its start can steal
pub start_can_steal : {E Q : Type 0} (n capacity : ℕ) (names : ℕ → Name) (k : ℕ) (post : Post E Q)
    → IsStart n capacity names k post → CanSteal capacity post.hand post.thieves.items
start_can_steal n capacity names k post s =
    All-weaker (IsThief n names k) (λ (t : Thief). HasPass post.hand.seats t.number t.name capacity
    × (post.hand.number ≢ t.number))
    (λ t (below, other, name).
    let seat = s.seats t.number below in (
      (
        let l = s.long in omega arith,
        ap (λ (x : Seat). x.lane) seat ∙ ap (λ (m : Name). Some m) (sym name),
        ap (λ (x : Seat). x.room) seat,
      ),
      λ e. other (sym e ∙ s.hand),
    ))
    post.thieves.items s.thieves

-- a sum over a list, by its places
pub total_by_index : {X : Type 0} (f : X → ℕ) (xs : List X) (g : ℕ → ℕ) → ((k : ℕ) (d : X)
    → k < length xs → g k ≡ f (slice_index_or xs k d)) → total f xs ≡ sum_to g (length xs)
total_by_index f [] g h = refl
total_by_index f (x ∷ xs) g h =
    let ih = total_by_index f xs (λ k. g (suc k)) (λ k d below. h (suc k) d (omega arith)) in
    shifted g (length xs) (f x) (total f xs) (h 0 x (omega arith)) ih

-- what was taken of all lanes, from the number i on
lanes_took_by_index : (h : List ℕ → ℕ) (i : ℕ) (ls : List Lane) (hands : List Hand) (g : ℕ → ℕ)
    → ((k : ℕ) (d : Lane) → k < length ls → g k ≡ weight_of h (slice_index_or ls k d).takes
    + sum_to (taken_of_lane h hands (i + k)) (length hands))
    → lanes_took h i ls hands ≡ sum_to g (length ls)
lanes_took_by_index h i [] hands g e = refl
lanes_took_by_index h i (l ∷ ls) hands g e =
    let at : (k : ℕ) → i + 1 + k ≡ i + suc k = λ k. omega arith in
    let ih = lanes_took_by_index h (i + 1) ls hands (λ k. g (suc k)) (λ k d below.
    e (suc k) d (omega arith) ∙ ap (λ (m : ℕ). weight_of h (slice_index_or ls k d).takes
    + sum_to (taken_of_lane h hands m) (length hands)) (sym (at k))) in
    let z : i + 0 ≡ i = omega arith in
    let first = e 0 l (omega arith)
    ∙ ap (λ (m : ℕ). weight_of h l.takes + sum_to (taken_of_lane h hands m) (length hands)) z in
    shifted g (length ls) (weight_of h l.takes + sum_to (taken_of_lane h hands i) (length hands))
    (lanes_took h (i + 1) ls hands) first ih

pub index_map : {X Y : Type 0} (f : X → Y) (xs : List X) (k : ℕ) (d : X) (e : Y) → k < length xs
    → slice_index_or (map f xs) k e ≡ f (slice_index_or xs k d)
index_map f [] k d e below = absurd (omega arith)
index_map f (x ∷ xs) zero d e below = refl
index_map f (x ∷ xs) (suc k) d e below = index_map f xs k d e (omega arith)

pub length_map : {X Y : Type 0} (f : X → Y) (xs : List X) → length (map f xs) ≡ length xs
length_map f [] = refl
length_map f (x ∷ xs) = ap suc (length_map f xs)

total_same : {X : Type 0} (f g : X → ℕ) (xs : List X)
    → ((k : ℕ) (d : X) → k < length xs → f (slice_index_or xs k d) ≡ g (slice_index_or xs k d))
    → total f xs ≡ total g xs
total_same f g [] h = refl
total_same f g (x ∷ xs) h = let ih = total_same f g xs (λ k d below. h (suc k) d (omega arith)) in
    let e = h 0 x (omega arith) in omega arith

pub index_default : {X : Type 0} (xs : List X) (k : ℕ) (d e : X) → k < length xs
    → slice_index_or xs k d ≡ slice_index_or xs k e
index_default [] k d e below = absurd (omega arith)
index_default (x ∷ xs) zero d e below = refl
index_default (x ∷ xs) (suc k) d e below = index_default xs k d e (omega arith)

later_is_not_first : (k : ℕ) → cond {A = List (List ℕ)} (suc k == 0) ([] ∷ []) [] ≡ []
later_is_not_first k = elim (eqb_tells (suc k) 0) [
  | inl same ↦ absurd (let s = same.1 in omega arith)
  | inr other ↦ ap (λ (r : Bool). cond {A = List (List ℕ)} r ([] ∷ []) []) other.0
]

all_close : {E Q : Type 0} (i : ℕ) (qs : List (Post E Q)) (hands : List Hand)
    → ((k : ℕ) (d : Post E Q) → k < length qs → CanClose (i + k) (slice_index_or qs k d).lane hands)
    → CanCloseAll i (map (λ (q : Post E Q). q.lane) qs) hands
all_close i [] hands each = tt
all_close {E} {Q} i (q ∷ qs) hands each = (
  subst (λ (n : ℕ). CanClose n q.lane hands) (let z : i + 0 ≡ i = omega arith in z)
      (each 0 q (omega arith)),
  all_close (i + 1) qs hands (λ k d below. subst (λ (n : ℕ). CanClose n (slice_index_or qs k d).lane
      hands) (let z : i + suc k ≡ i + 1 + k = omega arith in z) (each (suc k) d (omega arith))),
)

held_fits : {E : Type 0} (t : Tree)
    (path_of : E → List ℕ) (capacity : ℕ) (board : Shelves) (pushes : ℕ) (o : Option (Held E))
    → MatchOption o (Unit {0}) (IsHeld t path_of capacity board pushes)
    → MatchOption o (Unit {0}) (HeldFits t path_of board)
held_fits t path_of capacity board pushes None m = tt
held_fits t path_of capacity board pushes (Some b) m =
    record { world = m.world; own = m.own; few = m.few }

all_fit : {E Q : Type 0} (P : Record E → Type 0) (qs : List (Post E Q)) → ((k : ℕ) (d : Post E Q)
    → k < length qs → P (slice_index_or qs k d).done) → All P (map (λ (q : Post E Q). q.done) qs)
all_fit {E} {Q} P [] each = All-nil P
all_fit {E} {Q} P (q ∷ qs) each = All-cons P q.done (map (λ (q : Post E Q). q.done) qs)
    (each 0 q (omega arith)) (all_fit P qs (λ k d below. each (suc k) d (omega arith)))

module _ {E Q : Type 0} (t : Tree) (path_of : E → List ℕ) (capacity : ℕ) (board : Shelves) where
  abbrev Did : Post E Q → Post E Q → Type 0
  Did p q = IsRecord t path_of capacity board p.lane q.lane p.hand q.hand q.done.settled.items
      q.done.split.items q.done.held

  -- each worker did what its record says
  abbrev pub EachDid : List (Post E Q) → List (Post E Q) → Type 0
  EachDid ps qs = (k : ℕ) (d : Post E Q) → k < length ps
      → Did (slice_index_or ps k d) (slice_index_or qs k d)

  -- at the start nothing was taken
  took_nothing : (h : List ℕ → ℕ) (n : ℕ) (names : ℕ → Name) (k : ℕ) (p : Post E Q)
      → IsStart n capacity names k p → took h p.lane p.hand ≡ 0
  took_nothing h n names k p s =
      let a : weight_of h p.lane.takes ≡ 0 = ap (weight_of h) s.takes in
      let b = hand_by_lanes h p.hand.seats in
      let c : sum_to (λ j. weight_of h (seat_at p.hand.seats j).takes) (length p.hand.seats)
      ≡ sum_to (λ _. 0) (length p.hand.seats) =
      sum_same (λ j. weight_of h (seat_at p.hand.seats j).takes)
      (λ _. 0) (length p.hand.seats) (λ j below. ap (λ (x : Seat). weight_of h x.takes)
      (s.seats j (let l = s.long in omega arith))) in
      let z = sum_zero (length p.hand.seats) in omega arith

  -- what one worker's lane was pushed
  pushed_of : (h : List ℕ → ℕ) (p q : Post E Q) (start : List (List ℕ))
      → p.lane.pushed ≡ start → Did p q
      → total h q.lane.pushed ≡ total h start + total h (children_of_all t q.done.split.items
      ++ children_of_held q.done.held)
  pushed_of h p q start e d =
      let a = ap (λ (ps : List (List ℕ)). total h ps) d.pushed in
      let b = total_append h p.lane.pushed
      (children_of_all t q.done.split.items ++ children_of_held q.done.held) in
      let c : total h p.lane.pushed ≡ total h start = ap (λ (ps : List (List ℕ)). total h ps) e in
      omega arith

  -- what all lanes were pushed
  all_pushed : (capacity' n : ℕ) (names : ℕ → Name) (ps qs : List (Post E Q))
      → length qs ≡ length ps → 0 < length ps → ((k : ℕ) (d : Post E Q) → k < length ps
      → IsStart n capacity' names k (slice_index_or ps k d)) → EachDid ps qs
      → (h : List ℕ → ℕ)
      → total (λ (q : Post E Q). total h q.lane.pushed) qs ≡ h [] + total (λ (q : Post E Q).
      total h (children_of_all t q.done.split.items ++ children_of_held q.done.held)) qs
  all_pushed capacity' n names [] qs long some starts did h = absurd (omega arith)
  all_pushed capacity' n names (p ∷ ps) [] long some starts did h = absurd (omega arith)
  all_pushed capacity' n names (p ∷ ps) (q ∷ qs) long some starts did h =
      let first = pushed_of h p q ([] ∷ [])
      (starts 0 p (omega arith)).pushed (did 0 p (omega arith)) in
      let rest = total_same (λ (x : Post E Q). total h x.lane.pushed) (λ (x : Post E Q).
      total h (children_of_all t x.done.split.items ++ children_of_held x.done.held)) qs
      (λ k d below.
      let lt : suc k < length (p ∷ ps) = omega arith in
      let e = pushed_of h (slice_index_or ps k d) (slice_index_or qs k d) []
      ((starts (suc k) d lt).pushed ∙ later_is_not_first k) (did (suc k) d lt) in
      omega arith) in
      omega arith

  module _ (names : ℕ → Name) (ps qs : List (Post E Q)) (long : length qs ≡ length ps)
      (starts : AreStarts capacity names ps) (did : EachDid ps qs) where
    -- what all took
    all_took : (h : List ℕ → ℕ) → total (λ (q : Post E Q). took h q.lane q.hand) qs ≡ total
        (λ (q : Post E Q). record_weight h q.done.settled.items q.done.split.items q.done.held) qs
    all_took h =
        total_same (λ (q : Post E Q). took h q.lane q.hand)
        (λ (q : Post E Q). record_weight h q.done.settled.items q.done.split.items q.done.held) qs
        (λ k d below. let lt : k < length ps = omega arith in let a = (did k d lt).taken h in
        let b = took_nothing h (length ps) names k (slice_index_or ps k d) (starts k d lt) in
        omega arith)

    abbrev lanes_of : List Lane
    lanes_of = map (λ (q : Post E Q). q.lane) qs

    abbrev hands_of : List Hand
    hands_of = map (λ (q : Post E Q). q.hand) qs

    -- by lanes or by hands
    lanes_took_total : (h : List ℕ → ℕ) → lanes_took h 0 (map (λ (q : Post E Q). q.lane) qs)
        (map (λ (q : Post E Q). q.hand) qs) ≡ total (λ (q : Post E Q). took h q.lane q.hand) qs
    lanes_took_total h =
        let n : ℕ = length qs in
        let own : ℕ → ℕ = λ k. weight_of h (slice_index_or lanes_of k no_lane).takes in
        let by_lane : ℕ → ℕ = λ k. own k + sum_to (taken_of_lane h hands_of k) (length qs) in
        let by_hand : ℕ → ℕ = λ k. own k + sum_to (λ j. taken_of_lane h hands_of j k) (length qs) in
        let ll = length_map (λ (q : Post E Q). q.lane) qs in
        let lh = length_map (λ (q : Post E Q). q.hand) qs in
        let a = lanes_took_by_index h 0 lanes_of hands_of by_lane
        (λ k d below.
        ap (λ (l : Lane). weight_of h l.takes + sum_to (taken_of_lane h hands_of k) (length qs))
        (index_default lanes_of k no_lane d below)
        ∙ ap (λ (m : ℕ). weight_of h (slice_index_or lanes_of k d).takes
        + sum_to (taken_of_lane h hands_of k) m) (sym lh)
        ∙ ap (λ (m : ℕ). weight_of h (slice_index_or lanes_of k d).takes + sum_to
        (taken_of_lane h hands_of m) (length hands_of)) (let z : k ≡ 0 + k = omega arith in z)) in
        let e : sum_to by_lane (length lanes_of) ≡ sum_to by_lane (length qs) =
        ap (sum_to by_lane) ll in
        let p = sum_plus own (λ k. sum_to (taken_of_lane h hands_of k) (length qs)) (length qs) in
        let s = sum_swap (λ j k. taken_of_lane h hands_of j k) (length qs) (length qs) in
        let r = sum_plus own (λ k. sum_to (λ j. taken_of_lane h hands_of j k) (length qs))
        (length qs) in
        let b = total_by_index (λ (q : Post E Q). took h q.lane q.hand) qs by_hand
        (λ k d below.
        let lt : k < length ps = omega arith in
        let l : slice_index_or lanes_of k no_lane ≡ (slice_index_or qs k d).lane =
        index_map (λ (q : Post E Q). q.lane) qs k d no_lane below in
        let x : slice_index_or hands_of k no_hand ≡ (slice_index_or qs k d).hand =
        index_map (λ (q : Post E Q). q.hand) qs k d no_hand below in
        let size = (did k d lt).hand_on.passes.long ∙ (starts k d lt).long ∙ sym long in
        let byl = hand_by_lanes h (slice_index_or qs k d).hand.seats in
        let sz : sum_to (λ j. weight_of h (seat_at (slice_index_or qs k d).hand.seats j).takes)
        (length (slice_index_or qs k d).hand.seats) ≡ sum_to (λ j.
        weight_of h (seat_at (slice_index_or qs k d).hand.seats j).takes) (length qs) =
        ap (sum_to (λ j. weight_of h (seat_at (slice_index_or qs k d).hand.seats j).takes)) size in
        let hs : sum_to (λ j. taken_of_lane h hands_of j k) (length qs) ≡ sum_to (λ j.
        weight_of h (seat_at (slice_index_or qs k d).hand.seats j).takes) (length qs) =
        ap (λ (m : Hand). sum_to (λ j. weight_of h (seat_at m.seats j).takes) (length qs)) x in
        let ls : own k ≡ weight_of h (slice_index_or qs k d).lane.takes =
        ap (λ (m : Lane). weight_of h m.takes) l in
        omega arith) in
        omega arith

    pub account : (left : List (BoxTask E))
        → 0 < length ps → ((h : List ℕ → ℕ) → lanes_pushed h (map (λ (q : Post E Q). q.lane) qs)
        ≡ lanes_took h 0 (map (λ (q : Post E Q). q.lane) qs) (map (λ (q : Post E Q). q.hand) qs)
        + total (λ (b : BoxTask E). h b.path) left)
        → IsAccount t (map (λ (q : Post E Q). q.done) qs) left
    account left some closed h =
        let c = closed h in
        let a = lanes_took_total h in
        let b = all_took h in
        let d = all_pushed capacity (length ps) names ps qs long some starts did h in
        let e = total_map (λ (l : Lane). total h l.pushed) (λ (q : Post E Q). q.lane) qs in
        let f = total_map (λ (r : Record E). total h (children_of_all t r.split.items
        ++ children_of_held r.held)) (λ (q : Post E Q). q.done) qs in
        let g = total_map (λ (r : Record E). record_weight h r.settled.items r.split.items r.held)
        (λ (q : Post E Q). q.done) qs in
        omega arith

    -- the lanes can be closed
    can_close : (k : ℕ) (d : Post E Q) → k < length qs
        → CanClose k (slice_index_or qs k d).lane (map (λ (q : Post E Q). q.hand) qs)
    can_close k d below =
        let lh = length_map (λ (q : Post E Q). q.hand) qs in
        let lt : k < length ps = omega arith in
        let me = did k d lt in
        let at = starts k d lt in
        record {
          number = me.lane_on.number ∙ at.number;
          all = lh ∙ long ∙ sym (me.lane_on.hands ∙ at.hands);
          below = omega arith;
          passes = (λ m e inside.
              let mq : m < length qs = omega arith in
              let mp : m < length ps = omega arith in
              let other = did m d mp in
              let start = starts m d mp in
              let x : slice_index_or hands_of m e ≡ (slice_index_or qs m d).hand =
              index_map (λ (q : Post E Q). q.hand) qs m d e mq in
              let P : Hand → Type 0 = λ z. (k < length z.seats) × ((seat_at z.seats k).lane
              ≡ Some (slice_index_or qs k d).lane.name) × ((seat_at z.seats k).hand ≡ m) in
              let size = other.hand_on.passes.long in let was = start.long in
              let seat = start.seats k lt in
              subst P (sym x) (
                omega arith,
                other.hand_on.passes.lanes k ∙ ap (λ (s : Seat). s.lane) seat
                    ∙ ap (λ (n : Name). Some n) (sym (me.lane_on.name ∙ at.name)),
                other.hand_on.passes.hands k ∙ ap (λ (s : Seat). s.hand) seat,
              ));
          own = (λ m e inside same.
              let mq : m < length qs = omega arith in
              let mp : m < length ps = omega arith in
              let other = did m d mp in
              let start = starts m d mp in
              let x : slice_index_or hands_of m e ≡ (slice_index_or qs m d).hand =
              index_map (λ (q : Post E Q). q.hand) qs m d e mq in
              let number : (slice_index_or ps m d).hand.number ≡ k = start.hand ∙ same in
              let seat = start.seats k lt in
              let F : ℕ → Type 0 = λ n. (seat_at (slice_index_or qs m d).hand.seats n).takes
              ≡ (seat_at (slice_index_or ps m d).hand.seats n).takes in
              let own : (seat_at (slice_index_or qs m d).hand.seats k).takes
              ≡ (seat_at (slice_index_or ps m d).hand.seats k).takes =
              subst F number other.hand_on.passes.own in
              subst (λ (z : Hand). (seat_at z.seats k).takes ≡ []) (sym x)
              (own ∙ ap (λ (s : Seat). s.takes) seat));
        }

    pub can_close_all : CanCloseAll 0 (map (λ (q : Post E Q). q.lane) qs)
        (map (λ (q : Post E Q). q.hand) qs)
    can_close_all = all_close 0 qs (map (λ (q : Post E Q). q.hand) qs) (λ k d below. subst
        (λ (n : ℕ). CanClose n (slice_index_or qs k d).lane (map (λ (q : Post E Q). q.hand) qs))
        (let z : k ≡ 0 + k = omega arith in z) (can_close k d below))

    pub records_fit : All (RecordFits t path_of board) (map (λ (q : Post E Q). q.done) qs)
    records_fit = all_fit (RecordFits t path_of board) qs
        (λ k d below. let lt : k < length ps = omega arith in let r = did k d lt in
        record {
          leaves = r.leaves;
          inner = r.inner;
          held = held_fits t path_of capacity board (length (slice_index_or qs k d).lane.pushed)
              (slice_index_or qs k d).done.held r.fits;
        })

-- a task of the lanes' world belongs to the board
pub task_fits : {E : Type 0} (board : Shelves) (world : Option Shelves) (parent : Option (Sees E))
    → world ≡ Some board → Belongs (board_of parent) world
    → MatchOption parent (Unit {0}) (λ s. s.board ≡ board)
task_fits board world None e b = tt
task_fits board world (Some s) e b = same_Some s.board board (sym b ∙ e)

-- a thief of the lane of another post
pub thief_of : {E Q : Type 0} (posts : List (Post E Q)) (me number : ℕ) (post : Post E Q)
    (thief : Thief) → number < length posts → post ≡ slice_index_or posts number post
    → post.lane.number ≡ number → number ≢ me
    → (thief.number ≡ post.lane.number) × (thief.name ≡ post.lane.name)
    → IsThief (length posts) (lane_name (map (λ (q : Post E Q). q.lane) posts)) me thief
thief_of {E} {Q} posts me number post thief below is at other (same, name) =
    let n : thief.number ≡ number = same ∙ at in
    let l : slice_index_or (map (λ (q : Post E Q). q.lane) posts) number no_lane ≡ post.lane =
    index_map (λ (q : Post E Q). q.lane) posts number post no_lane below
    ∙ ap (λ (q : Post E Q). q.lane) (sym is) in
    let N : ℕ → Type 0 = λ m. thief.name ≡ lane_name (map (λ (q : Post E Q). q.lane) posts) m in (
      omega arith,
      (λ e. other (sym n ∙ e)),
      subst N (sym n) (name ∙ ap (λ (x : Lane). x.name) (sym l)),
    )

-- a change that the map doesn't see
pub map_set : {X Y : Type 0} (f : X → Y) (xs : List X) (i : ℕ) (d y : X)
    → f y ≡ f (slice_index_or xs i d) → map f (slice_set xs i y) ≡ map f xs
map_set f [] i d y e = refl
map_set {X} {Y} f (x ∷ xs) zero d y e = ap (λ (z : Y). z ∷ map f xs) e
map_set {X} {Y} f (x ∷ xs) (suc i) d y e = ap (λ (l : List Y). f x ∷ l) (map_set f xs i d y e)

-- one place more
pub set_below : {X : Type 0} (P : ℕ → X → Type 0) (xs : List X) (i : ℕ) (y : X) → i < length xs
    → ((k : ℕ) (d : X) → k < i → P k (slice_index_or xs k d)) → P i y → (k : ℕ) (d : X) → k < i + 1
    → P k (slice_index_or (slice_set xs i y) k d)
set_below {X} P xs i y inside before here k d below =
    elim (eqb_tells k i) [
      | inl same ↦
          let F : ℕ → Type 0 = λ m. P m (slice_index_or (slice_set xs i y) m d) in
          subst F (sym same.1) (subst (P i) (sym (get_or-set_same xs i y d inside)) here)
      | inr other ↦ subst (P k) (sym (get_or-set_other xs i k y d other.1))
          (before k d (let o = other.1 in omega arith))
    ]

-- lists with the same map, place by place
pub same_map : {X Y : Type 0} (f : X → Y) (xs ys : List X) → map f xs ≡ map f ys → (k : ℕ) (d : X)
    → k < length xs → k < length ys → f (slice_index_or xs k d) ≡ f (slice_index_or ys k d)
same_map {X} {Y} f xs ys e k d a b = sym (index_map f xs k d (f d) a)
    ∙ ap (λ (l : List Y). slice_index_or l k (f d)) e ∙ index_map f ys k d (f d) b

-- what the lanes are once the hands were made and the root was pushed
module _ (n capacity : ℕ) (pool lent lanes : List Lane) (hands : List Hand) (size : length pool ≡ n)
    (some : 0 < n) (new : (k : ℕ) (d : Lane) → k < n → IsNew k (slice_index_or pool k d))
    (long : length lent ≡ n)
    (are_lent : (k : ℕ) (d : Lane) → k < length pool
    → slice_index_or lent k d ≡ with_hands (slice_index_or pool k d) (length pool))
    (first : Lane) (is_first : first ≡ slice_index_or lent 0 first)
    (pushed : lanes ≡ slice_set lent 0 (with_push first []))
    (seated : (k : ℕ) (d : Hand) → k < length pool
    → IsSeated k capacity pool (slice_index_or hands k d)) where
  abbrev At : ℕ → Lane → Lane → Type 0
  At k was l = (l.number ≡ k) × (l.hands ≡ n) × (l.takes ≡ [])
      × (l.pushed ≡ cond (k == 0) ([] ∷ []) []) × (l.name ≡ was.name)

  first_lane : (d : Lane)
      → slice_index_or lanes 0 d ≡ with_push (with_hands (slice_index_or pool 0 d) (length pool)) []
  first_lane d =
      let z : 0 < length lent = omega arith in
      let zp : 0 < length pool = omega arith in
      ap (λ (ls : List Lane). slice_index_or ls 0 d) pushed
      ∙ get_or-set_same lent 0 (with_push first []) d z
      ∙ ap (λ (l : Lane). with_push l []) (is_first
      ∙ index_default lent 0 first d z ∙ are_lent 0 d zp)

  pub lane_at : (k : ℕ) (d : Lane) → k < n
      → At k (slice_index_or pool k d) (slice_index_or lanes k d)
  lane_at k d below =
      let was = new k d below in
      let lt : k < length pool = omega arith in
      elim (eqb_tells k 0) [
        | inl same ↦
            let F : ℕ → Type 0 = λ m. slice_index_or lanes m d
            ≡ with_push (with_hands (slice_index_or pool m d) (length pool)) [] in
            let e : slice_index_or lanes k d ≡ with_push (with_hands (slice_index_or pool k d)
            (length pool)) [] = subst F (sym same.1) (first_lane d) in
            let c : cond {A = List (List ℕ)} (k == 0) ([] ∷ []) [] ≡ [] ∷ [] =
            ap (λ (r : Bool). cond {A = List (List ℕ)} r ([] ∷ []) []) same.0 in
            subst (At k (slice_index_or pool k d)) (sym e)
            (was.0, size, was.2, ap (λ (ps : List (List ℕ)). ps ++ [] ∷ []) was.1 ∙ sym c, refl)
        | inr other ↦
            let e : slice_index_or lanes k d ≡ with_hands (slice_index_or pool k d) (length pool) =
            ap (λ (ls : List Lane). slice_index_or ls k d) pushed
            ∙ get_or-set_other lent 0 k (with_push first []) d other.1 ∙ are_lent k d lt in
            let c : cond {A = List (List ℕ)} (k == 0) ([] ∷ []) [] ≡ [] =
            ap (λ (r : Bool). cond {A = List (List ℕ)} r ([] ∷ []) []) other.0 in
            subst (At k (slice_index_or pool k d)) (sym e) (was.0, size, was.2, was.1 ∙ sym c, refl)
      ]

  -- so the posts are those of workers at their start
  pub are_starts : {E Q : Type 0} (posts : List (Post E Q))
      → map (λ (q : Post E Q). q.lane) posts ≡ lanes
      → map (λ (q : Post E Q). q.hand) posts ≡ hands → length posts ≡ n
      → ((k : ℕ) (d : Post E Q) → k < length posts → All (IsThief (length posts) (lane_name
      (map (λ (q : Post E Q). q.lane) posts)) k) (slice_index_or posts k d).thieves.items)
      → AreStarts capacity (lane_name (map (λ (q : Post E Q). q.lane) posts)) posts
  are_starts {E} {Q} posts ls hs count thieves k d below =
      let p : Post E Q = slice_index_or posts k d in
      let kn : k < n = omega arith in
      let l : (slice_index_or lanes k p.lane) ≡ p.lane = ap (λ (xs : List Lane). slice_index_or xs k
      p.lane) (sym ls) ∙ index_map (λ (q : Post E Q). q.lane) posts k d p.lane below in
      let h : (slice_index_or hands k p.hand) ≡ p.hand = ap (λ (xs : List Hand). slice_index_or xs k
      p.hand) (sym hs) ∙ index_map (λ (q : Post E Q). q.hand) posts k d p.hand below in
      let a = subst (At k (slice_index_or pool k p.lane)) l (lane_at k p.lane kn) in
      let kp : k < length pool = omega arith in
      let b = subst (IsSeated k capacity pool) h (seated k p.hand kp) in
      let named : (j : ℕ) → j < n
      → (slice_index_or pool j no_lane).name ≡ lane_name (map (λ (q : Post E Q). q.lane) posts) j =
      λ j lt. sym ((lane_at j no_lane lt).4)
      ∙ ap (λ (xs : List Lane). (slice_index_or xs j no_lane).name) (sym ls) in
      record {
        number = a.0;
        hands = a.1 ∙ sym count;
        name = sym (ap (λ (x : Lane). x.name)
            (index_map (λ (q : Post E Q). q.lane) posts k d no_lane below));
        takes = a.2;
        pushed = a.3;
        hand = b.0;
        long = b.1 ∙ size ∙ sym count;
        seats = (λ j lt.
            let jn : j < n = omega arith in let jp : j < length pool = omega arith in
            b.2 j no_lane jp ∙ ap (λ (m : Name).
            record { hand = k; room = capacity; lane = Some m; takes = []; empty = 0 })
            (named j jn));
        thieves = thieves k d below;
      }
