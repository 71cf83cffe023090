-- Sums over numbers, and what the ledgers of all lanes come to.
use Rattle.std.proofs.Common.{◌≡◌, ◌≢◌, ◌==◌, inl, inr, ℕ, zero, suc, ◌+◌, ◌<◌, ◌≤◌, Bool, true}
use Rattle.std.proofs.Common.{false, cond, List, [], ◌∷◌, ◌++◌, length, All, sym, refl, ap, ◌∙◌}
use Rattle.std.proofs.Common.{arith}
use Rattle.std.proofs.lemmas.Bool.Decides.{eqb_tells}
use Rattle.std.proofs.lemmas.List.Elements.{All-head, All-tail}
use Rattle.accounts.specs.Weights.{total}
use Rattle.accounts.proofs.SumsLaws.{total_append}
use Rattle.box_deques.specs.Close.{AreHands}
use Rattle.box_deques.specs.Rule.{Gone, taken_by, paths_of}
use Rattle.box_deques.specs.Seen.{Seat, Hand, seat_at, OwnIsEmpty}
use Rattle.box_deques.specs.Views.{Take}
use Rattle.box_workers.specs.Joins.{no_hand, taken_of_lane}
use Rattle.box_workers.specs.Sums.{sum_to}
use Rattle.box_workers.specs.Taking.{weight_of}

pub sum_same : (f g : ℕ → ℕ) (n : ℕ) → ((k : ℕ) → k < n → f k ≡ g k) → sum_to f n ≡ sum_to g n
sum_same f g zero h = refl
sum_same f g (suc n) h = let ih = sum_same f g n (λ k lt. h k (omega arith)) in
    let e = h n (omega arith) in omega arith

pub sum_plus : (f g : ℕ → ℕ) (n : ℕ) → sum_to (λ k. f k + g k) n ≡ sum_to f n + sum_to g n
sum_plus f g zero = omega arith
sum_plus f g (suc n) = let ih = sum_plus f g n in omega arith

pub sum_zero : (n : ℕ) → sum_to (λ _. 0) n ≡ 0
sum_zero zero = refl
sum_zero (suc n) = let ih = sum_zero n in omega arith

-- a table may be added up by rows or by columns
pub sum_swap : (f : ℕ → ℕ → ℕ) (m n : ℕ)
    → sum_to (λ j. sum_to (λ k. f j k) m) n ≡ sum_to (λ k. sum_to (λ j. f j k) n) m
sum_swap f m zero = sym (sum_zero m)
sum_swap f m (suc n) = let ih = sum_swap f m n in
    let p = sum_plus (λ k. sum_to (λ j. f j k) n) (λ k. f n k) m in omega arith

-- only at one number
only_at : (e c n : ℕ) → (e < n → sum_to (λ w. cond (e == w) c 0) n ≡ c)
    × (n ≤ e → sum_to (λ w. cond (e == w) c 0) n ≡ 0)
only_at e c zero = ((λ lt. absurd (omega arith)), λ _. refl)
only_at e c (suc n) =
    let ih = only_at e c n in
    elim (eqb_tells e n) [
      | inl same ↦
          let v : cond (e == n) c 0 ≡ c = ap (λ (r : Bool). cond {A = ℕ} r c 0) same.0 in
          let s = same.1 in let z = ih.1 (omega arith) in
          ((λ _. omega arith), λ le. absurd (omega arith))
      | inr other ↦
          let v : cond (e == n) c 0 ≡ 0 = ap (λ (r : Bool). cond {A = ℕ} r c 0) other.0 in
          let o = other.1 in (
            (λ lt. let a = ih.0 (omega arith) in omega arith),
            λ le. let a = ih.1 (omega arith) in omega arith,
          )
    ]

taken_cons : (h : List ℕ → ℕ) (w at : ℕ) (e : Gone) (es : List Gone) (r : Bool)
    → weight_of h (cond r ((at, e.1) ∷ taken_by w (at + 1) es) (taken_by w (at + 1) es))
    ≡ weight_of h (taken_by w (at + 1) es) + cond {A = ℕ} r (h e.1) 0
taken_cons h w at e es true = omega arith
taken_cons h w at e es false = omega arith

-- what left a lane is what the parties took
pub all_taken : (h : List ℕ → ℕ) (n at : ℕ) (es : List Gone) → All (λ e. e.0 < n) es
    → total h (paths_of es) ≡ sum_to (λ w. weight_of h (taken_by w at es)) n
all_taken h n at [] all = sym (sum_zero n)
all_taken h n at (e ∷ es) all =
    let ih = all_taken h n (at + 1) es (All-tail (λ (e : Gone). e.0 < n) e es all) in
    let s = sum_same (λ w. weight_of h (taken_by w at (e ∷ es)))
    (λ w. weight_of h (taken_by w (at + 1) es) + cond {A = ℕ} (e.0 == w) (h e.1) 0) n
    (λ w _. taken_cons h w at e es (e.0 == w)) in
    let p = sum_plus (λ w. weight_of h (taken_by w (at + 1) es))
    (λ w. cond {A = ℕ} (e.0 == w) (h e.1) 0) n in
    let o = (only_at e.0 (h e.1) n).0 (All-head (λ (e : Gone). e.0 < n) e es all) in
    omega arith

-- the same but at one number
pub sum_but : (f g : ℕ → ℕ) (me c n : ℕ) → ((k : ℕ) → k < n → k ≢ me → f k ≡ g k) → (f me ≡ c)
    → (g me ≡ 0) → (me < n → sum_to f n ≡ sum_to g n + c) × (n ≤ me → sum_to f n ≡ sum_to g n)
sum_but f g me c zero h a b = ((λ lt. absurd (omega arith)), λ _. refl)
sum_but f g me c (suc n) h a b =
    let ih = sum_but f g me c n (λ k lt o. h k (omega arith) o) a b in
    elim (eqb_tells n me) [
      | inl same ↦
          let s = same.1 in let x : f n ≡ c = ap f same.1 ∙ a in
          let y : g n ≡ 0 = ap g same.1 ∙ b in let z = ih.1 (omega arith) in
          ((λ _. omega arith), λ le. absurd (omega arith))
      | inr other ↦
          let e = h n (omega arith) other.1 in let o = other.1 in (
            (λ lt. let z = ih.0 (omega arith) in omega arith),
            λ le. let z = ih.1 (omega arith) in omega arith,
          )
    ]

-- the ledger of a lane: what was pushed is what its owner and the hands took, and what is left
pub ledger_total : (h : List ℕ → ℕ) (me : ℕ) (hands : List Hand) (own : List Take)
    (pushes : List (List ℕ)) (takes : List Gone) (left : List (List ℕ))
    → me < length hands → pushes ≡ paths_of takes ++ left → All (λ e. e.0 < length hands) takes
    → taken_by me 0 takes ≡ own → AreHands me hands takes → OwnIsEmpty me hands
    → total h pushes ≡ (weight_of h own
    + sum_to (taken_of_lane h hands me) (length hands)) + total h left
ledger_total h me hands own pushes takes left below whole all owner are empty =
    let e = ap (λ (ps : List (List ℕ)). total h ps) whole in
    let a = total_append h (paths_of takes) left in
    let s = all_taken h (length hands) 0 takes all in
    let b = sum_but (λ w. weight_of h (taken_by w 0 takes))
    (taken_of_lane h hands me) me (weight_of h own) (length hands)
    (λ k lt other. ap (weight_of h) (are k no_hand lt other)) (ap (weight_of h) owner)
    (ap (weight_of h) (empty me no_hand below refl)) in
    let c = b.0 below in
    omega arith

-- a sum with one term more in front
pub shifted : (f : ℕ → ℕ) (n c t : ℕ) → f 0 ≡ c → t ≡ sum_to (λ j. f (suc j)) n
    → c + t ≡ sum_to f (suc n)
shifted f zero c t a b = omega arith
shifted f (suc n) c t a b = let ih = shifted f n c (sum_to (λ j. f (suc j)) n) a refl in omega arith

-- what a hand took, by lanes
pub hand_by_lanes : (h : List ℕ → ℕ) (seats : List Seat)
    → total (λ (s : Seat). weight_of h s.takes) seats
    ≡ sum_to (λ j. weight_of h (seat_at seats j).takes) (length seats)
hand_by_lanes h [] = refl
hand_by_lanes h (s ∷ seats) = let ih = hand_by_lanes h seats in shifted
    (λ j. weight_of h (seat_at (s ∷ seats) j).takes) (length seats) (weight_of h s.takes) _ refl ih
