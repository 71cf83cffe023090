-- The points that stay, found one by one.
use Rattle.std.specs.Prelude.{◌≡◌, ◌<◌, ◌≤◌, ◌+◌, ◌-◌, ℕ, zero, suc, Bool, true, false, ◌&&◌, ◌||◌}
use Rattle.std.specs.Prelude.{◌==◌, List, [], ◌∷◌, ◌++◌, length, drop, if◌then◌else◌, refl}
use Rattle.std.proofs.Common.{sym, ap, ◌∙◌, subst, arith, length-append, append_assoc, append-nil}
use Rattle.std.proofs.lemmas.Bool.{and_parts, eqb-true}
use Rattle.std.proofs.lemmas.List.{at_drop_more, at_drop_all}
use Rattle.fx_model.specs.Fraction.{◌≤ℚ◌, ◌<ℚ◌, lt_le, le_refl, le_lt_trans}
use Rattle.dyadic.specs.declared.number.Dyadic.{Dyadic}
use Rattle.dyadic.specs.Values.{value_of, zero_number}
use Rattle.dyadic.specs.Rising.{point_of}
use Rattle.dyadic.proofs.Rising.{point_last}
use Rattle.script_hints.specs.Few.{HasFewPieces}
use Rattle.script_hints.specs.declared.hint.Cutting.{Cutting}
use Rattle.script_hints.specs.declared.hint.Cutting.TheVariants as cutting
use Rattle.script_claims.specs.declared.range.SplitRange.{SplitRange}
use Rattle.script_claims.specs.Ranges.{IsOrdered, is_less, is_inside}
use Rattle.box_tree.specs.Ranges.{IsWithin}
use Rattle.box_tree.specs.Points.{part_at, parts_from, asked_points, is_above_last, with_points}
use Rattle.box_tree.specs.Points.{cut_points, staying, piece_of}
use Rattle.box_tree.proofs.InRanges.{at_bool, lt_in}
use Rattle.box_tree.proofs.Near.{lt_out}
use Rattle.box_tree.proofs.Within.{piece_ordered, points_within}
use Rattle.box_tree.proofs.Cover.{points_rising, none_rising, one_rising}

-- ---- the points that a cutting asks for
pub parts_length : (r : SplitRange) (n i left : ℕ) → length (parts_from r n i left) ≡ left
parts_length r n i zero = refl
parts_length r n i (suc left) = ap (λ (k : ℕ). suc k) (parts_length r n (i + 1) left)

pub part_is : (r : SplitRange) (n i left k : ℕ) → k < left
    → part_at r (i + k) n ≡ point_of (parts_from r n i left) k
part_is r n i zero k l = absurd (omega (arith, l))
part_is r n i (suc left) zero l =
    let e : i + 0 ≡ i = omega arith in ap (λ (j : ℕ). part_at r j n) e
part_is r n i (suc left) (suc k) l =
    let e : i + suc k ≡ i + 1 + k = omega arith in
    ap (λ (j : ℕ). part_at r j n) e ∙ part_is r n (i + 1) left k (omega (arith, l))

in_parts : (r : SplitRange) (n k : ℕ) (p : Dyadic) → k < length (parts_from r n 1 (n - 1))
    → p ≡ part_at r (k + 1) n → p ≡ point_of (parts_from r n 1 (n - 1)) k
in_parts r n k p l q =
    let e : k + 1 ≡ 1 + k = omega arith in
    let m = parts_length r n 1 (n - 1) in
    q ∙ (ap (λ (j : ℕ). part_at r j n) e ∙ part_is r n 1 (n - 1) k (omega (arith, l, m)))

pub part_asked : (r : SplitRange) (c : Cutting) (n k : ℕ) (p : Dyadic) → c ≡ cutting.Pieces n
    → k < length (asked_points r c) → p ≡ part_at r (k + 1) n → p ≡ point_of (asked_points r c) k
part_asked r c n k p e l q =
    let P : Cutting → Type 0 = λ d. k < length (asked_points r d)
    → p ≡ point_of (asked_points r d) k in
    subst P (sym e) (λ m. in_parts r n k p m q) l

pub part_before : (r : SplitRange) (c : Cutting) (n k : ℕ) → c ≡ cutting.Pieces n
    → k < length (asked_points r c) → k + 1 < n
part_before r c n k e l =
    let m = parts_length r n 1 (n - 1) in
    let P : Cutting → Type 0 = λ d. k < length (asked_points r d) → k + 1 < n in
    subst P (sym e) (λ h. omega (arith, h, m)) l

pub few_parts : (c : Cutting) (n : ℕ) → c ≡ cutting.Pieces n → HasFewPieces c → n ≤ 64
few_parts c n e f = subst HasFewPieces e f

pub parts_asked : (r : SplitRange) (c : Cutting) (n m : ℕ) → c ≡ cutting.Pieces n → m ≡ n - 1
    → m ≡ length (asked_points r c)
parts_asked r c n m e q =
    let P : Cutting → Type 0 = λ d. m ≡ length (asked_points r d) in
    subst P (sym e) (q ∙ sym (parts_length r n 1 (n - 1)))

-- ---- all points that stay
-- what stays of p and these, by whether p does
abbrev staying_by : SplitRange → Dyadic → List Dyadic → Bool → List Dyadic
staying_by r p ps b = if b then p ∷ staying (record r { low = p }) ps else staying r ps

same_tests : (a h b : Bool) → (b ≡ true → a ≡ true) → ((a && h) && b) ≡ (b && h)
same_tests true true true k = refl
same_tests true true false k = refl
same_tests true false true k = refl
same_tests true false false k = refl
same_tests false true true k = let e : false ≡ true = k refl in cc
same_tests false true false k = refl
same_tests false false true k = refl
same_tests false false false k = refl

with_true : (b : Bool) → (b && true) ≡ b
with_true true = refl
with_true false = refl

not_zero : (n : ℕ) → 0 < n → (n == 0) ≡ false
not_zero n l = at_bool (n == 0) (λ b. b ≡ false)
    (λ t. let z : n ≡ 0 = eqb-true n 0 t in absurd (omega (arith, z, l))) (λ f. refl)

or_last : (a b c : Bool) → a ≡ false → b ≡ c → (a || b) ≡ c
or_last true b c e f = cc
or_last false b c e f = f

above_is : (points : List Dyadic) (p q : Dyadic)
    → is_above_last (points ++ p ∷ []) q ≡ is_less p q
above_is points p q =
    let n = length-append points (p ∷ []) in
    or_last (length (points ++ p ∷ []) == 0)
    (is_less (point_of (points ++ p ∷ []) (length (points ++ p ∷ []) - 1)) q) (is_less p q)
    (not_zero (length (points ++ p ∷ [])) (omega (arith, n)))
    (ap (λ (k : Dyadic). is_less k q)
    (point_last points p (length (points ++ p ∷ []) - 1) (omega (arith, n))))

-- behind a point that stays, the next one that stays lies inside what is left of the range
next_is : (r : SplitRange) (points : List Dyadic) (p q : Dyadic) → value_of r.low <ℚ value_of p
    → (is_inside r q && is_above_last (points ++ p ∷ []) q) ≡ is_inside (record r { low = p }) q
next_is r points p q l =
    ap (λ (b : Bool). is_inside r q && b) (above_is points p q)
    ∙ same_tests (is_less r.low q) (is_less q r.high) (is_less p q)
    (λ t. lt_out r.low q (le_lt_trans (value_of r.low) (value_of p) (value_of q)
    (lt_le (value_of r.low) (value_of p) l) (lt_in p q t)))

points_stay : (r : SplitRange) (points more : List Dyadic) (last : Dyadic)
    → ((q : Dyadic) → (is_inside r q && is_above_last points q)
    ≡ is_inside (record r { low = last }) q)
    → value_of r.low ≤ℚ value_of last
    → with_points r points more ≡ points ++ staying (record r { low = last }) more
points_stay r points [] last h l = sym (append-nil points)
points_stay r points (p ∷ ps) last h l =
    ap (λ (b : Bool). with_points r (if b then points ++ p ∷ [] else points) ps) (h p)
    ∙ at_bool (is_inside (record r { low = last }) p)
    (λ b. with_points r (if b then points ++ p ∷ [] else points) ps
    ≡ points ++ staying_by (record r { low = last }) p ps b)
    (λ t. let above = lt_in last p (and_parts (is_less last p) (is_less p r.high) t).0 in
    let k = le_lt_trans (value_of r.low) (value_of last) (value_of p) l above in
    points_stay r (points ++ p ∷ []) ps p (λ q. next_is r points p q k)
    (lt_le (value_of r.low) (value_of p) k)
    ∙ append_assoc points (p ∷ []) (staying (record r { low = p }) ps))
    (λ f. points_stay r points ps last h l)

pub cut_is : (r : SplitRange) (c : Cutting) → staying r (asked_points r c) ≡ cut_points r c
cut_is r c = sym (points_stay r [] (asked_points r c) r.low (λ q. with_true (is_inside r q))
    (le_refl (value_of r.low)))

-- ---- one step
at_point : (r : SplitRange) (points : List Dyadic) (k : ℕ) (p : Dyadic) → k < length points
    → p ≡ point_of points k
    → staying r (drop k points) ≡ staying_by r p (drop (k + 1) points) (is_inside r p)
at_point r points k p l e =
    let P : Dyadic → Type 0 = λ q. staying r (drop k points)
    ≡ staying_by r q (drop (k + 1) points) (is_inside r q) in
    subst P (sym e) (at_drop_more (staying r) points k zero_number l)

pub stays_not : (r : SplitRange) (points : List Dyadic) (n k : ℕ) (p : Dyadic)
    → n ≡ length points → k < n → p ≡ point_of points k → is_inside r p ≡ false
    → staying r (drop (k + 1) points) ≡ staying r (drop k points)
stays_not r points n k p m l e f =
    sym (at_point r points k p (omega (arith, m, l)) e
    ∙ ap (staying_by r p (drop (k + 1) points)) f)

pub stays : (r : SplitRange) (points : List Dyadic) (n k : ℕ) (p : Dyadic)
    → n ≡ length points → k < n → p ≡ point_of points k → is_inside r p ≡ true
    → p ∷ staying (record r { low = p }) (drop (k + 1) points) ≡ staying r (drop k points)
stays r points n k p m l e t =
    sym (at_point r points k p (omega (arith, m, l)) e
    ∙ ap (staying_by r p (drop (k + 1) points)) t)

pub none_stay : (r : SplitRange) (points : List Dyadic) (n k : ℕ) → n ≡ length points → n ≤ k
    → [] ≡ staying r (drop k points)
none_stay r points n k m l = sym (at_drop_all (staying r) points k (omega (arith, m, l)))

-- ---- pieces
-- the first piece ends at the first point that stays
pub first_piece : (r : SplitRange) (points more : List Dyadic) (p : Dyadic) (i : ℕ) → i ≡ 0
    → p ∷ more ≡ points → record r { high = p } ≡ piece_of r points i
first_piece r points more p i z e =
    let P : ℕ → Type 0 = λ k. record r { high = p } ≡ piece_of r points k in
    let Q : List Dyadic → Type 0 = λ ps. record r { high = p } ≡ piece_of r ps 0 in
    subst P (sym z) (subst Q e refl)

-- each other piece lies behind it
pub later_piece : (r : SplitRange) (points more : List Dyadic) (p : Dyadic) (i : ℕ) → 0 < i
    → p ∷ more ≡ points → piece_of (record r { low = p }) more (i - 1) ≡ piece_of r points i
later_piece r points more p zero l e = absurd (omega (arith, l))
later_piece r points more p (suc i) l e =
    let f : suc i - 1 ≡ i = omega arith in
    let Q : List Dyadic → Type 0 = λ ps. piece_of (record r { low = p }) more i
    ≡ piece_of r ps (suc i) in
    ap (λ (k : ℕ). piece_of (record r { low = p }) more k) f ∙ subst Q e refl

-- of a range that isn't cut the first piece is the whole, and each other one lies at its end
pub whole_piece : (r : SplitRange) (i : ℕ) → i ≡ 0 → r ≡ piece_of r [] i
whole_piece r i z = subst (λ (k : ℕ). r ≡ piece_of r [] k) (sym z) refl

pub no_piece : (r : SplitRange) (i : ℕ) → 0 < i → record r { low = r.high } ≡ piece_of r [] i
no_piece r zero l = absurd (omega (arith, l))
no_piece r (suc i) l = refl

-- the ends of pieces are in order
pub cut_ordered : (r : SplitRange) (c : Cutting) (i : ℕ) → IsOrdered r
    → IsOrdered (piece_of r (cut_points r c) i)
cut_ordered r c i o =
    piece_ordered r (cut_points r c) i o (points_within r [] (asked_points r c) tt)
    (points_rising r [] (asked_points r c) none_rising)

pub half_ordered : (r : SplitRange) (m : Dyadic) (i : ℕ) → IsOrdered r → IsWithin r m
    → IsOrdered (piece_of r (m ∷ []) i)
half_ordered r m i o w = piece_ordered r (m ∷ []) i o (w, tt) (one_rising m)
