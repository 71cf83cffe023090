-- One more point.
use Rattle.std.proofs.Common.{◌≡◌, ℕ, suc, ◌+◌, ◌-◌, ◌<◌, List, [], ◌∷◌, ◌++◌, length, take}
use Rattle.std.proofs.Common.{replicate, set, arith, ap, sym, subst, ◌∙◌}
use Rattle.std.proofs.Math.Seq.{set-append_seam}
use Rattle.std.proofs.lemmas.List.{length-set, length-take-le, append_assoc, take_more_set}
use Rattle.dyadic.specs.declared.number.Dyadic.{Dyadic}
use Rattle.dyadic.specs.Values.{zero_number}
use Rattle.dyadic.specs.Rising.{points_in, IsRising, IsAboveLast, IsPadded}
use Rattle.dyadic.proofs.Rising.{rising_more}
use Rattle.dyadic.specs.declared.points.Points.TheInside.{Inside}

pub rising_set : (numbers : List Dyadic) (len : ℕ) (p : Dyadic)
    → len < length numbers → IsRising (take len numbers) → IsAboveLast (take len numbers) p
    → IsRising (take (len + 1) (set numbers len p))
rising_set numbers len p h r a =
    subst IsRising (sym (take_more_set numbers len p h)) (rising_more (take len numbers) p r a)

rest_set : (numbers : List Dyadic) (len : ℕ) (p : Dyadic) → len < 63 → length numbers ≡ 63
    → numbers ≡ take len numbers ++ replicate (63 - len) zero_number
    → set numbers len p ≡ take (len + 1) (set numbers len p)
    ++ replicate (63 - (len + 1)) zero_number
rest_set numbers len p h e r =
    let t : take (len + 1) (set numbers len p) ≡ take len numbers ++ p ∷ [] =
    take_more_set numbers len p (omega arith) in
    let d : 63 - len ≡ suc (63 - (len + 1)) = omega arith in
    let whole : numbers ≡ take len numbers ++ (zero_number ∷ replicate
    (63 - (len + 1)) zero_number) = r ∙ ap (λ n. take len numbers ++ replicate n zero_number) d in
    let f : length (take len numbers) ≡ len = length-take-le len numbers (omega arith) in
    ap (λ l. set l len p) whole ∙ ap (λ n.
    set (take len numbers ++ (zero_number ∷ replicate (63 - (len + 1)) zero_number)) n p) (sym f)
    ∙ set-append_seam (take len numbers) zero_number (replicate (63 - (len + 1)) zero_number) p
    ∙ rw (t, append_assoc)

-- the fields with one more point
pub padded_more : (inside : Inside) (points : List Dyadic) (p : Dyadic) → points_in inside ≡ points
    → IsPadded inside → length points < 63 → IsAboveLast points p
    → IsPadded (record { numbers = set inside.numbers inside.len p; len = inside.len + 1 })
padded_more inside points p v ok room above =
    let f : length (take inside.len inside.numbers) ≡ inside.len =
    length-take-le inside.len inside.numbers (omega (arith, ok.short, ok.size)) in
    let few : length (take inside.len inside.numbers) < 63 =
    subst (λ points. length points < 63) (sym v) room in
    let less : inside.len < 63 = omega arith in
    let over : IsAboveLast (take inside.len inside.numbers) p =
    subst (λ points. IsAboveLast points p) (sym v) above in
    record {
      short = omega arith;
      size = length-set inside.numbers inside.len p ∙ ok.size;
      rest = rest_set inside.numbers inside.len p less ok.size ok.rest;
      rising =
          rising_set inside.numbers inside.len p (let s = ok.size in omega arith) ok.rising over;
    }
