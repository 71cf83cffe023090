use Rattle.std.proofs.Common.{arith, ℕ, ℤ, pos, ◌≡◌, sym, subst, ◌+ℤ◌, ◌∙◌, ap, ◌%◌, ◌*◌, ◌^◌}
use Rattle.std.proofs.lemmas.Int.{ints}
use Rattle.fx_model.specs.Grid.{IsOnGrid}
use Rattle.fx_model.specs.Powers.{scaled}
use Rattle.dyadic.specs.Values.{value_of}
use Rattle.dyadic.specs.Canonical.{IsCanonical, odd_canonical}
use Rattle.dyadic.proofs.GridLemmas.{of_odd, same_scaled, same_canonical}
use Rattle.dyadic.proofs.NumberLemmas.{zero_value}
use Rattle.dyadic.proofs.number.form.canonical.Goals as goal

pub returns-then-digits-eq0 : goal.returns-then-digits-eq0
returns-then-digits-eq0 c =
    ap value_of c.zero.ensures.is ∙ zero_value c.args.digits c.args.two c.if-digits-eq0.true

-- the odd part at its place
kept : (odd shift digits : ℕ) (two : ℤ) → odd % 2 ≡ 1 → odd * 2 ^ shift ≡ digits
    → IsOnGrid (scaled (pos digits) two) → IsCanonical (pos odd) (two +ℤ pos shift)
kept odd shift digits two o v g = odd_canonical (pos odd)
    (two +ℤ pos shift) o (subst IsOnGrid (sym (of_odd odd shift digits two v)) g)

pub overflow_cast-result : goal.overflow_cast-result
overflow_cast-result c = let k = kept c.odd_part-part.result.odd c.odd_part-part.result.shift
    c.args.digits c.args.two c.odd_part-part.ensures.odd c.odd_part-part.ensures.value c.requires in
    let s = k.size in omega (arith, ints)

pub overflow_add-result : goal.overflow_add-result
overflow_add-result c = let k = kept c.odd_part-part.result.odd c.odd_part-part.result.shift
    c.args.digits c.args.two c.odd_part-part.ensures.odd c.odd_part-part.ensures.value c.requires in
    let l = k.lowest in let h = k.highest in omega (arith, ints)

pub invariant_of-result : goal.invariant_of-result
invariant_of-result c = let k = kept c.odd_part-part.result.odd c.odd_part-part.result.shift
    c.args.digits c.args.two c.odd_part-part.ensures.odd c.odd_part-part.ensures.value c.requires in
    let s = k.size in let l = k.lowest in let h = k.highest in
    record {
      canonical = same_canonical (pos c.odd_part-part.result.odd) (c.args.two
          +ℤ pos c.odd_part-part.result.shift) _ _ (omega (arith, ints)) (omega (arith, ints)) k;
    }

pub returns : goal.returns
returns c = let k = kept c.odd_part-part.result.odd c.odd_part-part.result.shift c.args.digits
    c.args.two c.odd_part-part.ensures.odd c.odd_part-part.ensures.value c.requires in
    let s = k.size in let l = k.lowest in let h = k.highest in
    same_scaled (pos c.odd_part-part.result.odd)
    (c.args.two +ℤ pos c.odd_part-part.result.shift) _ _ (omega (arith, ints)) (omega (arith, ints))
    ∙ of_odd c.odd_part-part.result.odd c.odd_part-part.result.shift c.args.digits c.args.two
    c.odd_part-part.ensures.value
