use Rattle.std.proofs.Common.{◌≡◌, arith}
use Rattle.std.proofs.lemmas.Int.{ints}
use Rattle.literal.specs.Spelling.{exponent_value}
use Rattle.literal.specs.Parts.{power_of}
use Rattle.literal.proofs.number.lowered.Goals as goal

pub returns : goal.returns
returns c =
    let e : c.in_ok-exponent.field-0 ≡ exponent_value (power_of c.args.power) =
    c.in_ok-exponent.ensures.0 in
    let low = c.in_ok-exponent.ensures.1 in
    let high = c.in_ok-exponent.ensures.2 in
    let p = c.requires.places.0 in
    let q = c.requires.places.1 in
    let r = c.requires.range.0 in
    let s = c.requires.range.1 in
    ((omega (arith, ints), omega (arith, ints)), omega (arith, ints))
