use Rattle.std.proofs.Common.{◌≡◌, ◌∷◌, ◌++◌, refl, rules}
use Rattle.literal.specs.declared.scan.Form.TheVariants.{Binary}
use Rattle.literal.specs.Parts.{scale_of}
use Rattle.literal.proofs.Bodies.{no_fraction_digits, none_pointed, none_binary, one_pointed}
use Rattle.literal.proofs.Bodies.{point_front, empty_length, some_length}
use Rattle.literal.proofs.scan.pointed.Goals as goal

pub returns-then-is_empty : goal.returns-then-is_empty
returns-then-is_empty c = no_fraction_digits c.args.hexadecimal
    (c.args.whole.now ++ (46 ∷ c.args.tail.now)) c.args.whole.now
    (46 ∷ c.args.tail.now) c.args.tail.now c.split_digits.result.0.now c.split_digits.result.1.now
    (point_front c.args.hexadecimal c.args.whole.now c.args.tail.now c.requires.digits)
    refl c.split_digits.ensures (empty_length c.split_digits.result.0.now c.is_empty.result
    c.is_empty.ensures c.if-is_empty.true)

pub returns-in_default : goal.returns-in_default
returns-in_default c = none_pointed c.args.hexadecimal
    (c.args.whole.now ++ (46 ∷ c.args.tail.now)) c.args.whole.now (46 ∷ c.args.tail.now)
    (point_front c.args.hexadecimal c.args.whole.now c.args.tail.now c.requires.digits)
    c.args.tail.now c.split_digits.result.0.now c.split_digits.result.1.now refl
    c.split_digits.ensures c.in_default.ensures

pub returns-then-eq : goal.returns-then-eq
returns-then-eq c =
    let b : c.in-Some.end.form ≡ Binary = search rules in
    none_binary c.args.hexadecimal
    (c.args.whole.now ++ (46 ∷ c.args.tail.now)) c.args.whole.now (46 ∷ c.args.tail.now)
    (point_front c.args.hexadecimal c.args.whole.now c.args.tail.now c.requires.digits)
    c.args.tail.now c.split_digits.result.0.now c.split_digits.result.1.now
    refl c.split_digits.ensures
    (scale_of c.in-Some.end) b c.in-Some.ensures.1

pub returns : goal.returns
returns c =
    let b : c.in-Some.end.form ≡ Binary → ⊥ = search rules in
    one_pointed c.args.hexadecimal
    (c.args.whole.now ++ (46 ∷ c.args.tail.now)) c.args.whole.now (46 ∷ c.args.tail.now)
    (point_front c.args.hexadecimal c.args.whole.now c.args.tail.now c.requires.digits)
    c.args.tail.now c.split_digits.result.0.now c.split_digits.result.1.now
    refl c.split_digits.ensures
    (scale_of c.in-Some.end) c.requires.some
    (some_length c.split_digits.result.0.now c.is_empty.result c.is_empty.ensures
    c.if-is_empty.false) b c.in-Some.ensures.0 c.in-Some.ensures.1
