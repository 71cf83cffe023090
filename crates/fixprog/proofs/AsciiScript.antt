-- The script of a program is ASCII.
use lib.Signed.{mag}
use Rattle.std.proofs.Common.{◌≡◌, ℕ, pos, zero, suc, ◌-◌, ◌^◌, ◌<◌, ◌≤◌, nat_lt, Bool, true, false}
use Rattle.std.proofs.Common.{codes, List, [], ◌∷◌, ◌++◌, map, None, refl, sym, subst, arith, lit≤}
use Rattle.std.proofs.Common.{lit<, if◌then◌else◌}
use Rattle.std.specs.Prelude.{neg_ℤ}
use Rattle.std.specs.List.{AllByRecursion, list_all, flat_map}
use Rattle.std.specs.Str.{IsAscii, IsUtf8}
use Rattle.std.specs.Str.Parse.{digits_value}
use Rattle.std.specs.Fmt.{decimal, signed_decimal}
use Rattle.std.proofs.lemmas.Fmt.{IsAscii-decimal, IsAscii-signed}
use Rattle.std.proofs.lemmas.Str.{IsAscii-append, IsUtf8-from_ascii}
use Rattle.std.proofs.lemmas.Str.Ascii.{IsAscii-from_all, IsAscii-nil}
use Rattle.std.proofs.Math.Nat.{pow-le-pow_right}
use Rattle.std.proofs.lemmas.Bool.{and_parts}
use Rattle.script_cases.proofs.Lists.{all_front, all_behind}
use Rattle.fixprog.specs.declared.program.Mark.{Mark}
use Rattle.fixprog.specs.declared.program.Mark.TheVariants as mark
use Rattle.fixprog.specs.Words.{Name}
use Rattle.fixprog.specs.Grammar.{Operand, named, given, Operation, copy, negation, sum, difference}
use Rattle.fixprog.specs.Grammar.{product, shift_right, shift_left, Bound, Input, Way, called}
use Rattle.fixprog.specs.Grammar.{reserved, reserved_out, Step, input, step, output, Program}
use Rattle.fixprog.specs.Grammar.{outputs, statements}
use Rattle.fixprog.specs.declared.format.Format.{Format}
use Rattle.fixprog.specs.Formats.{format_of, least, greatest, last_place}
use Rattle.fixprog.specs.Faults.{program_faults}
use Rattle.fixprog.specs.First.{Spells}
use Rattle.fixprog.specs.Execution.{way_text}
use Rattle.fixprog.specs.Turned.{Bytes, operand_text, operation_text, last_place_text, step_line}
use Rattle.fixprog.specs.Turned.{mark_text, bound_text, range_text, input_text, word_text}
use Rattle.fixprog.specs.Turned.{format_goal, output_goal, joined, hypotheses_text, goals_text}
use Rattle.fixprog.specs.Turned.{lines_of, script_of}
use Rattle.fixprog.specs.Printed.{IsShort, IsPrintable, IsInputPrintable}
use Rattle.fixprog.proofs.Ascii.{Plain}
use Rattle.fixprog.proofs.AsciiWords.{IsPlainWord, all_words_plain, statements_plain}
use Rattle.fixprog.proofs.AsciiWords.{IsPlainOperand, IsPlainOperation, IsPlainWay, IsPlainInput}
use Rattle.fixprog.proofs.AsciiWords.{IsPlainStep, IsPlainStatement}
use Rattle.fixprog.proofs.Faultless.{fine, all_fine}
use Rattle.fixprog.proofs.Common.{all_of}
use Rattle.fixprog.proofs.Narrow.{IsNarrow, narrow}

plain : (bs : List ℕ) → Plain bs → IsAscii bs
plain bs h = IsAscii-from_all bs (all_of (λ b. b < 128) bs h)

below : (a b : ℕ) → nat_lt a b ≡ true → a < b
below a b h = grind arith

plain_by : (bs : List ℕ) → list_all (λ b. nat_lt b 128) bs ≡ true → Plain bs
plain_by [] h = tt
plain_by (b ∷ bs) h = let p = and_parts _ _ h in (below b 128 p.0, plain_by bs p.1)

fixed : (bs : List ℕ) → list_all (λ b. nat_lt b 128) bs ≡ true → IsAscii bs
fixed bs h = plain bs (plain_by bs h)

-- one text behind another
then_ : (xs ys : List ℕ) → IsAscii xs → IsAscii ys → IsAscii (xs ++ ys)
then_ xs ys h k = IsAscii-append xs ys h k

-- ---- numbers

small_negative : (n : ℕ) → n ≤ 2 ^ 60 → mag (neg_ℤ (pos n)) < 2 ^ 63
small_negative zero h = lit< tt
small_negative (suc n) h = omega arith

small_positive : (n : ℕ) → n ≤ 2 ^ 60 → mag (pos n) < 2 ^ 63
small_positive n h = omega arith

power : (k : ℕ) → k ≤ 60 → 2 ^ k ≤ 2 ^ 60
power k h = pow-le-pow_right {n = 2} (lit≤ tt) {i = k} {j = 60} h

place_ascii : (f : Format) → IsNarrow f → IsAscii (last_place_text f)
place_ascii f n = IsAscii-signed (last_place f) (small_negative f.places (let p = n.places in
    omega (arith, p)))

least_ascii : (f : Format) → IsNarrow f → IsAscii (signed_decimal (least f))
least_ascii f n = by_sign f.signed
  where
    w : 2 ^ (f.width - 1) ≤ 2 ^ 60
    w = power (f.width - 1) (let p = n.width in omega (arith, p))

    by_sign : (b : Bool) → IsAscii (signed_decimal (if b then neg_ℤ (pos (2 ^ (f.width - 1)))
        else pos 0))
    by_sign true = IsAscii-signed (neg_ℤ (pos (2 ^ (f.width - 1))))
        (small_negative (2 ^ (f.width - 1)) w)
    by_sign false = IsAscii-signed (pos 0) (small_positive 0 (omega arith))

greatest_ascii : (f : Format) → IsNarrow f → IsAscii (signed_decimal (greatest f))
greatest_ascii f n = by_sign f.signed
  where
    w : 2 ^ (f.width - 1) ≤ 2 ^ 60
    w = power (f.width - 1) (let p = n.width in omega (arith, p))

    v : 2 ^ f.width ≤ 2 ^ 60
    v = power f.width n.width

    by_sign : (b : Bool) → IsAscii (signed_decimal (if b then pos (2 ^ (f.width - 1) - 1)
        else pos (2 ^ f.width - 1)))
    by_sign true = IsAscii-signed (pos (2 ^ (f.width - 1) - 1))
        (small_positive (2 ^ (f.width - 1) - 1) (omega (arith, w)))
    by_sign false = IsAscii-signed (pos (2 ^ f.width - 1))
        (small_positive (2 ^ f.width - 1) (omega (arith, v)))

-- ---- definitions

operand_ascii : (a : Operand) → IsPlainOperand a → IsAscii (operand_text a)
operand_ascii (named t) h = plain t h
operand_ascii (given t) h = plain t h

both_ascii : (s : List ℕ) (a b : Operand) → IsAscii s → IsPlainOperand a → IsPlainOperand b
    → IsAscii (operand_text a ++ (s ++ operand_text b))
both_ascii s a b k h g = then_ (operand_text a) _ (operand_ascii a h)
    (then_ s (operand_text b) k (operand_ascii b g))

shift_ascii : (s : List ℕ) (a : Operand) (n : ℕ) → IsAscii s → IsPlainOperand a → n < 64
    → IsAscii (operand_text a ++ (s ++ decimal n))
shift_ascii s a n k h l = then_ (operand_text a) _ (operand_ascii a h)
    (then_ s (decimal n) k (IsAscii-decimal n (omega arith)))

operation_ascii : (o : Operation) → IsPlainOperation o → IsShort o → IsAscii (operation_text o)
operation_ascii (copy a) h k = operand_ascii a h
operation_ascii (negation a) h k = then_ (codes "-") (operand_text a) (fixed (codes "-") refl)
    (operand_ascii a h)
operation_ascii (sum a b) h k = both_ascii (codes " + ") a b (fixed (codes " + ") refl) h.0 h.1
operation_ascii (difference a b) h k = both_ascii (codes " - ") a b (fixed (codes " - ") refl) h.0
    h.1
operation_ascii (product a b) h k = both_ascii (codes " * ") a b (fixed (codes " * ") refl) h.0 h.1
operation_ascii (shift_right a n) h k = shift_ascii (codes " * 1b-") a (digits_value 10 n.text)
    (fixed (codes " * 1b-") refl) h k
operation_ascii (shift_left a n) h k = shift_ascii (codes " * 1b") a (digits_value 10 n.text)
    (fixed (codes " * 1b") refl) h k

way_ascii : (v : Way) → IsPlainWay v → IsAscii (way_text v)
way_ascii (called t) h = plain t h
way_ascii (reserved g) h = IsAscii-nil
way_ascii reserved_out h = IsAscii-nil

step_ascii : (x : Step) → IsPlainStep x → IsPrintable x → IsAscii (step_line x)
step_ascii x h k =
    then_ x.name _ (plain x.name h.name) (then_ (codes " = fixed<") _
    (fixed (codes " = fixed<") refl) (then_ (last_place_text (format_of x.format)) _
    (place_ascii (format_of x.format) (narrow (format_of x.format) k.format))
    (then_ (codes ",") _ (fixed (codes ",") refl) (then_ (way_text x.way) _ (way_ascii x.way h.way)
    (then_ (codes ">(") _ (fixed (codes ">(") refl)
    (then_ (operation_text x.operation) (codes ");\n") (operation_ascii x.operation h.operation
    k.shift) (fixed (codes ");\n") refl)))))))

-- ---- propositions

range_ascii : (n a b : List ℕ) → IsAscii n → IsAscii a → IsAscii b → IsAscii (range_text n a b)
range_ascii n a b h k l = then_ n _ h (then_ (codes " in [") _ (fixed (codes " in [") refl)
    (then_ a _ k (then_ (codes ", ") _ (fixed (codes ", ") refl)
    (then_ b (codes "]") l (fixed (codes "]") refl)))))

mark_ascii : (m : Mark) → IsAscii (mark_text m)
mark_ascii mark.Unmarked = IsAscii-nil
mark_ascii mark.Plus = fixed (codes "+") refl
mark_ascii mark.Minus = fixed (codes "-") refl

bound_ascii : (b : Bound) → Plain b.text → IsAscii (bound_text b)
bound_ascii b h = then_ (mark_text b.mark) b.text (mark_ascii b.mark) (plain b.text h)

input_ascii : (x : Input) → IsPlainInput x → IsInputPrintable x → IsAscii (input_text x)
input_ascii x h k =
    then_ (range_text x.name (bound_text x.lower) (bound_text x.upper)) _
    (range_ascii x.name _ _ (plain x.name h.name) (bound_ascii x.lower h.lower)
    (bound_ascii x.upper h.upper))
    (then_ (codes " /\\ @FIX(") _ (fixed (codes " /\\ @FIX(") refl)
    (then_ x.name _ (plain x.name h.name) (then_ (codes ",") _ (fixed (codes ",") refl)
    (then_ (last_place_text (format_of x.format)) (codes ")")
    (place_ascii (format_of x.format) (narrow (format_of x.format) k))
    (fixed (codes ")") refl)))))

goal_ascii : (x : Step) → IsPlainStep x → IsPrintable x → IsAscii (format_goal x)
goal_ascii x h k =
    let f = format_of x.format in
    let n = narrow f k.format in
    range_ascii x.name (word_text f (least f)) (word_text f (greatest f)) (plain x.name h.name)
    (then_ (signed_decimal (least f)) _ (least_ascii f n)
    (then_ (codes "b") _ (fixed (codes "b") refl) (place_ascii f n)))
    (then_ (signed_decimal (greatest f)) _ (greatest_ascii f n)
    (then_ (codes "b") _ (fixed (codes "b") refl) (place_ascii f n)))

output_ascii : (t : Name) → Plain t → IsAscii (output_goal t)
output_ascii t h = then_ t (codes " in ?") (plain t h) (fixed (codes " in ?") refl)

each_ascii : {A : Type 0} (f : A → List ℕ) (xs : List A) → AllByRecursion (λ x. IsAscii (f x)) xs
    → IsAscii (flat_map f xs)
each_ascii f [] h = IsAscii-nil
each_ascii f (x ∷ xs) h = then_ (f x) (flat_map f xs) h.0 (each_ascii f xs h.1)

behind_and : (ps : List Bytes) → AllByRecursion IsAscii ps
    → AllByRecursion (λ q. IsAscii (codes " /\\ " ++ q)) ps
behind_and [] h = tt
behind_and (p ∷ ps) h = (
  then_ (codes " /\\ ") p (fixed (codes " /\\ ") refl) h.0,
  behind_and ps h.1,
)

joined_ascii : (ps : List Bytes) → AllByRecursion IsAscii ps → IsAscii (joined ps)
joined_ascii [] h = IsAscii-nil
joined_ascii (p ∷ ps) h = then_ p _ h.0 (each_ascii (λ q. codes " /\\ " ++ q) ps
    (behind_and ps h.1))

-- ---- whole programs

inputs_ascii : (xs : List Input) → AllByRecursion IsPlainStatement (map input xs)
    → AllByRecursion fine (map input xs) → AllByRecursion IsAscii (map input_text xs)
inputs_ascii [] h k = tt
inputs_ascii (x ∷ xs) h k = (input_ascii x h.0 k.0, inputs_ascii xs h.1 k.1)

hypotheses_ascii : (xs : List Input) → AllByRecursion IsPlainStatement (map input xs)
    → AllByRecursion fine (map input xs) → IsAscii (hypotheses_text xs)
hypotheses_ascii [] h k = IsAscii-nil
hypotheses_ascii (x ∷ xs) h k = then_ (joined (map input_text (x ∷ xs))) (codes " -> ")
    (joined_ascii (map input_text (x ∷ xs)) (inputs_ascii (x ∷ xs) h k)) (fixed (codes " -> ") refl)

lines_ascii : (xs : List Step) → AllByRecursion IsPlainStatement (map step xs)
    → AllByRecursion fine (map step xs) → AllByRecursion (λ x. IsAscii (step_line x)) xs
lines_ascii [] h k = tt
lines_ascii (x ∷ xs) h k = (step_ascii x h.0 k.0, lines_ascii xs h.1 k.1)

goals_ascii : (xs : List Step) (os : List Name) → AllByRecursion IsPlainStatement (map step xs)
    → AllByRecursion fine (map step xs) → AllByRecursion IsPlainStatement (map output os)
    → AllByRecursion IsAscii (map format_goal xs ++ map output_goal os)
goals_ascii [] [] h k g = tt
goals_ascii [] (o ∷ os) h k g = (output_ascii o g.0, goals_ascii [] os h k g.1)
goals_ascii (x ∷ xs) os h k g = (goal_ascii x h.0 k.0, goals_ascii xs os h.1 k.1 g)

pub script_ascii : (p : Program) → AllByRecursion IsPlainStatement (statements p)
    → AllByRecursion fine (statements p) → IsAscii (script_of p)
script_ascii p h k =
    let is = map input p.inputs in
    let ss = map step p.steps in
    let hi = all_front IsPlainStatement is _ h in
    let hs = all_front IsPlainStatement ss _ (all_behind IsPlainStatement is _ h) in
    let ho = all_behind IsPlainStatement ss _ (all_behind IsPlainStatement is _ h) in
    let ki = all_front fine is _ k in
    let ks = all_front fine ss _ (all_behind fine is _ k) in
    then_ (lines_of p.steps) _ (each_ascii step_line p.steps (lines_ascii p.steps hs ks))
    (then_ (codes "{ ") _ (fixed (codes "{ ") refl)
    (then_ (hypotheses_text p.inputs) _ (hypotheses_ascii p.inputs hi ki)
    (then_ (goals_text p) (codes " }\n") (joined_ascii _
    (goals_ascii p.steps (outputs p) hs ks ho)) (fixed (codes " }\n") refl))))

-- A program that a text spells has a script that is text.
pub script_utf8 : (text : List ℕ) (p : Program) → Spells text p → program_faults p ≡ []
    → IsUtf8 (script_of p)
script_utf8 text p s h =
    IsUtf8-from_ascii (script_of p)
    (script_ascii p (statements_plain (statements p)
    (subst (AllByRecursion IsPlainWord) (sym s.words)
    (all_words_plain text s.tokens None s.lexed)))
    (all_fine (statements p) (record { names = []; weight = 0 }) 0 h))
