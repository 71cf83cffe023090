-- A program's script is no longer than a script may be.
use Rattle.std.proofs.Common.{◌≡◌, ◌<◌, ◌≤◌, ◌+◌, ◌-◌, ◌*◌, ◌^◌, ℕ, ℤ, pos, zero, suc, Bool, true}
use Rattle.std.proofs.Common.{false, codes, List, [], ◌∷◌, ◌++◌, length, take, drop, map, Option}
use Rattle.std.proofs.Common.{None, refl, sym, ap, ◌∙◌, arith, length-append, if◌then◌else◌}
use Rattle.std.specs.Prelude.{neg_ℤ}
use Rattle.std.specs.List.{AllByRecursion, flat_map}
use Rattle.std.specs.Fmt.{decimal, signed_decimal}
use Rattle.std.specs.Str.Parse.{digits_value}
use Rattle.std.proofs.lemmas.List.{drop-drop, length-map}
use Rattle.std.proofs.lemmas.Fmt.{length-decimal-le_wide}
use Rattle.script_words.specs.declared.class.Symbol.TheVariants as s
use Rattle.script_words.specs.Lex.{blank_len}
use Rattle.script_cases.proofs.Lists.{all_front, all_behind}
use Rattle.fixprog.specs.declared.format.Format.{Format}
use Rattle.fixprog.specs.declared.program.Mark.{Mark}
use Rattle.fixprog.specs.declared.program.Mark.TheVariants as mark
use Rattle.fixprog.specs.declared.fault.ProgFault.{ProgFault}
use Rattle.fixprog.specs.declared.token.Kind.{Kind}
use Rattle.fixprog.specs.declared.token.Kind.TheVariants as kind
use Rattle.fixprog.specs.declared.token.ProgramToken.{ProgramToken}
use Rattle.fixprog.specs.Words.{Name, Word, name, literal, format, sign, kind_word}
use Rattle.fixprog.specs.Lex.{Lexes, ends, bad, token, words_of}
use Rattle.fixprog.specs.Grammar.{Operand, named, given, operand_words, Operation, copy, negation}
use Rattle.fixprog.specs.Grammar.{sum, difference, product, shift_right, shift_left}
use Rattle.fixprog.specs.Grammar.{operation_words, Bound, bound_words, Input, Way, called, reserved}
use Rattle.fixprog.specs.Grammar.{reserved_out, way_words, Step, input, step, output}
use Rattle.fixprog.specs.Grammar.{statement_words, words_from, outputs, statements, program_words}
use Rattle.fixprog.specs.Formats.{format_of, is_format, least, greatest}
use Rattle.fixprog.specs.Execution.{way_text}
use Rattle.fixprog.specs.First.{IsFirstFault, too_long, not_text, first, faultless}
use Rattle.fixprog.specs.Turned.{Bytes, operand_text, operation_text, last_place_text, step_line}
use Rattle.fixprog.specs.Turned.{range_text, bound_text, input_text, word_text, format_goal}
use Rattle.fixprog.specs.Turned.{output_goal, joined, hypotheses_text, goals_text, lines_of}
use Rattle.fixprog.specs.Printed.{IsShort}
use Rattle.fixprog.specs.Answer.{ScriptsAreShort}
use Rattle.fixprog.proofs.ProgramCourse.{words-append}
use Rattle.fixprog.proofs.Faultless.{fine, all_fine, few}
use Rattle.fixprog.proofs.Sound.{spelled_faultless}
use Rattle.fixprog.proofs.Narrow.{IsNarrow, narrow, power_below}

-- ---- texts of words

-- how long the text of a name or literal is
abbrev size : Word → ℕ
size (name t) = length t
size (literal t) = length t
size w = 0

abbrev sizes : List Word → ℕ
sizes [] = 0
sizes (w ∷ ws) = size w + sizes ws

sizes-append : (xs ys : List Word) → sizes (xs ++ ys) ≡ sizes xs + sizes ys
sizes-append [] ys = omega arith
sizes-append (x ∷ xs) ys = omega (arith, sizes-append xs ys)

kind_size : (k : Kind) (t : List ℕ) → size (kind_word k t) ≤ length t
kind_size kind.Name t = omega arith
kind_size kind.Literal t = omega arith
kind_size kind.Format t = omega arith
kind_size (kind.Sign g) t = omega arith
kind_size kind.Colon t = omega arith
kind_size kind.Right t = omega arith
kind_size kind.Left t = omega arith
kind_size kind.Out t = omega arith

both_parts : (n : ℕ) (xs : List ℕ) → length (take n xs) + length (drop n xs) ≡ length xs
both_parts zero xs = omega arith
both_parts (suc n) [] = omega arith
both_parts (suc n) (x ∷ xs) = omega (arith, both_parts n xs)

-- the texts of the tokens lie apart in the text
words_fit : (text : List ℕ) (at : ℕ) (rest : List ℕ) (ts : List ProgramToken) (o : Option ℕ)
    → rest ≡ drop at text → Lexes at rest ts o → sizes (words_of text ts) ≤ length rest
words_fit text at rest ts o e (ends h) = omega arith
words_fit text at rest ts o e (bad h n) = omega arith
words_fit text at rest ts o e (token {k = k} {len = len} {more = more} f l) =
    let b = blank_len false rest in
    let z = drop b rest in
    let here : drop b rest ≡ drop (at + b) text = ap (drop b) e ∙ drop-drop b at text in
    let behind : drop (b + len) rest ≡ drop (at + b + len) text = ap (drop (b + len)) e
    ∙ drop-drop (b + len) at text ∙ ap (λ m. drop m text) (omega arith) in
    let start = at + b in
    let n : start + len - start ≡ len = omega arith in
    let one = kind_size k (take (start + len - start) (drop start text)) in
    let same : length (take (start + len - start) (drop start text)) ≡ length (take len z) =
    ap (λ m. length (take m (drop start text))) n ∙ ap (λ x. length (take len x)) (sym here) in
    let last : length (drop (b + len) rest) ≡ length (drop len z) =
    ap length (sym (drop-drop len b rest)) in
    let more_fit = words_fit text (at + b + len) (drop (b + len) rest) more o behind l in
    omega (arith, one, same, last, more_fit, both_parts len z, both_parts b rest)

-- ---- texts joined

text_of : (t : List ℕ) (n : ℕ) → length t ≡ n → n ≤ 6 → length t ≤ 6
text_of t n e l = omega arith

place_short : (m : ℕ) → m < 64 → length (signed_decimal (neg_ℤ (pos m))) ≤ 3
place_short zero l =
    let h = length-decimal-le_wide 2 0 (omega arith) (omega arith) (omega arith) in omega arith
place_short (suc k) l =
    let h = length-decimal-le_wide 2 (suc k) (omega arith) (omega arith) (omega arith) in
    omega arith

plain_short : (n : ℕ) → n < 2 ^ 61 → length (signed_decimal (pos n)) ≤ 20
plain_short n l =
    let h = length-decimal-le_wide 19 n (omega arith) (omega arith) (omega arith) in omega arith

opposite_short : (m : ℕ) → m < 2 ^ 61 → length (signed_decimal (neg_ℤ (pos m))) ≤ 20
opposite_short zero l = plain_short 0 (omega arith)
opposite_short (suc k) l =
    let h = length-decimal-le_wide 19 (suc k) (omega arith) (omega arith) (omega arith) in
    omega arith

least_short : (f : Format) → IsNarrow f → length (signed_decimal (least f)) ≤ 20
least_short f n = by_sign f.signed
  where
    by_sign : (b : Bool)
        → length (signed_decimal (if b then neg_ℤ (pos (2 ^ (f.width - 1))) else pos 0)) ≤ 20
    by_sign true = opposite_short (2 ^ (f.width - 1))
        (power_below (f.width - 1) (let w = n.width in omega arith))
    by_sign false = plain_short 0 (omega arith)

greatest_short : (f : Format) → IsNarrow f → length (signed_decimal (greatest f)) ≤ 20
greatest_short f n = by_sign f.signed
  where
    by_sign : (b : Bool) → length (signed_decimal (if b then pos (2 ^ (f.width - 1) - 1)
        else pos (2 ^ f.width - 1))) ≤ 20
    by_sign true = plain_short (2 ^ (f.width - 1) - 1)
        (let p = power_below (f.width - 1) (let w = n.width in omega arith) in omega arith)
    by_sign false = plain_short (2 ^ f.width - 1)
        (let p = power_below f.width n.width in omega arith)

-- ---- statements

operand_len : (a : Operand) → length (operand_text a) ≡ sizes (operand_words a)
operand_len (named t) = omega arith
operand_len (given t) = omega arith

shift_len : (k : List ℕ) → digits_value 10 k < 64 → length (decimal (digits_value 10 k)) ≤ 2
shift_len k l =
    length-decimal-le_wide 2 (digits_value 10 k) (omega arith) (omega arith) (omega arith)

two_len : (a c : Operand) (w : Word) (t : List ℕ) → length t ≤ 6
    → length (operand_text a ++ (t ++ operand_text c))
    ≤ sizes (operand_words a ++ (w ∷ operand_words c)) + 9
two_len a c w t h = omega (
  arith,
  h,
  operand_len a,
  operand_len c,
  length-append (operand_text a) (t ++ operand_text c),
  length-append t (operand_text c),
  sizes-append (operand_words a) (w ∷ operand_words c),
)

one_len : (a : Operand) (ws : List Word) (t u : List ℕ) → length t ≤ 6 → length u ≤ 2
    → length (operand_text a ++ (t ++ u)) ≤ sizes (operand_words a ++ ws) + 9
one_len a ws t u h k = omega (
  arith,
  h,
  k,
  operand_len a,
  length-append (operand_text a) (t ++ u),
  length-append t u,
  sizes-append (operand_words a) ws,
)

operation_len : (o : Operation) → IsShort o
    → length (operation_text o) ≤ sizes (operation_words o) + 9
operation_len (copy a) s = omega (arith, operand_len a)
operation_len (negation a) s = omega (arith, operand_len a)
operation_len (sum a c) s = two_len a c _ (codes " + ") (text_of (codes " + ") 3 refl (omega arith))
operation_len (difference a c) s = two_len a c _ (codes " - ")
    (text_of (codes " - ") 3 refl (omega arith))
operation_len (product a c) s = two_len a c _ (codes " * ")
    (text_of (codes " * ") 3 refl (omega arith))
operation_len (shift_right a k) s = one_len a _ (codes " * 1b-") (decimal (digits_value 10 k.text))
    (text_of (codes " * 1b-") 6 refl (omega arith)) (shift_len k.text s)
operation_len (shift_left a k) s = one_len a _ (codes " * 1b") (decimal (digits_value 10 k.text))
    (text_of (codes " * 1b") 5 refl (omega arith)) (shift_len k.text s)

way_len : (v : Way) → length (way_text v) ≤ sizes (way_words v)
way_len (called t) = omega arith
way_len (reserved g) = omega arith
way_len reserved_out = omega arith

step_sizes : (x : Step) → sizes (statement_words (step x))
    ≡ length x.name + (sizes (way_words x.way) + sizes (operation_words x.operation))
step_sizes x =
    let ends = sign s.Semicolon ∷ [] in
    let rest = sign s.Equal ∷ (operation_words x.operation ++ ends) in
    omega (
      arith,
      sizes-append (way_words x.way) rest,
      sizes-append (operation_words x.operation) ends,
    )

step_line_len : (x : Step) → (format_of x.format).places < 64 → IsShort x.operation
    → length (step_line x) ≤ sizes (statement_words (step x)) + 40
step_line_len x l h =
    let f = format_of x.format in
    let closed = operation_text x.operation ++ codes ");\n" in
    let opened = codes ">(" ++ closed in
    let directed = codes "," ++ (way_text x.way ++ opened) in
    let rounded = codes " = fixed<" ++ (last_place_text f ++ directed) in
    omega (
      arith,
      length-append x.name rounded,
      length-append (last_place_text f) directed,
      length-append (way_text x.way) opened,
      length-append (operation_text x.operation) (codes ");\n"),
      place_short f.places l,
      way_len x.way,
      operation_len x.operation h,
      step_sizes x,
    )

range_len : (t a b : List ℕ) (m n : ℕ) → length a ≤ m → length b ≤ n
    → length (range_text t a b) ≤ length t + (m + (n + 8))
range_len t a b m n h k =
    let upper = codes ", " ++ (b ++ codes "]") in
    omega (
      arith,
      h,
      k,
      length-append t (codes " in [" ++ (a ++ upper)),
      length-append a upper,
      length-append b (codes "]"),
    )

word_len : (f : Format) (z : ℤ) → f.places < 64 → length (signed_decimal z) ≤ 20
    → length (word_text f z) ≤ 24
word_len f z l h = omega (
  arith,
  h,
  place_short f.places l,
  length-append (signed_decimal z) (codes "b" ++ last_place_text f),
)

format_goal_len : (x : Step) → is_format (format_of x.format) ≡ true
    → length (format_goal x) ≤ sizes (statement_words (step x)) + 60
format_goal_len x h =
    let f = format_of x.format in
    let n = narrow f h in
    let r = range_len x.name (word_text f (least f)) (word_text f (greatest f)) 24 24
    (word_len f (least f) n.places (least_short f n))
    (word_len f (greatest f) n.places (greatest_short f n)) in
    omega (arith, r, step_sizes x)

mark_len : (b : Bound) → length (bound_text b) ≤ sizes (bound_words b) + 1
mark_len b = by_mark b.mark
  where
    by_mark : (m : Mark) → length (bound_text (record { mark = m; text = b.text }))
        ≤ sizes (bound_words (record { mark = m; text = b.text })) + 1
    by_mark mark.Unmarked = omega arith
    by_mark mark.Plus = omega arith
    by_mark mark.Minus = omega arith

input_sizes : (x : Input) → sizes (statement_words (input x))
    ≡ length x.name + (sizes (bound_words x.lower) + sizes (bound_words x.upper))
input_sizes x =
    let ends = sign s.CloseBracket ∷ (sign s.Semicolon ∷ []) in
    let rest = sign s.Comma ∷ (bound_words x.upper ++ ends) in
    omega (arith, sizes-append (bound_words x.lower) rest, sizes-append (bound_words x.upper) ends)

input_len : (x : Input) → is_format (format_of x.format) ≡ true
    → length (input_text x) ≤ 2 * sizes (statement_words (input x)) + 30
input_len x h =
    let f = format_of x.format in
    let n = narrow f h in
    let r = range_len x.name (bound_text x.lower) (bound_text x.upper)
    (sizes (bound_words x.lower) + 1) (sizes (bound_words x.upper) + 1) (mark_len x.lower)
    (mark_len x.upper) in
    let placed = codes "," ++ (last_place_text f ++ codes ")") in
    omega (
      arith,
      r,
      input_sizes x,
      place_short f.places n.places,
      length-append (range_text x.name (bound_text x.lower) (bound_text x.upper))
          (codes " /\\ @FIX(" ++ (x.name ++ placed)),
      length-append x.name placed,
      length-append (last_place_text f) (codes ")"),
    )

output_len : (t : Name) → length (output_goal t) ≤ sizes (statement_words (output t)) + 5
output_len t = omega (arith, length-append t (codes " in ?"))

-- ---- lists of texts

abbrev lens : List Bytes → ℕ
lens [] = 0
lens (q ∷ qs) = length q + 4 + lens qs

lens-append : (ps qs : List Bytes) → lens (ps ++ qs) ≡ lens ps + lens qs
lens-append [] qs = omega arith
lens-append (p ∷ ps) qs = omega (arith, lens-append ps qs)

behind_len : (qs : List Bytes) → length (flat_map (λ q. codes " /\\ " ++ q) qs) ≤ lens qs
behind_len [] = omega arith
behind_len (q ∷ qs) =
    omega (arith, behind_len qs, length-append q (flat_map (λ q. codes " /\\ " ++ q) qs))

joined_len : (qs : List Bytes) → length (joined qs) ≤ lens qs
joined_len [] = omega arith
joined_len (q ∷ qs) =
    omega (arith, behind_len qs, length-append q (flat_map (λ q. codes " /\\ " ++ q) qs))

steps_len : (xs : List Step) → AllByRecursion fine (map step xs)
    → length (lines_of xs) + lens (map format_goal xs)
    ≤ 2 * sizes (words_from (map step xs)) + 104 * length xs
steps_len [] h = omega arith
steps_len (x ∷ xs) h =
    let k = h.0 in
    let n = narrow (format_of x.format) k.format in
    omega (
      arith,
      length-append (step_line x) (lines_of xs),
      step_line_len x n.places k.shift,
      format_goal_len x k.format,
      steps_len xs h.1,
      sizes-append (statement_words (step x)) (words_from (map step xs)),
    )

inputs_len : (xs : List Input) → AllByRecursion fine (map input xs)
    → lens (map input_text xs) ≤ 2 * sizes (words_from (map input xs)) + 34 * length xs
inputs_len [] h = omega arith
inputs_len (x ∷ xs) h = omega (
  arith,
  input_len x h.0,
  inputs_len xs h.1,
  sizes-append (statement_words (input x)) (words_from (map input xs)),
)

outputs_len : (ts : List Name)
    → lens (map output_goal ts) ≤ 2 * sizes (words_from (map output ts)) + 9 * length ts
outputs_len [] = omega arith
outputs_len (t ∷ ts) = omega (
  arith,
  output_len t,
  outputs_len ts,
  sizes-append (statement_words (output t)) (words_from (map output ts)),
)

hypotheses_len : (xs : List Input) → length (hypotheses_text xs) ≤ lens (map input_text xs) + 4
hypotheses_len [] = omega arith
hypotheses_len (x ∷ xs) =
    omega (
      arith,
      joined_len (map input_text (x ∷ xs)),
      length-append (joined (map input_text (x ∷ xs))) (codes " -> "),
    )

-- ---- programs

readable_len : (text : List ℕ) {o : Option ProgFault} → IsFirstFault text o → o ≡ None
    → length text ≤ 65536
readable_len text (too_long h) e = absurd (cc)
readable_len text (not_text h v) e = absurd (cc)
readable_len text (first u k f m) e = absurd (cc)
readable_len text (faultless u k m) e = let h = u.0 in omega arith

pub scripts_are_short : ScriptsAreShort
scripts_are_short text p spelled =
    let none = spelled_faultless text p spelled in
    let is = map input p.inputs in
    let ss = map step p.steps in
    let os = map output (outputs p) in
    let all = all_fine (statements p) (record { names = []; weight = 0 }) 0 none in
    let fits = words_fit text 0 text spelled.tokens None refl spelled.lexed in
    let words : sizes (program_words p) ≡ sizes (words_of text spelled.tokens) =
    ap sizes spelled.words in
    let short = readable_len text spelled.accepted refl in
    let count = few (statements p) (record { names = []; weight = 0 }) 0 (omega arith) none in
    let parts : sizes (program_words p)
    ≡ sizes (words_from is) + (sizes (words_from ss) + sizes (words_from os)) =
    ap sizes (words-append is (ss ++ os)) ∙ sizes-append (words_from is) (words_from (ss ++ os))
    ∙ ap (λ l. sizes (words_from is) + sizes l) (words-append ss os)
    ∙ ap (λ n. sizes (words_from is) + n) (sizes-append (words_from ss) (words_from os)) in
    let steps = steps_len p.steps (all_front fine ss os (all_behind fine is (ss ++ os) all)) in
    let inputs = inputs_len p.inputs (all_front fine is (ss ++ os) all) in
    let outs = outputs_len (outputs p) in
    let hyps = hypotheses_len p.inputs in
    let goals = joined_len (map format_goal p.steps ++ map output_goal (outputs p)) in
    let both = lens-append (map format_goal p.steps) (map output_goal (outputs p)) in
    let formula = goals_text p ++ codes " }\n" in
    let line = hypotheses_text p.inputs ++ formula in
    let whole = length-append (lines_of p.steps) (codes "{ " ++ line) in
    let body = length-append (hypotheses_text p.inputs) formula in
    let last = length-append (goals_text p) (codes " }\n") in
    let a = length-append is (ss ++ os) in
    let b = length-append ss os in
    let x = length-map p.inputs input in
    let y = length-map p.steps step in
    let z = length-map (outputs p) output in
    omega (
      arith,
      fits,
      words,
      short,
      count,
      parts,
      steps,
      inputs,
      outs,
      hyps,
      goals,
      both,
      whole,
      a,
      b,
      x,
      y,
      z,
    )
