-- The faults that a word tells, by their places.
use Rattle.std.proofs.Common.{◌≡◌, ℕ, ◌+◌, ◌-◌, ◌<◌, ◌||◌, not, nat_lt, Bool, true, false, List, []}
use Rattle.std.proofs.Common.{◌∷◌, ◌++◌, length, map, Option, Some, None, refl, sym, ap, ◌∙◌, arith}
use Rattle.std.proofs.Common.{length-append, get_or, if◌then◌else◌}
use Rattle.std.specs.List.{All}
use Rattle.std.specs.Str.Parse.{digits_value}
use Rattle.std.proofs.lemmas.List.{map-append, get_or-map}
use Rattle.script_words.specs.declared.class.Symbol.TheVariants as s
use Rattle.fixprog.specs.declared.fault.ProgKind.{ProgKind}
use Rattle.fixprog.specs.declared.fault.ProgKind.TheVariants as kind
use Rattle.fixprog.specs.declared.program.Mark.{Mark}
use Rattle.fixprog.specs.declared.program.Mark.TheVariants as mark
use Rattle.fixprog.specs.declared.token.ProgramToken.{ProgramToken}
use Rattle.fixprog.specs.declared.program.Joint.{Joint}
use Rattle.fixprog.specs.declared.program.Joint.TheVariants as joint
use Rattle.fixprog.specs.declared.program.Shift.{Shift}
use Rattle.fixprog.specs.declared.program.Shift.TheVariants as shift
use Rattle.fixprog.specs.Words.{Name, Word, sign}
use Rattle.fixprog.specs.Grammar.{Operand, named, given, operand_words, Digits, Bound, mark_words}
use Rattle.fixprog.specs.Grammar.{bound_words, Way, called, reserved, reserved_out, way_words}
use Rattle.fixprog.specs.Formats.{format_of, is_format}
use Rattle.fixprog.specs.Faults.{Fault, Before, is_among, is_literal, is_outside, is_crossed}
use Rattle.fixprog.specs.Faults.{is_way}
use Rattle.fixprog.specs.First.{fault, start_of}
use Rattle.fixprog.specs.Standing.{Part, between, input_name, input_format, lower, lower_marked}
use Rattle.fixprog.specs.Standing.{upper, upper_marked, step_format, step_way, step_operand}
use Rattle.fixprog.specs.Standing.{step_negated, step_second, step_places, output_name, Head}
use Rattle.fixprog.specs.Standing.{bound_of, name_in, literal_in, format_in, way_in, operand_in}
use Rattle.fixprog.specs.Standing.{digits_in}
use Rattle.fixprog.proofs.Standing.{part_words, joint_words, shift_words}
use Rattle.fixprog.specs.Finding.{new_name_finds, known_name_finds, output_finds, literal_finds}
use Rattle.fixprog.specs.Finding.{format_finds, bound_finds, lower_finds, upper_finds, way_finds}
use Rattle.fixprog.specs.Finding.{operand_finds, places_finds, finds, bound_at, at_byte, found}
use Rattle.fixprog.proofs.Finding.{due, bound_due, placed, at_word}

-- ---- made in two ways

module _ {A B : Type 0} (g : A → B) (m : Bool → ProgKind → A) (n : Bool → ProgKind
    → B) (same : (e : Bool) (k : ProgKind) → g (m e k) ≡ n e k) where
  one_same : (e : Bool) (k : ProgKind) (b : Bool) → map g (if b then m e k ∷ [] else [])
      ≡ (if b then n e k ∷ [] else [])
  one_same e k true = ap (λ x. x ∷ []) (same e k)
  one_same e k false = refl

  two_same : (xs ys : List A) (us vs : List B) → map g xs ≡ us → map g ys ≡ vs → map g (xs ++ ys)
      ≡ us ++ vs
  two_same xs ys us vs p q = map-append g xs ys ∙ ap (λ l. l ++ map g ys) p ∙ ap (λ l. us ++ l) q

  new_name_same : (b : Before) (weight : ℕ) (o : Option Name) → map g (new_name_finds m b weight o)
      ≡ new_name_finds n b weight o
  new_name_same b weight None = refl
  new_name_same b weight (Some text) =
      two_same _ _ _ _ (two_same _ _ _ _ (one_same false kind.NameUsed (is_among b.names text))
      (one_same false kind.Limit (nat_lt 32 (length text))))
      (one_same false kind.Limit (nat_lt 128 (b.weight + weight)))

  known_name_same : (b : Before) (text : Name) → map g (known_name_finds m b text)
      ≡ known_name_finds n b text
  known_name_same b text = two_same _ _ _ _ (one_same false kind.Undefined
      (not (is_among b.names text))) (one_same false kind.Limit (nat_lt 32 (length text)))

  output_same : (b : Before) (o : Option Name) → map g (output_finds m b o) ≡ output_finds n b o
  output_same b None = refl
  output_same b (Some text) = two_same _ _ _ _ (known_name_same b text)
      (one_same false kind.Limit (nat_lt 128 (b.weight + 1)))

  literal_same : (text : List ℕ) → map g (literal_finds m text) ≡ literal_finds n text
  literal_same text = one_same false kind.LiteralLimit (not (is_literal text))

  format_same : (o : Option (List ℕ)) → map g (format_finds m o) ≡ format_finds n o
  format_same None = refl
  format_same (Some text) = one_same false kind.BadFormat (not (is_format (format_of text)))

  bound_same : (bad : Bool) (text : List ℕ) → map g (bound_finds m bad text)
      ≡ bound_finds n bad text
  bound_same bad text = two_same _ _ _ _ (one_same true kind.BadRange bad) (literal_same text)

  lower_same : (h : Head) (k : Mark) (o : Option (List ℕ)) → map g (lower_finds m h k o)
      ≡ lower_finds n h k o
  lower_same h k None = refl
  lower_same h k (Some text) = bound_same (is_outside (format_of h.format) (bound_of k text)) text

  upper_same : (h : Head) (a : Bound) (k : Mark) (o : Option (List ℕ))
      → map g (upper_finds m h a k o) ≡ upper_finds n h a k o
  upper_same h a k None = refl
  upper_same h a k (Some text) = bound_same (is_outside (format_of h.format) (bound_of k text)
      || is_crossed a (bound_of k text)) text

  way_same : (o : Option Way) → map g (way_finds m o) ≡ way_finds n o
  way_same None = refl
  way_same (Some v) = one_same false kind.BadDirection (not (is_way v))

  operand_same : (b : Before) (o : Option Operand) → map g (operand_finds m b o)
      ≡ operand_finds n b o
  operand_same b None = refl
  operand_same b (Some (named text)) = known_name_same b text
  operand_same b (Some (given text)) = literal_same text

  places_same : (o : Option Digits) → map g (places_finds m o) ≡ places_finds n o
  places_same None = refl
  places_same (Some k) = one_same false kind.Limit (nat_lt 63 (digits_value 10 k.text))

  pub finds_same : (b : Before) (p : Part) (w : Word) → map g (finds m b p w) ≡ finds n b p w
  finds_same b between w = new_name_same b 1 (name_in w)
  finds_same b input_name w = new_name_same b 2 (name_in w)
  finds_same b (input_format t) w = format_same (format_in w)
  finds_same b (lower h) w = lower_same h mark.Unmarked (literal_in w)
  finds_same b (lower_marked h k) w = lower_same h k (literal_in w)
  finds_same b (upper h a) w = upper_same h a mark.Unmarked (literal_in w)
  finds_same b (upper_marked h a k) w = upper_same h a k (literal_in w)
  finds_same b (step_format t) w = format_same (format_in w)
  finds_same b (step_way h) w = way_same (way_in w)
  finds_same b (step_operand x) w = operand_same b (operand_in w)
  finds_same b (step_negated x) w = operand_same b (operand_in w)
  finds_same b (step_second x a j) w = operand_same b (operand_in w)
  finds_same b (step_places x a k) w = places_same (digits_in w)
  finds_same b output_name w = output_same b (name_in w)
  finds_same b p w = refl

-- ---- in words

way_len : (v : Way) → length (way_words v) ≡ 1
way_len (called text) = refl
way_len (reserved g) = refl
way_len reserved_out = refl

operand_len : (a : Operand) → length (operand_words a) ≡ 1
operand_len (named text) = refl
operand_len (given text) = refl

joint_len : (j : Joint) → length (joint_words j) ≡ 1
joint_len joint.Plus = refl
joint_len joint.Minus = refl
joint_len joint.Times = refl

shift_len : (k : Shift) → length (shift_words k) ≡ 1
shift_len shift.Right = refl
shift_len shift.Left = refl

-- the word that is due has the number of the statement's words so far
pub due_is : (i : ℕ) (p : Part) → due i p ≡ i + length (part_words p)
due_is i between = omega arith
due_is i input_name = refl
due_is i (input_format n) = refl
due_is i (lower h) = omega arith
due_is i (lower_marked h m) = omega arith
due_is i (upper h a) = omega (arith, length-append (bound_words a) (sign s.Comma ∷ []))
due_is i (upper_marked h a m) = omega (
  arith,
  length-append (bound_words a) (sign s.Comma ∷ mark_words m),
)
due_is i (step_format n) = refl
due_is i (step_way h) = refl
due_is i (step_operand b) = omega (
  arith,
  way_len b.way,
  length-append (way_words b.way) (sign s.Equal ∷ []),
)
due_is i (step_negated b) = omega (
  arith,
  way_len b.way,
  length-append (way_words b.way) (sign s.Equal ∷ (sign s.Minus ∷ [])),
)
due_is i (step_second b a j) =
    omega (
      arith,
      way_len b.way,
      operand_len a,
      joint_len j,
      length-append (way_words b.way) (sign s.Equal ∷ (operand_words a ++ joint_words j)),
      length-append (operand_words a) (joint_words j),
    )
due_is i (step_places b a k) =
    omega (
      arith,
      way_len b.way,
      operand_len a,
      shift_len k,
      length-append (way_words b.way) (sign s.Equal ∷ (operand_words a ++ shift_words k)),
      length-append (operand_words a) (shift_words k),
    )
due_is i output_name = refl
due_is i p = refl

-- a sign before a bound is a word
abbrev pub IsMarked : Part → Type 0
IsMarked (lower_marked h m) = length (mark_words m) ≡ 1
IsMarked (upper_marked h a m) = length (mark_words m) ≡ 1
IsMarked p = Unit {0}

-- The faults that a word tells in its statement are those that it tells in the text.
module _ (tokens : List ProgramToken) (i last at : ℕ) where
  due_start : (p : Part) → IsMarked p → at ≡ start_of tokens (due i p)
      → (0 < due i p → last ≡ start_of tokens (due i p - 1)) → start_of tokens (bound_due i p)
      ≡ bound_at p last at
  due_start (lower h) k e f = let n : i + 5 ≡ i + 5 + 0 = omega arith in ap (start_of tokens) n
      ∙ sym e
  due_start (lower_marked h m) k e f = let n : i + 5 ≡ i + 5 + length (mark_words m) - 1 =
      omega arith in ap (start_of tokens) n ∙ sym (f (omega arith))
  due_start (upper h a) k e f = let n : i + 5 + length (bound_words a) + 1 ≡ i + 5
      + length (bound_words a) + 1 + 0 = omega arith in ap (start_of tokens) n ∙ sym e
  due_start (upper_marked h a m) k e f =
      let n : i + 5 + length (bound_words a) + 1 ≡ i + 5 + length (bound_words a) + 1
      + length (mark_words m) - 1 = omega arith in ap (start_of tokens) n
      ∙ sym (f (omega arith))
  due_start p k e f = sym e

  each_same : (p : Part) → IsMarked p → at ≡ start_of tokens (due i p)
      → (0 < due i p → last ≡ start_of tokens (due i p - 1)) → (e : Bool) (k : ProgKind)
      → placed tokens (at_word i p e k) ≡ at_byte (bound_at p last at) at e k
  each_same p m e f true k = ap (fault k) (due_start p m e f)
  each_same p m e f false k = ap (fault k) (sym e)

  pub placed_found : (b : Before) (p : Part) (w : Word) → IsMarked p → at
      ≡ start_of tokens (due i p) → (0 < due i p → last ≡ start_of tokens (due i p - 1))
      → map (placed tokens) (finds (at_word i p) b p w) ≡ found b p w last at
  placed_found b p w m e f = finds_same (placed tokens) (at_word i p)
      (at_byte (bound_at p last at) at) (each_same p m e f) b p w

-- Each of them is told by the word that is due.
module _ (n : ℕ) where
  retold : Fault → Fault
  retold f = record { kind = f.kind; word = f.word; told = n }

  all_retold : (fs : List Fault) → map retold fs ≡ fs → All (λ f. f.told ≡ n) fs
  unfolding retold
  all_retold fs e k d h = ap (λ l. (get_or l k d).told) (sym e)
      ∙ ap (λ (f : Fault). f.told) (get_or-map retold fs k d d h)

pub finds_told : (i : ℕ) (b : Before) (p : Part) (w : Word)
    → All (λ f. f.told ≡ i + length (part_words p)) (finds (at_word i p) b p w)
unfolding retold
finds_told i b p w =
    let n = i + length (part_words p) in
    all_retold n _ (finds_same (retold n) (at_word i p) (at_word i p)
    (λ e k. ap (λ t. record {
      kind = k;
      word = if e then bound_due i p else due i p;
      told =
          t;
    }) (sym (due_is i p))) b p w)
