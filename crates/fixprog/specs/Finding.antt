-- The faults that a word tells where it is taken.
use Rattle.std.specs.Prelude.{ℕ, ◌+◌, ◌||◌, not, nat_lt, List, [], ◌∷◌, ◌++◌, length, Option, Some}
use Rattle.std.specs.Prelude.{None, Bool, true, false, if◌then◌else◌}
use Rattle.std.specs.Str.Parse.{digits_value}
use Rattle.fixprog.specs.declared.fault.ProgKind.{ProgKind}
use Rattle.fixprog.specs.declared.fault.ProgKind.TheVariants as kind
use Rattle.fixprog.specs.declared.fault.ProgFault.{ProgFault}
use Rattle.fixprog.specs.declared.program.Mark.{Mark}
use Rattle.fixprog.specs.declared.program.Mark.TheVariants as mark
use Rattle.fixprog.specs.Words.{Name, Word}
use Rattle.fixprog.specs.Grammar.{Operand, named, given, Digits, Bound, Way}
use Rattle.fixprog.specs.Formats.{format_of, is_format}
use Rattle.fixprog.specs.Faults.{Before, is_among, is_literal, is_outside, is_crossed, is_way}
use Rattle.fixprog.specs.First.{fault, is_before}
use Rattle.fixprog.specs.Standing.{Part, between, input_name, input_format, lower, lower_marked}
use Rattle.fixprog.specs.Standing.{upper, upper_marked, step_format, step_way, step_operand}
use Rattle.fixprog.specs.Standing.{step_negated, step_second, step_places, output_name, Head}
use Rattle.fixprog.specs.Standing.{bound_of, name_in, literal_in, format_in, way_in, operand_in}
use Rattle.fixprog.specs.Standing.{digits_in}

-- A fault is made of its kind, and of whether it is one of the first word of a bound, or of the
-- word itself.
module _ {A : Type 0} (make : Bool → ProgKind → A) where
  -- One fault of this kind at the word itself where the test holds, and none otherwise.
  abbrev pub one_if : Bool → ProgKind → List A
  one_if b k = if b then make false k ∷ [] else []

  -- A limit's fault where the statements so far and one of this weight weigh more than 128.
  abbrev pub weight_finds : Before → ℕ → List A
  weight_finds b weight = one_if (nat_lt 128 (b.weight + weight)) kind.Limit

  -- What a new name tells: it is used already, too long, or begins a statement beyond the limit; no
  -- name tells nothing.
  abbrev pub new_name_finds : Before → ℕ → Option Name → List A
  new_name_finds b weight None = []
  new_name_finds b weight (Some text) = (one_if (is_among b.names text) kind.NameUsed
      ++ one_if (nat_lt 32 (length text)) kind.Limit) ++ weight_finds b weight

  -- What a mentioned name tells: it is no input's and no earlier step's, or longer than 32 bytes.
  abbrev pub known_name_finds : Before → Name → List A
  known_name_finds b text = one_if (not (is_among b.names text)) kind.Undefined
      ++ one_if (nat_lt 32 (length text)) kind.Limit

  -- What an output's name tells: what any mentioned name does, and that the output is beyond the
  -- limit; no name tells nothing.
  abbrev pub output_finds : Before → Option Name → List A
  output_finds b None = []
  output_finds b (Some text) = known_name_finds b text ++ weight_finds b 1

  -- What a literal tells, which can only be that it exceeds its limits.
  abbrev pub literal_finds : List ℕ → List A
  literal_finds text = one_if (not (is_literal text)) kind.LiteralLimit

  -- What a word in the place of a format tells: that its numbers exceed their limits; what is no
  -- format tells nothing.
  abbrev pub format_finds : Option (List ℕ) → List A
  format_finds None = []
  format_finds (Some text) = one_if (not (is_format (format_of text))) kind.BadFormat

  -- What the literal of an end tells: where `bad`, a fault at the end's first word, and its own
  -- limits at itself.
  abbrev pub bound_finds : Bool → List ℕ → List A
  bound_finds bad text = (if bad then make true kind.BadRange ∷ [] else []) ++ literal_finds text

  -- What the literal of a lower end tells, with the sign before it and the input's format; no
  -- literal tells nothing.
  abbrev pub lower_finds : Head → Mark → Option (List ℕ) → List A
  lower_finds h m None = []
  lower_finds h m (Some text) = bound_finds (is_outside (format_of h.format) (bound_of m text)) text

  -- What the literal of an upper end tells, with its sign, the format and the lower end `a`; no
  -- literal tells nothing.
  abbrev pub upper_finds : Head → Bound → Mark → Option (List ℕ) → List A
  upper_finds h a m None = []
  upper_finds h a m (Some text) = bound_finds (is_outside (format_of h.format) (bound_of m text)
      || is_crossed a (bound_of m text)) text

  -- What a word in the place of a direction tells: that it is none of the eleven; one that can't
  -- stand there tells nothing.
  abbrev pub way_finds : Option Way → List A
  way_finds None = []
  way_finds (Some v) = one_if (not (is_way v)) kind.BadDirection

  -- What a word in the place of an operand tells, as a mentioned name or a literal; any other tells
  -- nothing.
  abbrev pub operand_finds : Before → Option Operand → List A
  operand_finds b None = []
  operand_finds b (Some (named text)) = known_name_finds b text
  operand_finds b (Some (given text)) = literal_finds text

  -- What the digits of a shift tell: that it is by more than 63 places; what isn't digits tells
  -- nothing.
  abbrev pub places_finds : Option Digits → List A
  places_finds None = []
  places_finds (Some k) = one_if (nat_lt 63 (digits_value 10 k.text)) kind.Limit

  -- The faults that a word tells behind this part of a statement; a word that is only punctuation
  -- there tells none.
  abbrev pub finds : Before → Part → Word → List A
  finds b between w = new_name_finds b 1 (name_in w)
  finds b input_name w = new_name_finds b 2 (name_in w)
  finds b (input_format n) w = format_finds (format_in w)
  finds b (lower h) w = lower_finds h mark.Unmarked (literal_in w)
  finds b (lower_marked h m) w = lower_finds h m (literal_in w)
  finds b (upper h a) w = upper_finds h a mark.Unmarked (literal_in w)
  finds b (upper_marked h a m) w = upper_finds h a m (literal_in w)
  finds b (step_format n) w = format_finds (format_in w)
  finds b (step_way h) w = way_finds (way_in w)
  finds b (step_operand x) w = operand_finds b (operand_in w)
  finds b (step_negated x) w = operand_finds b (operand_in w)
  finds b (step_second x a j) w = operand_finds b (operand_in w)
  finds b (step_places x a k) w = places_finds (digits_in w)
  finds b output_name w = output_finds b (name_in w)
  finds b p w = []

-- ---- in bytes

-- where the bound that the word is in begins, if the word before is its sign
abbrev pub bound_at : Part → ℕ → ℕ → ℕ
bound_at (lower_marked h m) last at = last
bound_at (upper_marked h a m) last at = last
bound_at p last at = at

-- A fault of the word at the byte `at`, or, where `e` holds, of the bound that begins at `first`.
abbrev pub at_byte : ℕ → ℕ → Bool → ProgKind → ProgFault
at_byte first at e k = fault k (if e then first else at)

-- the faults that a word at this byte tells, where the one before began at `last`
abbrev pub found : Before → Part → Word → ℕ → ℕ → List ProgFault
found b p w last at = finds (at_byte (bound_at p last at) at) b p w

-- the earlier of a fault so far and one more
abbrev pub earlier : Option ProgFault → ProgFault → Option ProgFault
earlier None f = Some f
earlier (Some first) f = if is_before f first then Some f else Some first

-- The first of the fault so far and these, by byte and then by number; none where there is none at
-- all.
abbrev pub first_from : Option ProgFault → List ProgFault → Option ProgFault
first_from o [] = o
first_from o (f ∷ fs) = first_from (earlier o f) fs
