-- Worked rows: a program's script, byte by byte, and its runs.
use Rattle.std.specs.Prelude.{◌≡◌, ℕ, codes, List, [], ◌∷◌, ◌++◌, false, Some, refl}
use Rattle.std.specs.Fmt.{digits}
use Rattle.script_words.specs.Lex.{front as script_front}
use Rattle.fixprog.specs.declared.program.Mark.TheVariants as mark
use Rattle.fixprog.specs.declared.token.Kind.TheVariants as kind
use Rattle.fixprog.specs.Lex.{front}
use Rattle.fixprog.specs.Formats.{format_of}
use Rattle.fixprog.specs.Grammar.{named, copy, product, shift_right, called, Input, Step, Program}
use Rattle.fixprog.specs.declared.fault.ProgKind.{ProgKind}
use Rattle.fixprog.specs.declared.fault.ProgKind.TheVariants as faulty
use Rattle.fixprog.specs.Faults.{Fault, program_faults}
use Rattle.fixprog.specs.Turned.{script_of}

-- The bytes of the name that the examples give to their input.
abbrev pub x : List ℕ
x = codes "x"

-- The bytes of the name that the examples give to a square.
abbrev pub y : List ℕ
y = codes "y"

-- The input `in x : s16.15 [0,0.5];`.
abbrev pub input_x : Input
input_x = record {
  name = x;
  format = codes "s16.15";
  lower =
      record { mark = mark.Unmarked; text = codes "0" };
  upper =
      record { mark = mark.Unmarked; text = codes "0.5" };
}

-- The step `y : s16.15 dn = x * x;`, whose operands are both the input.
abbrev pub square : Step
square = record {
  name = y;
  format = codes "s16.15";
  way = called (codes "dn");
  operation =
      product (named x) (named x);
}

-- A whole program of one input, the square of it as its one step, and that square as its output.
abbrev pub squares : Program
squares = record { inputs = input_x ∷ []; steps = square ∷ []; output = y; more_outputs = [] }

-- `in x : s16.15 [0,0.5]; y : s16.15 dn = x * x; out y;`
script_of_a_square : script_of squares ≡ codes "y = fixed<-15,dn>(x * x);\n"
    ++ codes "{ x in [0, 0.5] /\\ @FIX(x,-15) -> y in [-32768b-15, 32767b-15] /\\ y in ? }\n"
unfolding digits format_of
script_of_a_square = refl

longest_is_a_format : front (codes "s16.15x") ≡ Some (kind.Format, 6)
unfolding front
longest_is_a_format = refl

name_without_point : front (codes "s16 .15") ≡ Some (kind.Name, 3)
unfolding front script_front
name_without_point = refl

longest_is_a_shift : front (codes ">>=") ≡ Some (kind.Right, 2)
unfolding front
longest_is_a_shift = refl

-- ---- formats

format_of_leading_zeros : format_of (codes "u016.03")
    ≡ record { signed = false; width = 16; places = 3 }
unfolding format_of
format_of_leading_zeros = refl

-- ---- faults, by the numbers of their words

abbrev fault_at : ProgKind → ℕ → Fault
fault_at k word = record { kind = k; word = word; told = word }

-- `x : s4.61 ff = y >> 64; out x; x : ..`: each fault of a step, its own name not known in it
wrong_step : program_faults (record {
  inputs = [];
  steps =
      record {
        name = x;
        format = codes "s4.61";
        way = called (codes "ff");
        operation =
            shift_right (named x) (record { text = codes "64"; decimal = refl });
      } ∷ [];
  output =
      y;
  more_outputs = [];
})
    ≡ fault_at faulty.BadFormat 2 ∷ (fault_at faulty.BadDirection 3 ∷
    (fault_at faulty.Undefined 5 ∷ (fault_at faulty.Limit 7 ∷
    (fault_at faulty.Undefined 10 ∷ []))))
unfolding format_of
wrong_step = refl

abbrev one_more : Step
one_more = record {
  name = x;
  format = codes "s4.0";
  way = called (codes "dn");
  operation =
      copy (named y);
}

-- a name that is one already, and operands that aren't
twice : program_faults (record {
  inputs = [];
  steps = one_more ∷ (one_more ∷ []);
  output =
      x;
  more_outputs = [];
})
    ≡ fault_at faulty.Undefined 5 ∷ (fault_at faulty.NameUsed 7 ∷
    (fault_at faulty.Undefined 12 ∷ []))
unfolding format_of
twice = refl
