-- Words that a course has taken begin a program.
use Rattle.std.proofs.Common.{◌≡◌, ℕ, codes, List, [], ◌∷◌, ◌++◌, map, refl, sym, ap, ◌∙◌}
use Rattle.std.proofs.Common.{append_assoc, append-nil, ◌⊎◌, inl, inr, ⊎_elim}
use Rattle.std.specs.List.{AllByRecursion}
use Rattle.script_words.specs.declared.class.Symbol.TheVariants as s
use Rattle.script_words.specs.Literals.{literal_len, scaled_len}
use Rattle.script_words.specs.Lex.{front as script_front}
use Rattle.script_cases.proofs.Lists.{all_joined}
use Rattle.fixprog.specs.declared.program.Mark.TheVariants as mark
use Rattle.fixprog.specs.declared.program.Joint.TheVariants as joint
use Rattle.fixprog.specs.declared.program.Shift.TheVariants as shift
use Rattle.fixprog.specs.declared.token.Kind.TheVariants as kind
use Rattle.fixprog.specs.Words.{Name, Word, name, literal, format, sign, colon, out}
use Rattle.fixprog.specs.Lex.{front, IsToken}
use Rattle.fixprog.specs.Grammar.{Operand, named, Digits, Operation, copy, sum, difference, product}
use Rattle.fixprog.specs.Grammar.{shift_right, shift_left, negation, Bound, Input, Way, called}
use Rattle.fixprog.specs.Grammar.{Step, Statement, input, step, output, statement_words, words_from}
use Rattle.fixprog.specs.Grammar.{Program, program_words}
use Rattle.fixprog.specs.First.{Begins}
use Rattle.fixprog.specs.Standing.{Part, between, input_name, input_colon, input_format, input_open}
use Rattle.fixprog.specs.Standing.{lower, lower_marked, comma, upper, upper_marked, input_close}
use Rattle.fixprog.specs.Standing.{input_end, step_colon, step_format, step_way, step_equal}
use Rattle.fixprog.specs.Standing.{step_operand, step_negated, step_operator, step_second}
use Rattle.fixprog.specs.Standing.{step_places, step_end, output_name, output_end, bound_of}
use Rattle.fixprog.specs.Standing.{Standing, with_statement}
use Rattle.fixprog.proofs.Standing.{part_words}
use Rattle.fixprog.proofs.Finding.{Course}
use Rattle.fixprog.proofs.Course.{in_place, may_join, join_whole, one_word_more, whole, stand_words}
use Rattle.fixprog.proofs.Course.{IsCourse}
use Rattle.fixprog.proofs.Common.{all_of}

-- ---- words that stand for any other

abbrev a_name : Name
a_name = codes "a"

abbrev a_format : List ℕ
a_format = codes "u1.0"

abbrev nought : List ℕ
nought = codes "0"

name_token : IsToken (name a_name)
unfolding front script_front
name_token = record { text = a_name; kind = kind.Name; alone = refl; word = refl }

format_token : IsToken (format a_format)
unfolding front script_front
format_token = record { text = a_format; kind = kind.Format; alone = refl; word = refl }

literal_token : IsToken (literal nought)
unfolding front script_front literal_len scaled_len
literal_token = record { text = nought; kind = kind.Literal; alone = refl; word = refl }

way_token : IsToken (name (codes "dn"))
unfolding front script_front
way_token = record { text = codes "dn"; kind = kind.Name; alone = refl; word = refl }

colon_token : IsToken colon
unfolding front script_front
colon_token = record { text = codes ":"; kind = kind.Colon; alone = refl; word = refl }

out_token : IsToken out
unfolding front script_front
out_token = record { text = codes "out"; kind = kind.Out; alone = refl; word = refl }

open_token : IsToken (sign s.OpenBracket)
unfolding front script_front
open_token = record { text = codes "["; kind = kind.Sign s.OpenBracket; alone = refl; word = refl }

close_token : IsToken (sign s.CloseBracket)
unfolding front script_front
close_token = record {
  text = codes "]";
  kind = kind.Sign s.CloseBracket;
  alone = refl;
  word =
      refl;
}

comma_token : IsToken (sign s.Comma)
unfolding front script_front
comma_token = record { text = codes ","; kind = kind.Sign s.Comma; alone = refl; word = refl }

equal_token : IsToken (sign s.Equal)
unfolding front script_front
equal_token = record { text = codes "="; kind = kind.Sign s.Equal; alone = refl; word = refl }

semicolon_token : IsToken (sign s.Semicolon)
unfolding front script_front
semicolon_token = record {
  text = codes ";";
  kind = kind.Sign s.Semicolon;
  alone = refl;
  word =
      refl;
}

-- ---- what is missing of a statement

abbrev a_bound : Bound
a_bound = bound_of mark.Unmarked nought

abbrev a_way : Way
a_way = called (codes "dn")

abbrev an_operand : Operand
an_operand = named a_name

abbrev some_digits : Digits
some_digits = record { text = nought; decimal = refl }

-- the words that end a statement, the last first
abbrev last_words : List Word
last_words = sign s.Semicolon ∷ []

abbrev closing : List Word
closing = sign s.CloseBracket ∷ last_words

abbrev upper_words : List Word
upper_words = literal nought ∷ closing

abbrev comma_words : List Word
comma_words = sign s.Comma ∷ upper_words

abbrev lower_words : List Word
lower_words = literal nought ∷ comma_words

abbrev operand_end : List Word
operand_end = name a_name ∷ last_words

abbrev equal_words : List Word
equal_words = sign s.Equal ∷ operand_end

abbrev way_end : List Word
way_end = name (codes "dn") ∷ equal_words

-- A part is the beginning of a statement.
pub record Finishes (p : Part) : Type 0 where
  pub statement : Statement
  pub missing : List Word
  pub words : statement_words statement ≡ part_words p ++ missing
  pub tokens : AllByRecursion IsToken missing

last_tokens : AllByRecursion IsToken last_words
last_tokens = (semicolon_token, tt)

closing_tokens : AllByRecursion IsToken closing
closing_tokens = (close_token, last_tokens)

upper_tokens : AllByRecursion IsToken upper_words
upper_tokens = (literal_token, closing_tokens)

comma_tokens : AllByRecursion IsToken comma_words
comma_tokens = (comma_token, upper_tokens)

lower_tokens : AllByRecursion IsToken lower_words
lower_tokens = (literal_token, comma_tokens)

operand_tokens : AllByRecursion IsToken operand_end
operand_tokens = (name_token, last_tokens)

equal_tokens : AllByRecursion IsToken equal_words
equal_tokens = (equal_token, operand_tokens)

way_tokens : AllByRecursion IsToken way_end
way_tokens = (way_token, equal_tokens)

abbrev new_input : Name → List ℕ → Bound → Bound → Statement
new_input n f a b = input (record { name = n; format = f; lower = a; upper = b })

abbrev new_step : Name → List ℕ → Way → Operation → Statement
new_step n f v o = step (record { name = n; format = f; way = v; operation = o })

pub finishes : (p : Part) → (p ≡ between → ⊥) → Finishes p
finishes between n = absurd (n refl)
finishes input_name n = record {
  statement = new_input a_name a_format a_bound a_bound;
  missing =
      name a_name ∷ (colon ∷ (format a_format ∷ (sign s.OpenBracket ∷ lower_words)));
  words =
      refl;
  tokens = (name_token, (colon_token, (format_token, (open_token, lower_tokens))));
}
finishes (input_colon t) n = record {
  statement = new_input t a_format a_bound a_bound;
  missing =
      colon ∷ (format a_format ∷ (sign s.OpenBracket ∷ lower_words));
  words = refl;
  tokens =
      (colon_token, (format_token, (open_token, lower_tokens)));
}
finishes (input_format t) n = record {
  statement = new_input t a_format a_bound a_bound;
  missing =
      format a_format ∷ (sign s.OpenBracket ∷ lower_words);
  words = refl;
  tokens =
      (format_token, (open_token, lower_tokens));
}
finishes (input_open h) n = record {
  statement = new_input h.name h.format a_bound a_bound;
  missing = sign s.OpenBracket ∷ lower_words;
  words = refl;
  tokens = (open_token, lower_tokens);
}
finishes (lower h) n = record {
  statement = new_input h.name h.format a_bound a_bound;
  missing =
      lower_words;
  words = refl;
  tokens = lower_tokens;
}
finishes (lower_marked h m) n = record {
  statement = new_input h.name h.format (bound_of m nought)
      a_bound;
  missing = lower_words;
  words = simp append_assoc;
  tokens = lower_tokens;
}
finishes (comma h a) n = record {
  statement = new_input h.name h.format a a_bound;
  missing =
      comma_words;
  words = refl;
  tokens = comma_tokens;
}
finishes (upper h a) n = record {
  statement = new_input h.name h.format a a_bound;
  missing =
      upper_words;
  words = simp append_assoc;
  tokens = upper_tokens;
}
finishes (upper_marked h a m) n = record {
  statement =
      new_input h.name h.format a (bound_of m nought);
  missing = upper_words;
  words =
      simp append_assoc;
  tokens = upper_tokens;
}
finishes (input_close x) n = record {
  statement = input x;
  missing = closing;
  words =
      simp append_assoc;
  tokens = closing_tokens;
}
finishes (input_end x) n = record {
  statement = input x;
  missing = last_words;
  words =
      simp append_assoc;
  tokens = last_tokens;
}
finishes (step_colon t) n = record {
  statement = new_step t a_format a_way (copy an_operand);
  missing = colon ∷ (format a_format ∷ way_end);
  words = refl;
  tokens =
      (colon_token, (format_token, way_tokens));
}
finishes (step_format t) n = record {
  statement = new_step t a_format a_way (copy an_operand);
  missing = format a_format ∷ way_end;
  words = refl;
  tokens = (format_token, way_tokens);
}
finishes (step_way h) n = record {
  statement = new_step h.name h.format a_way (copy an_operand);
  missing = way_end;
  words = refl;
  tokens = way_tokens;
}
finishes (step_equal b) n = record {
  statement = new_step b.name b.format b.way (copy an_operand);
  missing = equal_words;
  words = simp append-nil;
  tokens = equal_tokens;
}
finishes (step_operand b) n = record {
  statement =
      new_step b.name b.format b.way (copy an_operand);
  missing = operand_end;
  words =
      simp append_assoc;
  tokens = operand_tokens;
}
finishes (step_negated b) n = record {
  statement =
      new_step b.name b.format b.way (negation an_operand);
  missing = operand_end;
  words =
      simp append_assoc;
  tokens = operand_tokens;
}
finishes (step_operator b a) n = record {
  statement = new_step b.name b.format b.way (copy a);
  missing = last_words;
  words = simp append_assoc;
  tokens = last_tokens;
}
finishes (step_second b a joint.Plus) n = record {
  statement =
      new_step b.name b.format b.way (sum a an_operand);
  missing = operand_end;
  words =
      simp append_assoc;
  tokens = operand_tokens;
}
finishes (step_second b a joint.Minus) n = record {
  statement =
      new_step b.name b.format b.way (difference a an_operand);
  missing = operand_end;
  words =
      simp append_assoc;
  tokens = operand_tokens;
}
finishes (step_second b a joint.Times) n = record {
  statement =
      new_step b.name b.format b.way (product a an_operand);
  missing = operand_end;
  words =
      simp append_assoc;
  tokens = operand_tokens;
}
finishes (step_places b a shift.Right) n = record {
  statement =
      new_step b.name b.format b.way (shift_right a some_digits);
  missing =
      literal nought ∷ last_words;
  words = simp append_assoc;
  tokens = (literal_token, last_tokens);
}
finishes (step_places b a shift.Left) n = record {
  statement =
      new_step b.name b.format b.way (shift_left a some_digits);
  missing =
      literal nought ∷ last_words;
  words = simp append_assoc;
  tokens = (literal_token, last_tokens);
}
finishes (step_end x) n = record {
  statement = step x;
  missing = last_words;
  words =
      simp append_assoc;
  tokens = last_tokens;
}
finishes output_name n = record {
  statement = output a_name;
  missing = operand_end;
  words =
      refl;
  tokens = operand_tokens;
}
finishes (output_end text) n = record {
  statement = output text;
  missing = last_words;
  words =
      refl;
  tokens = last_tokens;
}

finishes_place : (p : Part) (n : p ≡ between → ⊥) (ss : List Step) (os : List Name)
    → in_place p ss os → may_join (finishes p n).statement ss os
unfolding finishes
finishes_place between n ss os h = absurd (n refl)
finishes_place input_name n ss os h = h
finishes_place (input_colon t) n ss os h = h
finishes_place (input_format t) n ss os h = h
finishes_place (input_open x) n ss os h = h
finishes_place (lower x) n ss os h = h
finishes_place (lower_marked x m) n ss os h = h
finishes_place (comma x a) n ss os h = h
finishes_place (upper x a) n ss os h = h
finishes_place (upper_marked x a m) n ss os h = h
finishes_place (input_close x) n ss os h = h
finishes_place (input_end x) n ss os h = h
finishes_place (step_colon t) n ss os h = h
finishes_place (step_format t) n ss os h = h
finishes_place (step_way x) n ss os h = h
finishes_place (step_equal b) n ss os h = h
finishes_place (step_operand b) n ss os h = h
finishes_place (step_negated b) n ss os h = h
finishes_place (step_operator b a) n ss os h = h
finishes_place (step_second b a joint.Plus) n ss os h = h
finishes_place (step_second b a joint.Minus) n ss os h = h
finishes_place (step_second b a joint.Times) n ss os h = h
finishes_place (step_places b a shift.Right) n ss os h = h
finishes_place (step_places b a shift.Left) n ss os h = h
finishes_place (step_end x) n ss os h = h
finishes_place output_name n ss os h = tt
finishes_place (output_end text) n ss os h = tt

-- ---- whole programs

-- Whole statements begin a program, with words that end it.
pub record Ends (c : Standing) : Type 0 where
  pub program : Program
  pub missing : List Word
  pub words : program_words program ≡ words_from (whole c) ++ missing
  pub tokens : AllByRecursion IsToken missing

ends_with : (ins : List Input) (ss : List Step) (os : List Name) (c : Standing) → c.inputs ≡ ins
    → c.steps ≡ ss → c.outputs ≡ os → Ends c
ends_with ins ss [] c e f g = record {
  program = record { inputs = c.inputs; steps = c.steps; output = a_name; more_outputs = [] };
  missing = out ∷ operand_end;
  words =
      ap (λ l. words_from (map input c.inputs
      ++ (map step c.steps ++ (map output l ++ (output a_name ∷ []))))) (sym g)
      ∙ ap words_from (ap (λ l. map input c.inputs ++ l)
      (sym (append_assoc (map step c.steps) (map output c.outputs) (output a_name ∷ [])))
      ∙ sym (append_assoc (map input c.inputs) (map step c.steps ++ map output c.outputs)
      (output a_name ∷ [])))
      ∙ one_word_more (whole c) (output a_name);
  tokens = (out_token, operand_tokens);
}
ends_with ins ss (o ∷ os) c e f g = record {
  program = record { inputs = c.inputs; steps = c.steps; output = o; more_outputs = os };
  missing = [];
  words = ap (λ l. words_from (map input c.inputs ++ (map step c.steps ++ map output l))) (sym g)
      ∙ sym (append-nil (words_from (whole c)));
  tokens = tt;
}

ends : (c : Standing) → Ends c
ends c = ends_with c.inputs c.steps c.outputs c refl refl refl

-- The words that a course has taken begin a program.
pub record BeginsSome (ws : List Word) : Type 0 where
  pub program : Program
  pub begins : Begins ws program

begins_between : (c : Standing) (ws : List Word) → stand_words c ≡ ws → c.part ≡ between
    → BeginsSome ws
begins_between c ws e f =
    let x = ends c in
    let all : words_from (whole c) ≡ ws = sym (append-nil (words_from (whole c)))
    ∙ ap (λ p. words_from (whole c) ++ part_words p) (sym f) ∙ e in
    record {
      program = x.program;
      begins = record {
        more = x.missing;
        words = x.words
            ∙ ap (λ l. l ++ x.missing) all;
        spelled = all_of IsToken x.missing x.tokens;
      };
    }

begins_inside : (c : Standing) (ws : List Word) → stand_words c ≡ ws
    → in_place c.part c.steps c.outputs → (c.part ≡ between → ⊥) → BeginsSome ws
begins_inside c ws e h n =
    let f = finishes c.part n in
    let d = with_statement c f.statement in
    let x = ends d in
    let all : words_from (whole d) ≡ ws ++ f.missing =
    ap words_from (join_whole c f.statement (finishes_place c.part n c.steps c.outputs h))
    ∙ one_word_more (whole c) f.statement ∙ ap (λ l. words_from (whole c) ++ l) f.words
    ∙ sym (append_assoc (words_from (whole c)) (part_words c.part) f.missing)
    ∙ ap (λ l. l ++ f.missing) e in
    record {
      program = x.program;
      begins = record {
        more = f.missing ++ x.missing;
        words = x.words ∙ ap (λ l. l ++ x.missing) all ∙ append_assoc ws f.missing x.missing;
        spelled = all_of IsToken (f.missing ++ x.missing)
            (all_joined IsToken f.missing x.missing f.tokens x.tokens);
      };
    }

is_between : (p : Part) → (p ≡ between) ⊎ (p ≡ between → ⊥)
is_between between = inl refl
is_between p = inr (λ e. cc)

pub begins_some : (c : Course) (ws : List Word) → IsCourse c ws → BeginsSome ws
begins_some c ws h = ⊎_elim (begins_between c.stands ws h.words)
    (begins_inside c.stands ws h.words h.place) (is_between c.stands.part)
