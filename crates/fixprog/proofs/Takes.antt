-- Which words lead from which part of a statement to which.
use Rattle.std.proofs.Common.{◌≡◌, ℕ, Bool, true, false, List, [], ◌∷◌, ◌++◌, Option, Some, None}
use Rattle.std.proofs.Common.{refl, sym, ap, ◌∙◌, subst, ◌&&◌, append_assoc, append-nil}
use Rattle.std.proofs.Common.{if◌then◌else◌}
use Rattle.std.specs.List.{list_all}
use Rattle.std.specs.Char.{is_ascii_digit}
use Rattle.std.specs.Option.{option_map}
use Rattle.std.proofs.lemmas.Bool.{and_parts}
use Rattle.script_words.specs.declared.class.Symbol.{Symbol}
use Rattle.script_words.specs.declared.class.Symbol.TheVariants as s
use Rattle.script_judge.specs.Fault.{is_reserved}
use Rattle.fixprog.specs.declared.program.Mark.{Mark}
use Rattle.fixprog.specs.declared.program.Mark.TheVariants as mark
use Rattle.fixprog.specs.declared.program.Joint.{Joint}
use Rattle.fixprog.specs.declared.program.Shift.{Shift}
use Rattle.fixprog.specs.declared.program.Joint.TheVariants as joint_kind
use Rattle.fixprog.specs.declared.program.Shift.TheVariants as shift_kind
use Rattle.fixprog.specs.Words.{Name, Word, name, literal, format, sign, colon, right, left, out}
use Rattle.fixprog.specs.Grammar.{Operand, named, given, operand_words, Digits, operation_words}
use Rattle.fixprog.specs.Grammar.{negation, mark_words, Bound, bound_words, Input, Way, way_words}
use Rattle.fixprog.specs.Standing.{name_in, literal_in, format_in, operand_in, mark_in, joint_in}
use Rattle.fixprog.specs.Standing.{shift_in, digits_if, digits_in, reserved_if, way_in, is_in}
use Rattle.fixprog.specs.Standing.{is_out, is_colon, is_open, is_comma, is_close, is_semicolon}
use Rattle.fixprog.specs.Standing.{is_equal, is_minus, Head, Begun, Part, between, input_name}
use Rattle.fixprog.specs.Standing.{input_colon, input_format, input_open, lower, lower_marked}
use Rattle.fixprog.specs.Standing.{comma, upper, upper_marked, input_close, input_end, step_colon}
use Rattle.fixprog.specs.Standing.{step_format, step_way, step_equal, step_operand, step_negated}
use Rattle.fixprog.specs.Standing.{step_operator, step_second, step_places, step_end, output_name}
use Rattle.fixprog.specs.Standing.{output_end, some_if, headed, directed, bound_of, ranged, stepped}
use Rattle.fixprog.specs.Standing.{joined, shifted, Opening, begun_otherwise, lower_next}
use Rattle.fixprog.specs.Standing.{upper_next, operand_next, operator_next, next_part}
use Rattle.fixprog.proofs.Standing.{joint_words, shift_words, head_words, range_words, begun_words}
use Rattle.fixprog.proofs.Standing.{part_words}
use Rattle.fixprog.proofs.Common.{one_value}

-- ---- which words there are where something is seen

name_is : (w : Word) (t : Name) → name_in w ≡ Some t → w ≡ name t
name_is (name text) t e = cc
name_is (literal text) t e = absurd (cc)
name_is (format text) t e = absurd (cc)
name_is (sign g) t e = absurd (cc)
name_is colon t e = absurd (cc)
name_is right t e = absurd (cc)
name_is left t e = absurd (cc)
name_is out t e = absurd (cc)

literal_is : (w : Word) (t : List ℕ) → literal_in w ≡ Some t → w ≡ literal t
literal_is (literal text) t e = cc
literal_is (name text) t e = absurd (cc)
literal_is (format text) t e = absurd (cc)
literal_is (sign g) t e = absurd (cc)
literal_is colon t e = absurd (cc)
literal_is right t e = absurd (cc)
literal_is left t e = absurd (cc)
literal_is out t e = absurd (cc)

format_is : (w : Word) (t : List ℕ) → format_in w ≡ Some t → w ≡ format t
format_is (format text) t e = cc
format_is (name text) t e = absurd (cc)
format_is (literal text) t e = absurd (cc)
format_is (sign g) t e = absurd (cc)
format_is colon t e = absurd (cc)
format_is right t e = absurd (cc)
format_is left t e = absurd (cc)
format_is out t e = absurd (cc)

operand_is : (w : Word) (a : Operand) → operand_in w ≡ Some a → operand_words a ≡ w ∷ []
operand_is (name text) a e = ap operand_words (some_is e)
  where
    some_is : Some (named text) ≡ Some a → a ≡ named text
    some_is h = cc
operand_is (literal text) a e = ap operand_words (some_is e)
  where
    some_is : Some (given text) ≡ Some a → a ≡ given text
    some_is h = cc
operand_is (format text) t e = absurd (cc)
operand_is (sign g) t e = absurd (cc)
operand_is colon t e = absurd (cc)
operand_is right t e = absurd (cc)
operand_is left t e = absurd (cc)
operand_is out t e = absurd (cc)

pub mark_is : (w : Word) (m : Mark) → mark_in w ≡ Some m → mark_words m ≡ w ∷ []
mark_is (sign s.Plus) m e = ap mark_words (one_value mark.Plus m e)
mark_is (sign s.Minus) m e = ap mark_words (one_value mark.Minus m e)
mark_is w m e = absurd (cc)

joint_is : (w : Word) (j : Joint) → joint_in w ≡ Some j → joint_words j ≡ w ∷ []
joint_is (sign s.Plus) j e = ap joint_words (one_value _ j e)
joint_is (sign s.Minus) j e = ap joint_words (one_value _ j e)
joint_is (sign s.Star) j e = ap joint_words (one_value _ j e)
joint_is w j e = absurd (cc)

shift_is : (w : Word) (k : Shift) → shift_in w ≡ Some k → shift_words k ≡ w ∷ []
shift_is right k e = ap shift_words (one_value _ k e)
shift_is left k e = ap shift_words (one_value _ k e)
shift_is w k e = absurd (cc)

digits_by : (text : List ℕ) (b : Bool) (d : list_all is_ascii_digit text ≡ b) (k : Digits)
    → digits_if text b d ≡ Some k → literal text ≡ literal k.text
digits_by text true d k e = ap (λ (x : Digits). literal x.text) (sym (one_value _ k e))
digits_by text false d k e = absurd (cc)

digits_is : (w : Word) (k : Digits) → digits_in w ≡ Some k → w ≡ literal k.text
digits_is (literal text) k e = digits_by text (list_all is_ascii_digit text) refl k e
digits_is (name text) k e = absurd (cc)
digits_is (format text) k e = absurd (cc)
digits_is (sign g) k e = absurd (cc)
digits_is colon k e = absurd (cc)
digits_is right k e = absurd (cc)
digits_is left k e = absurd (cc)
digits_is out k e = absurd (cc)

reserved_by : (g : Symbol) (b : Bool) (d : is_reserved g ≡ b) (v : Way) → reserved_if g b d ≡ Some v
    → way_words v ≡ sign g ∷ []
reserved_by g true d v e = ap way_words (one_value _ v e)
reserved_by g false d v e = absurd (cc)

way_is : (w : Word) (v : Way) → way_in w ≡ Some v → way_words v ≡ w ∷ []
way_is (name text) v e = ap way_words (one_value _ v e)
way_is (sign g) v e = reserved_by g (is_reserved g) refl v e
way_is out v e = ap way_words (one_value _ v e)
way_is (literal text) v e = absurd (cc)
way_is (format text) v e = absurd (cc)
way_is colon v e = absurd (cc)
way_is right v e = absurd (cc)
way_is left v e = absurd (cc)

-- each test is true of one word
in_is : (w : Word) → is_in w ≡ true → w ≡ sign s.In
in_is (sign s.In) e = refl
in_is w e = absurd (cc)

out_is : (w : Word) → is_out w ≡ true → w ≡ out
out_is out e = refl
out_is w e = absurd (cc)

colon_is : (w : Word) → is_colon w ≡ true → w ≡ colon
colon_is colon e = refl
colon_is w e = absurd (cc)

open_is : (w : Word) → is_open w ≡ true → w ≡ sign s.OpenBracket
open_is (sign s.OpenBracket) e = refl
open_is w e = absurd (cc)

comma_is : (w : Word) → is_comma w ≡ true → w ≡ sign s.Comma
comma_is (sign s.Comma) e = refl
comma_is w e = absurd (cc)

close_is : (w : Word) → is_close w ≡ true → w ≡ sign s.CloseBracket
close_is (sign s.CloseBracket) e = refl
close_is w e = absurd (cc)

pub semicolon_is : (w : Word) → is_semicolon w ≡ true → w ≡ sign s.Semicolon
semicolon_is (sign s.Semicolon) e = refl
semicolon_is w e = absurd (cc)

equal_is : (w : Word) → is_equal w ≡ true → w ≡ sign s.Equal
equal_is (sign s.Equal) e = refl
equal_is w e = absurd (cc)

minus_is : (w : Word) → is_minus w ≡ true → w ≡ sign s.Minus
minus_is (sign s.Minus) e = refl
minus_is w e = absurd (cc)

-- ---- the relation

-- The word leads from one part to the next.
pub data Takes : Opening → Part → Word → Part → Type 0 where
  input_begins : {o : Opening} {w : Word} → o.inputs ≡ true → w ≡ sign s.In
      → Takes o between w input_name
  output_begins : {o : Opening} {w : Word} → w ≡ out → Takes o between w output_name
  step_begins : {o : Opening} {n : Name} {w : Word} → o.steps ≡ true → w ≡ name n
      → Takes o between w (step_colon n)
  input_named : {o : Opening} {n : Name} {w : Word} → w ≡ name n
      → Takes o input_name w (input_colon n)
  input_typed : {o : Opening} {n : Name} {w : Word} → w ≡ colon
      → Takes o (input_colon n) w (input_format n)
  input_formatted : {o : Opening} {n : Name} {f : List ℕ} {w : Word} → w ≡ format f
      → Takes o (input_format n) w (input_open (headed n f))
  opened : {o : Opening} {h : Head} {w : Word} → w ≡ sign s.OpenBracket
      → Takes o (input_open h) w (lower h)
  lower_signed : {o : Opening} {h : Head} {m : Mark} {w : Word} → mark_words m ≡ w ∷ []
      → Takes o (lower h) w (lower_marked h m)
  lower_plain : {o : Opening} {h : Head} {t : List ℕ} {w : Word} → w ≡ literal t
      → Takes o (lower h) w (comma h (bound_of mark.Unmarked t))
  lower_valued : {o : Opening} {h : Head} {m : Mark} {t : List ℕ} {w : Word} → w ≡ literal t
      → Takes o (lower_marked h m) w (comma h (bound_of m t))
  parted : {o : Opening} {h : Head} {a : Bound} {w : Word} → w ≡ sign s.Comma
      → Takes o (comma h a) w (upper h a)
  upper_signed : {o : Opening} {h : Head} {a : Bound} {m : Mark} {w : Word} → mark_words m ≡ w ∷ []
      → Takes o (upper h a) w (upper_marked h a m)
  upper_plain : {o : Opening} {h : Head} {a : Bound} {t : List ℕ} {w : Word} → w ≡ literal t
      → Takes o (upper h a) w (input_close (ranged h a (bound_of mark.Unmarked t)))
  upper_valued : {o : Opening} {h : Head} {a : Bound} {m : Mark} {t : List ℕ} {w : Word} → w
      ≡ literal t → Takes o (upper_marked h a m) w (input_close (ranged h a (bound_of m t)))
  closed : {o : Opening} {x : Input} {w : Word} → w ≡ sign s.CloseBracket
      → Takes o (input_close x) w (input_end x)
  step_typed : {o : Opening} {n : Name} {w : Word} → w ≡ colon
      → Takes o (step_colon n) w (step_format n)
  step_formatted : {o : Opening} {n : Name} {f : List ℕ} {w : Word} → w ≡ format f
      → Takes o (step_format n) w (step_way (headed n f))
  step_directed : {o : Opening} {h : Head} {v : Way} {w : Word} → way_words v ≡ w ∷ []
      → Takes o (step_way h) w (step_equal (directed h v))
  equalled : {o : Opening} {b : Begun} {w : Word} → w ≡ sign s.Equal
      → Takes o (step_equal b) w (step_operand b)
  negation_begins : {o : Opening} {b : Begun} {w : Word} → w ≡ sign s.Minus
      → Takes o (step_operand b) w (step_negated b)
  first_operand : {o : Opening} {b : Begun} {a : Operand} {w : Word} → operand_words a ≡ w ∷ []
      → Takes o (step_operand b) w (step_operator b a)
  negated : {o : Opening} {b : Begun} {a : Operand} {w : Word} → operand_words a ≡ w ∷ []
      → Takes o (step_negated b) w (step_end (stepped b (negation a)))
  joint : {o : Opening} {b : Begun} {a : Operand} {j : Joint} {w : Word} → joint_words j ≡ w ∷ []
      → Takes o (step_operator b a) w (step_second b a j)
  shift : {o : Opening} {b : Begun} {a : Operand} {k : Shift} {w : Word} → shift_words k ≡ w ∷ []
      → Takes o (step_operator b a) w (step_places b a k)
  second : {o : Opening} {b : Begun} {a : Operand} {j : Joint} {w : Word} → (c : Operand)
      → operand_words c ≡ w ∷ [] → Takes o (step_second b a j) w
      (step_end (stepped b (joined a j c)))
  digits : {o : Opening} {b : Begun} {a : Operand} {k : Shift} {w : Word} → (n : Digits) → w
      ≡ literal n.text → Takes o (step_places b a k) w (step_end (stepped b (shifted a k n)))
  output_named : {o : Opening} {n : Name} {w : Word} → w ≡ name n
      → Takes o output_name w (output_end n)

-- ---- it is that of `next_part`

-- what a mapped value comes of
mapped : {A : Type 0} (f : A → Part) (o : Option A) (q : Part) (P : Part → Type 0) → option_map f o
    ≡ Some q → ((x : A) → o ≡ Some x → P (f x)) → P q
mapped f (Some x) q P e h = subst P (sym (one_value (f x) q e)) (h x refl)
mapped f None q P e h = absurd (cc)

tested : (b : Bool) (p q : Part) (P : Part → Type 0) → some_if b p ≡ Some q → (b ≡ true → P p) → P q
tested true p q P e h = subst P (sym (one_value p q e)) (h refl)
tested false p q P e h = absurd (cc)

whole_part : (p q : Part) (P : Part → Type 0) → Some p ≡ Some q → P p → P q
whole_part p q P e h = subst P (sym (one_value p q e)) h

lower_takes : (o : Opening) (h : Head) (m : Option Mark) (w : Word) (q : Part) → mark_in w ≡ m
    → lower_next h m (literal_in w) ≡ Some q → Takes o (lower h) w q
lower_takes o h (Some m) w q d e = whole_part _ q (Takes o (lower h) w) e
    (lower_signed (mark_is w m d))
lower_takes o h None w q d e = mapped _ (literal_in w) q (Takes o (lower h) w) e
    (λ t i. lower_plain (literal_is w t i))

upper_takes : (o : Opening) (h : Head) (a : Bound) (m : Option Mark) (w : Word) (q : Part)
    → mark_in w ≡ m → upper_next h a m (literal_in w) ≡ Some q → Takes o (upper h a) w q
upper_takes o h a (Some m) w q d e = whole_part _ q (Takes o (upper h a) w) e
    (upper_signed (mark_is w m d))
upper_takes o h a None w q d e = mapped _ (literal_in w) q (Takes o (upper h a) w) e
    (λ t i. upper_plain (literal_is w t i))

operand_takes : (o : Opening) (b : Begun) (c : Bool) (w : Word) (q : Part) → is_minus w ≡ c
    → operand_next b c (operand_in w) ≡ Some q → Takes o (step_operand b) w q
operand_takes o b true w q d e = whole_part _ q (Takes o (step_operand b) w) e
    (negation_begins (minus_is w d))
operand_takes o b false w q d e = mapped _ (operand_in w) q (Takes o (step_operand b) w) e
    (λ a i. first_operand (operand_is w a i))

operator_takes : (o : Opening) (b : Begun) (a : Operand) (j : Option Joint) (w : Word) (q : Part)
    → joint_in w ≡ j → operator_next b a j (shift_in w) ≡ Some q → Takes o (step_operator b a) w q
operator_takes o b a (Some j) w q d e = whole_part _ q (Takes o (step_operator b a) w) e
    (joint (joint_is w j d))
operator_takes o b a None w q d e = mapped _ (shift_in w) q (Takes o (step_operator b a) w) e
    (λ k i. shift (shift_is w k i))

begin_takes : (o : Opening) (c : Bool) (w : Word) (q : Part) → o.steps ≡ c
    → (if c then option_map step_colon (name_in w) else None) ≡ Some q → Takes o between w q
begin_takes o true w q d e = mapped step_colon (name_in w) q (Takes o between w) e
    (λ t i. step_begins d (name_is w t i))
begin_takes o false w q d e = absurd (cc)

otherwise_takes : (o : Opening) (c : Bool) (w : Word) (q : Part) → is_out w ≡ c
    → (if c then Some output_name else if o.steps then option_map step_colon (name_in w) else None)
    ≡ Some q → Takes o between w q
otherwise_takes o true w q d e = whole_part output_name q (Takes o between w) e
    (output_begins (out_is w d))
otherwise_takes o false w q d e = begin_takes o o.steps w q refl e

begun_takes : (o : Opening) (c : Bool) (w : Word) (q : Part) → (o.inputs && is_in w) ≡ c
    → (if c then Some input_name else begun_otherwise o.steps w) ≡ Some q → Takes o between w q
begun_takes o true w q d e = whole_part input_name q (Takes o between w) e (let h =
    and_parts o.inputs (is_in w) d in input_begins h.0 (in_is w h.1))
begun_takes o false w q d e = otherwise_takes o (is_out w) w q refl e

pub next_takes : (o : Opening) (p : Part) (w : Word) (q : Part) → next_part o p w ≡ Some q
    → Takes o p w q
next_takes o between w q e = begun_takes o (o.inputs && is_in w) w q refl e
next_takes o input_name w q e = mapped _ (name_in w) q (Takes o input_name w) e
    (λ t i. input_named (name_is w t i))
next_takes o (input_colon n) w q e = tested (is_colon w) _ q (Takes o (input_colon n) w) e
    (λ h. input_typed (colon_is w h))
next_takes o (input_format n) w q e = mapped _ (format_in w) q (Takes o (input_format n) w) e
    (λ t i. input_formatted (format_is w t i))
next_takes o (input_open h) w q e = tested (is_open w) _ q (Takes o (input_open h) w) e
    (λ h. opened (open_is w h))
next_takes o (lower h) w q e = lower_takes o h (mark_in w) w q refl e
next_takes o (lower_marked h m) w q e = mapped _ (literal_in w) q (Takes o (lower_marked h m) w) e
    (λ t i. lower_valued (literal_is w t i))
next_takes o (comma h a) w q e = tested (is_comma w) _ q (Takes o (comma h a) w) e
    (λ h. parted (comma_is w h))
next_takes o (upper h a) w q e = upper_takes o h a (mark_in w) w q refl e
next_takes o (upper_marked h a m) w q e = mapped _ (literal_in w) q
    (Takes o (upper_marked h a m) w) e (λ t i. upper_valued (literal_is w t i))
next_takes o (input_close x) w q e = tested (is_close w) _ q (Takes o (input_close x) w) e
    (λ h. closed (close_is w h))
next_takes o (input_end x) w q e = absurd (cc)
next_takes o (step_colon n) w q e = tested (is_colon w) _ q (Takes o (step_colon n) w) e
    (λ h. step_typed (colon_is w h))
next_takes o (step_format n) w q e = mapped _ (format_in w) q (Takes o (step_format n) w) e
    (λ t i. step_formatted (format_is w t i))
next_takes o (step_way h) w q e = mapped _ (way_in w) q (Takes o (step_way h) w) e
    (λ v i. step_directed (way_is w v i))
next_takes o (step_equal b) w q e = tested (is_equal w) _ q (Takes o (step_equal b) w) e
    (λ h. equalled (equal_is w h))
next_takes o (step_operand b) w q e = operand_takes o b (is_minus w) w q refl e
next_takes o (step_negated b) w q e = mapped _ (operand_in w) q (Takes o (step_negated b) w) e
    (λ a i. negated (operand_is w a i))
next_takes o (step_operator b a) w q e = operator_takes o b a (joint_in w) w q refl e
next_takes o (step_second b a j) w q e = mapped _ (operand_in w) q (Takes o (step_second b a j) w)
    e (λ c i. second c (operand_is w c i))
next_takes o (step_places b a k) w q e = mapped _ (digits_in w) q (Takes o (step_places b a k) w) e
    (λ n i. digits n (digits_is w n i))
next_takes o (step_end x) w q e = absurd (cc)
next_takes o output_name w q e = mapped _ (name_in w) q (Takes o output_name w) e
    (λ t i. output_named (name_is w t i))
next_takes o (output_end t) w q e = absurd (cc)

-- ---- what it does to words

begun_more : (b : Begun) (ws : List Word) (w : Word) → begun_words b (ws ++ (w ∷ []))
    ≡ begun_words b ws ++ (w ∷ [])
begun_more b ws w = ap (head_words b.name b.format)
    (sym (append_assoc (way_words b.way) ws (w ∷ [])))

pub joined_words : (a : Operand) (j : Joint) (c : Operand) → operation_words (joined a j c)
    ≡ (operand_words a ++ joint_words j) ++ operand_words c
joined_words a joint_kind.Plus c = sym (append_assoc (operand_words a) (sign s.Plus ∷ [])
    (operand_words c))
joined_words a joint_kind.Minus c = sym (append_assoc (operand_words a) (sign s.Minus ∷ [])
    (operand_words c))
joined_words a joint_kind.Times c = sym (append_assoc (operand_words a) (sign s.Star ∷ [])
    (operand_words c))

pub shifted_words : (a : Operand) (k : Shift) (n : Digits) → operation_words (shifted a k n)
    ≡ (operand_words a ++ shift_words k) ++ (literal n.text ∷ [])
shifted_words a shift_kind.Right n = sym (append_assoc (operand_words a) (right ∷ [])
    (literal n.text ∷ []))
shifted_words a shift_kind.Left n = sym (append_assoc (operand_words a) (left ∷ [])
    (literal n.text ∷ []))

pub takes_words : (o : Opening) (p : Part) (w : Word) (q : Part) → Takes o p w q → part_words q
    ≡ part_words p ++ (w ∷ [])
takes_words o p w q (input_begins h e) = ap (λ w. w ∷ []) (sym e)
takes_words o p w q (output_begins e) = ap (λ w. w ∷ []) (sym e)
takes_words o p w q (step_begins h e) = ap (λ w. w ∷ []) (sym e)
takes_words o p w q (input_named e) = ap (λ w. sign s.In ∷ (w ∷ [])) (sym e)
takes_words o p w q (input_typed {n = n} e) = ap (λ w. sign s.In ∷ (name n ∷ (w ∷ []))) (sym e)
takes_words o p w q (input_formatted {n = n} e) =
    ap (λ w. sign s.In ∷ (name n ∷ (colon ∷ (w ∷ [])))) (sym e)
takes_words o p w q (opened {h = h} e) = ap (λ w. sign s.In ∷
    (name h.name ∷ (colon ∷ (format h.format ∷ (w ∷ []))))) (sym e)
takes_words o p w q (lower_signed {h = h} e) = ap (range_words h) e
takes_words o p w q (lower_plain {h = h} e) = ap (λ w. range_words h (w ∷ [])) (sym e)
takes_words o p w q (lower_valued {h = h} {m = m} e) =
    ap (λ w. range_words h (mark_words m ++ (w ∷ []))) (sym e)
takes_words o p w q (parted {h = h} {a = a} e) =
    ap (λ w. range_words h (bound_words a ++ (w ∷ []))) (sym e)
takes_words o p w q (upper_signed {h = h} {a = a} {m = m} e) =
    ap (λ ws. range_words h (bound_words a ++ (sign s.Comma ∷ ws))) e
    ∙ ap (range_words h) (sym (append_assoc (bound_words a) (sign s.Comma ∷ []) (w ∷ [])))
takes_words o p w q (upper_plain {h = h} {a = a} e) =
    ap (λ w. range_words h (bound_words a ++ (sign s.Comma ∷ (w ∷ [])))) (sym e)
    ∙ ap (range_words h) (sym (append_assoc (bound_words a) (sign s.Comma ∷ []) (w ∷ [])))
takes_words o p w q (upper_valued {h = h} {a = a} {m = m} e) =
    ap (λ w. range_words h (bound_words a ++ (sign s.Comma ∷ (mark_words m ++ (w ∷ []))))) (sym e)
    ∙ ap (range_words h) (sym (append_assoc (bound_words a) (sign s.Comma ∷ mark_words m) (w ∷ [])))
takes_words o p w q (closed {x = x} e) =
    let h = headed x.name x.format in
    ap (λ w. range_words h (bound_words x.lower
    ++ (sign s.Comma ∷ (bound_words x.upper ++ (w ∷ []))))) (sym e)
    ∙ ap (range_words h) (sym (append_assoc (bound_words x.lower)
    (sign s.Comma ∷ bound_words x.upper) (w ∷ [])))
takes_words o p w q (step_typed {n = n} e) = ap (λ w. name n ∷ (w ∷ [])) (sym e)
takes_words o p w q (step_formatted {n = n} e) = ap (λ w. name n ∷ (colon ∷ (w ∷ []))) (sym e)
takes_words o p w q (step_directed {h = h} {v = v} e) =
    ap (head_words h.name h.format) (append-nil (way_words v) ∙ e)
takes_words o p w q (equalled {b = b} e) = ap (λ w. begun_words b (w ∷ [])) (sym e)
    ∙ ap (λ l. head_words b.name b.format (l ++ (w ∷ []))) (sym (append-nil (way_words b.way)))
takes_words o p w q (negation_begins {b = b} e) = ap (λ w. begun_words b (sign s.Equal ∷ (w ∷ [])))
    (sym e) ∙ begun_more b (sign s.Equal ∷ []) w
takes_words o p w q (first_operand {b = b} e) = ap (λ ws. begun_words b (sign s.Equal ∷ ws)) e
    ∙ begun_more b (sign s.Equal ∷ []) w
takes_words o p w q (negated {b = b} e) = ap (λ ws. begun_words b
    (sign s.Equal ∷ (sign s.Minus ∷ ws))) e ∙ begun_more b (sign s.Equal ∷ (sign s.Minus ∷ [])) w
takes_words o p w q (joint {b = b} {a = a} e) =
    ap (λ ws. begun_words b (sign s.Equal ∷ (operand_words a ++ ws))) e
    ∙ begun_more b (sign s.Equal ∷ operand_words a) w
takes_words o p w q (shift {b = b} {a = a} e) =
    ap (λ ws. begun_words b (sign s.Equal ∷ (operand_words a ++ ws))) e
    ∙ begun_more b (sign s.Equal ∷ operand_words a) w
takes_words o p w q (second {b = b} {a = a} {j = j} c e) =
    ap (λ l. begun_words b (sign s.Equal ∷ l)) (joined_words a j c
    ∙ ap (λ ws. (operand_words a ++ joint_words j) ++ ws) e)
    ∙ begun_more b (sign s.Equal ∷ (operand_words a ++ joint_words j)) w
takes_words o p w q (digits {b = b} {a = a} {k = k} n e) =
    ap (λ l. begun_words b (sign s.Equal ∷ l)) (shifted_words a k n
    ∙ ap (λ w. (operand_words a ++ shift_words k) ++ (w ∷ [])) (sym e))
    ∙ begun_more b (sign s.Equal ∷ (operand_words a ++ shift_words k)) w
takes_words o p w q (output_named e) = ap (λ w. out ∷ (w ∷ [])) (sym e)
