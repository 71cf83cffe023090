-- The script of a program in which nothing is wrong is read as its tree.
use Rattle.std.proofs.Common.{◌≡◌, ◌<◌, ◌≤◌, ◌^◌, ◌-◌, ◌+◌, not, Bool, true, false, ℕ, pos, zero}
use Rattle.std.proofs.Common.{suc, codes, arith, List, [], ◌∷◌, ◌++◌, length, map, refl, sym, ap}
use Rattle.std.proofs.Common.{◌∙◌, lit≤, if◌then◌else◌}
use Rattle.std.specs.Prelude.{neg_ℤ}
use Rattle.std.specs.List.{AllByRecursion}
use Rattle.std.specs.Str.{bytes_eq}
use Rattle.std.specs.Str.Parse.{digits_value}
use Rattle.std.proofs.lemmas.Slice.Eq.{bytes_eq-Decides}
use Rattle.std.proofs.Math.Nat.{pow-le-pow_right}
use Rattle.script_words.specs.declared.class.Spelled.TheVariants as spelled
use Rattle.script_words.specs.declared.lex.TokenKind.TheVariants as kind
use Rattle.script_words.specs.Quiet.{EndsBeforeQuiet}
use Rattle.script_words.specs.Named.{spelled_of, is_direction, IsWordsOf}
use Rattle.script_shape.specs.Tree.{script_words}
use Rattle.fixprog.specs.declared.format.Format.{Format}
use Rattle.fixprog.specs.declared.program.Mark.{Mark}
use Rattle.fixprog.specs.declared.program.Mark.TheVariants as mark
use Rattle.fixprog.specs.Words.{Word, Name}
use Rattle.fixprog.specs.Grammar.{Operand, named, given, operand_words, Operation, copy, negation}
use Rattle.fixprog.specs.Grammar.{sum, difference, product, shift_right, shift_left}
use Rattle.fixprog.specs.Grammar.{operation_words, bound_words, Way, called, reserved, reserved_out}
use Rattle.fixprog.specs.Grammar.{way_words, Statement, input, step, output, statement_words}
use Rattle.fixprog.specs.Grammar.{words_from, Program, outputs, statements, program_words}
use Rattle.fixprog.specs.Formats.{format_of, least, greatest}
use Rattle.fixprog.specs.Faults.{Before, after, fault_if, new_name_faults, weight_faults}
use Rattle.fixprog.specs.Faults.{format_faults, operand_faults, operation_faults, statement_faults}
use Rattle.fixprog.specs.Faults.{faults_from, program_faults, is_way}
use Rattle.fixprog.specs.Execution.{way_text}
use Rattle.fixprog.specs.First.{IsAlone, IsAloneWord}
use Rattle.fixprog.specs.Turned.{script_of}
use Rattle.fixprog.proofs.NoFaults.{none_front, none_behind, not_if, no_if, short_by}
use Rattle.fixprog.proofs.Narrow.{IsNarrow, narrow}
use Rattle.program_truths.proofs.Lines.{IsWordText}
use Rattle.program_truths.proofs.Trees.{tree_of}
use Rattle.program_truths.proofs.Operations.{IsOperandText, IsOperationText}
use Rattle.program_truths.proofs.StepLines.{IsStepText}
use Rattle.program_truths.proofs.Formulas.{IsInputText, IsGoalText, IsWordBoundText}
use Rattle.program_truths.proofs.Texts.{alone_word, place_is_text, right_is_text, left_is_text}
use Rattle.program_truths.proofs.Texts.{word_is_text}
use Rattle.program_truths.proofs.Scripts.{HasTexts, script_is_read}

-- ---- formats

power_below : (k : ℕ) → k ≤ 60 → 2 ^ k < 10 ^ 64
power_below k h = let p : 2 ^ k ≤ 2 ^ 60 = pow-le-pow_right {n = 2} (lit≤ tt) {i = k} {j = 60} h in
    omega arith

opposite_text : (f : Format) (m : ℕ) → m < 10 ^ 64 → f.places < 64
    → IsWordBoundText f (neg_ℤ (pos m))
opposite_text f zero l p = word_is_text 0 f l p
opposite_text f (suc k) l p = word_is_text (suc k) f l p

least_text : (f : Format) → IsNarrow f → IsWordBoundText f (least f)
least_text f n = by_sign f.signed
  where
    by_sign : (b : Bool) → IsWordBoundText f (if b then neg_ℤ (pos (2 ^ (f.width - 1))) else pos 0)
    by_sign true = opposite_text f (2 ^ (f.width - 1))
        (power_below (f.width - 1) (let w = n.width in omega (arith, w))) n.places
    by_sign false = word_is_text 0 f (omega arith) n.places

greatest_text : (f : Format) → IsNarrow f → IsWordBoundText f (greatest f)
greatest_text f n = by_sign f.signed
  where
    by_sign : (b : Bool) → IsWordBoundText f (if b then pos (2 ^ (f.width - 1) - 1)
        else pos (2 ^ f.width - 1))
    by_sign true = word_is_text (2 ^ (f.width - 1) - 1) f (let p =
        power_below (f.width - 1) (let w = n.width in omega (arith, w)) in omega (arith, p))
        n.places
    by_sign false = word_is_text (2 ^ f.width - 1) f (let p = power_below f.width n.width in
        omega (arith, p)) n.places

-- ---- directions

pub direction_is : (t : Name) → is_direction t ≡ true → spelled_of t ≡ spelled.Direction
direction_is t h = by_fix (bytes_eq t (codes "FIX")) refl
  where
    by_fix : (b : Bool) → bytes_eq t (codes "FIX") ≡ b → spelled_of t ≡ spelled.Direction
    by_fix true e = let f : t ≡ codes "FIX" = (bytes_eq-Decides t (codes "FIX")).0 e in
        let n : false ≡ true = ap is_direction (sym f) ∙ h in absurd (cc)
    by_fix false e = rw (e, h) refl

-- ---- statements

front_alone : (xs ys : List Word) → AllByRecursion IsAloneWord (xs ++ ys)
    → AllByRecursion IsAloneWord xs
front_alone [] ys h = tt
front_alone (x ∷ xs) ys h = (h.0, front_alone xs ys h.1)

behind_alone : (xs ys : List Word) → AllByRecursion IsAloneWord (xs ++ ys)
    → AllByRecursion IsAloneWord ys
behind_alone [] ys h = h
behind_alone (x ∷ xs) ys h = behind_alone xs ys h.1

name_text : (t : Name) → IsAlone kind.Name t → IsWordText kind.Name t
name_text t h = alone_word kind.Name t tt h

literal_text : (t : List ℕ) → IsAlone kind.Literal t → IsWordText kind.Literal t
literal_text t h = alone_word kind.Literal t tt h

bound_text : (m : Mark) (t : List ℕ) → AllByRecursion IsAloneWord
    (bound_words (record { mark = m; text = t })) → IsWordText kind.Literal t
bound_text mark.Unmarked t h = literal_text t h.0
bound_text mark.Plus t h = literal_text t h.1.0
bound_text mark.Minus t h = literal_text t h.1.0

operand_text : (a : Operand) → AllByRecursion IsAloneWord (operand_words a) → IsOperandText a
operand_text (named t) h = name_text t h.0
operand_text (given t) h = literal_text t h.0

operation_text : (o : Operation) (b : Before) (i : ℕ) → operation_faults b i o ≡ []
    → AllByRecursion IsAloneWord (operation_words o) → IsOperationText o
operation_text (copy a) b i f h = operand_text a h
operation_text (negation a) b i f h = operand_text a h.1
operation_text (sum a c) b i f h = (
  operand_text a (front_alone (operand_words a) _ h),
  operand_text c (behind_alone (operand_words a) _ h).1,
)
operation_text (difference a c) b i f h = (
  operand_text a (front_alone (operand_words a) _ h),
  operand_text c (behind_alone (operand_words a) _ h).1,
)
operation_text (product a c) b i f h = (
  operand_text a (front_alone (operand_words a) _ h),
  operand_text c (behind_alone (operand_words a) _ h).1,
)
operation_text (shift_right a k) b i f h = (
  operand_text a (front_alone (operand_words a) _ h),
  right_is_text (digits_value 10 k.text) (short_by (digits_value 10 k.text)
      (no_if _ _ _ _ (none_behind (operand_faults b i a) _ f))),
)
operation_text (shift_left a k) b i f h = (
  operand_text a (front_alone (operand_words a) _ h),
  left_is_text (digits_value 10 k.text) (short_by (digits_value 10 k.text)
      (no_if _ _ _ _ (none_behind (operand_faults b i a) _ f))),
)

way_name : (v : Way) → is_way v ≡ true → AllByRecursion IsAloneWord (way_words v)
    → IsWordText kind.Name (way_text v)
way_name (called t) w h = name_text t h.0
way_name (reserved g) w h = absurd (cc)
way_name reserved_out w h = absurd (cc)

way_direction : (v : Way) → is_way v ≡ true → spelled_of (way_text v) ≡ spelled.Direction
way_direction (called t) w = direction_is t w
way_direction (reserved g) w = absurd (cc)
way_direction reserved_out w = absurd (cc)

abbrev pub IsStatementText : Statement → Type 0
IsStatementText (input x) = IsInputText x
IsStatementText (step x) = IsStepText x × IsGoalText x
IsStatementText (output t) = IsWordText kind.Name t

statement_text : (x : Statement) (b : Before) (i : ℕ) → statement_faults b i x ≡ []
    → AllByRecursion IsAloneWord (statement_words x) → IsStatementText x
statement_text (input x) b i f h =
    let ends = h.1.1.1.1.1 in
    let behind = behind_alone (bound_words x.lower) _ ends in
    let f1 = none_behind (new_name_faults b (i + 1) x.name) _ f in
    let f2 = none_behind (weight_faults b 2 (i + 1)) _ f1 in
    let n = narrow (format_of x.format) (not_if _ _ _ _
    (none_front (format_faults (i + 3) x.format) _ f2)) in
    record {
      name = name_text x.name h.1.0;
      lower = bound_text x.lower.mark x.lower.text (front_alone (bound_words x.lower) _ ends);
      upper = bound_text x.upper.mark x.upper.text (front_alone (bound_words x.upper) _ behind.1);
      place = place_is_text (format_of x.format).places n.places;
    }
statement_text (step x) b i f h =
    let ends = h.1.1.1 in
    let behind = (behind_alone (way_words x.way) _ ends).1 in
    let f1 = none_behind (new_name_faults b i x.name) _ f in
    let f2 = none_behind (weight_faults b 1 i) _ f1 in
    let n = narrow (format_of x.format) (not_if _ _ _ _
    (none_front (format_faults (i + 2) x.format) _ f2)) in
    let f3 = none_behind (format_faults (i + 2) x.format) _ f2 in
    let w = not_if _ _ _ _ (none_front (fault_if (not (is_way x.way)) _ (i + 3) (i + 3)) _ f3) in
    let f4 = none_behind (fault_if (not (is_way x.way)) _ (i + 3) (i + 3)) _ f3 in (
      record {
        name = name_text x.name h.0;
        place = place_is_text (format_of x.format).places n.places;
        way = way_name x.way w (front_alone (way_words x.way) _ ends);
        direction = way_direction x.way w;
        operation = operation_text x.operation b (i + 5) f4
            (front_alone (operation_words x.operation) _ behind);
      },
      record {
        name = name_text x.name h.0;
        least = least_text (format_of x.format) n;
        greatest = greatest_text (format_of x.format) n;
      },
    )
statement_text (output t) b i f h = name_text t h.1.0

all_texts : (xs : List Statement) (b : Before) (i : ℕ) → faults_from b i xs ≡ []
    → AllByRecursion IsAloneWord (words_from xs) → AllByRecursion IsStatementText xs
all_texts [] b i f h = tt
all_texts (x ∷ xs) b i f h = (
  statement_text x b i (none_front (statement_faults b i x) _ f)
      (front_alone (statement_words x) (words_from xs) h),
  all_texts xs (after b x) (i + length (statement_words x))
      (none_behind (statement_faults b i x) _ f)
      (behind_alone (statement_words x) (words_from xs) h),
)

-- ---- programs

front_all : {A : Type 0} (P : A → Type 0) (xs ys : List A) → AllByRecursion P (xs ++ ys)
    → AllByRecursion P xs
front_all P [] ys h = tt
front_all P (x ∷ xs) ys h = (h.0, front_all P xs ys h.1)

behind_all : {A : Type 0} (P : A → Type 0) (xs ys : List A) → AllByRecursion P (xs ++ ys)
    → AllByRecursion P ys
behind_all P [] ys h = h
behind_all P (x ∷ xs) ys h = behind_all P xs ys h.1

unmapped : {A B : Type 0} (P : B → Type 0) (Q : A → Type 0) (f : A → B) → ((x : A) → P (f x) → Q x)
    → (xs : List A) → AllByRecursion P (map f xs) → AllByRecursion Q xs
unmapped P Q f g [] h = tt
unmapped P Q f g (x ∷ xs) h = (g x h.0, unmapped P Q f g xs h.1)

pub has_texts : (p : Program) → program_faults p ≡ []
    → AllByRecursion IsAloneWord (program_words p) → HasTexts p
has_texts p f h =
    let all = all_texts (statements p) _ 0 f h in
    let behind = behind_all IsStatementText (map input p.inputs) (map step p.steps
    ++ map output (outputs p)) all in
    let steps = front_all IsStatementText (map step p.steps) (map output (outputs p)) behind in
    record {
      inputs = unmapped IsStatementText IsInputText input (λ x k. k) p.inputs
          (front_all IsStatementText (map input p.inputs) _ all);
      steps = unmapped IsStatementText IsStepText step (λ x k. k.0) p.steps steps;
      goals = unmapped IsStatementText IsGoalText step (λ x k. k.1) p.steps steps;
      outputs = unmapped IsStatementText (IsWordText kind.Name) output (λ x k. k) (outputs p)
          (behind_all IsStatementText (map step p.steps) _ behind);
    }

-- The script of a program without faults is read as its tree.
pub faultless_is_read : EndsBeforeQuiet → (p : Program) → program_faults p ≡ []
    → AllByRecursion IsAloneWord (program_words p)
    → IsWordsOf (script_of p) (script_words (tree_of p))
faultless_is_read law p f h = script_is_read law p (has_texts p f h)
