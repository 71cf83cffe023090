-- What a step does, as words.
use Rattle.std.proofs.Common.{◌≡◌, ℕ, codes, List, ◌∷◌, ◌++◌, Some, refl, sym, subst}
use Rattle.std.specs.Fmt.{decimal}
use Rattle.std.specs.Str.Parse.{digits_value}
use Rattle.script_words.specs.declared.class.Symbol.TheVariants as s
use Rattle.script_words.specs.declared.lex.TokenKind.{TokenKind}
use Rattle.script_words.specs.declared.lex.TokenKind.TheVariants as kind
use Rattle.script_words.specs.Lex.{front}
use Rattle.script_words.specs.Quiet.{EndsBeforeQuiet}
use Rattle.script_shape.specs.Expressions.{atom_words, expr_words}
use Rattle.fixprog.specs.Grammar.{Operand, named, given, Operation, copy, negation, sum, difference}
use Rattle.fixprog.specs.Grammar.{product, shift_right, shift_left}
use Rattle.fixprog.specs.Turned.{operand_text, operation_text}
use Rattle.program_truths.proofs.Lines.{IsWordText, quiet_blank, minus_before}
use Rattle.program_truths.proofs.Chunks.{Chunk, Quiet, Before, seq, behind_blank, name_chunk}
use Rattle.program_truths.proofs.Chunks.{literal_chunk, sign_chunk}
use Rattle.program_truths.proofs.Trees.{operand_atom, operation_expr}

abbrev pub IsOperandText : Operand → Type 0
IsOperandText (named t) = IsWordText kind.Name t
IsOperandText (given t) = IsWordText kind.Literal t

abbrev pub IsOperationText : Operation → Type 0
IsOperationText (copy a) = IsOperandText a
IsOperationText (negation a) = IsOperandText a
IsOperationText (sum a b) = IsOperandText a × IsOperandText b
IsOperationText (difference a b) = IsOperandText a × IsOperandText b
IsOperationText (product a b) = IsOperandText a × IsOperandText b
IsOperationText (shift_right a k) = IsOperandText a
    × IsWordText kind.Literal (codes "1b-" ++ decimal (digits_value 10 k.text))
IsOperationText (shift_left a k) = IsOperandText a
    × IsWordText kind.Literal (codes "1b" ++ decimal (digits_value 10 k.text))

pub plus_blank : (rest : List ℕ) → Before s.Plus (codes "+") (32 ∷ rest)
unfolding front
plus_blank rest = refl

pub minus_blank : (rest : List ℕ) → Before s.Minus (codes "-") (32 ∷ rest)
unfolding front
minus_blank rest = refl

pub star_blank : (rest : List ℕ) → Before s.Star (codes "*") (32 ∷ rest)
unfolding front
star_blank rest = refl

pub minus_word : (k : TokenKind) (t rest : List ℕ) → IsWordText k t
    → Before s.Minus (codes "-") (t ++ rest)
minus_word k t rest w = subst (λ l. front (45 ∷ (l ++ rest)) ≡ Some (kind.Sign s.Minus, 1))
    (sym w.text) (minus_before w.first (w.more ++ rest) w.word)

minus_operand : (a : Operand) (rest : List ℕ) → IsOperandText a
    → Before s.Minus (codes "-") (operand_text a ++ rest)
minus_operand (named t) rest h = minus_word kind.Name t rest h
minus_operand (given t) rest h = minus_word kind.Literal t rest h

module _ (law : EndsBeforeQuiet) where
  pub operand_chunk : (a : Operand) → IsOperandText a
      → Chunk Quiet (operand_text a) (atom_words (operand_atom a))
  operand_chunk (named t) h = name_chunk law t h
  operand_chunk (given t) h = literal_chunk law t h

  pub operation_chunk : (o : Operation) → IsOperationText o
      → Chunk Quiet (operation_text o) (expr_words (operation_expr o))
  operation_chunk (copy a) h = operand_chunk a h
  operation_chunk (negation a) h = seq (sign_chunk s.Minus (codes "-") (λ tail. refl) refl)
      (operand_chunk a h) (λ tail q. minus_operand a tail h)
  operation_chunk (sum a b) h =
      seq (operand_chunk a h.0) (seq (behind_blank (sign_chunk s.Plus (codes "+") (λ tail. refl)
      refl)) (behind_blank (operand_chunk b h.1)) (λ tail q. plus_blank (operand_text b
      ++ tail))) (λ tail q. quiet_blank)
  operation_chunk (difference a b) h =
      seq (operand_chunk a h.0) (seq (behind_blank (sign_chunk s.Minus (codes "-") (λ tail. refl)
      refl)) (behind_blank (operand_chunk b h.1)) (λ tail q. minus_blank (operand_text b
      ++ tail))) (λ tail q. quiet_blank)
  operation_chunk (product a b) h =
      seq (operand_chunk a h.0) (seq (behind_blank (sign_chunk s.Star (codes "*") (λ tail. refl)
      refl)) (behind_blank (operand_chunk b h.1)) (λ tail q. star_blank (operand_text b
      ++ tail))) (λ tail q. quiet_blank)
  operation_chunk (shift_right a k) h =
      let t = codes "1b-" ++ decimal (digits_value 10 k.text) in
      seq (operand_chunk a h.0) (seq (behind_blank (sign_chunk s.Star (codes "*") (λ tail. refl)
      refl)) (behind_blank (literal_chunk law t h.1)) (λ tail q. star_blank (t ++ tail)))
      (λ tail q. quiet_blank)
  operation_chunk (shift_left a k) h =
      let t = codes "1b" ++ decimal (digits_value 10 k.text) in
      seq (operand_chunk a h.0) (seq (behind_blank (sign_chunk s.Star (codes "*") (λ tail. refl)
      refl)) (behind_blank (literal_chunk law t h.1)) (λ tail q. star_blank (t ++ tail)))
      (λ tail q. quiet_blank)
