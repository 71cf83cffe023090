-- The lines of steps, as definitions.
use Rattle.std.proofs.Common.{◌≡◌, ℕ, pos, zero, suc, codes, List, [], ◌∷◌, ◌++◌, Some, refl, sym}
use Rattle.std.proofs.Common.{ap, ◌∙◌, subst, append_assoc}
use Rattle.std.specs.Prelude.{neg_ℤ}
use Rattle.std.specs.Fmt.{decimal, signed_decimal, digits}
use Rattle.std.specs.List.{AllByRecursion}
use Rattle.script_words.specs.declared.class.Number.TheVariants as digits_kind
use Rattle.script_words.specs.declared.class.Symbol.TheVariants as s
use Rattle.script_words.specs.declared.class.Spelled.TheVariants as spelled
use Rattle.script_words.specs.declared.lex.TokenKind.TheVariants as kind
use Rattle.script_words.specs.Literals.{literal_len, scaled_len}
use Rattle.script_words.specs.Lex.{front}
use Rattle.script_words.specs.Quiet.{EndsBeforeQuiet}
use Rattle.script_words.specs.Words.{Word, name, literal, sign}
use Rattle.script_words.specs.Named.{spelled_of, number_of}
use Rattle.script_shape.specs.Expressions.{whole_words, expr_words}
use Rattle.script_shape.specs.Tree.{definition_words, script_words}
use Rattle.script_shape.specs.Propositions.{Formula}
use Rattle.fixprog.specs.Grammar.{Step}
use Rattle.fixprog.specs.Formats.{format_of}
use Rattle.fixprog.specs.Execution.{way_text}
use Rattle.fixprog.specs.Turned.{last_place_text, operation_text, step_line, lines_of}
use Rattle.program_truths.proofs.Lines.{IsWordText, quiet_blank, quiet_close, quiet_comma}
use Rattle.program_truths.proofs.Lines.{quiet_greater, quiet_less, fixed_is_fixed, comma_alone}
use Rattle.program_truths.proofs.Lines.{open_alone, semicolon_alone, front_of_word}
use Rattle.program_truths.proofs.Chunks.{Chunk, Quiet, Before, seq, retold, behind_blank}
use Rattle.program_truths.proofs.Chunks.{behind_line, name_chunk, literal_chunk, sign_chunk}
use Rattle.program_truths.proofs.Trees.{place_whole, operation_expr, step_definition, script_from}
use Rattle.program_truths.proofs.Operations.{IsOperationText, operation_chunk, minus_word}

-- ---- last places

pub record IsDigitsText (t : List ℕ) : Type 0 where
  pub word : IsWordText kind.Literal t
  pub digits : number_of t ≡ digits_kind.Digits

abbrev pub IsPlaceText : ℕ → Type 0
IsPlaceText zero = Unit {0}
IsPlaceText (suc k) = IsDigitsText (decimal (suc k))

zero_is_one : front (codes "0") ≡ Some (kind.Literal, 1)
unfolding front literal_len scaled_len
zero_is_one = refl

zero_text : IsWordText kind.Literal (codes "0")
zero_text = record { first = 48; more = []; text = refl; word = refl; alone = zero_is_one }

less_zero : (rest : List ℕ) → Before s.Less (codes "<") (48 ∷ rest)
unfolding front
less_zero rest = refl

less_minus : (rest : List ℕ) → Before s.Less (codes "<") (45 ∷ rest)
unfolding front
less_minus rest = refl

equal_blank : (rest : List ℕ) → Before s.Equal (codes "=") (32 ∷ rest)
unfolding front
equal_blank rest = refl

greater_open : (rest : List ℕ) → Before s.Greater (codes ">") (40 ∷ rest)
unfolding front
greater_open rest = refl

pub close_alone : (rest : List ℕ) → Before s.CloseParen (codes ")") rest
unfolding front
close_alone [] = refl
close_alone (b ∷ bs) = refl

abbrev pub place_text : ℕ → List ℕ
place_text n = signed_decimal (neg_ℤ (pos n))

nought : decimal 0 ≡ codes "0"
unfolding digits
nought = refl

less_place : (n : ℕ) (rest : List ℕ) → Before s.Less (codes "<") (place_text n ++ rest)
less_place zero rest = subst (λ l. Before s.Less (codes "<") (l ++ rest)) (sym nought)
    (less_zero rest)
less_place (suc k) rest = less_minus (decimal (suc k) ++ rest)

module _ (law : EndsBeforeQuiet) where
  pub place_chunk : (n : ℕ) → IsPlaceText n → Chunk Quiet (place_text n)
      (whole_words (place_whole n))
  place_chunk zero h = retold {P = Quiet} {t = codes "0"} (sym nought) refl
      (literal_chunk law (codes "0") zero_text)
  place_chunk (suc k) h =
      let t = decimal (suc k) in
      retold {P = Quiet} {t = codes "-" ++ t} refl (ap (λ c. sign s.Minus ∷ (literal c t ∷ []))
      h.digits)
      (seq (sign_chunk s.Minus (codes "-") (λ tail. refl) refl) (literal_chunk law t h.word)
      (λ tail q. minus_word kind.Literal t tail h.word))

  fixed_less : (rest : List ℕ) → Before s.Fixed (codes "fixed") (60 ∷ rest)
  fixed_less rest = front_of_word law (kind.Sign s.Fixed) (codes "fixed") rest 60
      (record {
        first = 102;
        more = codes "ixed";
        text = refl;
        word = refl;
        alone =
            fixed_is_fixed;
      }) quiet_less

-- ---- a line

pub record IsStepText (x : Step) : Type 0 where
  pub name : IsWordText kind.Name x.name
  pub place : IsPlaceText (format_of x.format).places
  pub way : IsWordText kind.Name (way_text x.way)
  pub direction : spelled_of (way_text x.way) ≡ spelled.Direction
  pub operation : IsOperationText x.operation

nested : (l e rest : List Word) (c w g o p m : Word)
    → (((l ++ (c ∷ (w ∷ []))) ++ (g ∷ (o ∷ (e ++ (p ∷ []))))) ++ (m ∷ [])) ++ rest ≡ l
    ++ (c ∷ (w ∷ (g ∷ (o ∷ (e ++ (p ∷ (m ∷ rest)))))))
nested l e rest c w g o p m =
    let a = l ++ (c ∷ (w ∷ [])) in
    let b = g ∷ (o ∷ (e ++ (p ∷ []))) in
    append_assoc (a ++ b) (m ∷ []) rest
    ∙ append_assoc a b (m ∷ rest)
    ∙ append_assoc l (c ∷ (w ∷ [])) (b ++ (m ∷ rest))
    ∙ ap (λ k. l ++ (c ∷ (w ∷ (g ∷ (o ∷ k))))) (append_assoc e (p ∷ []) (m ∷ rest))

words_behind : (x : Step) (ws : List Word) → spelled_of (way_text x.way) ≡ spelled.Direction
    → name (spelled_of x.name) x.name ∷ (sign s.Equal ∷
    (sign s.Fixed ∷ (sign s.Less ∷ (whole_words (place_whole (format_of x.format).places)
    ++ (sign s.Comma ∷ (name (spelled_of (way_text x.way)) (way_text x.way) ∷
    (sign s.Greater ∷ (sign s.OpenParen ∷ (expr_words (operation_expr x.operation)
    ++ (sign s.CloseParen ∷ (sign s.Semicolon ∷ ws)))))))))))
    ≡ definition_words (step_definition x) ++ ws
words_behind x ws d =
    let l = whole_words (place_whole (format_of x.format).places) in
    let e = expr_words (operation_expr x.operation) in
    let w = way_text x.way in
    let front_words : List Word → List Word =
    λ k. name (spelled_of x.name) x.name ∷ (sign s.Equal ∷ (sign s.Fixed ∷ (sign s.Less ∷ k)))
    in
    ap (λ k. front_words (l ++ (sign s.Comma ∷
    (name k w ∷ (sign s.Greater ∷ (sign s.OpenParen ∷ (e
    ++ (sign s.CloseParen ∷ (sign s.Semicolon ∷ ws))))))))) d
    ∙ ap front_words (sym (nested l e ws (sign s.Comma) (name spelled.Direction w) (sign s.Greater)
    (sign s.OpenParen) (sign s.CloseParen) (sign s.Semicolon)))

pub text_behind : (x : Step) (t : List ℕ)
    → x.name ++ (codes " = fixed<" ++ (last_place_text (format_of x.format)
    ++ (codes "," ++ (way_text x.way ++ (codes ">("
    ++ (operation_text x.operation ++ (codes ");\n" ++ t)))))))
    ≡ step_line x ++ t
text_behind x t =
    let places = last_place_text (format_of x.format) in
    let way = way_text x.way in
    let op = operation_text x.operation in
    let r3 = op ++ codes ");\n" in
    let r2 = way ++ (codes ">(" ++ r3) in
    let r1 = places ++ (codes "," ++ r2) in
    sym (append_assoc x.name (codes " = fixed<" ++ r1) t
    ∙ ap (λ l. x.name ++ (codes " = fixed<" ++ l)) (append_assoc places (codes "," ++ r2) t
    ∙ ap (λ l. places ++ (codes "," ++ l)) (append_assoc way (codes ">(" ++ r3) t
    ∙ ap (λ l. way ++ (codes ">(" ++ l)) (append_assoc op (codes ");\n") t))))

module _ (law : EndsBeforeQuiet) where
  -- a line before something else that is read
  pub step_chunk : {P : List ℕ → Type 0} {t : List ℕ} {ws : List Word} (x : Step) → IsStepText x
      → Chunk P t ws → Chunk P (step_line x ++ t) (definition_words (step_definition x) ++ ws)
  step_chunk {P = P} {t = t} {ws = ws} x h d =
      let n = (format_of x.format).places in
      let c12 = seq (sign_chunk s.Semicolon (codes ";") (λ tail. refl) refl) (behind_line d)
      (λ tail q. semicolon_alone (10 ∷ (t ++ tail))) in
      let c11 = seq (sign_chunk s.CloseParen (codes ")") (λ tail. refl) refl) c12
      (λ tail q. close_alone (59 ∷ (10 ∷ (t ++ tail)))) in
      let c10 = seq (operation_chunk law x.operation h.operation) c11 (λ tail q. quiet_close) in
      let c9 = seq (sign_chunk s.OpenParen (codes "(") (λ tail. refl) refl) c10
      (λ tail q. open_alone _) in
      let c8 = seq (sign_chunk s.Greater (codes ">") (λ tail. refl) refl) c9
      (λ tail q. greater_open _) in
      let c7 = seq (name_chunk law (way_text x.way) h.way) c8 (λ tail q. quiet_greater) in
      let c6 = seq (sign_chunk s.Comma (codes ",") (λ tail. refl) refl) c7
      (λ tail q. comma_alone _) in
      let c5 = seq (place_chunk law n h.place) c6 (λ tail q. quiet_comma) in
      let behind = codes "," ++ (way_text x.way
      ++ (codes ">(" ++ (operation_text x.operation ++ (codes ");\n" ++ t)))) in
      let c4 = seq (sign_chunk s.Less (codes "<") (λ tail. refl) refl) c5
      (λ tail q. subst (Before s.Less (codes "<"))
      (sym (append_assoc (place_text n) behind tail)) (less_place n (behind ++ tail))) in
      let c3 = seq (behind_blank (sign_chunk s.Fixed (codes "fixed") (λ tail. refl) refl)) c4
      (λ tail q. fixed_less law _) in
      let c2 = seq (behind_blank (sign_chunk s.Equal (codes "=") (λ tail. refl) refl)) c3
      (λ tail q. equal_blank _) in
      let c1 = seq (name_chunk law x.name h.name) c2 (λ tail q. quiet_blank) in
      retold (text_behind x t) (words_behind x ws h.direction) c1

  pub lines_chunk : {P : List ℕ → Type 0} {t : List ℕ} (f : Formula) (xs : List Step)
      → AllByRecursion IsStepText xs → Chunk P t (script_words (script_from f []))
      → Chunk P (lines_of xs ++ t) (script_words (script_from f xs))
  lines_chunk f [] h d = d
  lines_chunk {t = t} f (x ∷ xs) h d = retold (sym (append_assoc (step_line x) (lines_of xs) t))
      refl (step_chunk x h.0 (lines_chunk f xs h.1 d))
