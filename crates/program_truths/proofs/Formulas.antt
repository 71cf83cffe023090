-- The formula of a program's script, as propositions.
use Rattle.std.proofs.Common.{◌≡◌, ◌<◌, true, ℕ, ℤ, pos, negsuc, suc, codes, arith, List, [], ◌∷◌}
use Rattle.std.proofs.Common.{◌++◌, length, map, Some, refl, sym, ap, ◌∙◌, subst, append_assoc}
use Rattle.std.proofs.Common.{append-nil}
use Rattle.std.specs.List.{AllByRecursion, flat_map}
use Rattle.script_words.specs.declared.class.Symbol.TheVariants as s
use Rattle.script_words.specs.declared.class.Spelled.TheVariants as spelled
use Rattle.script_words.specs.declared.lex.TokenKind.{TokenKind}
use Rattle.script_words.specs.declared.lex.TokenKind.TheVariants as kind
use Rattle.script_words.specs.Literals.{is_word}
use Rattle.script_words.specs.Lex.{front}
use Rattle.script_words.specs.Quiet.{IsQuiet, EndsBeforeQuiet}
use Rattle.script_words.specs.Words.{Word, name, sign}
use Rattle.script_shape.specs.Expressions.{Bound, bound_words}
use Rattle.script_shape.specs.Propositions.{between, Prop, lies_in, prop_words, Formula}
use Rattle.script_shape.specs.Propositions.{formula_words}
use Rattle.fixprog.specs.declared.format.Format.{Format}
use Rattle.fixprog.specs.declared.program.Mark.{Mark}
use Rattle.fixprog.specs.declared.program.Mark.TheVariants as mark
use Rattle.fixprog.specs.Words.{Name}
use Rattle.fixprog.specs.Grammar.{Input, Step}
use Rattle.fixprog.specs.Formats.{format_of, least, greatest}
use Rattle.fixprog.specs.Turned.{mark_text, bound_text, range_text, input_text, word_text}
use Rattle.fixprog.specs.Turned.{format_goal, output_goal, last_place_text, joined}
use Rattle.program_truths.proofs.Lines.{IsWordText, quiet_blank, quiet_close, quiet_comma}
use Rattle.program_truths.proofs.Lines.{comma_alone, open_alone, front_of_word, piece}
use Rattle.program_truths.proofs.Chunks.{Chunk, Any, Quiet, Before, seq, retold, behind_blank}
use Rattle.program_truths.proofs.Chunks.{name_chunk, literal_chunk, sign_chunk}
use Rattle.program_truths.proofs.Trees.{alone, also, so, name_expr, marked, end_bound, range_prop}
use Rattle.program_truths.proofs.Trees.{place_prop, word_literal, word_bound, format_prop}
use Rattle.program_truths.proofs.Trees.{output_prop, input_props, and_all, goals_behind}
use Rattle.program_truths.proofs.Trees.{goals_alone}
use Rattle.program_truths.proofs.Operations.{minus_word}
use Rattle.program_truths.proofs.StepLines.{IsPlaceText, place_chunk, close_alone}

-- ---- signs

plus_digit : (b : ℕ) (bs : List ℕ) → is_word b ≡ true → front (43 ∷ (b ∷ bs))
    ≡ Some (kind.Sign s.Plus, 1)
unfolding front
plus_digit b bs h = refl

plus_word : (k : TokenKind) (t rest : List ℕ) → IsWordText k t
    → Before s.Plus (codes "+") (t ++ rest)
plus_word k t rest w = subst (λ l. front (43 ∷ (l ++ rest)) ≡ Some (kind.Sign s.Plus, 1))
    (sym w.text) (plus_digit w.first (w.more ++ rest) w.word)

bracket_alone : (rest : List ℕ) → Before s.OpenBracket (codes "[") rest
unfolding front
bracket_alone [] = refl
bracket_alone (b ∷ bs) = refl

end_alone : (rest : List ℕ) → Before s.CloseBracket (codes "]") rest
unfolding front
end_alone [] = refl
end_alone (b ∷ bs) = refl

ask_alone : (rest : List ℕ) → Before s.Ask (codes "?") rest
unfolding front
ask_alone [] = refl
ask_alone (b ∷ bs) = refl

and_blank : (rest : List ℕ) → Before s.And (codes "/\\") (32 ∷ rest)
unfolding front
and_blank rest = refl

arrow_blank : (rest : List ℕ) → Before s.Arrow (codes "->") (32 ∷ rest)
unfolding front
arrow_blank rest = refl

in_is_in : front (codes "in") ≡ Some (kind.Sign s.In, 2)
unfolding front
in_is_in = refl

fix_is_name : front (codes "FIX") ≡ Some (kind.Name, 3)
unfolding front
fix_is_name = refl

at_fix : (rest : List ℕ) → Before s.At (codes "@") (70 ∷ rest)
unfolding front
at_fix rest = refl

quiet_open : IsQuiet 40
quiet_open = record {
  word = refl;
  digit = refl;
  hexadecimal = refl;
  plus = refl;
  minus =
      refl;
  point = refl;
  ten = refl;
  two = refl;
  power = refl;
  opening = refl;
}

quiet_end : IsQuiet 93
quiet_end = record {
  word = refl;
  digit = refl;
  hexadecimal = refl;
  plus = refl;
  minus =
      refl;
  point = refl;
  ten = refl;
  two = refl;
  power = refl;
  opening = refl;
}

-- what may always follow
whatever : {P : List ℕ → Type 0} {t : List ℕ} {ws : List Word} → ((tail : List ℕ) → P tail)
    → Chunk P t ws → Chunk Any t ws
whatever f c = record {
  first = c.first;
  more = c.more;
  bytes = c.bytes;
  apart =
      λ tail q. c.apart tail (f tail);
  words = c.words;
  none = c.none;
  back = c.back;
}

-- ---- bounds

-- the text of the bound of a format
abbrev pub IsWordBoundText : Format → ℤ → Type 0
IsWordBoundText f (pos n) = IsWordText kind.Literal (word_literal n f)
IsWordBoundText f (negsuc n) = IsWordText kind.Literal (word_literal (suc n) f)

pub record IsInputText (x : Input) : Type 0 where
  pub name : IsWordText kind.Name x.name
  pub lower : IsWordText kind.Literal x.lower.text
  pub upper : IsWordText kind.Literal x.upper.text
  pub place : IsPlaceText (format_of x.format).places

pub record IsGoalText (x : Step) : Type 0 where
  pub name : IsWordText kind.Name x.name
  pub least : IsWordBoundText (format_of x.format) (least (format_of x.format))
  pub greatest : IsWordBoundText (format_of x.format) (greatest (format_of x.format))

module _ (law : EndsBeforeQuiet) where
  in_blank : (rest : List ℕ) → Before s.In (codes "in") (32 ∷ rest)
  in_blank rest = front_of_word law (kind.Sign s.In) (codes "in") rest 32
      (record { first = 105; more = codes "n"; text = refl; word = refl; alone = in_is_in })
      quiet_blank

  fix_open : (rest : List ℕ) → front (codes "FIX" ++ (40 ∷ rest)) ≡ Some (kind.Name, 3)
  fix_open rest = front_of_word law kind.Name (codes "FIX") rest 40
      (record { first = 70; more = codes "IX"; text = refl; word = refl; alone = fix_is_name })
      quiet_open

  marked_chunk : (m : Mark) (t : List ℕ) → IsWordText kind.Literal t
      → Chunk Quiet (mark_text m ++ t) (bound_words (marked m t))
  marked_chunk mark.Unmarked t w = literal_chunk law t w
  marked_chunk mark.Plus t w = seq (sign_chunk s.Plus (codes "+") (λ tail. refl) refl)
      (literal_chunk law t w) (λ tail q. plus_word kind.Literal t tail w)
  marked_chunk mark.Minus t w = seq (sign_chunk s.Minus (codes "-") (λ tail. refl) refl)
      (literal_chunk law t w) (λ tail q. minus_word kind.Literal t tail w)

  word_chunk : (f : Format) (w : ℤ) → IsWordBoundText f w
      → Chunk Quiet (word_text f w) (bound_words (word_bound w f))
  word_chunk f (pos n) h = literal_chunk law (word_literal n f) h
  word_chunk f (negsuc n) h =
      let t = word_literal (suc n) f in
      seq (sign_chunk s.Minus (codes "-") (λ tail. refl) refl) (literal_chunk law t h)
      (λ tail q. minus_word kind.Literal t tail h)

  -- ---- propositions

  range_chunk : (t lower upper : List ℕ) (a b : Bound) → IsWordText kind.Name t
      → Chunk Quiet lower (bound_words a) → Chunk Quiet upper (bound_words b)
      → Chunk Any (range_text t lower upper) (prop_words (lies_in (name_expr t) (between a b)))
  range_chunk t lower upper a b n c d =
      let c6 = sign_chunk s.CloseBracket (codes "]") (λ tail. refl) refl in
      let c5 = seq d c6 (λ tail q. quiet_end) in
      let c4 = seq (sign_chunk s.Comma (codes ",") (λ tail. refl) refl) (behind_blank c5)
      (λ tail q. comma_alone _) in
      let c3 = seq c c4 (λ tail q. quiet_comma) in
      let c2 = seq (behind_blank (sign_chunk s.OpenBracket (codes "[") (λ tail. refl) refl)) c3
      (λ tail q. bracket_alone _) in
      let c1 = seq (behind_blank (sign_chunk s.In (codes "in") (λ tail. refl) refl)) c2
      (λ tail q. in_blank _) in
      whatever end_alone (seq (name_chunk law t n) c1 (λ tail q. quiet_blank))

  asked_chunk : (t : List ℕ) → IsWordText kind.Name t
      → Chunk Any (output_goal t) (prop_words (output_prop t))
  asked_chunk t n =
      let c2 = behind_blank (sign_chunk s.Ask (codes "?") (λ tail. refl) refl) in
      let c1 = seq (behind_blank (sign_chunk s.In (codes "in") (λ tail. refl) refl)) c2
      (λ tail q. in_blank _) in
      whatever ask_alone (seq (name_chunk law t n) c1 (λ tail q. quiet_blank))

  fix_chunk : Chunk Any (codes "@FIX(") (sign s.At ∷
      (name spelled.Fix (codes "FIX") ∷ (sign s.OpenParen ∷ [])))
  fix_chunk = record {
    first = piece [] (kind.Sign s.At) (codes "@");
    more = piece [] kind.Name (codes "FIX") ∷ (piece [] (kind.Sign s.OpenParen) (codes "(") ∷ []);
    bytes = λ tail. refl;
    apart = λ tail q. (refl, at_fix _, (refl, fix_open tail, (refl, open_alone tail, tt)));
    words = refl;
    none = (refl, (refl, (refl, tt)));
    back = refl;
  }

  place_prop_chunk : (x : Input) → IsInputText x
      → Chunk Any (codes "@FIX(" ++ (x.name ++ (codes "," ++ (last_place_text (format_of x.format)
      ++ codes ")")))) (prop_words (place_prop x))
  place_prop_chunk x h =
      let c4 = sign_chunk s.CloseParen (codes ")") (λ tail. refl) refl in
      let c3 = seq (place_chunk law (format_of x.format).places h.place) c4 (λ tail q. quiet_close)
      in
      let c2 = seq (sign_chunk s.Comma (codes ",") (λ tail. refl) refl) c3
      (λ tail q. comma_alone _) in
      let c1 = seq (name_chunk law x.name h.name) c2 (λ tail q. quiet_comma) in
      whatever close_alone (seq fix_chunk c1 (λ tail q. tt))

  -- ---- propositions between signs

  pub then_and : {t u : List ℕ} (f : Formula) (p : Prop) → Chunk Any t (formula_words f)
      → Chunk Any u (prop_words p) → Chunk Any (t ++ (codes " /\\ " ++ u))
      (formula_words (also f p))
  then_and f p c d = seq c (seq (behind_blank (sign_chunk s.And (codes "/\\") (λ tail. refl) refl))
      (behind_blank d) (λ tail q. and_blank _)) (λ tail q. tt)

  then_implies : {t u : List ℕ} (f : Formula) (p : Prop) → Chunk Any t (formula_words f)
      → Chunk Any u (prop_words p) → Chunk Any (t ++ (codes " -> " ++ u))
      (formula_words (so f p))
  then_implies f p c d =
      seq c (seq (behind_blank (sign_chunk s.Arrow (codes "->") (λ tail. refl) refl))
      (behind_blank d) (λ tail q. arrow_blank _)) (λ tail q. tt)

  -- these texts are those propositions
  abbrev pub AreProps : List (List ℕ) → List Prop → Type 0
  AreProps [] [] = Unit {0}
  AreProps (t ∷ ts) (p ∷ ps) = Chunk Any t (prop_words p) × AreProps ts ps
  AreProps _ _ = ⊥

  abbrev pub anded : List (List ℕ) → List ℕ
  anded ts = flat_map (λ q. codes " /\\ " ++ q) ts

  pub and_all_chunk : (t : List ℕ) (f : Formula) (ts : List (List ℕ)) (ps : List Prop)
      → Chunk Any t (formula_words f) → AreProps ts ps
      → Chunk Any (t ++ anded ts) (formula_words (and_all f ps))
  and_all_chunk t f [] [] c h = retold (sym (append-nil t)) refl c
  and_all_chunk t f [] (p ∷ ps) c h = absurd h
  and_all_chunk t f (u ∷ ts) [] c h = absurd h
  and_all_chunk t f (u ∷ ts) (p ∷ ps) c h =
      retold (append_assoc t (codes " /\\ " ++ u) (anded ts)) refl
      (and_all_chunk (t ++ (codes " /\\ " ++ u)) (also f p) ts ps (then_and f p c h.0) h.1)

  pub goals_behind_chunk : (t : List ℕ) (f : Formula) (ts : List (List ℕ)) (ps : List Prop)
      → 0 < length ps → Chunk Any t (formula_words f) → AreProps ts ps
      → Chunk Any (t ++ (codes " -> " ++ joined ts)) (formula_words (goals_behind f ps))
  goals_behind_chunk t f [] [] l c h = absurd (omega arith)
  goals_behind_chunk t f [] (p ∷ ps) l c h = absurd h
  goals_behind_chunk t f (u ∷ ts) [] l c h = absurd h
  goals_behind_chunk t f (u ∷ ts) (p ∷ ps) l c h =
      retold (append_assoc t (codes " -> " ++ u) (anded ts)) refl
      (and_all_chunk (t ++ (codes " -> " ++ u)) (so f p) ts ps (then_implies f p c h.0)
      h.1)

  pub goals_alone_chunk : (ts : List (List ℕ)) (ps : List Prop) → 0 < length ps → AreProps ts ps
      → Chunk Any (joined ts) (formula_words (goals_alone ps))
  goals_alone_chunk [] [] l h = absurd (omega arith)
  goals_alone_chunk [] (p ∷ ps) l h = absurd h
  goals_alone_chunk (u ∷ ts) [] l h = absurd h
  goals_alone_chunk (u ∷ ts) (p ∷ ps) l h = and_all_chunk u (alone p) ts ps h.0 h.1

  pub props-append : (ts us : List (List ℕ)) (ps qs : List Prop) → AreProps ts ps → AreProps us qs
      → AreProps (ts ++ us) (ps ++ qs)
  props-append [] us [] qs h k = k
  props-append [] us (p ∷ ps) qs h k = absurd h
  props-append (t ∷ ts) us [] qs h k = absurd h
  props-append (t ∷ ts) us (p ∷ ps) qs h k = (h.0, props-append ts us ps qs h.1 k)

  -- ---- the propositions of a program

  input_range_chunk : (x : Input) → IsInputText x
      → Chunk Any (range_text x.name (bound_text x.lower) (bound_text x.upper))
      (prop_words (range_prop x))
  input_range_chunk x h = range_chunk x.name (bound_text x.lower) (bound_text x.upper)
      (end_bound x.lower) (end_bound x.upper) h.name
      (marked_chunk x.lower.mark x.lower.text h.lower)
      (marked_chunk x.upper.mark x.upper.text h.upper)

  abbrev fix_text : Input → List ℕ
  fix_text x = codes "@FIX(" ++ (x.name ++ (codes "," ++ (last_place_text (format_of x.format)
      ++ codes ")")))

  pub inputs_chunk : (t : List ℕ) (f : Formula) (xs : List Input) → AllByRecursion IsInputText xs
      → Chunk Any t (formula_words f)
      → Chunk Any (t ++ anded (map input_text xs)) (formula_words (and_all f (input_props xs)))
  inputs_chunk t f [] h c = retold (sym (append-nil t)) refl c
  inputs_chunk t f (x ∷ xs) h c =
      let b = codes " /\\ " ++ range_text x.name (bound_text x.lower) (bound_text x.upper) in
      let e = codes " /\\ " ++ fix_text x in
      let d = anded (map input_text xs) in
      let one = then_and f (range_prop x) c (input_range_chunk x h.0) in
      let two = then_and (also f (range_prop x)) (place_prop x) one (place_prop_chunk x h.0) in
      retold (append_assoc (t ++ b) e d ∙ append_assoc t b (e ++ d)
      ∙ ap (λ l. t ++ l) (sym (append_assoc b e d))) refl
      (inputs_chunk ((t ++ b) ++ e) (also (also f (range_prop x)) (place_prop x)) xs h.1 two)

  pub hypotheses_chunk : (x : Input) (xs : List Input) → AllByRecursion IsInputText (x ∷ xs)
      → Chunk Any (joined (map input_text (x ∷ xs)))
      (formula_words (and_all (alone (range_prop x)) (place_prop x ∷ input_props xs)))
  hypotheses_chunk x xs h =
      inputs_chunk (range_text x.name (bound_text x.lower) (bound_text x.upper)
      ++ (codes " /\\ " ++ fix_text x)) (also (alone (range_prop x)) (place_prop x)) xs h.1
      (then_and (alone (range_prop x)) (place_prop x) (input_range_chunk x h.0)
      (place_prop_chunk x h.0))

  pub format_goals : (xs : List Step) → AllByRecursion IsGoalText xs
      → AreProps (map format_goal xs) (map format_prop xs)
  format_goals [] h = tt
  format_goals (x ∷ xs) h =
      let f = format_of x.format in (
        range_chunk x.name (word_text f (least f)) (word_text f (greatest f))
            (word_bound (least f) f) (word_bound (greatest f) f) h.0.name
            (word_chunk f (least f) h.0.least) (word_chunk f (greatest f) h.0.greatest),
        format_goals xs h.1,
      )

  pub output_goals : (ts : List Name) → AllByRecursion (IsWordText kind.Name) ts
      → AreProps (map output_goal ts) (map output_prop ts)
  output_goals [] h = tt
  output_goals (t ∷ ts) h = (asked_chunk t h.0, output_goals ts h.1)
