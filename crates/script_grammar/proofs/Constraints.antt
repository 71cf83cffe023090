-- Each constraint of a hint is written in four words at least.
use Rattle.std.specs.Prelude.{◌≡◌, ◌≤◌, ◌+◌, ◌*◌, ◌^◌, ℕ, List, [], ◌∷◌, ◌++◌, length, Option, None}
use Rattle.std.specs.Prelude.{option_to_list, refl}
use Rattle.std.proofs.Common.{arith, sym, ap, subst}
use Rattle.std.proofs.lemmas.List.{length-append}
use Rattle.script_words.specs.declared.class.Symbol.TheVariants as s
use Rattle.script_words.specs.declared.lex.Token.{Token}
use Rattle.script_words.specs.Lex.{TokensAreFew}
use Rattle.script_words.specs.Named.{Naming, nothing, naming_after, defined_by, token_word}
use Rattle.script_words.specs.Named.{words_from}
use Rattle.script_words.specs.declared.class.Number.TheVariants as digits_kind
use Rattle.script_words.specs.Words.{Word, literal, sign}
use Rattle.script_shape.specs.Expressions.{Bound, unsigned, positive, negative, bound_words}
use Rattle.script_shape.specs.Expressions.{operator_words, Expr, term, sum, difference, expr_words}
use Rattle.script_shape.specs.Expressions.{Term, factor, product, quotient, term_words, Factor}
use Rattle.script_shape.specs.Expressions.{negation, atom, factor_words, Atom, number, variable}
use Rattle.script_shape.specs.Expressions.{parenthesized, absolute, called, rounded, fused}
use Rattle.script_shape.specs.Expressions.{atom_words}
use Rattle.script_shape.specs.Hints.{Need, nonzero, below, not_above, above, not_below, need_words}
use Rattle.script_shape.specs.Hints.{NeedList, last_need, more_needs, need_list_words, Needs}
use Rattle.script_shape.specs.Hints.{always, provided, needs_words, Names, last_name, more_names}
use Rattle.script_shape.specs.Hints.{Halving, halved_by, with_goal, Hint, rewrite, like, split}
use Rattle.script_shape.specs.Hints.{halving, hint_words, Hints, no_hint, hint, hints_words}
use Rattle.script_shape.specs.Propositions.{formula_words}
use Rattle.script_shape.specs.Tree.{Script, formula, define, definition_words, script_words}
use Rattle.script_judge.specs.declared.refusal.Refusal.{Refusal}
use Rattle.script_judge.specs.Reading.{IsReadable}
use Rattle.script_judge.specs.First.{IsFirstRefusal, unread, read}
use Rattle.script_nodes.specs.Known.{Known, nothing_known}
use Rattle.script_nodes.specs.Values.{expr_value}
use Rattle.script_nodes.specs.Definitions.{definition_value}
use Rattle.script_claims.specs.Claims.{formula_claims}
use Rattle.script_hints.specs.declared.hint.Hint.{Hint as Row}
use Rattle.script_hints.specs.Hints.{NeedsSoFar, with_need, with_need_list, needs_value, HintsSoFar}
use Rattle.script_hints.specs.Hints.{with_halved, with_names, with_halving, with_hint, with_hints}
use Rattle.script_hints.specs.Hints.{no_hints}
use Rattle.script_grammar.specs.Meaning.{meaning_from}
use Rattle.script_grammar.specs.Spells.{View}
use Rattle.script_grammar.specs.Few.{constraints_in, SpelledHaveFewConstraints}

-- ---- what is written has words
-- a sign between two lists is a word more
between : (a b : List Word) (w : Word) → length (a ++ (w ∷ b)) ≡ length a + 1 + length b
between a b w = let l = length-append a (w ∷ b) in omega (arith, l)

mutual
  expr_some : (e : Expr) → 1 ≤ length (expr_words e)
  expr_some (term t) = term_some t
  expr_some (sum e t) =
      let l = between (expr_words e) (term_words t) (sign s.Plus) in omega (arith, l)
  expr_some (difference e t) =
      let l = between (expr_words e) (term_words t) (sign s.Minus) in omega (arith, l)

  term_some : (t : Term) → 1 ≤ length (term_words t)
  term_some (factor f) = factor_some f
  term_some (product t f) =
      let l = between (term_words t) (factor_words f) (sign s.Star) in omega (arith, l)
  term_some (quotient t f) =
      let l = between (term_words t) (factor_words f) (sign s.Slash) in omega (arith, l)

  factor_some : (f : Factor) → 1 ≤ length (factor_words f)
  factor_some (negation f) = omega arith
  factor_some (atom a) = atom_some a

  atom_some : (a : Atom) → 1 ≤ length (atom_words a)
  atom_some (number k text) = omega arith
  atom_some (variable k text) = omega arith
  atom_some (parenthesized e) = omega arith
  atom_some (absolute e) = omega arith
  atom_some (called k text e) = omega arith
  atom_some (rounded o e) =
      let l = between (operator_words o)
      (sign s.OpenParen ∷ (expr_words e ++ (sign s.CloseParen ∷ []))) (sign s.Greater) in
      omega (arith, l)
  atom_some (fused a b c) = omega arith

bound_some : (b : Bound) → 1 ≤ length (bound_words b)
bound_some (unsigned k text) = omega arith
bound_some (positive k text) = omega arith
bound_some (negative k text) = omega arith

-- an expression, a relation and a bound
three : (e : Expr) (b : List Word) (w : Word) → 1 ≤ length b → 3 ≤ length (expr_words e ++ (w ∷ b))
three e b w one =
    let l = between (expr_words e) b w in let p = expr_some e in omega (arith, l, p, one)

need_some : (n : Need) → 3 ≤ length (need_words n)
need_some (nonzero e zero_text) =
    three e (literal digits_kind.Zero zero_text ∷ []) (sign s.Unequal) (omega arith)
need_some (below e b) = three e (bound_words b) (sign s.Less) (bound_some b)
need_some (not_above e b) = three e (bound_words b) (sign s.LessEqual) (bound_some b)
need_some (above e b) = three e (bound_words b) (sign s.Greater) (bound_some b)
need_some (not_below e b) = three e (bound_words b) (sign s.GreaterEqual) (bound_some b)

-- ---- how many constraints there are
abbrev needs_counted : NeedList → ℕ
needs_counted (last_need n) = 1
needs_counted (more_needs n l) = 1 + needs_counted l

abbrev needs_of : Needs → ℕ
needs_of always = 0
needs_of (provided l) = needs_counted l

list_some : (l : NeedList) → 4 * needs_counted l ≤ length (need_list_words l) + 1
list_some (last_need n) = let p = need_some n in omega (arith, p)
list_some (more_needs n l) =
    let p = need_some n in
    let q = list_some l in
    let b = between (need_words n) (need_list_words l) (sign s.Comma) in
    omega (arith, p, q, b)

needs_some : (n : Needs) → 4 * needs_of n ≤ length (needs_words n)
needs_some always = omega arith
needs_some (provided l) =
    let p = list_some l in
    let b = between (need_list_words l) [] (sign s.CloseBrace) in
    omega (arith, p, b)

-- one comes with each
need_more : (n : Need) (k : NeedsSoFar) → length (with_need n k).1 ≡ length k.1 + 1
need_more (nonzero e zero_text) k = length-append k.1 (_ ∷ [])
need_more (below e b) k = length-append k.1 (_ ∷ [])
need_more (not_above e b) k = length-append k.1 (_ ∷ [])
need_more (above e b) k = length-append k.1 (_ ∷ [])
need_more (not_below e b) k = length-append k.1 (_ ∷ [])

list_more : (l : NeedList) (k : NeedsSoFar)
    → length (with_need_list l k).1 ≡ length k.1 + needs_counted l
list_more (last_need n) k = need_more n k
list_more (more_needs n l) k =
    let p = list_more l (with_need n k) in let q = need_more n k in omega (arith, p, q)

needs_more : (n : Needs) (k : Known) → length (needs_value n k).1 ≡ needs_of n
needs_more always k = refl
needs_more (provided l) k = let p = list_more l (k, []) in omega (arith, p)

-- ---- hints
abbrev rewritings : HintsSoFar → ℕ
rewritings k = constraints_in k.1.rewrites

one_row : (rows : List Row) (r : Row)
    → constraints_in (rows ++ (r ∷ [])) ≡ constraints_in rows + length r.constraints
one_row [] r = omega arith
one_row (x ∷ rows) r = let h = one_row rows r in omega (arith, h)

names_keep : (n : Names) (k : HintsSoFar) → (with_names n k).1.rewrites ≡ k.1.rewrites
names_keep (last_name n) k = refl
names_keep (more_names n l) k = names_keep l (with_halved n k)

halving_keeps : (h : Halving) (k : HintsSoFar) → (with_halving h k).1.rewrites ≡ k.1.rewrites
halving_keeps (halved_by e n) k = names_keep n ((expr_value None e k.0).0, k.1)
halving_keeps (with_goal e h) k = halving_keeps h ((expr_value None e k.0).0, k.1)

hint_some : (h : Hint) (k : HintsSoFar)
    → 4 * rewritings (with_hint h k) ≤ 4 * rewritings k + length (hint_words h)
hint_some (rewrite a b n) k =
    let left = expr_value None a k.0 in
    let right = expr_value None b left.0 in
    let row : Row = record {
      left = left.1;
      right = right.1;
      constraints = (needs_value n right.0).1;
    } in
    let more = one_row k.1.rewrites row in
    let counted = needs_more n right.0 in
    let written = needs_some n in
    let first = between (expr_words a) (expr_words b ++ needs_words n) (sign s.Arrow) in
    let second = length-append (expr_words b) (needs_words n) in
    omega (arith, more, counted, written, first, second)
hint_some (like a b) k = omega arith
hint_some (split n c) k = omega arith
hint_some (halving h) k =
    let same = ap constraints_in (halving_keeps h k) in omega (arith, same)

hints_some : (h : Hints) (k : HintsSoFar)
    → 4 * rewritings (with_hints h k) ≤ 4 * rewritings k + length (hints_words h)
hints_some no_hint k = omega arith
hints_some (hint h l) k =
    let p = hint_some h k in
    let q = hints_some l (with_hint h k) in
    let b = between (hint_words h) (hints_words l) (sign s.Semicolon) in
    omega (arith, p, q, b)

script_some : (tree : Script) (k : Known)
    → 4 * constraints_in (meaning_from tree k).hints.rewrites ≤ length (script_words tree)
script_some (formula f h) k =
    let p = hints_some h ((formula_claims f k).known, no_hints) in
    let b = between (formula_words f) (hints_words h) (sign s.CloseBrace) in
    omega (arith, p, b)
script_some (define x rest) k =
    let p = script_some rest (definition_value x k) in
    let l = length-append (definition_words x) (script_words rest) in
    omega (arith, p, l)

-- ---- a word for each token, and a byte
words_counted : (text : List ℕ) (n : Naming) (operators : List (List ℕ)) (ts : List Token)
    → length (words_from text n operators ts) ≡ length ts
words_counted text n operators [] = refl
words_counted text n operators (t ∷ ts) =
    let w = token_word text operators t in
    let h = words_counted text (naming_after n w)
    (option_to_list (defined_by n w) ++ operators) ts in
    omega (arith, h)

readable : (text : List ℕ) (o : Option Refusal) → IsFirstRefusal text o → o ≡ None → IsReadable text
readable text o (unread h) e = absurd (cc e)
readable text o (read k h q j) e = k

pub spelled_few_constraints : TokensAreFew → SpelledHaveFewConstraints
spelled_few_constraints few text view p =
    let short = (readable text None p.accepted refl).0 in
    let tokens = few 0 text view.tokens None p.lexed in
    let words = words_counted text nothing [] view.tokens in
    let same = ap length p.words in
    let most = script_some p.tree nothing_known in
    let l : constraints_in (meaning_from p.tree nothing_known).hints.rewrites ≤ 2 ^ 18 =
    omega (arith, short, tokens, words, same, most) in
    subst (λ (v : View). constraints_in v.hints.rewrites ≤ 2 ^ 18) (sym p.says) l
