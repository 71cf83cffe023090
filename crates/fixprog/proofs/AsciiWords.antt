-- The words of a program's text that are printed are ASCII.
use Rattle.std.proofs.Common.{◌≡◌, ℕ, ◌+◌, ◌-◌, ◌==◌, ◌&&◌, nat_lt, Bool, true, false, List, []}
use Rattle.std.proofs.Common.{◌∷◌, ◌++◌, take, drop, codes, Option, Some, None, refl, sym, ap, ◌∙◌}
use Rattle.std.proofs.Common.{subst, arith, if◌then◌else◌}
use Rattle.std.specs.List.{AllByRecursion}
use Rattle.std.specs.Str.{bytes_eq}
use Rattle.std.proofs.lemmas.List.{drop-drop}
use Rattle.script_words.specs.declared.class.Symbol.{Symbol}
use Rattle.script_words.specs.declared.lex.Run.TheVariants.{Word as WordRun, Digit}
use Rattle.script_words.specs.declared.lex.TokenKind.{TokenKind}
use Rattle.script_words.specs.declared.lex.TokenKind.TheVariants as script
use Rattle.script_words.specs.Literals.{run_len, literal_len}
use Rattle.script_words.specs.Signs.{sign_at, reserved_word}
use Rattle.script_words.specs.Lex.{blank_len, word_kind, sign_token, front as script_front}
use Rattle.fixprog.specs.declared.program.Mark.{Mark}
use Rattle.fixprog.specs.declared.program.Mark.TheVariants as mark
use Rattle.fixprog.specs.declared.token.Kind.{Kind}
use Rattle.fixprog.specs.declared.token.Kind.TheVariants as kind
use Rattle.fixprog.specs.declared.token.ProgramToken.{ProgramToken}
use Rattle.fixprog.specs.Words.{Word, name, literal, kind_word}
use Rattle.fixprog.specs.Lex.{front, format_len, own_sign, of_script, or_else, Lexes, ends, bad}
use Rattle.fixprog.specs.Lex.{token, token_word, words_of}
use Rattle.fixprog.specs.Grammar.{Operand, named, given, operand_words, Operation, copy, negation}
use Rattle.fixprog.specs.Grammar.{sum, difference, product, shift_right, shift_left}
use Rattle.fixprog.specs.Grammar.{operation_words, bound_words, Input, Way, called, reserved}
use Rattle.fixprog.specs.Grammar.{reserved_out, way_words, Step, Statement, input, step, output}
use Rattle.fixprog.specs.Grammar.{statement_words, words_from}
use Rattle.fixprog.proofs.Ascii.{Plain, literal_plain, word_plain}

-- the token is a name or a literal, or something else that is told by its kind
abbrev IsPlainToken : Kind → ℕ → List ℕ → Type 0
IsPlainToken kind.Name n bs = Plain (take n bs)
IsPlainToken kind.Literal n bs = Plain (take n bs)
IsPlainToken k n bs = Unit {0}

abbrev Found : Type 0
Found = Option (Kind × ℕ)

abbrev IsPlainFound : List ℕ → Found → Type 0
IsPlainFound bs None = Unit {0}
IsPlainFound bs (Some found) = IsPlainToken found.0 found.1 bs

-- ---- tokens of scripts

abbrev IsPlainScript : List ℕ → Option (TokenKind × ℕ) → Type 0
IsPlainScript bs None = Unit {0}
IsPlainScript bs (Some (script.Sign g, n)) = Unit {0}
IsPlainScript bs (Some (script.Name, n)) = Plain (take n bs)
IsPlainScript bs (Some (script.Literal, n)) = Plain (take n bs)

sign_plain : (bs : List ℕ) (o : Option (Symbol × ℕ)) → IsPlainScript bs (sign_token o)
sign_plain bs None = tt
sign_plain bs (Some found) = tt

kind_plain : (bs : List ℕ) (n : ℕ) (o : Option Symbol) → Plain (take n bs)
    → IsPlainScript bs (Some (word_kind o, n))
kind_plain bs n None h = h
kind_plain bs n (Some g) h = tt

literal_or_none : (b : Bool) (bs : List ℕ) → IsPlainScript bs (if b then None
    else Some (script.Literal, literal_len bs))
literal_or_none true bs = tt
literal_or_none false bs = literal_plain bs

word_or_sign : (b : Bool) (bs : List ℕ) → IsPlainScript bs (if b
    then Some (word_kind (reserved_word (take (run_len WordRun bs) bs)), run_len WordRun bs)
    else sign_token (sign_at bs))
word_or_sign true bs = kind_plain bs (run_len WordRun bs)
    (reserved_word (take (run_len WordRun bs) bs)) (word_plain bs)
word_or_sign false bs = sign_plain bs (sign_at bs)

number_or_word : (b : Bool) (bs : List ℕ)
    → IsPlainScript bs (if b then (if nat_lt 0 (run_len WordRun (drop (literal_len bs) bs))
    then None else Some (script.Literal, literal_len bs))
    else (if nat_lt 0 (run_len WordRun bs) then Some
    (word_kind (reserved_word (take (run_len WordRun bs) bs)), run_len WordRun bs)
    else sign_token (sign_at bs)))
number_or_word true bs = literal_or_none (nat_lt 0 (run_len WordRun (drop (literal_len bs) bs))) bs
number_or_word false bs = word_or_sign (nat_lt 0 (run_len WordRun bs)) bs

script_plain : (bs : List ℕ) → IsPlainScript bs (script_front bs)
unfolding script_front
script_plain bs = number_or_word (nat_lt 0 (run_len Digit bs)) bs

-- ---- tokens of programs

named_plain : (b : Bool) (n : ℕ) (bs : List ℕ) → Plain (take n bs)
    → IsPlainToken (if b then kind.Out else kind.Name) n bs
named_plain true n bs h = tt
named_plain false n bs h = h

of_script_plain : (bs : List ℕ) (o : Option (TokenKind × ℕ)) → IsPlainScript bs o
    → IsPlainFound bs (of_script bs o)
of_script_plain bs None h = tt
of_script_plain bs (Some (script.Sign g, n)) h = tt
of_script_plain bs (Some (script.Literal, n)) h = h
of_script_plain bs (Some (script.Name, n)) h = named_plain (bytes_eq (take n bs) (codes "out")) n
    bs h

own_by : (a b c : Bool) (bs : List ℕ) → IsPlainFound bs (if a then Some (kind.Colon, 1) else if b
    then Some (kind.Right, 2) else if c then Some (kind.Left, 2) else None)
own_by true b c bs = tt
own_by false true c bs = tt
own_by false false true bs = tt
own_by false false false bs = tt

own_alone : (a : Bool) (bs : List ℕ) → IsPlainFound bs (if a then Some (kind.Colon, 1) else None)
own_alone true bs = tt
own_alone false bs = tt

own_plain : (bs : List ℕ) → IsPlainFound bs (own_sign bs)
own_plain [] = tt
own_plain (a ∷ []) = own_alone (a == 58) (a ∷ [])
own_plain (a ∷ (b ∷ bs)) = own_by (a == 58) (a == 62 && b == 62) (a == 60 && b == 60) (a ∷ (b ∷ bs))

else_plain : (bs : List ℕ) (o p : Found) → IsPlainFound bs o → IsPlainFound bs p
    → IsPlainFound bs (or_else o p)
else_plain bs None p h k = k
else_plain bs (Some found) p h k = h

format_or : (b : Bool) (n : ℕ) (bs : List ℕ) (o : Found) → IsPlainFound bs o
    → IsPlainFound bs (if b then Some (kind.Format, n) else o)
format_or true n bs o h = tt
format_or false n bs o h = h

front_plain : (bs : List ℕ) → IsPlainFound bs (front bs)
unfolding front
front_plain bs = format_or (nat_lt 0 (format_len bs)) (format_len bs) bs _
    (else_plain bs (own_sign bs) (of_script bs (script_front bs)) (own_plain bs)
    (of_script_plain bs (script_front bs) (script_plain bs)))

-- ---- words

-- a name, or a literal, is ASCII
abbrev pub IsPlainWord : Word → Type 0
IsPlainWord (name t) = Plain t
IsPlainWord (literal t) = Plain t
IsPlainWord w = Unit {0}

word_by : (k : Kind) (n : ℕ) (bs : List ℕ) → IsPlainToken k n bs
    → IsPlainWord (kind_word k (take n bs))
word_by kind.Name n bs h = h
word_by kind.Literal n bs h = h
word_by kind.Format n bs h = tt
word_by (kind.Sign g) n bs h = tt
word_by kind.Colon n bs h = tt
word_by kind.Right n bs h = tt
word_by kind.Left n bs h = tt
word_by kind.Out n bs h = tt

-- the token that stands at a place
token_plain : (text : List ℕ) (start len : ℕ) (k : Kind) → front (drop start text) ≡ Some (k, len)
    → IsPlainWord (token_word text (record { kind = k; start = start; end = start + len }))
token_plain text start len k e =
    let n : start + len - start ≡ len = omega arith in
    subst (λ m. IsPlainWord (kind_word k (take m (drop start text)))) (sym n)
    (word_by k len (drop start text) (subst (IsPlainFound (drop start text)) e
    (front_plain (drop start text))))

words_plain : (text : List ℕ) (at : ℕ) (rest : List ℕ)
    (ts : List ProgramToken) (o : Option ℕ) → rest
    ≡ drop at text → Lexes at rest ts o → AllByRecursion IsPlainWord (words_of text ts)
words_plain text at rest ts o e (ends h) = tt
words_plain text at rest ts o e (bad h n) = tt
words_plain text at rest ts o e (token {k = k} {len = len} {more = more} f l) =
    let b = blank_len false rest in
    let here : drop b rest ≡ drop (at + b) text = ap (drop b) e ∙ drop-drop b at text in
    let behind : drop (b + len) rest ≡ drop (at + b + len) text = ap (drop (b + len)) e
    ∙ drop-drop (b + len) at text ∙ ap (λ m. drop m text) (omega arith) in (
      token_plain text (at + b) len k (ap front (sym here) ∙ f),
      words_plain text (at + b + len) (drop (b + len) rest) more o behind l,
    )

pub all_words_plain : (text : List ℕ) (ts : List ProgramToken) (o : Option ℕ) → Lexes 0 text ts o
    → AllByRecursion IsPlainWord (words_of text ts)
all_words_plain text ts o l = words_plain text 0 text ts o refl l

-- ---- statements

all_front : (xs ys : List Word) → AllByRecursion IsPlainWord (xs ++ ys)
    → AllByRecursion IsPlainWord xs
all_front [] ys h = tt
all_front (x ∷ xs) ys h = (h.0, all_front xs ys h.1)

all_behind : (xs ys : List Word) → AllByRecursion IsPlainWord (xs ++ ys)
    → AllByRecursion IsPlainWord ys
all_behind [] ys h = h
all_behind (x ∷ xs) ys h = all_behind xs ys h.1

abbrev pub IsPlainOperand : Operand → Type 0
IsPlainOperand (named t) = Plain t
IsPlainOperand (given t) = Plain t

abbrev pub IsPlainOperation : Operation → Type 0
IsPlainOperation (copy a) = IsPlainOperand a
IsPlainOperation (negation a) = IsPlainOperand a
IsPlainOperation (sum a b) = IsPlainOperand a × IsPlainOperand b
IsPlainOperation (difference a b) = IsPlainOperand a × IsPlainOperand b
IsPlainOperation (product a b) = IsPlainOperand a × IsPlainOperand b
IsPlainOperation (shift_right a k) = IsPlainOperand a
IsPlainOperation (shift_left a k) = IsPlainOperand a

abbrev pub IsPlainWay : Way → Type 0
IsPlainWay (called t) = Plain t
IsPlainWay v = Unit {0}

pub record IsPlainInput (x : Input) : Type 0 where
  pub name : Plain x.name
  pub lower : Plain x.lower.text
  pub upper : Plain x.upper.text

pub record IsPlainStep (x : Step) : Type 0 where
  pub name : Plain x.name
  pub way : IsPlainWay x.way
  pub operation : IsPlainOperation x.operation

abbrev pub IsPlainStatement : Statement → Type 0
IsPlainStatement (input x) = IsPlainInput x
IsPlainStatement (step x) = IsPlainStep x
IsPlainStatement (output t) = Plain t

bound_plain : (m : Mark) (t : List ℕ) → AllByRecursion IsPlainWord
    (bound_words (record { mark = m; text = t })) → Plain t
bound_plain mark.Unmarked t h = h.0
bound_plain mark.Plus t h = h.1.0
bound_plain mark.Minus t h = h.1.0

operand_plain : (a : Operand) → AllByRecursion IsPlainWord (operand_words a) → IsPlainOperand a
operand_plain (named t) h = h.0
operand_plain (given t) h = h.0

way_plain : (v : Way) → AllByRecursion IsPlainWord (way_words v) → IsPlainWay v
way_plain (called t) h = h.0
way_plain (reserved g) h = tt
way_plain reserved_out h = tt

operation_plain : (o : Operation) → AllByRecursion IsPlainWord (operation_words o)
    → IsPlainOperation o
operation_plain (copy a) h = operand_plain a h
operation_plain (negation a) h = operand_plain a h.1
operation_plain (sum a b) h = (
  operand_plain a (all_front (operand_words a) _ h),
  operand_plain b (all_behind (operand_words a) _ h).1,
)
operation_plain (difference a b) h = (
  operand_plain a (all_front (operand_words a) _ h),
  operand_plain b (all_behind (operand_words a) _ h).1,
)
operation_plain (product a b) h = (
  operand_plain a (all_front (operand_words a) _ h),
  operand_plain b (all_behind (operand_words a) _ h).1,
)
operation_plain (shift_right a k) h = operand_plain a (all_front (operand_words a) _ h)
operation_plain (shift_left a k) h = operand_plain a (all_front (operand_words a) _ h)

statement_plain : (x : Statement) → AllByRecursion IsPlainWord (statement_words x)
    → IsPlainStatement x
statement_plain (input x) h =
    let ends = h.1.1.1.1.1 in
    let behind = all_behind (bound_words x.lower) _ ends in
    record {
      name = h.1.0;
      lower = bound_plain x.lower.mark x.lower.text (all_front (bound_words x.lower) _ ends);
      upper = bound_plain x.upper.mark x.upper.text (all_front (bound_words x.upper) _ behind.1);
    }
statement_plain (step x) h =
    let ends = h.1.1.1 in
    let behind = (all_behind (way_words x.way) _ ends).1 in
    record {
      name = h.0;
      way = way_plain x.way (all_front (way_words x.way) _ ends);
      operation =
          operation_plain x.operation (all_front (operation_words x.operation) _ behind);
    }
statement_plain (output t) h = h.1.0

pub statements_plain : (xs : List Statement) → AllByRecursion IsPlainWord (words_from xs)
    → AllByRecursion IsPlainStatement xs
statements_plain [] h = tt
statements_plain (x ∷ xs) h = (
  statement_plain x (all_front (statement_words x) (words_from xs) h),
  statements_plain xs (all_behind (statement_words x) (words_from xs) h),
)
