-- The names and literals of a program's text are tokens by themselves.
use Rattle.std.proofs.Common.{◌≡◌, ℕ, ◌+◌, ◌-◌, ◌≤◌, ◌==◌, ◌&&◌, nat_lt, Bool, true, false, List}
use Rattle.std.proofs.Common.{[], ◌∷◌, length, take, drop, codes, Option, Some, None, refl, sym, ap}
use Rattle.std.proofs.Common.{◌∙◌, subst, arith, if◌then◌else◌}
use Rattle.std.specs.List.{AllByRecursion}
use Rattle.std.specs.Str.{bytes_eq}
use Rattle.std.proofs.lemmas.List.{drop-drop, length-take-le}
use Rattle.script_words.specs.declared.class.Symbol.{Symbol}
use Rattle.script_words.specs.declared.lex.Run.TheVariants.{Word as WordRun, Digit}
use Rattle.script_words.specs.declared.lex.TokenKind.{TokenKind}
use Rattle.script_words.specs.declared.lex.TokenKind.TheVariants as script
use Rattle.script_words.specs.Literals.{run_len, literal_len}
use Rattle.script_words.specs.Signs.{sign_at, reserved_word}
use Rattle.script_words.specs.Lex.{blank_len, word_kind, sign_token, front as script_front}
use Rattle.script_words.proofs.Within.{run-le, literal-le}
use Rattle.fixprog.specs.declared.token.Kind.{Kind}
use Rattle.fixprog.specs.declared.token.Kind.TheVariants as kind
use Rattle.fixprog.specs.declared.token.ProgramToken.{ProgramToken}
use Rattle.fixprog.specs.Words.{kind_word}
use Rattle.fixprog.specs.Lex.{front, format_len, own_sign, of_script, or_else, Lexes, ends, bad}
use Rattle.fixprog.specs.Lex.{token, token_word, words_of}
use Rattle.fixprog.specs.First.{IsAlone, IsAloneWord, WordsAreAlone}
use Rattle.fixprog.proofs.Alone.{word_by_itself, literal_by_itself}

-- the token is a name or a literal, or something else that is told by its kind
abbrev IsAloneToken : Kind → ℕ → List ℕ → Type 0
IsAloneToken kind.Name n bs = IsAlone script.Name (take n bs)
IsAloneToken kind.Literal n bs = IsAlone script.Literal (take n bs)
IsAloneToken k n bs = Unit {0}

abbrev Found : Type 0
Found = Option (Kind × ℕ)

abbrev IsAloneFound : List ℕ → Found → Type 0
IsAloneFound bs None = Unit {0}
IsAloneFound bs (Some found) = IsAloneToken found.0 found.1 bs

-- ---- tokens of scripts

abbrev IsAloneScript : List ℕ → Option (TokenKind × ℕ) → Type 0
IsAloneScript bs None = Unit {0}
IsAloneScript bs (Some (script.Sign g, n)) = Unit {0}
IsAloneScript bs (Some (script.Name, n)) = IsAlone script.Name (take n bs)
IsAloneScript bs (Some (script.Literal, n)) = IsAlone script.Literal (take n bs)

sign_plain : (bs : List ℕ) (o : Option (Symbol × ℕ)) → IsAloneScript bs (sign_token o)
sign_plain bs None = tt
sign_plain bs (Some found) = tt

kind_plain : (bs : List ℕ) (n : ℕ) (o : Option Symbol) → IsAlone (word_kind o) (take n bs)
    → IsAloneScript bs (Some (word_kind o, n))
kind_plain bs n None h = h
kind_plain bs n (Some g) h = tt

-- a front that is a token, which it is by itself
alone_at : (k : TokenKind) (n : ℕ) (bs : List ℕ) → n ≤ length bs → script_front (take n bs)
    ≡ Some (k, n) → IsAlone k (take n bs)
alone_at k n bs l e = e ∙ ap (λ i. Some (k, i)) (sym (length-take-le n bs l))

literal_or_none : (b : Bool) (bs : List ℕ) → nat_lt 0 (run_len Digit bs) ≡ true
    → IsAloneScript bs (if b then None else Some (script.Literal, literal_len bs))
literal_or_none true bs d = tt
literal_or_none false bs d = alone_at script.Literal (literal_len bs) bs (literal-le bs)
    (literal_by_itself bs d)

word_or_sign : (b : Bool) (bs : List ℕ) → nat_lt 0 (run_len Digit bs) ≡ false
    → nat_lt 0 (run_len WordRun bs) ≡ b
    → IsAloneScript bs (if b then Some (
      word_kind (reserved_word (take (run_len WordRun bs) bs)),
      run_len WordRun bs,
    ) else sign_token (sign_at bs))
word_or_sign true bs d w =
    let n = run_len WordRun bs in
    let o = reserved_word (take n bs) in
    kind_plain bs n o (alone_at (word_kind o) n bs (run-le WordRun bs) (word_by_itself bs d w))
word_or_sign false bs d w = sign_plain bs (sign_at bs)

number_or_word : (b : Bool) (bs : List ℕ) → nat_lt 0 (run_len Digit bs) ≡ b
    → IsAloneScript bs (if b then (if nat_lt 0 (run_len WordRun (drop (literal_len bs) bs))
    then None else Some (script.Literal, literal_len bs))
    else (if nat_lt 0 (run_len WordRun bs) then Some
    (word_kind (reserved_word (take (run_len WordRun bs) bs)), run_len WordRun bs)
    else sign_token (sign_at bs)))
number_or_word true bs d = literal_or_none (nat_lt 0 (run_len WordRun (drop (literal_len bs) bs)))
    bs d
number_or_word false bs d = word_or_sign (nat_lt 0 (run_len WordRun bs)) bs d refl

script_plain : (bs : List ℕ) → IsAloneScript bs (script_front bs)
unfolding script_front
script_plain bs = number_or_word (nat_lt 0 (run_len Digit bs)) bs refl

-- ---- tokens of programs

named_plain : (b : Bool) (n : ℕ) (bs : List ℕ) → IsAlone script.Name (take n bs)
    → IsAloneToken (if b then kind.Out else kind.Name) n bs
named_plain true n bs h = tt
named_plain false n bs h = h

of_script_plain : (bs : List ℕ) (o : Option (TokenKind × ℕ)) → IsAloneScript bs o
    → IsAloneFound bs (of_script bs o)
of_script_plain bs None h = tt
of_script_plain bs (Some (script.Sign g, n)) h = tt
of_script_plain bs (Some (script.Literal, n)) h = h
of_script_plain bs (Some (script.Name, n)) h = named_plain (bytes_eq (take n bs) (codes "out")) n
    bs h

own_by : (a b c : Bool) (bs : List ℕ) → IsAloneFound bs (if a then Some (kind.Colon, 1) else if b
    then Some (kind.Right, 2) else if c then Some (kind.Left, 2) else None)
own_by true b c bs = tt
own_by false true c bs = tt
own_by false false true bs = tt
own_by false false false bs = tt

own_alone : (a : Bool) (bs : List ℕ) → IsAloneFound bs (if a then Some (kind.Colon, 1) else None)
own_alone true bs = tt
own_alone false bs = tt

own_plain : (bs : List ℕ) → IsAloneFound bs (own_sign bs)
own_plain [] = tt
own_plain (a ∷ []) = own_alone (a == 58) (a ∷ [])
own_plain (a ∷ (b ∷ bs)) = own_by (a == 58) (a == 62 && b == 62) (a == 60 && b == 60) (a ∷ (b ∷ bs))

else_plain : (bs : List ℕ) (o p : Found) → IsAloneFound bs o → IsAloneFound bs p
    → IsAloneFound bs (or_else o p)
else_plain bs None p h k = k
else_plain bs (Some found) p h k = h

format_or : (b : Bool) (n : ℕ) (bs : List ℕ) (o : Found) → IsAloneFound bs o
    → IsAloneFound bs (if b then Some (kind.Format, n) else o)
format_or true n bs o h = tt
format_or false n bs o h = h

front_plain : (bs : List ℕ) → IsAloneFound bs (front bs)
unfolding front
front_plain bs = format_or (nat_lt 0 (format_len bs)) (format_len bs) bs _
    (else_plain bs (own_sign bs) (of_script bs (script_front bs)) (own_plain bs)
    (of_script_plain bs (script_front bs) (script_plain bs)))

-- ---- words

word_by : (k : Kind) (n : ℕ) (bs : List ℕ) → IsAloneToken k n bs
    → IsAloneWord (kind_word k (take n bs))
word_by kind.Name n bs h = h
word_by kind.Literal n bs h = h
word_by kind.Format n bs h = tt
word_by (kind.Sign g) n bs h = tt
word_by kind.Colon n bs h = tt
word_by kind.Right n bs h = tt
word_by kind.Left n bs h = tt
word_by kind.Out n bs h = tt

-- the token that stands at a place
token_plain : (text : List ℕ) (start len : ℕ) (k : Kind) → front (drop start text) ≡ Some (k, len)
    → IsAloneWord (token_word text (record { kind = k; start = start; end = start + len }))
token_plain text start len k e =
    let n : start + len - start ≡ len = omega arith in
    subst (λ m. IsAloneWord (kind_word k (take m (drop start text)))) (sym n)
    (word_by k len (drop start text) (subst (IsAloneFound (drop start text)) e
    (front_plain (drop start text))))

words_plain : (text : List ℕ) (at : ℕ) (rest : List ℕ)
    (ts : List ProgramToken) (o : Option ℕ) → rest
    ≡ drop at text → Lexes at rest ts o → AllByRecursion IsAloneWord (words_of text ts)
words_plain text at rest ts o e (ends h) = tt
words_plain text at rest ts o e (bad h n) = tt
words_plain text at rest ts o e (token {k = k} {len = len} {more = more} f l) =
    let b = blank_len false rest in
    let here : drop b rest ≡ drop (at + b) text = ap (drop b) e ∙ drop-drop b at text in
    let behind : drop (b + len) rest ≡ drop (at + b + len) text = ap (drop (b + len)) e
    ∙ drop-drop (b + len) at text ∙ ap (λ m. drop m text) (omega arith) in (
      token_plain text (at + b) len k (ap front (sym here) ∙ f),
      words_plain text (at + b + len) (drop (b + len) rest) more o behind l,
    )

pub all_words_plain : (text : List ℕ) (ts : List ProgramToken) (o : Option ℕ) → Lexes 0 text ts o
    → AllByRecursion IsAloneWord (words_of text ts)
all_words_plain text ts o l = words_plain text 0 text ts o refl l

pub words_are_alone : WordsAreAlone
words_are_alone text p s = subst (AllByRecursion IsAloneWord) (sym s.words)
    (all_words_plain text s.tokens None s.lexed)
