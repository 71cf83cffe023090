-- Each text has a first refusal, or none.
use Rattle.std.proofs.Common.{◌≡◌, ◌⊎◌, ℕ, zero, suc, ◌+◌, ◌^◌, ◌<◌, ◌≤◌, List, [], ◌∷◌, length}
use Rattle.std.proofs.Common.{take, Option, Some, None, Bool, true, false, IsUtf8, inl, inr, ⊎_elim}
use Rattle.std.proofs.Common.{refl, sym, ap, ◌∙◌, subst, arith, take_all, true≢false}
use Rattle.std.specs.Prelude.{IsTrue, ◌↔◌}
use Rattle.std.specs.Str.{IsValidUpTo, is_utf8}
use Rattle.std.proofs.lemmas.Bool.{cases_lt}
use Rattle.std.proofs.lemmas.Str.{IsUtf8-from_is_utf8, is_utf8-from_IsUtf8, IsUtf8-nil}
use Rattle.fx_model.specs.Fraction.{Fraction}
use Rattle.fx_model.specs.Grid.{signed}
use Rattle.fx_model.specs.Expression.{literal_value}
use Rattle.literal.specs.Spelling.{IsLiteral, IsWithin, written}
use Rattle.literal.specs.Normal.{IsReading, IsPastLimits}
use Rattle.script_words.specs.declared.class.Symbol.TheVariants as s
use Rattle.script_words.specs.Lex.{LexesAll}
use Rattle.script_words.specs.Words.{Word, name, rounding, literal, sign}
use Rattle.script_words.specs.Named.{words_of}
use Rattle.script_shape.specs.declared.due.Due.{Due}
use Rattle.script_shape.specs.declared.due.Due.TheVariants as d
use Rattle.script_shape.specs.Tree.{BeginsScript}
use Rattle.script_shape.specs.Roles.{Leaf, script_leaves, HasRoles}
use Rattle.script_shape.specs.ShapeLaw.{ShapesExist}
use Rattle.script_bounds.specs.Texts.{IsNumber}
use Rattle.script_judge.specs.declared.refusal.RefusalKind.{RefusalKind}
use Rattle.script_judge.specs.declared.fault.Fault.{Fault}
use Rattle.script_judge.specs.Reading.{Reading, IsReadingOf, not_text, too_long}
use Rattle.script_judge.specs.First.{unread, read}
use Rattle.script_judge.specs.Bounds.{IsWordNumber, IsMagnitude, IsBoundText, IsBoundOf}
use Rattle.script_judge.specs.Front.{said_in, ReadsFronts}
use Rattle.script_judge.specs.Numbers.{Notes, IsPastWord, IsPast, is_number, Tells}
use Rattle.script_judge.specs.Judge.{Seen, nothing_seen, seen_after, refusal_at, Judged}
use Rattle.script_judge.specs.Judge.{none_refused, refused, passed}
use Rattle.script_nodes.specs.Literals.{literal_of, LiteralsAreTold, SpelledOnce}
use Rattle.script_grammar.specs.Spells.{FirstsExist}
use Rattle.script_grammar.proofs.FrontLeaves.{leaves_say}

-- ---- bytes are text, or stop being it somewhere

record IsFront (text : List ℕ) (most n : ℕ) : Type 0 where
  within : n ≤ most
  front : IsUtf8 (take n text)
  longest : (k : ℕ) → n < k → k ≤ most → ¬ IsUtf8 (take k text)

front_below : (text : List ℕ) (most : ℕ) → (n : ℕ) × IsFront text most n
front_below text zero = (
  0,
  record { within = omega arith; front = IsUtf8-nil; longest = λ k h w. absurd (omega arith) },
)
front_below text (suc most) = by_test (is_utf8 (take (suc most) text)) refl (front_below text most)
  where
    by_test : (b : Bool) → is_utf8 (take (suc most) text) ≡ b → (n : ℕ) × IsFront text most n
        → (n : ℕ) × IsFront text (suc most) n
    by_test true e f = (
      suc most,
      record {
        within = omega arith;
        front = IsUtf8-from_is_utf8 _ e;
        longest = λ k h w. absurd (omega arith);
      },
    )
    by_test false e f = (
      f.0,
      record {
        within = let w = f.1.within in omega arith;
        front = f.1.front;
        longest = λ k h w u. ⊎_elim
            (λ (top : most < k).
            let same : k ≡ suc most = omega arith in
            true≢false (sym (is_utf8-from_IsUtf8 _ (subst (λ j. IsUtf8 (take j text)) same u)) ∙ e))
            (λ (low : k ≤ most). f.1.longest k h low u)
            (cases_lt most k);
      },
    )

text_or_not : (text : List ℕ) → IsUtf8 text ⊎ ((n : ℕ) × IsValidUpTo text n)
text_or_not text =
    let f = front_below text (length text) in
    ⊎_elim
    (λ (short : f.0 < length text). inr (
      f.0,
      record {
        short = short;
        front = f.1.front;
        longest = λ m above u. ⊎_elim
            (λ (past : length text < m). f.1.longest (length text) short (omega arith) (subst IsUtf8
            (take_all m text (omega arith) ∙ sym (take_all (length text) text (omega arith))) u))
            (λ (in_reach : m ≤ length text). f.1.longest m above in_reach u)
            (cases_lt (length text) m);
      },
    ))
    (λ (all : length text ≤ f.0). inl (subst IsUtf8 (take_all f.0 text all) f.1.front))
    (cases_lt f.0 (length text))

-- ---- what is told of a token

module _ (told : LiteralsAreTold) (once : SpelledOnce) where
  no_test : (P : Type 0) → ¬ P → (b : Bool) × (IsTrue b ↔ P)
  no_test P n = (false, (λ h. absurd (true≢false (sym h)), λ p. absurd (n p)))

  -- the test of a literal past its limits
  past_test : (text : List ℕ) → (b : Bool) × (IsTrue b ↔ IsPastLimits text)
  past_test text = by_cases (told text)
    where
      by_cases : IsReading text (literal_of text) ⊎ (IsPastLimits text ⊎ ¬ IsLiteral text)
          → (b : Bool) × (IsTrue b ↔ IsPastLimits text)
      by_cases (inl r) = no_test (IsPastLimits text) (λ p.
          p.beyond (subst IsWithin (once text r.spelling p.spelling r.spells p.spells) r.within))
      by_cases (inr (inl p)) = (true, (λ h. p, λ h. refl))
      by_cases (inr (inr n)) = no_test (IsPastLimits text) (λ p. n (p.spelling, p.spells))

  word_test : (w : Word) → (b : Bool) × (IsTrue b ↔ IsPastWord w)
  word_test (literal k text) = past_test text
  word_test (name k text) = no_test (IsPastWord (name k text)) (λ h. h)
  word_test (rounding k text) = no_test (IsPastWord (rounding k text)) (λ h. h)
  word_test (sign g) = no_test (IsPastWord (sign g)) (λ h. h)

  past : (number : Bool) (w : Word) → (b : Bool) × (IsTrue b ↔ IsPast number w)
  past true w = word_test w
  past false w = no_test (IsPast false w) (λ h. h)

  -- the one number of which something holds, or none
  abbrev Finds : (Fraction → Type 0) → Type 0
  Finds P = (o : Option Fraction) × ((x : Fraction) → (o ≡ Some x) ↔ P x)

  nothing_found : (P : Fraction → Type 0) → ((x : Fraction) → ¬ P x) → Finds P
  nothing_found P n = (None, λ x. (λ e. absurd (cc e), λ p. absurd (n x p)))

  number_found : (negative : Bool) (text : List ℕ) → Finds (IsNumber negative text)
  number_found negative text = by_cases (told text)
    where
      by_cases : IsReading text (literal_of text) ⊎ (IsPastLimits text ⊎ ¬ IsLiteral text)
          → Finds (IsNumber negative text)
      by_cases (inl r) =
          let x = signed negative (literal_value (written r.spelling)) in (
            Some x,
            λ y. (
              λ e. let same : x ≡ y = cc e in record {
                spelling = r.spelling;
                spells = r.spells;
                within = r.within;
                value = sym same;
              },
              λ n. ap (λ t. Some (signed negative (literal_value (written t))))
                  (once text r.spelling n.spelling r.spells n.spells) ∙ ap Some (sym n.value),
            ),
          )
      by_cases (inr (inl p)) = nothing_found (IsNumber negative text) (λ x n.
          p.beyond (subst IsWithin (once text n.spelling p.spelling n.spells p.spells) n.within))
      by_cases (inr (inr n)) =
          nothing_found (IsNumber negative text) (λ x k. n (k.spelling, k.spells))

  word_number : (negative : Bool) (w : Word) → Finds (IsWordNumber negative w)
  word_number negative (literal k text) = number_found negative text
  word_number negative (name k text) =
      nothing_found (IsWordNumber negative (name k text)) (λ x h. h)
  word_number negative (rounding k text) =
      nothing_found (IsWordNumber negative (rounding k text)) (λ x h. h)
  word_number negative (sign g) = nothing_found (IsWordNumber negative (sign g)) (λ x h. h)

  magnitude : (negative : Bool) (behind : List Leaf) → Finds (IsMagnitude negative behind)
  magnitude negative [] = nothing_found (IsMagnitude negative []) (λ x h. h)
  magnitude negative (l ∷ ls) = word_number negative l.word

  bound_text : (w : Word) (behind : List Leaf) → Finds (IsBoundText w behind)
  bound_text (literal k text) behind = number_found false text
  bound_text (sign s.Plus) behind = magnitude false behind
  bound_text (sign s.Minus) behind = magnitude true behind
  bound_text w behind = nothing_found (IsBoundText w behind) (λ x h. h)

  bound : (r : Due) (w : Word) (behind : List Leaf) → Finds (IsBoundOf r w behind)
  bound d.Bound w behind = bound_text w behind
  bound r w behind = nothing_found (IsBoundOf r w behind) (λ x h. h)

  notes : (r : Due) (w : Word) (behind : List Leaf) → (v : Notes) × Tells v r w behind
  notes r w behind =
      let p = past (is_number r) w in
      let n = bound r w behind in (
        record { past = p.0; number = n.0 },
        record { past = p.1; number = n.1 },
      )

  -- ---- the first refused word

  judged : (i : ℕ) (seen : Seen) (ls : List Leaf) → (found : Option Fault) × Judged i seen ls found
  judged i seen [] = (None, none_refused)
  judged i seen (l ∷ ls) = by_test (refusal_at v.0 seen l.role l.word ls) refl
      (judged (i + 1) (seen_after v.0 seen l.role l.word) ls)
    where
      v : (t : Notes) × Tells t l.role l.word ls
      v = notes l.role l.word ls

      by_test : (o : Option RefusalKind) → refusal_at v.0 seen l.role l.word ls ≡ o
          → (found : Option Fault) × Judged (i + 1) (seen_after v.0 seen l.role l.word) ls found
          → (found : Option Fault) × Judged i seen (l ∷ ls) found
      by_test (Some k) e rest = (Some _, refused {v = v.0} v.1 e)
      by_test None e rest = (rest.0, passed {v = v.0} v.1 e rest.1)

-- ---- how far a text is read

begun_roles : (ws : List Word) → BeginsScript ws → (leaves : List Leaf) × HasRoles ws leaves
begun_roles ws b = (
  take (length ws) (script_leaves b.tree),
  record { tree = b.tree; words = (b.more, b.words); roles = refl },
)

reading_of : LexesAll → ShapesExist → (text : List ℕ) → (r : Reading) × IsReadingOf text r
reading_of lexes shapes text =
    let l = lexes text in
    let ws = words_of text l.0 in
    let s = shapes ws in
    let roles = begun_roles (take s.0 ws) s.2.begins in (
      record { tokens = l.0; bad = l.1; words = ws; taken = s.0; whole = s.1; leaves = roles.0 },
      record { lexed = l.2; words = refl; shape = s.2; roles = roles.1 },
    )

-- ---- the first refusal

pub firsts_exist : LexesAll → ShapesExist → LiteralsAreTold → SpelledOnce → ReadsFronts
    → FirstsExist
firsts_exist lexes shapes told once fronts text = ⊎_elim
    (λ (long : 2 ^ 20 < length text). (Some _, unread (too_long long)))
    (λ (short : length text ≤ 2 ^ 20). ⊎_elim
    (λ (u : IsUtf8 text).
    let r = reading_of lexes shapes text in
    let j = judged told once 0 (nothing_seen (said_in r.0.leaves)) r.0.leaves in
    let says = leaves_say fronts r.0.leaves r.1.roles in
    (_, read {said = said_in r.0.leaves} {found = j.0} (short, u) r.1 says j.1))
    (λ n. (Some _, unread (not_text short n.1)))
    (text_or_not text))
    (cases_lt (2 ^ 20) (length text))
