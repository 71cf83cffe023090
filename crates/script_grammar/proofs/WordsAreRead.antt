-- In a script that a text spells each literal is read, and digits stand for the number that they
-- write.
use Rattle.std.proofs.Common.{◌≡◌, ◌⊎◌, ℕ, ◌≤◌, ◌<◌, ◌||◌, nat_lt, List, [], ◌∷◌, map, length}
use Rattle.std.proofs.Common.{Option, Some, None, Bool, true, false, inl, inr, ⊎_elim, refl, sym}
use Rattle.std.proofs.Common.{ap, ◌∙◌, subst, arith, true≢false, if◌then◌else◌}
use Rattle.std.specs.Prelude.{IsTrue}
use Rattle.std.specs.List.{AllByRecursion}
use Rattle.std.specs.Str.Parse.{digits_value}
use Rattle.std.proofs.lemmas.Bool.{ltb-false, lt-ltb, le-ltb, cases_lt}
use Rattle.literal.specs.Spelling.{IsLiteral}
use Rattle.literal.specs.Normal.{IsReading, IsPastLimits}
use Rattle.script_words.specs.Lex.{LexesOnce}
use Rattle.script_words.specs.Words.{Word, literal}
use Rattle.script_words.specs.Named.{nothing, words_of}
use Rattle.script_shape.specs.declared.due.Due.{Due}
use Rattle.script_shape.specs.declared.due.Due.TheVariants as d
use Rattle.script_shape.specs.Roles.{Leaf, script_leaves, LeavesAreOfTrees, LeavesSpell}
use Rattle.script_judge.specs.declared.refusal.RefusalKind.{RefusalKind}
use Rattle.script_judge.specs.declared.fault.Fault.{Fault}
use Rattle.script_judge.specs.Names.{is_used, defines, is_some_among, split_name}
use Rattle.script_judge.specs.Bounds.{is_bad_bound}
use Rattle.script_judge.specs.Splits.{is_rangeless, is_bad_point}
use Rattle.script_judge.specs.Numbers.{Notes, Tells, has_no_pieces, is_past_lsb, is_past_pieces}
use Rattle.script_judge.specs.declared.counts.Counts.{Counts}
use Rattle.script_judge.specs.Judge.{Seen, is_on_wrong_side, or_else, form_kind}
use Rattle.script_judge.specs.Judge.{form_refusal, limit_kind, limit_refusal, seen_after}
use Rattle.script_judge.specs.Judge.{refusal_at, Judged, refused, passed}
use Rattle.script_judge.specs.Sides.{has_arrow}
use Rattle.script_nodes.specs.Literals.{literal_of, LiteralsAreTold}
use Rattle.script_nodes.specs.Operators.{number_of}
use Rattle.script_claims.specs.Claims.{exponent_size}
use Rattle.script_grammar.specs.Read.{AreDigits, IsRead, SpelledAreRead}
use Rattle.script_grammar.proofs.Short.{spelled_judged}
use Rattle.script_grammar.proofs.LiteralWords.{IsSpelled, words_spelled}

-- ---- what isn't refused

-- the first test isn't true, and none behind it
record NoneIs (b : Bool) (rest : Option RefusalKind) : Type 0 where
  first : b ≡ false
  more : rest ≡ None

none_is : (b : Bool) (k : RefusalKind) (rest : Option RefusalKind)
    → (if b then Some k else rest) ≡ None → NoneIs b rest
none_is true k rest e = absurd (cc e)
none_is false k rest e = record { first = refl; more = e }

second_is : (a b : Bool) → (a || b) ≡ false → b ≡ false
second_is true b e = absurd (cc e)
second_is false b e = e

first_none : (a b : Option RefusalKind) → or_else a b ≡ None → a ≡ None
first_none None b e = refl
first_none (Some k) b e = absurd (cc e)

second_none : (a b : Option RefusalKind) → or_else a b ≡ None → b ≡ None
second_none None b e = e
second_none (Some k) b e = absurd (cc e)

record IsPassed (v : Notes) (r : Due) (w : Word) : Type 0 where
  past : v.past ≡ false
  lsb : is_past_lsb r w ≡ false
  pieces : is_past_pieces r w ≡ false

form_past : (side used bad rangeless defined none point past : Bool)
    → form_kind side used bad rangeless defined none point past ≡ None → past ≡ false
form_past side used bad rangeless defined none point past e =
    let a = none_is side _ _ e in
    let b = none_is used _ _ a.more in
    let c = none_is bad _ _ b.more in
    let d = none_is rangeless _ _ c.more in
    let f = none_is (defined || none || point) _ _ d.more in
    let g = none_is past _ _ f.more in g.first

limit_past : (opened halved : ℕ) (c : Counts) (lsb pieces : Bool)
    → limit_kind opened halved c lsb pieces ≡ None → (lsb ≡ false) × (pieces ≡ false)
limit_past opened halved c lsb pieces e =
    let nesting = none_is (nat_lt 64 opened) _ _ e in
    let definitions = none_is (nat_lt 256 c.definitions) _ _ nesting.more in
    let propositions = none_is (nat_lt 128 c.propositions) _ _ definitions.more in
    let hints = none_is (nat_lt 64 c.hints) _ _ propositions.more in
    let nodes = none_is (nat_lt 512 c.nodes) _ _ hints.more in
    let low = none_is lsb _ _ nodes.more in
    let splits = none_is (nat_lt 4 c.splits || nat_lt 4 halved) _ _ low.more in
    let more = none_is (nat_lt 64 c.pieces || pieces) _ _ splits.more in
    (low.first, second_is (nat_lt 64 c.pieces) pieces more.first)

is_passed : (v : Notes) (seen : Seen) (r : Due) (w : Word) (behind : List Leaf)
    → refusal_at v seen r w behind ≡ None → IsPassed v r w
is_passed v seen r w behind e =
    let after = seen_after v seen r w in
    let form = first_none (form_refusal v seen r w (has_arrow behind) behind)
    (limit_refusal after r w) e in
    let limit = second_none (form_refusal v seen r w (has_arrow behind) behind)
    (limit_refusal after r w) e in
    let digits = limit_past (length after.opened)
    (length after.names.halved) after.counts (is_past_lsb r w) (is_past_pieces r w) limit in
    let defined = is_some_among seen.names.defined (split_name r w) in
    let past = form_past (is_on_wrong_side r w (has_arrow behind) behind)
    (is_used seen.names (defines r w) behind) (is_bad_bound seen.bounds v.number)
    (is_rangeless seen.said defined (split_name r w)) defined (has_no_pieces r w)
    (is_bad_point seen.splits (nat_lt 0 seen.counts.pieces) v.number) v.past form in
    record { past = past; lsb = digits.0; pieces = digits.1 }

-- ---- so it is read

module _ (told : LiteralsAreTold) where
  read_literal : (v : Notes) (text : List ℕ) → IsLiteral text → (IsPastLimits text → IsTrue v.past)
      → v.past ≡ false → IsReading text (literal_of text)
  read_literal v text spelled past held = by_cases (told text)
    where
      by_cases : IsReading text (literal_of text) ⊎ (IsPastLimits text ⊎ ¬ IsLiteral text)
          → IsReading text (literal_of text)
      by_cases (inl r) = r
      by_cases (inr (inl p)) = absurd (true≢false (sym (past p) ∙ held))
      by_cases (inr (inr n)) = absurd (n spelled)

  -- a number that stops somewhere, where it doesn't come so far
  unstopped : (most n : ℕ) → n ≤ most → (if nat_lt n most then n else most) ≡ n
  unstopped most n h = ⊎_elim (λ (l : n < most). ap (λ b. if b then n else most) (lt-ltb n most l))
      (λ (m : most ≤ n). ap (λ b. if b then n else most) (le-ltb n most m)
      ∙ omega arith) (cases_lt n most)

  read_digits : (text : List ℕ) → digits_value 10 text ≤ 512 → AreDigits text
  unfolding number_of exponent_size
  read_digits text h =
      (unstopped 512 (digits_value 10 text) h, unstopped 1025 (digits_value 10 text) (omega arith))

  read_word : (v : Notes) (r : Due) (w : Word) (behind : List Leaf) → Tells v r w behind
      → IsPassed v r w → IsSpelled w → IsRead r w
  read_word v d.Operand (literal k text) behind t p s = read_literal v text s t.past.1 p.past
  read_word v d.Bound (literal k text) behind t p s = read_literal v text s t.past.1 p.past
  read_word v d.Magnitude (literal k text) behind t p s = read_literal v text s t.past.1 p.past
  read_word v d.Whole (literal k text) behind t p s = read_digits text (ltb-false 512 _ p.lsb)
  read_word v d.WholeDigits (literal k text) behind t p s = read_digits text (ltb-false 512 _ p.lsb)
  read_word v d.Cut (literal k text) behind t p s = let few = ltb-false 64 _ p.pieces in
      read_digits text (omega arith)
  read_word v r w behind t p s = tt

  words_read : (ls : List Leaf) {i : ℕ} {seen : Seen} {found : Option Fault}
      → Judged i seen ls found → found ≡ None → AllByRecursion (λ l. IsSpelled l.word) ls
      → AllByRecursion (λ l. IsRead l.role l.word) ls
  words_read [] j e s = tt
  words_read (l ∷ ls) (refused t r) e s = absurd (cc e)
  words_read (l ∷ ls) (passed {seen = seen} {v = v} t r j) e s = (
    read_word v l.role l.word ls t (is_passed v seen l.role l.word ls r) s.0,
    words_read ls j e s.1,
  )

  all_mapped : (ls : List Leaf) → AllByRecursion IsSpelled (map (λ l. l.word) ls)
      → AllByRecursion (λ l. IsSpelled l.word) ls
  all_mapped [] h = tt
  all_mapped (l ∷ ls) h = (h.0, all_mapped ls h.1)

  pub spelled_are_read : LexesOnce → LeavesAreOfTrees → LeavesSpell → SpelledAreRead
  spelled_are_read lexes are spell text s p =
      let words : AllByRecursion IsSpelled (words_of text s.tokens) =
      words_spelled text nothing [] refl p.lexed in
      let leaves = script_leaves p.tree in
      words_read leaves (spelled_judged lexes are text s p).judged refl
      (all_mapped leaves (subst (AllByRecursion IsSpelled) (sym (spell p.tree ∙ p.words)) words))
