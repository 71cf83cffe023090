-- The cases of a formula that the judge lets pass are those that it counts.
use Rattle.std.proofs.Common.{◌≡◌, ℕ, suc, ◌+◌, ◌*◌, ◌≤◌, List, [], ◌∷◌, ◌++◌, length, Option}
use Rattle.std.proofs.Common.{refl, sym}
use Rattle.std.proofs.Common.{◌∙◌, subst, arith}
use Rattle.std.proofs.Math.Nat.{mul-one}
use Rattle.std.proofs.lemmas.List.{length-append}
use Rattle.script_words.specs.declared.class.Symbol.TheVariants as s
use Rattle.script_words.specs.Words.{Word, sign}
use Rattle.script_shape.specs.declared.due.Due.{Due}
use Rattle.script_shape.specs.declared.due.Due.TheVariants as d
use Rattle.script_shape.specs.Propositions.{Stated, affirmed, denied, Formula, single, and, or}
use Rattle.script_shape.specs.Propositions.{implies}
use Rattle.script_shape.specs.Tree.{Script, formula}
use Rattle.script_shape.specs.Tree.{define}
use Rattle.script_shape.specs.Roles.{Leaf, at}
use Rattle.script_shape.specs.Roles.{prop_leaves, stated_leaves, formula_leaves}
use Rattle.script_shape.specs.Roles.{definition_leaves}
use Rattle.script_shape.proofs.Inner.{EachRole, each_as}
use Rattle.script_cases.specs.Cases.{case_count}
use Rattle.script_cases.specs.Parts.{Parts, behind_arrow}
use Rattle.script_cases.proofs.Counted.{begun_cases, arrow_begins, few_before}
use Rattle.script_nodes.specs.Known.{Known}
use Rattle.script_nodes.specs.Definitions.{definition_value}
use Rattle.script_claims.specs.declared.claim.Claim.{Claim}
use Rattle.script_claims.specs.Claims.{formula_claims}
use Rattle.script_judge.specs.Numbers.{Notes}
use Rattle.script_judge.specs.Said.{Said, claims_behind}
use Rattle.script_judge.specs.Front.{front_leaves}
use Rattle.script_judge.specs.Judge.{Seen, seen_after, nothing_seen}
use Rattle.script_grammar.specs.Counted.{CasesAreCounted}
use Rattle.script_grammar.proofs.Kept.{IsKept}
use Rattle.script_grammar.proofs.Passing.{Passes, passes_of, passes_both, passes_kept}
use Rattle.script_grammar.proofs.WordRoles.{IsOfDefinition, IsOfProp, definition_roles, prop_roles}

-- ---- words that begin no part and no conjunction

abbrev IsNoSign : Due → Type 0
IsNoSign d.Connective = ⊥
IsNoSign r = Unit {0}

-- so many cases and conjunctions
record Counts (n m : ℕ) (seen : Seen) : Type 0 where
  cases : seen.counts.cases ≡ n
  conjunctions : seen.counts.conjunctions ≡ m

none_more : (n : ℕ) → n + 0 ≡ n
none_more n = omega arith

word_counts : (n m : ℕ) (v : Notes) (seen : Seen) (r : Due) (w : Word) → IsNoSign r
    → Counts n m seen → Counts n m (seen_after v seen r w)
word_counts n m v seen d.Connective w q h = absurd q
word_counts n m v seen r w q h = record {
  cases = h.cases;
  conjunctions = none_more seen.counts.conjunctions ∙ h.conjunctions;
}

words_count : (n m : ℕ) (ls : List Leaf) (seen last : Seen) → EachRole IsNoSign ls
    → Passes seen ls last → Counts n m seen → Counts n m last
words_count n m [] seen last q p h = subst (Counts n m) p h
words_count n m (l ∷ ls) seen last q p h = words_count n m ls
    (seen_after p.0 seen l.role l.word) last q.1 p.3
    (word_counts n m p.0 seen l.role l.word q.0 h)

prop_no_sign : (r : Due) → IsOfProp r → IsNoSign r
prop_no_sign d.Connective h = absurd h
prop_no_sign r h = tt

stated_no_sign : (p : Stated) → EachRole IsNoSign (stated_leaves p)
stated_no_sign (affirmed p) =
    each_as IsOfProp IsNoSign prop_no_sign (prop_leaves p) (prop_roles p)
stated_no_sign (denied p) =
    (tt, each_as IsOfProp IsNoSign prop_no_sign (prop_leaves p) (prop_roles p))

definition_no_sign : (r : Due) → IsOfDefinition r → IsNoSign r
definition_no_sign d.Connective h = absurd h
definition_no_sign r h = tt

-- ---- formulas

-- the counts are those of the parts
abbrev Counted : Parts Claim → Seen → Type 0
Counted p seen = Counts (case_count p.before) (suc (length p.ended)) seen

one_later : (n : ℕ) → n + 1 ≡ suc n
one_later n = omega arith

formula_counted : (f : Formula) (k : Known) (seen last : Seen) → Passes seen (formula_leaves f) last
    → Counts 1 1 seen → Counted (formula_claims f k).sides.parts last
formula_counted (single p) k seen last h c =
    words_count 1 1 (stated_leaves p) seen last (stated_no_sign p) h c
formula_counted (and f p) k seen last h c =
    let both = passes_both (formula_leaves f) _ seen last h in
    let parts = (formula_claims f k).sides.parts in
    let before = formula_counted f k seen both.0 both.1 c in
    let m = both.2 in
    words_count (case_count parts.before) (suc (length parts.ended)) (stated_leaves p)
    (seen_after m.0 both.0 d.Connective (sign s.And)) last (stated_no_sign p) m.3 (record {
      cases = before.cases;
      conjunctions = none_more both.0.counts.conjunctions ∙ before.conjunctions;
    })
formula_counted (or f p) k seen last h c =
    let both = passes_both (formula_leaves f) _ seen last h in
    let parts = (formula_claims f k).sides.parts in
    let before = formula_counted f k seen both.0 both.1 c in
    let m = both.2 in
    words_count (case_count parts.before) (suc (length (parts.ended ++ (parts.last ∷ []))))
    (stated_leaves p) (seen_after m.0 both.0 d.Connective (sign s.Or)) last (stated_no_sign p) m.3
    (record {
      cases = before.cases;
      conjunctions = omega
          (arith, before.conjunctions, length-append parts.ended (parts.last ∷ []));
    })
formula_counted (implies f p) k seen last h c =
    let both = passes_both (formula_leaves f) _ seen last h in
    let parts = (formula_claims f k).sides.parts in
    let before = formula_counted f k seen both.0 both.1 c in
    let m = both.2 in
    words_count (case_count (behind_arrow parts).before) 1 (stated_leaves p)
    (seen_after m.0 both.0 d.Connective (sign s.Arrow)) last (stated_no_sign p) m.3 (record {
      cases = (λ i. before.cases i * before.conjunctions i) ∙ sym (arrow_begins parts)
          ∙ mul-one (case_count (behind_arrow parts).before);
      conjunctions = refl;
    })

-- ---- scripts

front_few : (tree : Script) (k : Known) (seen last : Seen) → Passes seen (front_leaves tree) last
    → IsKept [] seen → Counts 1 1 seen
    → case_count (claims_behind tree k).sides.parts.before ≤ 64
front_few (formula f h) k seen last p kept c =
    let opened = seen_after p.0 seen d.Script (sign s.OpenBrace) in
    let both = passes_both (formula_leaves f) _ opened last p.3 in
    let parts = (formula_claims f k).sides.parts in
    let counted = formula_counted f k opened both.0 both.1
    (word_counts 1 1 p.0 seen d.Script (sign s.OpenBrace) tt c) in
    let few = (passes_kept [] (at d.Script (sign s.OpenBrace) ∷ formula_leaves f) seen both.0
    (p.0, p.1, p.2, both.1) kept).cases in
    let same : both.0.counts.cases * both.0.counts.conjunctions ≡ begun_cases parts =
    λ i. counted.cases i * counted.conjunctions i in
    omega (arith, few, same, few_before parts)
front_few (define x rest) k seen last p kept c =
    let both = passes_both (definition_leaves x) (front_leaves rest) seen last p in
    front_few rest (definition_value x k) both.0 last both.2
    (passes_kept [] (definition_leaves x) seen both.0 both.1 kept)
    (words_count 1 1 (definition_leaves x) seen both.0
    (each_as IsOfDefinition IsNoSign definition_no_sign (definition_leaves x) (definition_roles x))
    both.1 c)

pub cases_are_few : (tree : Script) (k : Known) (said : Option Said) (last : Seen)
    → Passes (nothing_seen said) (front_leaves tree) last
    → case_count (claims_behind tree k).sides.parts.before ≤ 64
cases_are_few tree k said last p = front_few tree k (nothing_seen said) last p
    (record { operators = λ n h. cc h; cases = omega arith; nodes = omega arith })
    (record { cases = refl; conjunctions = refl })

pub cases_are_counted : CasesAreCounted
cases_are_counted tree k said behind last p =
    cases_are_few tree k said last (passes_of (front_leaves tree) behind p)
