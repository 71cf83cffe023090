-- A script that the judge lets pass has few goals: each is a proposition, and those are counted.
use Rattle.std.proofs.Common.{◌≡◌, ℕ, ◌+◌, ◌≤◌, List, [], ◌∷◌, length, true, refl, ap, ◌∙◌, subst}
use Rattle.std.proofs.Common.{arith, le_refl}
use Rattle.script_words.specs.declared.class.Symbol.TheVariants as s
use Rattle.script_words.specs.Words.{Word, sign}
use Rattle.script_shape.specs.declared.due.Due.{Due}
use Rattle.script_shape.specs.declared.due.Due.TheVariants as d
use Rattle.script_shape.specs.Propositions.{Prop, Stated, affirmed, denied, Formula, single, and}
use Rattle.script_shape.specs.Propositions.{or, implies}
use Rattle.script_shape.specs.Tree.{Script, formula, define}
use Rattle.script_shape.specs.Roles.{Leaf, at, prop_leaves, stated_leaves, formula_leaves}
use Rattle.script_shape.specs.Roles.{definition_leaves, script_leaves}
use Rattle.script_shape.proofs.Inner.{EachRole}
use Rattle.script_judge.specs.declared.counts.ScriptPart.TheVariants as place
use Rattle.script_judge.specs.Counts.{one_if, is_first, begins_proposition}
use Rattle.script_judge.specs.Judge.{Seen, seen_after, nothing_seen}
use Rattle.script_nodes.specs.Known.{Known}
use Rattle.script_nodes.specs.Definitions.{definition_value}
use Rattle.script_claims.specs.Claims.{formula_claims}
use Rattle.script_grammar.specs.CountedHints.{goals_behind, GoalsAreFew}
use Rattle.script_grammar.proofs.Passing.{Passes, passes_all, passes_both}
use Rattle.script_grammar.proofs.WordRoles.{IsOfProp, prop_roles}
use Rattle.script_grammar.proofs.Places.{HasFirst, prop_first}
use Rattle.script_grammar.proofs.FewHints.{IsWithin, all_within, none_within}
use Rattle.script_grammar.proofs.FewSaid.{joined_within}

-- ---- propositions are counted

counts_rise : (ls : List Leaf) (seen last : Seen) → Passes seen ls last
    → seen.counts.propositions ≤ last.counts.propositions
counts_rise [] seen last p =
    let n = seen.counts.propositions in
    subst (λ (x : Seen). n ≤ x.counts.propositions) p (le_refl n)
counts_rise (l ∷ ls) seen last p =
    let a = counts_rise ls (seen_after p.0 seen l.role l.word) last p.3 in
    omega arith

-- a word of a proposition is no `not` before it
never_not : (r : Due) → IsOfProp r → is_first r ≡ true
never_not d.Claim h = absurd h
never_not r h = refl

one_counted : (ls : List Leaf) (seen last : Seen) → HasFirst ls → EachRole IsOfProp ls
    → Passes seen ls last → seen.counts.place ≡ place.PropositionNext
    → 1 + seen.counts.propositions ≤ last.counts.propositions
one_counted [] seen last f h p e = absurd f
one_counted (l ∷ ls) seen last f h p e =
    let a = counts_rise ls (seen_after p.0 seen l.role l.word) last p.3 in
    let b : one_if (begins_proposition seen.counts.place l.role) ≡ 1 =
    ap (λ q. one_if (begins_proposition q l.role)) e ∙ ap one_if (never_not l.role h.0) in
    omega (arith, a, b)

prop_counted : (p : Prop) (seen last : Seen) → Passes seen (prop_leaves p) last
    → seen.counts.place ≡ place.PropositionNext
    → 1 + seen.counts.propositions ≤ last.counts.propositions
prop_counted p seen last passes e =
    one_counted (prop_leaves p) seen last (prop_first p) (prop_roles p) passes e

stated_counted : (p : Stated) (seen last : Seen) → Passes seen (stated_leaves p) last
    → seen.counts.place ≡ place.PropositionNext
    → 1 + seen.counts.propositions ≤ last.counts.propositions
stated_counted (affirmed p) seen last passes e = prop_counted p seen last passes e
stated_counted (denied p) seen last passes e =
    let a = prop_counted p (seen_after passes.0 seen d.Claim (sign s.Not)) last passes.3 e in
    omega (arith, a)

-- how many propositions a formula has
abbrev prop_count : Formula → ℕ
prop_count (single p) = 1
prop_count (and f p) = 1 + prop_count f
prop_count (or f p) = 1 + prop_count f
prop_count (implies f p) = 1 + prop_count f

-- n of them, and one more behind a connective
then_counted : (n : ℕ) (w : Word) (p : Stated) (seen mid last : Seen)
    → n + seen.counts.propositions ≤ mid.counts.propositions
    → Passes mid (at d.Connective w ∷ stated_leaves p) last
    → (1 + n) + seen.counts.propositions ≤ last.counts.propositions
then_counted n w p seen mid last before rest =
    let a = stated_counted p (seen_after rest.0 mid d.Connective w) last rest.3 refl in
    omega (arith, before, a)

formula_counted : (f : Formula) (seen last : Seen) → Passes seen (formula_leaves f) last
    → seen.counts.place ≡ place.PropositionNext
    → prop_count f + seen.counts.propositions ≤ last.counts.propositions
formula_counted (single p) seen last h e = stated_counted p seen last h e
formula_counted (and f p) seen last h e =
    let both = passes_both (formula_leaves f) _ seen last h in
    let before = formula_counted f seen both.0 both.1 e in
    then_counted (prop_count f) (sign s.And) p seen both.0 last before both.2
formula_counted (or f p) seen last h e =
    let both = passes_both (formula_leaves f) _ seen last h in
    let before = formula_counted f seen both.0 both.1 e in
    then_counted (prop_count f) (sign s.Or) p seen both.0 last before both.2
formula_counted (implies f p) seen last h e =
    let both = passes_both (formula_leaves f) _ seen last h in
    let before = formula_counted f seen both.0 both.1 e in
    then_counted (prop_count f) (sign s.Arrow) p seen both.0 last before both.2

-- ---- each goal is one of them

claims_few : (f : Formula) (k : Known) → length (formula_claims f k).sides.goals ≤ prop_count f
claims_few (single p) k = omega arith
claims_few (and f p) k =
    joined_within (formula_claims f k).sides.goals _ (prop_count f) (claims_few f k)
claims_few (or f p) k =
    joined_within (formula_claims f k).sides.goals _ (prop_count f) (claims_few f k)
claims_few (implies f p) k = omega arith

script_goals : (tree : Script) (k : Known) (seen last : Seen)
    → Passes seen (script_leaves tree) last → IsWithin seen → length (goals_behind tree k) ≤ 128
script_goals (formula f h) k seen last p within =
    let opened = seen_after p.0 seen d.Script (sign s.OpenBrace) in
    let both = passes_both (formula_leaves f) _ opened last p.3 in
    let brace = at d.Script (sign s.OpenBrace) ∷ [] in
    let a = all_within brace seen opened (p.0, p.1, p.2, refl) within in
    let b = all_within (formula_leaves f) opened both.0 both.1 a in
    let counted = formula_counted f opened both.0 both.1 refl in
    let few = b.propositions in
    let claims = claims_few f k in
    omega (arith, counted, few, claims)
script_goals (define x rest) k seen last p within =
    let both = passes_both (definition_leaves x) (script_leaves rest) seen last p in
    let behind = all_within (definition_leaves x) seen both.0 both.1 within in
    script_goals rest (definition_value x k) both.0 last both.2 behind

pub goals_are_few : GoalsAreFew
goals_are_few tree k said j =
    let all = passes_all (script_leaves tree) 0 (nothing_seen said) j in
    script_goals tree k (nothing_seen said) all.0 all.1 (none_within said)
