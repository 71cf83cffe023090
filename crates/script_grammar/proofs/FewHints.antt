-- A script that the judge lets pass has few hints.
use Rattle.std.proofs.Common.{◌≡◌, ℕ, ◌+◌, ◌≤◌, nat_lt, List, [], ◌∷◌, length, None, Bool, refl, ap}
use Rattle.std.proofs.Common.{Option, subst, arith, le_refl}
use Rattle.std.proofs.lemmas.Bool.{ltb-false, or_parts}
use Rattle.script_words.specs.declared.class.Symbol.TheVariants as s
use Rattle.script_words.specs.Words.{sign}
use Rattle.script_shape.specs.declared.due.Due.TheVariants as d
use Rattle.script_shape.specs.Propositions.{Prop, Stated, affirmed, denied, Formula, single, and}
use Rattle.script_shape.specs.Propositions.{or, implies}
use Rattle.script_shape.specs.Hints.{Hints, no_hint, hint}
use Rattle.script_shape.specs.Tree.{Script, formula, define}
use Rattle.script_shape.specs.Roles.{Leaf, at, prop_leaves, stated_leaves, formula_leaves}
use Rattle.script_shape.specs.Roles.{hint_leaves, hints_leaves, definition_leaves, script_leaves}
use Rattle.script_judge.specs.declared.counts.Counts.{Counts}
use Rattle.script_judge.specs.declared.counts.ScriptPart.TheVariants as place
use Rattle.script_judge.specs.Counts.{one_if, begins_hint, place_after}
use Rattle.script_judge.specs.Said.{Said}
use Rattle.script_judge.specs.Judge.{Seen, seen_after, form_refusal, limit_kind, limit_refusal}
use Rattle.script_judge.specs.Judge.{Judged, nothing_seen}
use Rattle.script_judge.proofs.JudgeLaws.{fails, both_none}
use Rattle.script_judge.specs.Sides.{has_arrow}
use Rattle.script_grammar.proofs.Passing.{Passes, passes_all, passes_both}
use Rattle.script_grammar.proofs.WordRoles.{IsOfProp, prop_roles, IsOfHint, hint_roles}
use Rattle.script_grammar.proofs.Places.{HasFirst, prop_first, hint_first, prop_enters, prop_stays}
use Rattle.script_grammar.proofs.Places.{hint_enters, hint_stays, first_comes}

-- ---- what the judge lets pass is within its limits

pub record IsWithin (seen : Seen) : Type 0 where
  pub propositions : seen.counts.propositions ≤ 128
  pub hints : seen.counts.hints ≤ 64
  pub splits : seen.counts.splits ≤ 4
  pub pieces : seen.counts.pieces ≤ 64

-- the counts, and so many that are halved
pub record AreWithin (n : ℕ) (c : Counts) : Type 0 where
  pub propositions : c.propositions ≤ 128
  pub hints : c.hints ≤ 64
  pub splits : c.splits ≤ 4
  pub halved : n ≤ 4
  pub pieces : c.pieces ≤ 64

pub limits_hold : (opened halved : ℕ) (c : Counts) (lsb past : Bool)
    → limit_kind opened halved c lsb past ≡ None → AreWithin halved c
limits_hold opened halved c lsb past h =
    let nesting = fails (nat_lt 64 opened) _ _ h in
    let definitions = fails (nat_lt 256 c.definitions) _ _ nesting.1 in
    let propositions = fails (nat_lt 128 c.propositions) _ _ definitions.1 in
    let hints = fails (nat_lt 64 c.hints) _ _ propositions.1 in
    let nodes = fails (nat_lt 512 c.nodes) _ _ hints.1 in
    let low = fails lsb _ _ nodes.1 in
    let splits = fails _ _ _ low.1 in
    let more = fails _ _ _ splits.1 in
    record {
      propositions = ltb-false 128 c.propositions propositions.0;
      hints = ltb-false 64 c.hints hints.0;
      splits = ltb-false 4 c.splits (or_parts _ _ splits.0).0;
      halved = ltb-false 4 halved (or_parts _ _ splits.0).1;
      pieces = ltb-false 64 c.pieces (or_parts _ _ more.0).0;
    }

pub all_within : (ls : List Leaf) (seen last : Seen) → Passes seen ls last
    → IsWithin seen → IsWithin last
all_within [] seen last p h = subst IsWithin p h
all_within (l ∷ ls) seen last p h =
    let after = seen_after p.0 seen l.role l.word in
    let limits = both_none (form_refusal p.0 seen l.role l.word (has_arrow p.1) p.1)
    (limit_refusal after l.role l.word) p.2 in
    let holds = limits_hold _ (length after.names.halved) after.counts _ _ limits.1 in
    all_within ls after last p.3 (record {
      propositions = holds.propositions;
      hints = holds.hints;
      splits = holds.splits;
      pieces = holds.pieces;
    })

-- ---- hints are counted

counts_rise : (ls : List Leaf) (seen last : Seen) → Passes seen ls last
    → seen.counts.hints ≤ last.counts.hints
counts_rise [] seen last p =
    subst (λ (x : Seen). seen.counts.hints ≤ x.counts.hints) p (le_refl seen.counts.hints)
counts_rise (l ∷ ls) seen last p =
    let a = counts_rise ls (seen_after p.0 seen l.role l.word) last p.3 in omega arith

one_counted : (ls : List Leaf) (seen last : Seen) → HasFirst ls → Passes seen ls last
    → seen.counts.place ≡ place.HintNext → 1 + seen.counts.hints ≤ last.counts.hints
one_counted [] seen last f p e = absurd f
one_counted (l ∷ ls) seen last f p e =
    let a = counts_rise ls (seen_after p.0 seen l.role l.word) last p.3 in
    let b : one_if (begins_hint seen.counts.place) ≡ 1 = ap (λ q. one_if (begins_hint q)) e in
    omega (arith, a, b)

abbrev pub hint_count : Hints → ℕ
hint_count no_hint = 0
hint_count (hint h l) = 1 + hint_count l

pub hints_counted : (h : Hints) (seen last : Seen) → Passes seen (hints_leaves h) last
    → seen.counts.place ≡ place.HintNext → hint_count h + seen.counts.hints ≤ last.counts.hints
hints_counted no_hint seen last p e = let a = counts_rise [] seen last p in omega arith
hints_counted (hint h l) seen last p e =
    let both = passes_both (hint_leaves h) _ seen last p in
    let mid = both.0 in
    let rest = both.2 in
    let one = one_counted (hint_leaves h) seen mid (hint_first h) both.1 e in
    let there = first_comes IsOfHint place.HintNext place.Hints hint_enters hint_stays
    (hint_leaves h) seen mid (hint_first h) (hint_roles h) both.1 e in
    let more = hints_counted l (seen_after rest.0 mid d.Semicolon (sign s.Semicolon)) last rest.3
    (ap (λ q. place_after q d.Semicolon (sign s.Semicolon)) there) in
    omega (arith, one, more)

-- ---- the hints of a script begin behind the brace of its formula

prop_ends : (p : Prop) (seen last : Seen) → Passes seen (prop_leaves p) last
    → seen.counts.place ≡ place.PropositionNext → last.counts.place ≡ place.Formula
prop_ends p seen last passes e = first_comes IsOfProp place.PropositionNext place.Formula
    prop_enters prop_stays (prop_leaves p) seen last (prop_first p) (prop_roles p) passes e

-- behind `not` the proposition is still to begin
stated_ends : (p : Stated) (seen last : Seen) → Passes seen (stated_leaves p) last
    → seen.counts.place ≡ place.PropositionNext → last.counts.place ≡ place.Formula
stated_ends (affirmed p) seen last passes e = prop_ends p seen last passes e
stated_ends (denied p) seen last passes e =
    prop_ends p (seen_after passes.0 seen d.Claim (sign s.Not)) last passes.3 e

formula_ends : (f : Formula) (seen last : Seen) → Passes seen (formula_leaves f) last
    → seen.counts.place ≡ place.PropositionNext → last.counts.place ≡ place.Formula
formula_ends (single p) seen last h e = stated_ends p seen last h e
formula_ends (and f p) seen last h e =
    let both = passes_both (formula_leaves f) _ seen last h in let rest = both.2 in
    stated_ends p (seen_after rest.0 both.0 d.Connective (sign s.And)) last rest.3 refl
formula_ends (or f p) seen last h e =
    let both = passes_both (formula_leaves f) _ seen last h in let rest = both.2 in
    stated_ends p (seen_after rest.0 both.0 d.Connective (sign s.Or)) last rest.3 refl
formula_ends (implies f p) seen last h e =
    let both = passes_both (formula_leaves f) _ seen last h in let rest = both.2 in
    stated_ends p (seen_after rest.0 both.0 d.Connective (sign s.Arrow)) last rest.3 refl

-- the judge's places before and behind the hints
pub record HintsPass (h : Hints) : Type 0 where
  pub before : Seen
  pub behind : Seen
  pub passes : Passes before (hints_leaves h) behind
  pub place : before.counts.place ≡ place.HintNext
  pub within : IsWithin before

abbrev pub hints_of : Script → Hints
hints_of (formula f h) = h
hints_of (define x rest) = hints_of rest

script_passes : (tree : Script) (seen last : Seen) → Passes seen (script_leaves tree) last
    → IsWithin seen → HintsPass (hints_of tree)
script_passes (formula f h) seen last p within =
    let opened = seen_after p.0 seen d.Script (sign s.OpenBrace) in
    let both = passes_both (formula_leaves f) _ opened last p.3 in
    let mid = both.0 in
    let rest = both.2 in
    let ends = formula_ends f opened mid both.1 refl in
    let closed = seen_after rest.0 mid d.CloseBrace (sign s.CloseBrace) in
    let a = all_within (at d.Script (sign s.OpenBrace) ∷ []) seen opened
    (p.0, p.1, p.2, refl) within in
    let b = all_within (formula_leaves f) opened mid both.1 a in
    record {
      before = closed;
      behind = last;
      passes = rest.3;
      place = ap (λ q. place_after q d.CloseBrace (sign s.CloseBrace)) ends;
      within = all_within (at d.CloseBrace (sign s.CloseBrace) ∷ []) mid closed
          (rest.0, rest.1, rest.2, refl) b;
    }
script_passes (define x rest) seen last p within =
    let both = passes_both (definition_leaves x) (script_leaves rest) seen last p in
    script_passes rest both.0 last both.2
    (all_within (definition_leaves x) seen both.0 both.1 within)

-- before the first word
pub none_within : (said : Option Said) → IsWithin (nothing_seen said)
none_within said = record {
  propositions = omega arith;
  hints = omega arith;
  splits = omega arith;
  pieces = omega arith;
}

pub hints_pass : (tree : Script) (said : Option Said)
    → Judged 0 (nothing_seen said) (script_leaves tree) None → HintsPass (hints_of tree)
hints_pass tree said j =
    let all = passes_all (script_leaves tree) 0 (nothing_seen said) j in
    script_passes tree (nothing_seen said) all.0 all.1 (none_within said)
