-- A script has few claims: the judge counts them.
use Rattle.std.specs.Prelude.{◌≡◌, ℕ, ◌+◌, ◌≤◌, List, [], ◌∷◌, ◌++◌, length, Option, None, true}
use Rattle.std.proofs.Common.{refl, sym, subst, arith, length-append}
use Rattle.script_words.specs.declared.class.Symbol.TheVariants as s
use Rattle.script_words.specs.Words.{Word, sign}
use Rattle.script_shape.specs.declared.due.Due.{Due}
use Rattle.script_shape.specs.declared.due.Due.TheVariants as d
use Rattle.script_shape.specs.Propositions.{Formula, single, and, or, implies}
use Rattle.script_shape.specs.Tree.{Script, formula, define}
use Rattle.script_shape.specs.Roles.{Leaf, at, stated_leaves, formula_leaves, hints_leaves}
use Rattle.script_shape.specs.Roles.{definition_leaves, script_leaves}
use Rattle.script_judge.specs.declared.counts.ScriptPart.{ScriptPart}
use Rattle.script_judge.specs.declared.counts.ScriptPart.TheVariants as place
use Rattle.script_judge.specs.Counts.{one_if, is_first, begins_proposition, place_after}
use Rattle.script_judge.specs.Said.{Said}
use Rattle.script_judge.specs.Judge.{Seen, seen_after, Judged, nothing_seen}
use Rattle.script_nodes.specs.Known.{Known}
use Rattle.script_nodes.specs.Definitions.{definition_value}
use Rattle.script_claims.specs.Claims.{stated_claim, formula_claims}
use Rattle.script_grammar.specs.Meaning.{meaning_from}
use Rattle.answer_certificates.proofs.Passed.{one_passed, within_limits}

-- the words that stand between two propositions
abbrev connective : Due → ℕ
connective d.Connective = 1
connective r = 0

abbrev connectives : List Leaf → ℕ
connectives [] = 0
connectives (l ∷ ls) = connective l.role + connectives ls

both_counted : (a b : List Leaf) → connectives (a ++ b) ≡ connectives a + connectives b
both_counted [] b = omega arith
both_counted (l ∷ a) b = omega (arith, both_counted a b)

-- ---- the judge counts a proposition behind each

-- whether a proposition is to begin, which a `not` before it puts off
abbrev pending : ScriptPart → ℕ
pending place.PropositionNext = 1
pending p = 0

pending_most : (p : ScriptPart) → pending p ≤ 1
pending_most place.PropositionNext = omega arith
pending_most p = omega arith

pending_first : (p : ScriptPart) (r : Due) → is_first r ≡ true
    → pending p ≤ one_if (begins_proposition p r)
pending_first place.PropositionNext r e = subst (λ b. 1 ≤ one_if b) (sym e) (omega arith)
pending_first p r e = omega arith

begins_next : (p : ScriptPart) (r : Due) (w : Word)
    → connective r + pending p ≤ pending (place_after p r w) + one_if (begins_proposition p r)
begins_next p d.Claim w = omega arith
begins_next p d.Connective w = omega (arith, pending_first p d.Connective refl)
begins_next p r w = omega (arith, pending_first p r refl)

connectives_counted : (ls : List Leaf) (i : ℕ) (seen : Seen) → Judged i seen ls None
    → seen.counts.propositions ≤ 128
    → connectives ls + pending seen.counts.place + seen.counts.propositions ≤ 129
connectives_counted [] i seen j h = omega (arith, h, pending_most seen.counts.place)
connectives_counted (l ∷ ls) i seen j h =
    let o = one_passed i seen l ls j in
    let after = seen_after o.notes seen l.role l.word in
    let more = connectives_counted ls (i + 1) after o.rest
    (within_limits o.notes seen l ls o.passes) in
    omega (arith, more, begins_next seen.counts.place l.role l.word)

-- ---- a formula has one claim more than these

formula_counted : (f : Formula) (k : Known) → length (formula_claims f k).sides.hypotheses
    + length (formula_claims f k).sides.goals ≤ 1 + connectives (formula_leaves f)
formula_counted (single p) k = omega arith
formula_counted (and f p) k =
    let before = formula_claims f k in
    let goals = length-append before.sides.goals ((stated_claim p before.known).1 ∷ []) in
    omega (
      arith,
      goals,
      formula_counted f k,
      both_counted (formula_leaves f) (at d.Connective (sign s.And) ∷ stated_leaves p),
    )
formula_counted (or f p) k =
    let before = formula_claims f k in
    let goals = length-append before.sides.goals ((stated_claim p before.known).1 ∷ []) in
    omega (
      arith,
      goals,
      formula_counted f k,
      both_counted (formula_leaves f) (at d.Connective (sign s.Or) ∷ stated_leaves p),
    )
formula_counted (implies f p) k =
    let before = formula_claims f k in
    omega (
      arith,
      formula_counted f k,
      length-append before.sides.hypotheses before.sides.goals,
      both_counted (formula_leaves f) (at d.Connective (sign s.Arrow) ∷ stated_leaves p),
    )

script_counted : (tree : Script) (k : Known) → length (meaning_from tree k).hypotheses
    + length (meaning_from tree k).goals ≤ 1 + connectives (script_leaves tree)
script_counted (formula f h) k = omega (
  arith,
  formula_counted f k,
  both_counted (formula_leaves f) (at d.CloseBrace (sign s.CloseBrace) ∷ hints_leaves h),
)
script_counted (define x rest) k = omega (
  arith,
  script_counted rest (definition_value x k),
  both_counted (definition_leaves x) (script_leaves rest),
)

-- A script whose words pass the judge has few hypotheses and goals.
pub claims_few : (tree : Script) (k : Known) (said : Option Said)
    → Judged 0 (nothing_seen said) (script_leaves tree) None
    → length (meaning_from tree k).hypotheses + length (meaning_from tree k).goals ≤ 130
claims_few tree k said j = omega (
  arith,
  script_counted tree k,
  connectives_counted (script_leaves tree) 0 (nothing_seen said) j (omega arith),
)
