-- A script that a text spells has room for its certificates, and its goals are about slots of its
-- universe.
use Rattle.std.specs.Prelude.{ℕ, ◌+◌, ◌<◌, ◌≤◌, ◌^◌, List, [], ◌∷◌, ◌++◌, length, map, Option, Some}
use Rattle.std.specs.Prelude.{None, refl}
use Rattle.std.specs.List.{AllByRecursion}
use Rattle.std.proofs.Common.{sym, ap, subst, inr, arith, length-append}
use Rattle.std.proofs.lemmas.List.{length-map}
use Rattle.fx_model.specs.declared.Node.{Node}
use Rattle.pair_closure.specs.Reached.{Has}
use Rattle.pair_closure.specs.Reached.IsReached.{begin}
use Rattle.pair_closure.specs.Closure.{Pair, difference_of}
use Rattle.pair_closure.proofs.Members.{has_left, has_right}
use Rattle.facts.specs.declared.fact.Fact.{Fact}
use Rattle.goals.specs.declared.goal.Goal.{Goal}
use Rattle.script_words.specs.Lex.{LexesOnce}
use Rattle.script_shape.specs.Roles.{LeavesAreOfTrees}
use Rattle.script_nodes.specs.Known.{nothing_known}
use Rattle.script_claims.specs.declared.claim.Claim.{Claim}
use Rattle.script_claims.specs.declared.claim.Claim.TheVariants.{Bounded, Asked, Relative}
use Rattle.script_claims.specs.declared.claim.Claim.TheVariants.{RelativeAsked, Multiple, Above}
use Rattle.script_claims.specs.declared.claim.Claim.TheVariants.{Below}
use Rattle.script_claims.specs.Facts.{hypothesis_fact, slot_of, goal_of, with_fact, facts_of}
use Rattle.script_grammar.specs.CountedHints.{HasFewHints}
use Rattle.script_grammar.specs.Spells.{View, SpelledAreShort}
use Rattle.script_grammar.specs.Names.{ClaimIsOf}
use Rattle.script_grammar.specs.Cases.{cases_of}
use Rattle.script_grammar.specs.Ranges.{SpelledHaveFewCases}
use Rattle.script_grammar.specs.Few.{SpelledHaveFewHints, SpelledHaveFewConstraints, constraints_in}
use Rattle.rule_universe.specs.Worlds.{World, IsSlot, HasSlot, IsWhole}
use Rattle.universe.specs.Starts.{claim_pairs, claims_pairs, hints_pairs}
use Rattle.universe.specs.Cases.{AreHypotheses}
use Rattle.universe.proofs.Cases.{cases_have_hypotheses}
use Rattle.universe.specs.Universes.{HypothesesHaveSlots}
use Rattle.universe.proofs.Universes.{assumed}
use Rattle.script_truths.specs.Truths.{HasUniverse}
use Rattle.cert_checker.specs.Faults.{IsVariable}
use Rattle.answer_certificates.specs.Scripts.{in_case, IsCaseOf, IsBuilt, ScriptsHaveRoom}
use Rattle.answer_certificates.specs.Scripts.{GoalsHaveSlots}
use Rattle.answer_certificates.proofs.Numbered.{AreNumbered, script_numbered}
use Rattle.answer_certificates.proofs.Passed.{spelled_passes}
use Rattle.answer_certificates.proofs.FewClaims.{claims_few}
use Rattle.answer_certificates.proofs.InCases.{cases_short, some_case}
use Rattle.answer_certificates.proofs.SplitNames.{splits_are_variables}

-- ---- a hypothesis gives one fact at most
fact_counted : (o : Option Fact) (fs : List Fact) → length (with_fact o fs) ≤ 1 + length fs
fact_counted None fs = omega arith
fact_counted (Some f) fs = omega arith

facts_counted : (cs : List Claim) → length (facts_of cs) ≤ length cs
facts_counted [] = omega arith
facts_counted (c ∷ cs) =
    omega (arith, fact_counted (hypothesis_fact c) (facts_of cs), facts_counted cs)

-- ---- slots of goals
module _ (nodes : List Node) (n m : ℕ) (pairs : List Pair) (longer : n ≤ m) where
  claim_slot : (c : Claim) → ClaimIsOf n c
      → ((p : Pair) → Has (claim_pairs nodes c) p → Has pairs p) → IsSlot m pairs (slot_of c)
  claim_slot (Bounded x lower upper) k e = omega (arith, k, longer)
  claim_slot (Asked x) k e = omega (arith, k, longer)
  claim_slot (Relative x y lower upper) k e = e (x, y) (0, refl)
  claim_slot (RelativeAsked x y) k e = e (x, y) (0, refl)
  claim_slot (Multiple x j) k e = omega (arith, k, longer)
  claim_slot (Above x w) k e = omega (arith, k, longer)
  claim_slot (Below x w) k e = omega (arith, k, longer)

  goal_slots : (cs : List Claim)
      → AllByRecursion (ClaimIsOf n) cs → ((p : Pair) → Has (claims_pairs nodes cs) p → Has pairs p)
      → AllByRecursion (λ (g : Goal). IsSlot m pairs g.of) (map goal_of cs)
  goal_slots [] k e = tt
  goal_slots (c ∷ cs) k e = (
    claim_slot c k.0 (λ p h. e p (has_left (claim_pairs nodes c) (claims_pairs nodes cs) p h)),
    goal_slots cs k.1 (λ p h. e p (has_right (claim_pairs nodes c) (claims_pairs nodes cs) p h)),
  )

pub goals_have_slots : GoalsHaveSlots
goals_have_slots s before u names universe =
    let closure = universe.closure in
    let followed = closure.order in
    let longer : length s.nodes ≤ length u.nodes = omega (
      arith,
      ap length followed.list,
      length-append s.nodes (map difference_of followed.differences),
    ) in
    let hypotheses = claims_pairs s.nodes s.hypotheses in
    let goals = claims_pairs s.nodes s.goals in
    let rewrites = hints_pairs s.nodes s.hints.rewrites in
    let there : (p : Pair) → Has goals p → Has u.pairs p =
    λ p h. closure.pairs.each p
    (begin p (inr (has_right s.hints.likes (hypotheses ++ (goals ++ rewrites)) p
    (has_right hypotheses (goals ++ rewrites) p (has_left goals rewrites p h))))) in
    subst (AllByRecursion (λ (g : Goal). HasSlot u g.of)) (sym universe.goals)
    (goal_slots s.nodes (length s.nodes) (length u.nodes) u.pairs longer s.goals names.goals there)

-- ---- room
module _ (s : View) (before : List Claim) (u : World) (has : HasUniverse s before u)
    (built : IsBuilt u) (few : HasFewHints s.hints)
    (constraints : constraints_in s.hints.rewrites ≤ 2 ^ 18) (slots : HypothesesHaveSlots)
    (numbered : AreNumbered s.nodes s.variables) (short : length s.nodes ≤ 512)
    (splits : AllByRecursion (IsVariable s.nodes) s.hints.order)
    (claimed : length s.hypotheses + length s.goals ≤ 130) where
  case_whole : (claims : List Claim) → AreHypotheses s claims → IsWhole (in_case u claims)
  case_whole claims are = record {
    once = built.whole.once;
    few = built.whole.few;
    closed = built.whole.closed;
    targets = built.whole.targets;
    premises = built.whole.premises;
    hypotheses = slots s before claims u has.names has.universe are;
  }

  case_room : (claims : List Claim) → AreHypotheses s claims
      → length claims ≤ length s.hypotheses → IsCaseOf s u claims
  case_room claims are fewer = (
    record {
      names = has.names;
      ordered = has.ordered;
      universe = assumed s u before claims has.universe are;
      nodes = has.nodes;
    },
    record {
      whole = case_whole claims are;
      lawful = built.lawful;
      short = built.short;
      goals = omega (arith, claimed, ap length has.universe.goals, length-map s.goals goal_of);
      hints = few;
      constraints = constraints;
      hypotheses = omega (arith, claimed, fewer, facts_counted claims);
      numbers = λ x v e.
          let low = numbered.below x v e in
          let names = numbered.few in
          omega (arith, low, names, short);
      splits = splits;
    },
  )

  each_room : (cs : List (List Claim)) → AllByRecursion (AreHypotheses s) cs
      → AllByRecursion (λ c. length c ≤ length s.hypotheses) cs → AllByRecursion (IsCaseOf s u) cs
  each_room [] are fewer = tt
  each_room (c ∷ cs) are fewer = (case_room c are.0 fewer.0, each_room cs are.1 fewer.1)

-- what the script's tree says of it
abbrev AreFewClaims : View → Type 0
AreFewClaims v = length v.hypotheses + length v.goals ≤ 130

abbrev SplitsAreVariables : View → Type 0
SplitsAreVariables v = AllByRecursion (IsVariable v.nodes) v.hints.order

pub scripts_have_room : SpelledAreShort → SpelledHaveFewHints → SpelledHaveFewConstraints
    → SpelledHaveFewCases
    → LexesOnce → LeavesAreOfTrees → HypothesesHaveSlots → ScriptsHaveRoom
scripts_have_room short hints constraints cases lexes are slots text s before u p has built =
    let passes = spelled_passes lexes are text s p in
    let few = cases text s p in
    let claimed : AreFewClaims s =
    subst AreFewClaims (sym p.says) (claims_few p.tree nothing_known passes.0 passes.1) in
    let numbered : AreNumbered s.nodes s.variables =
    subst (λ (v : View). AreNumbered v.nodes v.variables) (sym p.says) (script_numbered p.tree) in
    let splits : SplitsAreVariables s =
    subst SplitsAreVariables (sym p.says) (splits_are_variables p.tree passes.0 passes.1) in
    let fewer : AllByRecursion (λ c. length c ≤ length s.hypotheses) (cases_of s) =
    subst (λ (cs : List Claim). AllByRecursion (λ c. length c ≤ length cs) (cases_of s))
    (sym few.hypotheses) (cases_short s.parts) in
    let some : 0 < length (cases_of s) =
    subst (λ (v : View). 0 < length (cases_of v)) (sym p.says) (some_case p.tree nothing_known) in
    let each = each_room s before u has built (hints text s p)
    (constraints text s p) slots numbered (short text s p)
    splits claimed (cases_of s) (cases_have_hypotheses s few) fewer in
    record { some = some; few = few.few; each = each }
