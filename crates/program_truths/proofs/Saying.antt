-- What the formula of a program's script claims.
use Rattle.std.proofs.Common.{◌≡◌, ◌<◌, suc, subst, List, [], ◌∷◌, ◌++◌, length, map, refl, sym, ap}
use Rattle.std.proofs.Common.{◌∙◌, arith, length-append, append_assoc, append-nil}
use Rattle.fx_model.specs.declared.ExprId.{ExprId}
use Rattle.script_shape.specs.Propositions.{between, Prop, Formula}
use Rattle.script_cases.specs.Parts.{Parts}
use Rattle.script_nodes.specs.Known.{Name, Known, named}
use Rattle.script_claims.specs.declared.claim.Claim.{Claim}
use Rattle.script_claims.specs.declared.claim.Claim.TheVariants.{Asked, Multiple}
use Rattle.script_claims.specs.Claims.{ranged, exponent_of, prop_claim, of_value, Sides, no_sides}
use Rattle.script_claims.specs.Claims.{with_goal, Claims, then_goal, then_arrow, no_claims}
use Rattle.script_claims.specs.Claims.{formula_claims}
use Rattle.fixprog.specs.Grammar.{Input, Step, Program, outputs}
use Rattle.fixprog.specs.Formats.{format_of, least, greatest}
use Rattle.program_truths.proofs.Trees.{place_whole, end_bound, word_bound, range_prop, place_prop}
use Rattle.program_truths.proofs.Trees.{format_prop, output_prop, input_props, goal_props, alone}
use Rattle.program_truths.proofs.Trees.{also, so, and_all, goals_behind, goals_alone, formula_of}
use Rattle.program_truths.proofs.Trees.{program_formula}

-- ---- propositions about names

-- a name, and what is claimed of its expression
abbrev pub Saying : Type 0
Saying = Name × (ExprId → Claim)

abbrev pub said_known : List Saying → Known → Known
said_known [] k = k
said_known (x ∷ xs) k = said_known xs (named k x.0).0

abbrev pub said_claims : List Saying → Known → List Claim
said_claims [] k = []
said_claims (x ∷ xs) k = x.1 (named k x.0).1 ∷ said_claims xs (named k x.0).0

abbrev with_said : Claims → List Saying → Claims
with_said cs [] = cs
with_said cs (x ∷ xs) = with_said (then_goal cs.sides (of_value x.1 (named cs.known x.0))) xs

abbrev joined_parts : Parts Claim → List Claim → Parts Claim
joined_parts p cs = record {
  items = p.items ++ cs;
  before = p.before;
  ended = p.ended;
  last = p.last ++ cs;
}

abbrev joined_sides : Sides → List Claim → Sides
joined_sides s cs = record {
  hypotheses = s.hypotheses;
  goals = s.goals ++ cs;
  parts = joined_parts s.parts cs;
}

joined_nil : (s : Sides) → s ≡ joined_sides s []
joined_nil s = simp append-nil

joined_more : (s : Sides) (c : Claim) (cs : List Claim)
    → joined_sides (with_goal s c) cs ≡ joined_sides s (c ∷ cs)
joined_more s c cs = simp append_assoc

said_is : (xs : List Saying) (cs : Claims) → with_said cs xs ≡ record {
  known = said_known xs cs.known;
  sides = joined_sides cs.sides (said_claims xs cs.known);
}
said_is [] cs = ap (λ s. record { known = cs.known; sides = s }) (joined_nil cs.sides)
said_is (x ∷ xs) cs =
    let q = named cs.known x.0 in
    said_is xs (then_goal cs.sides (of_value x.1 q))
    ∙ ap (λ s. record { known = said_known xs q.0; sides = s })
    (joined_more cs.sides (x.1 q.1) (said_claims xs q.0))

-- these propositions say so
abbrev AreSaid : List Prop → List Saying → Type 0
AreSaid [] [] = Unit {0}
AreSaid (p ∷ ps) (x ∷ xs) =
    ((k : Known) → prop_claim p k ≡ of_value x.1 (named k x.0)) × AreSaid ps xs
AreSaid _ _ = ⊥

and_said : (f : Formula) (k : Known) (ps : List Prop) (xs : List Saying) → AreSaid ps xs
    → formula_claims (and_all f ps) k ≡ with_said (formula_claims f k) xs
and_said f k [] [] h = refl
and_said f k [] (x ∷ xs) h = absurd h
and_said f k (p ∷ ps) [] h = absurd h
and_said f k (p ∷ ps) (x ∷ xs) h =
    and_said (also f p) k ps xs h.1
    ∙ ap (λ y. with_said (then_goal (formula_claims f k).sides y) xs)
    (h.0 (formula_claims f k).known)

alone_said : (k : Known) (ps : List Prop) (xs : List Saying) → 0 < length ps → AreSaid ps xs
    → formula_claims (goals_alone ps) k ≡ with_said (no_claims k) xs
alone_said k [] xs l h = absurd (omega arith)
alone_said k (p ∷ ps) [] l h = absurd h
alone_said k (p ∷ ps) (x ∷ xs) l h =
    and_said (alone p) k ps xs h.1 ∙ ap (λ y. with_said (then_goal no_sides y) xs) (h.0 k)

behind_said : (f : Formula) (k : Known) (ps : List Prop) (xs : List Saying) → 0 < length ps
    → AreSaid ps xs
    → formula_claims (goals_behind f ps) k ≡ with_said (then_arrow (formula_claims f k)) xs
behind_said f k [] xs l h = absurd (omega arith)
behind_said f k (p ∷ ps) [] l h = absurd h
behind_said f k (p ∷ ps) (x ∷ xs) l h =
    and_said (so f p) k ps xs h.1
    ∙ ap (λ y. with_said (then_goal (then_arrow (formula_claims f k)).sides y) xs)
    (h.0 (formula_claims f k).known)

-- ---- those of programs

abbrev pub range_saying : Input → Saying
range_saying x = (x.name, ranged (between (end_bound x.lower) (end_bound x.upper)))

abbrev pub place_saying : Input → Saying
place_saying x = (x.name, λ y. Multiple y (exponent_of (place_whole (format_of x.format).places)))

abbrev pub input_sayings : List Input → List Saying
input_sayings [] = []
input_sayings (x ∷ xs) = range_saying x ∷ (place_saying x ∷ input_sayings xs)

abbrev pub format_saying : Step → Saying
format_saying x =
    let f = format_of x.format in
    (x.name, ranged (between (word_bound (least f) f) (word_bound (greatest f) f)))

abbrev pub output_saying : Name → Saying
output_saying t = (t, λ y. Asked y)

abbrev pub goal_sayings : Program → List Saying
goal_sayings p = map format_saying p.steps ++ map output_saying (outputs p)

inputs_said : (xs : List Input) → AreSaid (input_props xs) (input_sayings xs)
inputs_said [] = tt
inputs_said (x ∷ xs) = ((λ k. refl), ((λ k. refl), inputs_said xs))

outputs_said : (ts : List Name) → AreSaid (map output_prop ts) (map output_saying ts)
outputs_said [] = tt
outputs_said (t ∷ ts) = ((λ k. refl), outputs_said ts)

steps_said : (xs : List Step) (ts : List Name)
    → AreSaid (map format_prop xs ++ map output_prop ts)
    (map format_saying xs ++ map output_saying ts)
steps_said [] ts = outputs_said ts
steps_said (x ∷ xs) ts = ((λ k. refl), steps_said xs ts)

some_goal : (p : Program) → 0 < length (goal_props p)
some_goal p =
    let n = length-append (map format_prop p.steps) (map output_prop (outputs p)) in
    let o : length (map output_prop (outputs p)) ≡ suc (length (map output_prop p.more_outputs)) =
    refl in
    omega (arith, n, o)

abbrev pub parts_before : List Saying → Known → List (List (List Claim))
parts_before [] k = []
parts_before (x ∷ xs) k = (said_claims (x ∷ xs) k ∷ []) ∷ []

-- The claims of a program's script behind its definitions.
pub record IsClaimed (xs : List Input) (gs : List Saying) (k : Known) (cs : Claims) : Type 0 where
  pub known : cs.known ≡ said_known gs (said_known (input_sayings xs) k)
  pub hypotheses : cs.sides.hypotheses ≡ said_claims (input_sayings xs) k
  pub goals : cs.sides.goals ≡ said_claims gs (said_known (input_sayings xs) k)
  pub parts : cs.sides.parts.before ≡ parts_before (input_sayings xs) k

of_all : (xs : List Input) (gs : List Saying) (k : Known) (cs ds : Claims) → cs ≡ ds
    → IsClaimed xs gs k ds → IsClaimed xs gs k cs
of_all xs gs k cs ds e h = subst (IsClaimed xs gs k) (sym e) h

claims_with : (p : Program) (xs : List Input) (k : Known)
    → IsClaimed xs (goal_sayings p) k (formula_claims (formula_of (input_props xs) (goal_props p))
    k)
claims_with p [] k =
    of_all [] (goal_sayings p) k _ _
    (alone_said k (goal_props p) (goal_sayings p) (some_goal p) (steps_said p.steps (outputs p))
    ∙ said_is (goal_sayings p) (no_claims k))
    (record { known = refl; hypotheses = refl; goals = refl; parts = refl })
claims_with p (x ∷ xs) k =
    let hs = input_sayings (x ∷ xs) in
    let first : formula_claims (and_all (alone (range_prop x)) (place_prop x ∷ input_props xs)) k
    ≡ with_said (no_claims k) hs =
    alone_said k (input_props (x ∷ xs)) hs (omega arith) (inputs_said (x ∷ xs)) in
    of_all (x ∷ xs) (goal_sayings p) k _ _
    (behind_said (and_all (alone (range_prop x)) (place_prop x ∷ input_props xs)) k (goal_props p)
    (goal_sayings p) (some_goal p) (steps_said p.steps (outputs p))
    ∙ ap (λ cs. with_said (then_arrow cs) (goal_sayings p))
    (first ∙ said_is hs (no_claims k))
    ∙ said_is (goal_sayings p) _)
    (record { known = refl; hypotheses = refl; goals = refl; parts = refl })

pub program_claims : (p : Program) (k : Known)
    → IsClaimed p.inputs (goal_sayings p) k (formula_claims (program_formula p) k)
program_claims p k = claims_with p p.inputs k
