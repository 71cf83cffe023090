-- The last line, and what a script's laws give an evaluation.
use Rattle.std.specs.Prelude.{◌≡◌, ◌↔◌, ◌++◌, codes, ℕ, suc, List, [], ◌∷◌, length, Bool, true}
use Rattle.std.specs.Prelude.{false, IsTrue, refl}
use Rattle.std.specs.List.{AllByRecursion}
use Rattle.std.proofs.Common.{sym, ap, ◌∙◌, subst, append_assoc, Vec, Global, IfOk, Ok, Err, Result}
use Rattle.fx_model.specs.Expression.{Assignment, value}
use Rattle.fx_model.specs.declared.Node.{Node}
use Rattle.facts.specs.declared.hint.HintMark.{HintMark}
use Rattle.facts.proofs.CommonParts.{all_as}
use Rattle.script_cases.specs.Cases.{cases}
use Rattle.script_cases.proofs.Counted.{all_of_cases}
use Rattle.script_claims.specs.declared.claim.Claim.{Claim}
use Rattle.script_claims.specs.declared.claim.Claim.TheVariants as claim
use Rattle.script_hints.specs.declared.hint.Constraint.{Constraint}
use Rattle.script_hints.specs.declared.hint.Constraint.TheVariants as constraint
use Rattle.script_hints.specs.declared.hint.Hint.{Hint}
use Rattle.script_grammar.specs.Spells.{View}
use Rattle.script_grammar.specs.Names.{ClaimIsOf, ConstraintIsOf, HintIsOf, NamesNodes}
use Rattle.script_grammar.specs.Ranges.{HasFewCases}
use Rattle.script_meets.specs.Meets.{Meets}
use Rattle.point_values.specs.Among.{IsAmong, AreAmong}
use Rattle.point_values.specs.Text.{Bytes, hypothesis_line, goal_line, hint_line, lines_from}
use Rattle.point_values.specs.Text.{point_line}
use Rattle.point_values.specs.Rows.{Row}
use Rattle.point_values.specs.Evaluation.{Subject, subject_of, evaluation_of, meets}
use Rattle.point_values.specs.Within.{ClaimIsWithin, ConstraintIsWithin, HintIsWithin, AreWithin}
use Rattle.point_eval.specs.Judged.{judged_of, EndsIn}

-- ---- the last line
line_of_true : (b : Bool) → IsTrue b → point_line b ≡ codes "point: meets\n"
line_of_true true h = refl
line_of_true false h = absurd (cc)

line_of_false : (b : Bool) → ¬ IsTrue b → point_line b ≡ codes "point: misses\n"
line_of_false true h = absurd (h refl)
line_of_false false h = refl

behind_three : (a b c d end : Bytes) → d ≡ end → EndsIn (a ++ (b ++ (c ++ d))) end
behind_three a b c d end e = (
  a ++ (b ++ c),
  ap (λ d. a ++ (b ++ (c ++ d))) e
      ∙ ap (λ x. a ++ x) (sym (append_assoc b c end)) ∙ sym (append_assoc a (b ++ c) end),
)

ends_so : (s : Subject) (a : Assignment) (end : Bytes) → point_line (meets s a) ≡ end
    → EndsIn (evaluation_of s a) end
ends_so s a end e = behind_three (lines_from (hypothesis_line (value s.nodes a)) 0 s.hypotheses)
    (lines_from (goal_line (value s.nodes a)) 0 s.goals)
    (lines_from (hint_line (value s.nodes a)) 0 s.hints) (point_line (meets s a)) end e

pub met_ends : (s : View) (marks : List HintMark) (a : Assignment) (text : Bytes)
    → (IsTrue (meets (judged_of s marks) a) ↔ Meets a s)
    → text ≡ evaluation_of (judged_of s marks) a → Meets a s → EndsIn text (codes "point: meets\n")
met_ends s marks a text t e m = let r = ends_so (judged_of s marks) a (codes "point: meets\n")
    (line_of_true (meets (judged_of s marks) a) (t.1 m)) in (r.0, e ∙ r.1)

pub missed_ends : (s : View) (marks : List HintMark) (a : Assignment) (text : Bytes)
    → (IsTrue (meets (judged_of s marks) a) ↔ Meets a s)
    → text ≡ evaluation_of (judged_of s marks) a → ¬ Meets a s
    → EndsIn text (codes "point: misses\n")
missed_ends s marks a text t e n = let r = ends_so (judged_of s marks) a (codes "point: misses\n")
    (line_of_false (meets (judged_of s marks) a) (λ h. n (t.0 h))) in (r.0, e ∙ r.1)

-- ---- what is named is a node

claim_within : (n : ℕ) (c : Claim) → ClaimIsOf n c → ClaimIsWithin n c
claim_within n (claim.Bounded x l u) h = h
claim_within n (claim.Asked x) h = h
claim_within n (claim.Relative x y l u) h = h
claim_within n (claim.RelativeAsked x y) h = h
claim_within n (claim.Above x w) h = h
claim_within n (claim.Below x w) h = h
claim_within n (claim.Multiple x k) h = h

constraint_within : (n : ℕ) (c : Constraint) → ConstraintIsOf n c → ConstraintIsWithin n c
constraint_within n (constraint.NotZero x) h = h
constraint_within n (constraint.Below x w strict) h = h
constraint_within n (constraint.Above x w strict) h = h

hint_within : (n : ℕ) (h : Hint) → HintIsOf n h → HintIsWithin n h
hint_within n h i = record {
  left = i.sides.0;
  right = i.sides.1;
  constraints =
      all_as (ConstraintIsOf n) (ConstraintIsWithin n) (constraint_within n) h.constraints
      i.constraints;
}

pub within : (s : View) → NamesNodes s
    → AreWithin (length s.nodes) s.hypotheses s.goals s.hints.rewrites
within s h = record {
  hypotheses = all_as (ClaimIsOf (length s.nodes)) (ClaimIsWithin (length s.nodes))
      (claim_within (length s.nodes)) s.hypotheses h.hypotheses;
  goals = all_as (ClaimIsOf (length s.nodes)) (ClaimIsWithin (length s.nodes))
      (claim_within (length s.nodes)) s.goals h.goals;
  hints = all_as (HintIsOf (length s.nodes)) (HintIsWithin (length s.nodes))
      (hint_within (length s.nodes)) s.hints.rewrites h.hints.rewrites;
}

pub within_of : (s : View) (nodes : List Node) (cs gs : List Claim) (hs : List Hint)
    → nodes ≡ s.nodes → cs ≡ s.hypotheses → gs ≡ s.goals → hs ≡ s.hints.rewrites → NamesNodes s
    → AreWithin (length nodes) cs gs hs
within_of s nodes cs gs hs a b d e n = rw (a, b, d, e) (within s n)

-- what is judged is the script
pub judged_is : (s : View) (marks : List HintMark) (nodes : List Node) (cs : List Claim) (listed :
    List (List Claim)) (gs : List Claim) (hs : List Hint) (now rows : List Row)
    → nodes ≡ s.nodes → cs ≡ s.hypotheses → listed ≡ cases s.parts → gs ≡ s.goals
    → hs ≡ s.hints.rewrites → now ≡ rows
    → (let p : Subject × List Row = (subject_of nodes cs listed gs hs marks, now) in
    let q : Subject × List Row = (judged_of s marks, rows) in p ≡ q)
judged_is s marks nodes cs listed gs hs now rows a b d e f g = rw (a, b, d, e, f, g) refl

-- ---- the claims of a case are hypotheses
among_more : (x : Claim) (xs cs : List Claim)
    → AllByRecursion (IsAmong xs) cs → AllByRecursion (IsAmong (x ∷ xs)) cs
among_more x xs [] h = tt
among_more x xs (c ∷ cs) h = ((suc h.0.0, h.0.1), among_more x xs cs h.1)

among_all : (xs : List Claim) → AllByRecursion (IsAmong xs) xs
among_all [] = tt
among_all (x ∷ xs) = ((0, refl), among_more x xs xs (among_all xs))

pub cases_among : (s : View) (listed : List (List Claim))
    → HasFewCases s → listed ≡ cases s.parts → AreAmong s.hypotheses listed
cases_among s listed h e = subst (AreAmong s.hypotheses) (sym e)
    (all_of_cases (IsAmong s.hypotheses) s.parts
    (subst (AllByRecursion (IsAmong s.hypotheses)) h.hypotheses (among_all s.hypotheses)))

-- ---- of an answer
pub met_answer : (s : View) (marks : List HintMark) (a : Assignment) {E : Type 0} (r :
    Result (Vec ℕ Global) E) → (IsTrue (meets (judged_of s marks) a) ↔ Meets a s)
    → IfOk r (λ text. text.items ≡ evaluation_of (judged_of s marks) a)
    → IfOk r (λ text. Meets a s → EndsIn text.items (codes "point: meets\n"))
met_answer s marks a (Ok t) w h = met_ends s marks a t.items w h
met_answer s marks a (Err e) w h = tt

pub missed_answer : (s : View) (marks : List HintMark) (a : Assignment) {E : Type 0} (r :
    Result (Vec ℕ Global) E) → (IsTrue (meets (judged_of s marks) a) ↔ Meets a s)
    → IfOk r (λ text. text.items ≡ evaluation_of (judged_of s marks) a)
    → IfOk r (λ text. ¬ Meets a s → EndsIn text.items (codes "point: misses\n"))
missed_answer s marks a (Ok t) w h = missed_ends s marks a t.items w h
missed_answer s marks a (Err e) w h = tt
