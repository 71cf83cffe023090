-- A script that a text spells has few nodes, few hints and few goals, and its splits have ranges.
use Rattle.std.specs.Prelude.{◌≡◌, ℕ, ◌≤◌, List, [], length, Option, Some, None, refl}
use Rattle.std.proofs.Common.{◌<◌, sym, ap, ◌∙◌, subst, arith, append-nil}
use Rattle.script_words.specs.Lex.{LexesOnce}
use Rattle.script_words.specs.Named.{words_of}
use Rattle.script_shape.specs.Tree.{Script, script_words, formula, define}
use Rattle.script_shape.specs.Roles.{script_leaves, LeavesAreOfTrees}
use Rattle.script_cases.specs.Cases.{all_items}
use Rattle.goal_spans.specs.Reading.{spans_read}
use Rattle.script_judge.specs.declared.refusal.Refusal.{Refusal}
use Rattle.script_judge.specs.Reading.{Reading, IsReadingOf, fault}
use Rattle.script_judge.specs.First.{IsFirstRefusal, unread, read, refusal_of}
use Rattle.script_judge.proofs.FirstLaws.{second_none, none_found}
use Rattle.script_judge.specs.Said.{Said, Says, said_from}
use Rattle.script_judge.specs.Front.{ReadsFronts}
use Rattle.script_judge.specs.Judge.{Judged, Seen, nothing_seen}
use Rattle.script_judge.specs.Judging.{Passed}
use Rattle.script_judge.proofs.FrontsRead.{says_once}
use Rattle.script_judge.proofs.Turns.{passed_all}
use Rattle.script_nodes.specs.Known.{Known, nothing_known}
use Rattle.script_nodes.specs.Definitions.{definition_value}
use Rattle.script_claims.specs.declared.claim.Claim.{Claim}
use Rattle.script_claims.specs.Claims.{PartsHaveHypotheses}
use Rattle.script_grammar.specs.Counted.{known_behind, NodesAreCounted}
use Rattle.script_grammar.specs.CountedHints.{HasFewHints, hints_behind, HintsAreFew, goals_behind}
use Rattle.script_grammar.specs.CountedHints.{GoalsAreFew}
use Rattle.script_grammar.specs.SplitRanges.{HaveFewCases, parts_behind, SplitsHaveRanges}
use Rattle.script_grammar.specs.Meaning.{Meaning, meaning_from}
use Rattle.script_grammar.specs.Steps.{read_leaves}
use Rattle.script_grammar.specs.Spells.{View, view_of, Spells, SpelledAreShort}
use Rattle.script_grammar.specs.Few.{SpelledHaveFewHints, SpelledHaveFewGoals}
use Rattle.script_grammar.specs.Ranges.{SpelledHaveRanges, SpelledHaveFewCases}
use Rattle.script_grammar.proofs.Accepted.{reading_leaves, IsAccepted}

known_of : (tree : Script) (k : Known)
    → length (meaning_from tree k).known.nodes ≡ length (known_behind tree k).nodes
known_of (formula f h) k = refl
known_of (define x rest) k = known_of rest (definition_value x k)

-- ---- the words of a text that isn't refused pass the judge

record IsPassed (text : List ℕ) (r : Reading) : Type 0 where
  reading : IsReadingOf text r
  said : Option Said
  says : Says r.leaves said
  judged : Judged 0 (nothing_seen said) r.leaves None

all_passed : (text : List ℕ) (o : Option Refusal) → IsFirstRefusal text o → o ≡ None
    → (r : Reading) × IsPassed text r
all_passed text o (unread h) e = absurd (cc e)
all_passed text o (read {r = r} {said = said} {found = found} k h q j) e = (
  r,
  record {
    reading = h;
    said = said;
    says = q;
    judged = subst (Judged 0 (nothing_seen said) r.leaves)
        (none_found r found (second_none (fault (length text) r) (refusal_of r found) e)) j;
  },
)

-- those of a tree, by what they say
pub record ArePassed (tree : Script) : Type 0 where
  pub said : Option Said
  pub says : Says (script_leaves tree) said
  pub judged : Judged 0 (nothing_seen said) (script_leaves tree) None

pub spelled_judged : LexesOnce → LeavesAreOfTrees → (text : List ℕ) (s : View) (p : Spells text s)
    → ArePassed p.tree
spelled_judged lexes are text s p =
    let found = all_passed text None p.accepted refl in
    let r = found.0 in
    let passed = found.1 in
    let h = passed.reading in
    let same = lexes text s.tokens r.tokens None r.bad p.lexed h.lexed in
    let words : script_words p.tree ≡ r.words =
    p.words ∙ ap (words_of text) same.tokens ∙ h.words in
    let leaves = reading_leaves are r text p.tree h words in
    record {
      said = passed.said;
      says = subst (λ ls. Says ls passed.said) leaves passed.says;
      judged = subst (λ ls. Judged 0 (nothing_seen passed.said) ls None) leaves passed.judged;
    }

-- which is what its formula says
spelled_said : ReadsFronts → LexesOnce → LeavesAreOfTrees → (text : List ℕ) (s : View)
    (p : Spells text s)
    → Judged 0 (nothing_seen (Some (said_from p.tree nothing_known))) (script_leaves p.tree) None
spelled_said fronts lexes are text s p =
    let passed = spelled_judged lexes are text s p in
    let leaves = script_leaves p.tree in
    let f = said_from p.tree nothing_known in
    let says : Says leaves (Some f) = (p.tree, [], sym (append-nil leaves), refl) in
    subst (λ o. Judged 0 (nothing_seen o) leaves None)
    (says_once fronts leaves passed.said (Some f) passed.says says) passed.judged

pub spelled_short : NodesAreCounted → ReadsFronts → LexesOnce → LeavesAreOfTrees → SpelledAreShort
spelled_short counted fronts lexes are text s p =
    subst (λ n. n ≤ 512) (sym (known_of p.tree nothing_known) ∙ ap (λ (v : View). length v.nodes)
    (sym p.says)) (counted text s.tokens p.tree [] passes.0 (sym p.words) passes.1)
  where
    passes : (last : Seen) × Passed (nothing_seen (Some (said_from p.tree nothing_known)))
        (script_leaves p.tree) [] last
    passes = passed_all (script_leaves p.tree) (spelled_said fronts lexes are text s p) refl

-- ---- and few hints

hints_of : (tree : Script) (k : Known) → (meaning_from tree k).hints ≡ hints_behind tree k
hints_of (formula f h) k = refl
hints_of (define x rest) k = hints_of rest (definition_value x k)

pub spelled_few : HintsAreFew → LexesOnce → LeavesAreOfTrees → SpelledHaveFewHints
spelled_few few lexes are text s p =
    subst HasFewHints (sym (hints_of p.tree nothing_known) ∙ ap (λ (v : View). v.hints)
    (sym p.says)) (few p.tree nothing_known passed.said passed.judged)
  where
    passed : ArePassed p.tree
    passed = spelled_judged lexes are text s p

-- ---- and few goals

goals_of : (tree : Script) (k : Known) → (meaning_from tree k).goals ≡ goals_behind tree k
goals_of (formula f h) k = refl
goals_of (define x rest) k = goals_of rest (definition_value x k)

pub spelled_goals : GoalsAreFew → LexesOnce → LeavesAreOfTrees → SpelledHaveFewGoals
spelled_goals few lexes are text s p =
    let same = sym (goals_of p.tree nothing_known) ∙ ap (λ (v : View). v.goals) (sym p.says) in
    let passed = spelled_judged lexes are text s p in
    let goals = few p.tree nothing_known passed.said passed.judged in
    subst (λ (gs : List Claim). length gs ≤ 128) same goals

-- ---- and few cases, with ranges for its splits

parts_of : (tree : Script) (k : Known) → (meaning_from tree k).parts.before ≡ parts_behind tree k
parts_of (formula f h) k = refl
parts_of (define x rest) k = parts_of rest (definition_value x k)

few_cases : SplitsHaveRanges → ReadsFronts → LexesOnce → LeavesAreOfTrees → (text : List ℕ)
    (s : View) → Spells text s → HaveFewCases s.parts s.hints
few_cases ranged fronts lexes are text s p =
    let m = meaning_from p.tree nothing_known in
    let has : HaveFewCases m.parts.before m.hints =
    subst (λ cs. HaveFewCases cs m.hints) (sym (parts_of p.tree nothing_known))
    (subst (HaveFewCases (parts_behind p.tree nothing_known)) (sym (hints_of p.tree nothing_known))
    (ranged p.tree (spelled_said fronts lexes are text s p))) in
    subst (λ (v : View). HaveFewCases v.parts v.hints) (sym p.says) has

pub spelled_ranged : SplitsHaveRanges → ReadsFronts → LexesOnce → LeavesAreOfTrees
    → SpelledHaveRanges
spelled_ranged ranged fronts lexes are text s p =
    (few_cases ranged fronts lexes are text s p).ranges

flat_of : PartsHaveHypotheses → (tree : Script) (k : Known)
    → (meaning_from tree k).hypotheses ≡ all_items (meaning_from tree k).parts.before
flat_of flat (formula f h) k = flat f k
flat_of flat (define x rest) k = flat_of flat rest (definition_value x k)

pub spelled_cases : PartsHaveHypotheses → SplitsHaveRanges → ReadsFronts → LexesOnce
    → LeavesAreOfTrees → SpelledHaveFewCases
spelled_cases flat ranged fronts lexes are text s p = record {
  hypotheses = subst (λ (v : View). v.hypotheses ≡ all_items v.parts) (sym p.says)
      (flat_of flat p.tree nothing_known);
  few = (few_cases ranged fronts lexes are text s p).few;
}

-- ---- so the list is never full

pub never_full : SpelledAreShort → (text : List ℕ) (r : Reading) (m : Meaning)
    → IsAccepted text r m → 1024 < length (read_leaves r.leaves).known.nodes → ⊥
never_full short text r m a h =
    let n = short text (view_of text r.tokens m (spans_read r.leaves)) a.spells in
    omega (arith, ap (λ (x : Meaning). length x.known.nodes) a.read)
