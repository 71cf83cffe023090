-- A text spells one script, or has one refusal.
use Rattle.std.specs.Prelude.{◌≡◌, ℕ, List, [], length, take, Option, Some, None, Bool, true, false}
use Rattle.std.specs.Prelude.{if◌then◌else◌, refl}
use Rattle.std.proofs.Common.{sym, ap, ◌∙◌, subst, append-nil}
use Rattle.script_words.specs.Lex.{LexesOnce}
use Rattle.script_words.specs.Named.{words_of}
use Rattle.script_shape.specs.Tree.{Script, script_words}
use Rattle.script_shape.specs.Roles.{script_leaves, HasRoles, LeavesAreOfTrees}
use Rattle.goal_spans.specs.Spans.{goal_spans}
use Rattle.goal_spans.specs.Reading.{spans_read, ReadsSpans}
use Rattle.script_judge.specs.declared.refusal.Refusal.{Refusal}
use Rattle.script_judge.specs.Reading as reading
use Rattle.script_judge.specs.Reading.{IsFaultOf, IsScriptText, fault}
use Rattle.script_judge.specs.First.{IsFirstRefusal, unread, read, first_of, refusal_of}
use Rattle.script_judge.specs.First.{FirstsAreUnique}
use Rattle.script_grammar.specs.Meaning.{meaning_of}
use Rattle.script_grammar.specs.Steps.{read_leaves, ReadsScripts}
use Rattle.script_grammar.specs.Spells.{view_of, SpellsOnce, NeverBoth, SpellsAll}

-- trees of the same words have the same leaves
same_leaves : LeavesAreOfTrees → (a b : Script) → script_words a ≡ script_words b
    → script_leaves a ≡ script_leaves b
same_leaves are a b e =
    let ws = script_words a in
    let leaves = take (length ws) (script_leaves a) in
    let h : HasRoles ws leaves =
    record { tree = a; words = ([], sym (append-nil ws)); roles = refl } in
    sym (are a ws leaves refl h) ∙ are b ws leaves (sym e) h

same_meaning : LeavesAreOfTrees → ReadsScripts → (a b : Script) → script_words a ≡ script_words b
    → meaning_of a ≡ meaning_of b
same_meaning are reads a b e = sym (reads a) ∙ ap read_leaves (same_leaves are a b e) ∙ reads b

same_spans : LeavesAreOfTrees → ReadsSpans → (a b : Script) → script_words a ≡ script_words b
    → goal_spans a ≡ goal_spans b
same_spans are spans a b e = sym (spans a) ∙ ap spans_read (same_leaves are a b e) ∙ spans b

pub spells_once : LexesOnce → LeavesAreOfTrees → ReadsScripts → ReadsSpans → SpellsOnce
spells_once lexes are reads spans text s t p q =
    let e : s.tokens ≡ t.tokens =
    let same = lexes text s.tokens t.tokens None None p.lexed q.lexed in same.tokens in
    let w : script_words p.tree ≡ script_words q.tree =
    p.words ∙ ap (words_of text) e ∙ sym q.words in
    p.says ∙ ap (λ ts. view_of text ts (meaning_of p.tree) (goal_spans p.tree)) e
    ∙ ap (λ m. view_of text t.tokens m (goal_spans p.tree)) (same_meaning are reads p.tree q.tree w)
    ∙ ap (view_of text t.tokens (meaning_of q.tree)) (same_spans are spans p.tree q.tree w)
    ∙ sym q.says

pub never_both : FirstsAreUnique → NeverBoth
never_both firsts text s r p q = absurd (cc (firsts text None (Some r) p.accepted q))

-- ---- a text that isn't refused
pub first_none : (a b : Option Refusal) → first_of a b ≡ None → a ≡ None
first_none None b e = refl
first_none (Some x) None e = absurd (cc e)
first_none (Some x) (Some y) e = absurd (by_test _ e)
  where
    by_test : (t : Bool) → (if t then Some y else Some x) ≡ None → ⊥
    by_test true e = cc e
    by_test false e = cc e

reads_to_end : (text : List ℕ) (o : Option Refusal) → IsFirstRefusal text o
    → o ≡ None → IsFaultOf text None
reads_to_end text o (unread h) e = absurd (cc e)
reads_to_end text o (read {r = r} {found = found} k h q j) e = subst (IsFaultOf text)
    (first_none (fault (length text) r) (refusal_of r found) e) (reading.read k h)

pub spells_all : reading.ReadsScripts → SpellsAll
spells_all reads text a =
    let s : IsScriptText text = (reads text).0 (reads_to_end text None a refl) in
    let tree = s.script.0 in (
      view_of text s.words.tokens (meaning_of tree) (goal_spans tree),
      record {
        accepted = a;
        lexed = s.words.lexed;
        tree = tree;
        words = s.script.1 ∙ sym s.words.words;
        says = refl;
      },
    )
