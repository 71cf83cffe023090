-- What is read of a text that isn't refused is the script that it spells.
use Rattle.std.specs.Prelude.{◌≡◌, ℕ, ◌≤◌, List, length, take, drop, None, Result, Ok, Err, IfOk}
use Rattle.std.specs.Prelude.{IfErr, Bool, true, false, refl}
use Rattle.std.proofs.Common.{sym, ap, ◌∙◌, subst}
use Rattle.std.proofs.Math.Seq.{take-length}
use Rattle.script_words.specs.Lex.{Lexes, LexesOnce}
use Rattle.script_words.specs.Words.{Word}
use Rattle.script_words.specs.Named.{words_of}
use Rattle.script_shape.specs.Tree.{Script, script_words, IsScript}
use Rattle.script_shape.specs.declared.due.Due.{Due}
use Rattle.script_shape.specs.Roles.{Leaf, script_leaves, HasRoles, leaves_of, LeavesAreOfTrees}
use Rattle.script_shape.specs.ShapeLaw.{IsShapeOf}
use Rattle.goal_spans.specs.declared.span.Span.{Span}
use Rattle.goal_spans.specs.Reading.{spans_read, ReadsSpans}
use Rattle.script_judge.specs.declared.refusal.Refusal.{Refusal}
use Rattle.script_judge.specs.Reading.{Reading, IsReadingOf}
use Rattle.script_judge.specs.First.{IsFirstRefusal}
use Rattle.script_judge.specs.declared.formula.Formula.{Formula}
use Rattle.script_judge.specs.Front.{no_front, read_front}
use Rattle.script_claims.specs.Claims.{Sides}
use Rattle.script_hints.specs.Reading.{HintReading, read_hints}
use Rattle.script_grammar.specs.declared.reading.ParseStop.{ParseStop}
use Rattle.script_grammar.specs.declared.reading.ParseStop.TheVariants as stop
use Rattle.script_grammar.specs.Meaning.{Meaning, meaning_of}
use Rattle.script_grammar.specs.Steps.{hints_begun, said_behind, read_behind, read_leaves}
use Rattle.script_grammar.specs.Steps.{ReadsScripts}
use Rattle.script_grammar.specs.Spells.{View, view_of, Spells, IsSpelled, SpellsOnce, SpellsAll}
use Rattle.script_grammar.specs.Judgement.{formula_end, IsFormulaOf}
use Rattle.script_grammar.proofs.JudgedText.{roles_kept}

-- words that are a script are taken whole
all_taken : (ws : List Word) (n : ℕ) (b : Bool) → IsShapeOf ws n b → IsScript ws → n ≡ length ws
all_taken ws n true s i = (s.whole refl).0
all_taken ws n false s i = absurd (s.not_whole refl i)

-- the reading of a text that spells a script has the leaves of its tree
pub reading_leaves : LeavesAreOfTrees → (r : Reading) (text : List ℕ) (tree : Script)
    → IsReadingOf text r → script_words tree ≡ r.words → r.leaves ≡ script_leaves tree
reading_leaves are r text tree h e =
    let n : r.taken ≡ length r.words = all_taken r.words r.taken r.whole h.shape (tree, e) in
    let w : take r.taken r.words ≡ r.words = ap (λ k. take k r.words) n ∙ take-length r.words in
    let roles : HasRoles r.words r.leaves = subst (λ ws. HasRoles ws r.leaves) w h.roles in
    are tree r.words r.leaves e roles

pub record IsAccepted (text : List ℕ) (r : Reading) (m : Meaning) : Type 0 where
  pub spells : Spells text (view_of text r.tokens m (spans_read r.leaves))
  pub read : read_leaves r.leaves ≡ m

pub accepted_reading : LexesOnce → LeavesAreOfTrees → ReadsScripts → ReadsSpans
    → SpellsAll → (text : List ℕ) (r : Reading) → IsFirstRefusal text None → IsReadingOf text r
    → (m : Meaning) × IsAccepted text r m
accepted_reading lexes are reads spans all text r a h =
    let found = all text a in
    let s = found.0 in
    let p = found.1 in
    let same = lexes text r.tokens s.tokens r.bad None h.lexed p.lexed in
    let e : script_words p.tree ≡ r.words =
    p.words ∙ ap (words_of text) (sym same.tokens) ∙ h.words in
    let leaves : r.leaves ≡ script_leaves p.tree = reading_leaves are r text p.tree h e in (
      meaning_of p.tree,
      record {
        spells = record {
          accepted = a;
          lexed = subst (λ ts. Lexes 0 text ts None) (sym same.tokens) p.lexed;
          tree = p.tree;
          words = e ∙ sym h.words;
          says =
              ap (view_of text r.tokens (meaning_of p.tree)) (ap spans_read leaves ∙ spans p.tree);
        };
        read = ap read_leaves leaves ∙ reads p.tree;
      },
    )

-- the reading ends behind the formula, with the script's parts
pub spelled_behind : (text : List ℕ) (r : Reading) (m : Meaning) (sides : Sides) (h : HintReading)
    → IsAccepted text r m → said_behind sides h ≡ read_leaves r.leaves
    → (spans : List Span) → spans ≡ spans_read r.leaves
    → IsSpelled text r.tokens h.reading.known sides spans h.draft.list
spelled_behind text r m sides h a e spans f =
    subst (λ ss. Spells text (view_of text r.tokens (said_behind sides h) ss)) (sym f)
    (subst (λ n. Spells text (view_of text r.tokens n (spans_read r.leaves)))
    (sym (e ∙ a.read)) a.spells)

-- the hints, behind a formula that says this
pub hints_at : (rs : List Due) (ws : List Word) → length rs ≤ length ws → (f : Formula)
    → IsFormulaOf (leaves_of rs ws) (formula_end rs) f
    → (end : ℕ) → end ≡ formula_end rs
    → (later : List Leaf) → later ≡ drop end (leaves_of rs ws)
    → said_behind f.sides (read_hints later (hints_begun f.nodes))
    ≡ read_leaves (leaves_of rs ws)
hints_at rs ws h f front end e later p =
    let leaves = leaves_of rs ws in
    ap (λ ls. said_behind f.sides (read_hints ls (hints_begun f.nodes)))
    (p ∙ ap (λ n. drop n leaves) e)
    ∙ ap (λ g. read_behind g (drop (formula_end rs) leaves)) (sym front)
    ∙ ap (λ n. read_behind (read_front (take n leaves) no_front) (drop n leaves))
    (ap formula_end (sym (roles_kept rs ws h)))

-- what is spelled is answered
pub only_spelled : SpellsOnce → (text : List ℕ) (o : Result View ParseStop)
    → IfOk o (Spells text) → IfErr o (λ e. e ≡ stop.OutOfMemory) → (s : View) → Spells text s
    → IfOk o (λ t. t ≡ s) × ((r : Refusal) → o ≡ Err (stop.Refused r) → ⊥)
only_spelled once text (Ok t) h k s p = (once text t s h p, λ r e. cc e)
only_spelled once text (Err x) h k s p = (
  tt,
  λ r e. let q : x ≡ stop.Refused r = cc e in
      let z : stop.OutOfMemory ≡ stop.Refused r = sym k ∙ q in cc z,
)
