-- The words of an expression go to the expression in hand, and the hint stays.
use Rattle.std.proofs.Common.{◌≡◌, List, [], ◌∷◌, ◌++◌, Some, None, refl, ap, ◌∙◌, sym, append-nil}
use Rattle.fx_model.specs.declared.ExprId.{ExprId}
use Rattle.script_words.specs.Words.{Word}
use Rattle.script_shape.specs.declared.due.Due.{Due}
use Rattle.script_shape.specs.declared.due.Due.TheVariants as d
use Rattle.script_shape.specs.Expressions.{Expr}
use Rattle.script_shape.specs.Roles.{Leaf, at, expr_leaves}
use Rattle.script_shape.proofs.Inner.{EachRole, IsInner, expr_inner}
use Rattle.script_nodes.specs.Known.{Known}
use Rattle.script_nodes.specs.Values.{expr_value}
use Rattle.script_nodes.specs.Waits.{Reading, expr_done, read, read_all}
use Rattle.script_nodes.specs.ReadingLaw.{IsReadAs, ReadsTrees}
use Rattle.script_hints.specs.Drafts.{Draft}
use Rattle.script_hints.specs.Reading.{HintReading, ended_as, ended, then_draft, read_hint}
use Rattle.script_hints.specs.Reading.{read_hints}

abbrev pub state : Reading → Draft → HintReading
state r h = record { reading = r; draft = h }

word_within : (role : Due) (w : Word) (r : Reading) (h : Draft) → IsInner role
    → read_hint role w (state r h) ≡ state (read None role w r) h
unfolding read_hint
word_within d.Operand w r h i = refl
word_within d.Tail w r h i = refl
word_within d.OpenParen w r h i = refl
word_within d.CloseParen w r h i = refl
word_within d.CloseBar w r h i = refl
word_within d.Comma w r h i = refl
word_within d.Less w r h i = refl
word_within d.Whole w r h i = refl
word_within d.WholeDigits w r h i = refl
word_within d.Direction w r h i = refl
word_within d.Greater w r h i = refl
word_within _ w r h i = absurd i

words_within : (a rest : List Leaf) (r : Reading) (h : Draft) → EachRole IsInner a
    → read_hints (a ++ rest) (state r h) ≡ read_hints rest (state (read_all None a r) h)
unfolding read_hints read_all
words_within [] rest r h i = refl
words_within (l ∷ a) rest r h i = ap (read_hints (a ++ rest)) (word_within l.role l.word r h i.0)
    ∙ words_within a rest (read None l.role l.word r) h i.1

-- ---- an expression of a hint

-- what stands behind an expression, whose end gives its number; the hint stays
record IsSide (e : Expr) (rest : List Leaf) (k : Known) (h : Draft) : Type 0 where
  pub after : Reading
  pub same : read_hints (expr_leaves e ++ rest) (state (record { known = k; waits = [] }) h)
      ≡ read_hints rest (state after h)
  pub done : expr_done None after after.waits ≡ Some (expr_value None e k, [])

side : ReadsTrees → (e : Expr) (rest : List Leaf) (k : Known) (h : Draft) → IsSide e rest k h
unfolding read_all
side reads e rest k h =
    let t : IsReadAs None e [] k [] = reads None e [] k in
    let whole : read_all None (expr_leaves e) (record { known = k; waits = [] }) ≡ t.after =
    ap (λ ls. read_all None ls (record { known = k; waits = [] }))
    (sym (append-nil (expr_leaves e))) ∙ t.same in
    record {
      after = t.after;
      same = words_within (expr_leaves e) rest (record { known = k; waits = [] }) h (expr_inner e)
          ∙ ap (λ r. read_hints rest (state r h)) whole;
      done = t.done;
    }

-- The word ends the expression before it, and this becomes of the hint.
abbrev pub EndsBy : Due → Word → (ExprId → Draft → Draft) → Type 0
EndsBy role w f = (r : Reading) (h : Draft)
    → read_hint role w (state r h) ≡ then_draft f h (ended r)

pub side_ends : ReadsTrees → (role : Due) (w : Word) (f : ExprId → Draft → Draft)
    → EndsBy role w f → (e : Expr) (rest : List Leaf) (k : Known) (h : Draft)
    → read_hints (expr_leaves e ++ (at role w ∷ rest)) (state (record { known = k; waits = [] }) h)
    ≡ read_hints rest (state (record { known = (expr_value None e k).0; waits = [] })
    (f (expr_value None e k).1 h))
unfolding read_hints
side_ends reads role w f ends e rest k h =
    let x = side reads e (at role w ∷ rest) k h in
    x.same ∙ ap (read_hints rest) (ends x.after h)
    ∙ ap (λ c. read_hints rest (then_draft f h (ended_as x.after c))) x.done
