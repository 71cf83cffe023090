-- The words of a script are read as the spans of its tree.
use Rattle.std.specs.Prelude.{◌≡◌, ℕ, suc, ◌+◌, List, [], ◌∷◌, ◌++◌, length, refl}
use Rattle.std.proofs.Common.{ap, sym, ◌∙◌, append_assoc, append-nil, length-append, arith}
use Rattle.script_words.specs.declared.class.Symbol.TheVariants as s
use Rattle.script_words.specs.Words.{sign}
use Rattle.script_shape.specs.declared.due.Due.TheVariants as d
use Rattle.script_shape.specs.Expressions.{Expr, expr_words}
use Rattle.script_shape.specs.Propositions.{Prop, lies_in, relative_in, at_most, at_least, multiple}
use Rattle.script_shape.specs.Propositions.{Stated, affirmed, denied, Formula, single, and, or}
use Rattle.script_shape.specs.Propositions.{implies, formula_words}
use Rattle.script_shape.specs.Tree.{Script, formula, define}
use Rattle.script_shape.specs.Roles.{Leaf, at, bound_leaves, expr_leaves, range_leaves, prop_leaves}
use Rattle.script_shape.specs.Roles.{stated_leaves, formula_leaves, hints_leaves, definition_leaves}
use Rattle.script_shape.specs.Roles.{script_leaves, LeavesSpell}
use Rattle.goal_spans.specs.declared.span.Span.{Span}
use Rattle.goal_spans.specs.declared.reader.Stage.TheVariants as stage
use Rattle.goal_spans.specs.Spans.{side_count, stated_at, formula_spans, script_spans}
use Rattle.goal_spans.specs.Reading.{State, read_word, read_leaves, ReadsSpans}
use Rattle.goal_spans.proofs.Kept.{state, AreKept, both, kept_words, definition_kept, expr_kept}
use Rattle.goal_spans.proofs.Kept.{range_kept, bound_kept, multiple_kept, all_behind}
use Rattle.goal_spans.proofs.Counts.{definition_count, formula_count, expr_count}

abbrev within : ℕ → ℕ → ℕ → List Span → State
within n first end spans = state stage.Formula n first end spans

-- an expression part, the sign that ends it, and the rest of the proposition
part_read : (ls : List Leaf) (l : Leaf) (more rest : List Leaf) (n : ℕ) (ss : List Span)
    → AreKept stage.Formula ls → AreKept stage.Formula more
    → read_word l.role l.word (within (n + length ls) n n ss)
    ≡ within (n + length ls + 1) n (n + length ls) ss
    → read_leaves ((ls ++ (l ∷ more)) ++ rest) (within n n n ss)
    ≡ read_leaves rest (within (n + length (ls ++ (l ∷ more))) n (n + length ls) ss)
unfolding read_leaves
part_read ls l more rest n ss p q h =
    let c : n + length ls + 1 + length more ≡ n + length (ls ++ (l ∷ more)) =
    omega (arith, length-append ls (l ∷ more)) in
    let e = n + length ls in
    ap (λ (m : List Leaf). read_leaves m (within n n n ss)) (append_assoc ls (l ∷ more) rest)
    ∙ kept_words stage.Formula ls (l ∷ (more ++ rest)) n n n ss p
    ∙ ap (read_leaves (more ++ rest)) h
    ∙ kept_words stage.Formula more rest (e + 1) n e ss q
    ∙ ap (λ (k : ℕ). read_leaves rest (within k n e ss)) c

module _ (spell : LeavesSpell) where
  -- ---- a proposition

  -- one expression
  one_read : (e : Expr) (l : Leaf) (more rest : List Leaf) (n : ℕ) (ss : List Span)
      → AreKept stage.Formula more
      → read_word l.role l.word (within (n + length (expr_leaves e)) n n ss)
      ≡ within (n + length (expr_leaves e) + 1) n (n + length (expr_leaves e)) ss
      → read_leaves ((expr_leaves e ++ (l ∷ more)) ++ rest) (within n n n ss) ≡ read_leaves rest
      (within (n + length (expr_leaves e ++ (l ∷ more))) n (n + length (expr_words e)) ss)
  one_read e l more rest n ss q h =
      part_read (expr_leaves e) l more rest n ss (expr_kept e) q h ∙ ap (λ (k : ℕ). read_leaves rest
      (within (n + length (expr_leaves e ++ (l ∷ more))) n (n + k) ss)) (expr_count spell e)

  prop_read : (p : Prop) (rest : List Leaf) (n : ℕ) (ss : List Span)
      → read_leaves (prop_leaves p ++ rest) (within n n n ss)
      ≡ read_leaves rest (within (n + length (prop_leaves p)) n (n + side_count p) ss)
  unfolding read_word
  prop_read (lies_in e r) rest n ss =
      one_read e (at d.Relation (sign s.In)) (range_leaves r) rest n ss (range_kept r) refl
  prop_read (relative_in a b r) rest n ss =
      let against = at d.Relation (sign s.Against) in
      let behind = at d.In (sign s.In) ∷ range_leaves r in
      let sides = expr_leaves a ++ (against ∷ expr_leaves b) in
      let kept : AreKept stage.Formula sides = both stage.Formula (expr_leaves a)
      (against ∷ expr_leaves b) (expr_kept a) (λ st. refl, expr_kept b) in
      let same : prop_leaves (relative_in a b r) ≡ sides ++ behind =
      sym (append_assoc (expr_leaves a) (against ∷ expr_leaves b) behind) in
      let c : n + length sides ≡ n + side_count (relative_in a b r) = omega (
        arith,
        length-append (expr_leaves a) (against ∷ expr_leaves b),
        expr_count spell a,
        expr_count spell b,
      ) in
      ap (λ (ls : List Leaf). read_leaves (ls ++ rest) (within n n n ss)) same
      ∙ part_read sides (at d.In (sign s.In)) (range_leaves r) rest n ss kept (range_kept r) refl
      ∙ ap (λ (ls : List Leaf).
      read_leaves rest (within (n + length ls) n (n + length sides) ss)) (sym same)
      ∙ ap (λ (k : ℕ). read_leaves rest
      (within (n + length (prop_leaves (relative_in a b r))) n k ss)) c
  prop_read (at_most e b) rest n ss =
      one_read e (at d.Relation (sign s.LessEqual)) (bound_leaves b) rest n ss (bound_kept b) refl
  prop_read (at_least e b) rest n ss = one_read e (at d.Relation (sign s.GreaterEqual))
      (bound_leaves b) rest n ss (bound_kept b) refl
  prop_read (multiple f e k) rest n ss =
      let ls = prop_leaves (multiple f e k) in
      let c : n ≡ n + 0 = omega arith in
      kept_words stage.Formula ls rest n n n ss (multiple_kept f e k)
      ∙ ap (λ (m : ℕ). read_leaves rest (within (n + length ls) n m ss)) c

  -- `not`, and the proposition behind it
  stated_read : (p : Stated) (rest : List Leaf) (n : ℕ) (ss : List Span)
      → read_leaves (stated_leaves p ++ rest) (within n n n ss) ≡ read_leaves rest
      (within (n + length (stated_leaves p)) (stated_at n p).first (stated_at n p).end ss)
  unfolding read_word read_leaves
  stated_read (affirmed p) rest n ss = prop_read p rest n ss
  stated_read (denied p) rest n ss =
      let c : n + 1 + length (prop_leaves p) ≡ n + suc (length (prop_leaves p)) = omega arith in
      prop_read p rest (n + 1) ss
      ∙ ap (λ (k : ℕ). read_leaves rest (within k (n + 1) (n + 1 + side_count p) ss)) c

  -- ---- a formula

  -- the last proposition is in hand, and is a goal beside those before it
  record FormulaRead (f : Formula) (n : ℕ) : Type 0 where
    first : ℕ
    end : ℕ
    before : List Span
    goals : before ++ (record { first = first; end = end } ∷ []) ≡ formula_spans n f
    read : (rest : List Leaf) → read_leaves (formula_leaves f ++ rest) (within n n n [])
        ≡ read_leaves rest (within (n + length (formula_leaves f)) first end before)

  -- a connective, and one more proposition
  joined_read : (f : Formula) (p : Stated) (n : ℕ) (l : Leaf)
      (m : FormulaRead f n) (kept : List Span)
      → read_word l.role l.word (within (n + length (formula_leaves f)) m.first m.end m.before)
      ≡ within (n + length (formula_leaves f) + 1) (n + length (formula_leaves f) + 1)
      (n + length (formula_leaves f) + 1) kept
      → (rest : List Leaf)
      → read_leaves ((formula_leaves f ++ (l ∷ stated_leaves p)) ++ rest) (within n n n [])
      ≡ read_leaves rest (within (n + length (formula_leaves f ++ (l ∷ stated_leaves p)))
      (stated_at (n + length (formula_words f) + 1) p).first
      (stated_at (n + length (formula_words f) + 1) p).end kept)
  unfolding read_leaves
  joined_read f p n l m kept h rest =
      let k = n + length (formula_leaves f) + 1 in
      let c : k + length (stated_leaves p)
      ≡ n + length (formula_leaves f ++ (l ∷ stated_leaves p)) =
      omega (arith, length-append (formula_leaves f) (l ∷ stated_leaves p)) in
      ap (λ (ls : List Leaf). read_leaves ls (within n n n []))
      (append_assoc (formula_leaves f) (l ∷ stated_leaves p) rest)
      ∙ m.read (l ∷ (stated_leaves p ++ rest))
      ∙ ap (read_leaves (stated_leaves p ++ rest)) h
      ∙ stated_read p rest k kept
      ∙ ap (λ (i : ℕ). read_leaves rest (within i (stated_at k p).first (stated_at k p).end kept)) c
      ∙ ap (λ (i : ℕ). read_leaves rest
      (within (n + length (formula_leaves f ++ (l ∷ stated_leaves p)))
      (stated_at (n + i + 1) p).first (stated_at (n + i + 1) p).end kept)) (formula_count spell f)

  formula_read : (f : Formula) (n : ℕ) → FormulaRead f n
  unfolding read_word
  formula_read (single p) n = record {
    first = (stated_at n p).first;
    end = (stated_at n p).end;
    before = [];
    goals = refl;
    read = λ rest. stated_read p rest n [];
  }
  formula_read (and f p) n =
      let m = formula_read f n in
      let k = n + length (formula_words f) + 1 in
      record {
        first = (stated_at k p).first;
        end = (stated_at k p).end;
        before = m.before ++ (record { first = m.first; end = m.end } ∷ []);
        goals = ap (λ (ss : List Span). ss ++ (stated_at k p ∷ [])) m.goals;
        read = joined_read f p n (at d.Connective (sign s.And)) m _ refl;
      }
  formula_read (or f p) n =
      let m = formula_read f n in
      let k = n + length (formula_words f) + 1 in
      record {
        first = (stated_at k p).first;
        end = (stated_at k p).end;
        before = m.before ++ (record { first = m.first; end = m.end } ∷ []);
        goals = ap (λ (ss : List Span). ss ++ (stated_at k p ∷ [])) m.goals;
        read = joined_read f p n (at d.Connective (sign s.Or)) m _ refl;
      }
  formula_read (implies f p) n =
      let m = formula_read f n in
      let k = n + length (formula_words f) + 1 in
      record {
        first = (stated_at k p).first;
        end = (stated_at k p).end;
        before = [];
        goals = refl;
        read = joined_read f p n (at d.Connective (sign s.Arrow)) m [] refl;
      }

  -- ---- a script

  abbrev before : ℕ → State
  before n = state stage.Definitions n 0 0 []

  behind_read : (ls : List Leaf) (n f e : ℕ) (ss : List Span)
      → (read_leaves ls (state stage.Hints n f e ss)).spans ≡ ss
  unfolding read_leaves
  behind_read ls n f e ss =
      let st = state stage.Hints n f e ss in
      ap (λ (m : List Leaf). (read_leaves m st).spans) (sym (append-nil ls))
      ∙ ap (λ (t : State). t.spans) (kept_words stage.Hints ls [] n f e ss (all_behind ls))

  script_read : (tree : Script) (n : ℕ)
      → (read_leaves (script_leaves tree) (before n)).spans ≡ script_spans n tree
  unfolding read_word read_leaves
  script_read (formula f h) n =
      let m = formula_read f (n + 1) in
      let k = n + 1 + length (formula_leaves f) in
      ap (λ (st : State). st.spans) (m.read (at d.CloseBrace (sign s.CloseBrace) ∷ hints_leaves h))
      ∙ behind_read (hints_leaves h) (k + 1) m.first m.end _
      ∙ m.goals
  script_read (define x rest) n =
      ap (λ (st : State). st.spans) (kept_words stage.Definitions (definition_leaves x)
      (script_leaves rest) n 0 0 [] (definition_kept x))
      ∙ script_read rest (n + length (definition_leaves x))
      ∙ ap (λ (k : ℕ). script_spans (n + k) rest) (definition_count spell x rest)

  pub reads_spans : ReadsSpans
  reads_spans tree = script_read tree 0
