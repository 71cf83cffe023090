-- Words of a script that the reading only counts.
use Rattle.std.specs.Prelude.{◌≡◌, ℕ, suc, ◌+◌, List, [], ◌∷◌, ◌++◌, length, refl}
use Rattle.std.proofs.Common.{ap, ◌∙◌, arith}
use Rattle.script_words.specs.declared.class.Symbol.TheVariants as s
use Rattle.script_words.specs.declared.class.Spelled.TheVariants as spelled
use Rattle.script_words.specs.Words.{Word, sign}
use Rattle.script_shape.specs.declared.due.Due.{Due}
use Rattle.script_shape.specs.declared.due.Due.TheVariants as d
use Rattle.script_shape.specs.Expressions.{AnyName, plain, operator, Special, Whole, Bound, Expr}
use Rattle.script_shape.specs.Propositions.{Range, asked, between, multiple}
use Rattle.script_shape.specs.Tree.{How, exactly, rounded_by, rounded_apart, rounded_joined}
use Rattle.script_shape.specs.Tree.{Definition, names_operator, names_value}
use Rattle.script_shape.specs.Roles.{Leaf, at, name_leaves, special_leaves, whole_leaves}
use Rattle.script_shape.specs.Roles.{bound_leaves, operator_leaves, expr_leaves, range_leaves}
use Rattle.script_shape.specs.Roles.{prop_leaves, how_leaves, definition_leaves}
use Rattle.script_shape.proofs.Inner.{EachRole, each_of_both, each_as, IsInner, name_roles}
use Rattle.script_shape.proofs.Inner.{special_roles, bound_roles, whole_inner, operator_roles}
use Rattle.script_shape.proofs.Inner.{expr_inner}
use Rattle.goal_spans.specs.declared.span.Span.{Span}
use Rattle.goal_spans.specs.declared.reader.Stage.{Stage}
use Rattle.goal_spans.specs.declared.reader.Stage.TheVariants as stage
use Rattle.goal_spans.specs.Reading.{State, at_stage, read_word, read_leaves}

abbrev pub state : Stage → ℕ → ℕ → ℕ → List Span → State
state g n first end spans = record { stage = g; at = n; first = first; end = end; spans = spans }

-- ---- words that are counted alone

abbrev pub IsKept : Stage → Due → Word → Type 0
IsKept g r w = (st : State) → at_stage g r w st ≡ st

abbrev pub AreKept : Stage → List Leaf → Type 0
AreKept g [] = Unit {0}
AreKept g (l ∷ ls) = IsKept g l.role l.word × AreKept g ls

pub both : (g : Stage) (a b : List Leaf) → AreKept g a → AreKept g b → AreKept g (a ++ b)
both g [] b p q = q
both g (l ∷ a) b p q = (p.0, both g a b p.1 q)

kept_word : (g : Stage) (r : Due) (w : Word) (n f e : ℕ) (ss : List Span) → IsKept g r w
    → read_word r w (state g n f e ss) ≡ state g (n + 1) f e ss
unfolding read_word
kept_word g r w n f e ss h =
    ap (λ (st : State). state st.stage (n + 1) st.first st.end st.spans) (h (state g n f e ss))

pub kept_words : (g : Stage) (ls rest : List Leaf) (n f e : ℕ) (ss : List Span)
    → AreKept g ls → read_leaves (ls ++ rest) (state g n f e ss)
    ≡ read_leaves rest (state g (n + length ls) f e ss)
unfolding read_leaves
kept_words g [] rest n f e ss h =
    let c : n ≡ n + 0 = omega arith in
    ap (λ (k : ℕ). read_leaves rest (state g k f e ss)) c
kept_words g (l ∷ ls) rest n f e ss h =
    let c : n + 1 + length ls ≡ n + suc (length ls) = omega arith in
    ap (read_leaves (ls ++ rest)) (kept_word g l.role l.word n f e ss h.0)
    ∙ kept_words g ls rest (n + 1) f e ss h.1
    ∙ ap (λ (k : ℕ). read_leaves rest (state g k f e ss)) c

-- ---- words of definitions

-- all but those that begin a definition or the formula
abbrev IsBetween : Due → Type 0
IsBetween d.Script = ⊥
IsBetween r = Unit {0}

inner_between : (r : Due) → IsInner r → IsBetween r
inner_between d.Script i = i
inner_between _ i = tt

between_kept : (r : Due) (w : Word) → IsBetween r → IsKept stage.Definitions r w
between_kept d.Script w b st = absurd b
between_kept _ w b st = refl

all_between : (ls : List Leaf) → EachRole IsBetween ls → AreKept stage.Definitions ls
all_between [] b = tt
all_between (l ∷ ls) b = (between_kept l.role l.word b.0, all_between ls b.1)

expr_between : (e : Expr) → EachRole IsBetween (expr_leaves e)
expr_between e = each_as IsInner IsBetween inner_between (expr_leaves e) (expr_inner e)

how_between : (h : How) → EachRole IsBetween (how_leaves h)
how_between exactly = (tt, tt)
how_between (rounded_by k t) = (tt, (tt, tt))
how_between (rounded_apart o) = each_of_both IsBetween (operator_leaves d.DefinedBy o) _
    (operator_roles IsBetween d.DefinedBy o tt inner_between) (tt, (tt, tt))
how_between (rounded_joined o) = each_of_both IsBetween (operator_leaves d.DefinedBy o) _
    (operator_roles IsBetween d.DefinedBy o tt inner_between) (tt, tt)

name_kept : (n : AnyName) → AreKept stage.Definitions (name_leaves d.Script n)
name_kept (plain k t) = (λ st. refl, tt)
name_kept (operator k t) = (λ st. refl, tt)

pub definition_kept : (x : Definition) → AreKept stage.Definitions (definition_leaves x)
definition_kept (names_operator n o) =
    let end = at d.Greater (sign s.Greater) ∷ (at d.Semicolon (sign s.Semicolon) ∷ []) in
    let behind : EachRole IsBetween (operator_leaves d.Operator o ++ end) =
    each_of_both IsBetween (operator_leaves d.Operator o) end
    (operator_roles IsBetween d.Operator o tt inner_between) (tt, (tt, tt)) in (
      λ st. refl,
      all_between _ (each_of_both IsBetween (name_leaves d.NewName n) _
          (name_roles IsBetween d.NewName n tt) (tt, behind)),
    )
definition_kept (names_value n h e) =
    both stage.Definitions (name_leaves d.Script n) _ (name_kept n)
    (all_between _ (each_of_both IsBetween (how_leaves h) _ (how_between h)
    (each_of_both IsBetween (expr_leaves e) _ (expr_between e) (tt, tt))))

-- ---- words of propositions

-- all but those that end a part of a formula
abbrev IsQuiet : Due → Type 0
IsQuiet d.Relation = ⊥
IsQuiet d.Claim = ⊥
IsQuiet d.In = ⊥
IsQuiet d.Connective = ⊥
IsQuiet d.CloseBrace = ⊥
IsQuiet r = Unit {0}

inner_quiet : (r : Due) → IsInner r → IsQuiet r
inner_quiet d.Relation i = i
inner_quiet d.Claim i = i
inner_quiet d.In i = i
inner_quiet d.Connective i = i
inner_quiet d.CloseBrace i = i
inner_quiet _ i = tt

quiet_kept : (r : Due) (w : Word) → IsQuiet r → IsKept stage.Formula r w
quiet_kept d.Relation w q st = absurd q
quiet_kept d.Claim w q st = absurd q
quiet_kept d.In w q st = absurd q
quiet_kept d.Connective w q st = absurd q
quiet_kept d.CloseBrace w q st = absurd q
quiet_kept _ w q st = refl

all_quiet : (ls : List Leaf) → EachRole IsQuiet ls → AreKept stage.Formula ls
all_quiet [] q = tt
all_quiet (l ∷ ls) q = (quiet_kept l.role l.word q.0, all_quiet ls q.1)

expr_quiet : (e : Expr) → EachRole IsQuiet (expr_leaves e)
expr_quiet e = each_as IsInner IsQuiet inner_quiet (expr_leaves e) (expr_inner e)

pub expr_kept : (e : Expr) → AreKept stage.Formula (expr_leaves e)
expr_kept e = all_quiet (expr_leaves e) (expr_quiet e)

pub range_kept : (r : Range) → AreKept stage.Formula (range_leaves r)
range_kept asked = (λ st. refl, tt)
range_kept (between a b) =
    let close = at d.CloseBracket (sign s.CloseBracket) ∷ [] in
    let second : EachRole IsQuiet (bound_leaves b ++ close) =
    each_of_both IsQuiet (bound_leaves b) close (bound_roles IsQuiet b tt tt) (tt, tt) in
    let first : EachRole IsQuiet
    (bound_leaves a ++ (at d.Comma (sign s.Comma) ∷ (bound_leaves b ++ close))) =
    each_of_both IsQuiet (bound_leaves a) _ (bound_roles IsQuiet a tt tt) (tt, second) in
    (λ st. refl, all_quiet _ first)

pub bound_kept : (b : Bound) → AreKept stage.Formula (bound_leaves b)
bound_kept b = all_quiet (bound_leaves b) (bound_roles IsQuiet b tt tt)

pub multiple_kept : (f : Special) (e : Expr) (k : Whole)
    → AreKept stage.Formula (prop_leaves (multiple f e k))
multiple_kept f e k =
    let close = at d.CloseParen (sign s.CloseParen) ∷ [] in
    let last : EachRole IsQuiet (whole_leaves k ++ close) = each_of_both IsQuiet (whole_leaves k)
    close (each_as IsInner IsQuiet inner_quiet (whole_leaves k) (whole_inner k)) (tt, tt) in
    let inner : EachRole IsQuiet
    (expr_leaves e ++ (at d.Comma (sign s.Comma) ∷ (whole_leaves k ++ close))) =
    each_of_both IsQuiet (expr_leaves e) _ (expr_quiet e) (tt, last) in (
      λ st. refl,
      all_quiet _ (each_of_both IsQuiet (special_leaves d.Fix spelled.Fix f) _
          (special_roles IsQuiet d.Fix spelled.Fix f tt) (tt, inner)),
    )

pub all_behind : (ls : List Leaf) → AreKept stage.Hints ls
all_behind [] = tt
all_behind (l ∷ ls) = (λ st. refl, all_behind ls)
