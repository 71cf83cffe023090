-- The words of definitions are read as their trees.
use Rattle.std.proofs.Common.{◌≡◌, List, [], ◌∷◌, ◌++◌, Option, Some, None, refl, sym, ap, ◌∙◌}
use Rattle.std.proofs.Common.{append_assoc, append-nil}
use Rattle.fx_model.specs.declared.Rounding.{Rounding}
use Rattle.script_words.specs.declared.class.Symbol.TheVariants as s
use Rattle.script_words.specs.declared.class.Spelled.TheVariants as spelled
use Rattle.script_words.specs.Words.{Word, sign}
use Rattle.script_shape.specs.declared.due.Due.{Due}
use Rattle.script_shape.specs.declared.due.Due.TheVariants as d
use Rattle.script_shape.specs.Expressions.{AnyName, plain, operator, Special, free, defined}
use Rattle.script_shape.specs.Expressions.{Operator, fixed, int, Expr}
use Rattle.script_shape.specs.Tree.{How, exactly, rounded_by, rounded_apart, rounded_joined}
use Rattle.script_shape.specs.Tree.{Definition, names_operator, names_value, Script, formula}
use Rattle.script_shape.specs.Tree.{define}
use Rattle.script_shape.specs.Roles.{Leaf, at, special_leaves, name_leaves, operator_leaves}
use Rattle.script_shape.specs.Roles.{expr_leaves, how_leaves, definition_leaves, script_leaves}
use Rattle.script_shape.proofs.Inner.{EachRole, IsInner, expr_inner, operator_rest, operator_inner}
use Rattle.script_nodes.specs.Known.{Name, Known, nothing_known, no_rounding}
use Rattle.script_nodes.specs.Operators.{rounding_of, direction_of, special_text}
use Rattle.script_nodes.specs.Values.{expr_value}
use Rattle.script_nodes.specs.declared.waits.Waits.{Waits}
use Rattle.script_nodes.specs.declared.waits.Waits.TheVariants as wait
use Rattle.script_nodes.specs.Waits.{Reading, Complete, expr_done, read, read_all}
use Rattle.script_nodes.specs.Definitions.{with_value, name_text, rounding_by, definition_value}
use Rattle.script_nodes.specs.Definitions.{definitions_value}
use Rattle.script_nodes.specs.Defining.{Defining, between, with_reading, define_word, define_all}
use Rattle.script_nodes.specs.Defining.{value_joined, joined, ReadsDefinitions}
use Rattle.script_nodes.proofs.TreeReads.{from, whole_reads, expr_reads}

regroup : (a b rest : List Leaf) (p : Defining)
    → define_all ((a ++ b) ++ rest) p ≡ define_all (a ++ (b ++ rest)) p
regroup a b rest p = ap (λ l. define_all l p) (append_assoc a b rest)

one_inner : (r : Due) (w : Word) (ls : List Leaf) (p : Defining) → IsInner r
    → define_all (at r w ∷ ls) p ≡ define_all ls (with_reading p (read p.rounds r w p.reading))
unfolding define_all define_word
one_inner d.Operand w ls p h = refl
one_inner d.Tail w ls p h = refl
one_inner d.OpenParen w ls p h = refl
one_inner d.CloseParen w ls p h = refl
one_inner d.CloseBar w ls p h = refl
one_inner d.Comma w ls p h = refl
one_inner d.Less w ls p h = refl
one_inner d.Whole w ls p h = refl
one_inner d.WholeDigits w ls p h = refl
one_inner d.Direction w ls p h = refl
one_inner d.Greater w ls p h = refl
one_inner _ w ls p h = absurd h

-- words of an expression are read as such
all_inner : (ls rest : List Leaf) (p : Defining) → EachRole IsInner ls
    → define_all (ls ++ rest) p ≡ define_all rest (with_reading p (read_all p.rounds ls p.reading))
unfolding read_all
all_inner [] rest p h = refl
all_inner (l ∷ ls) rest p h = one_inner l.role l.word (ls ++ rest) p h.0
    ∙ all_inner ls rest (with_reading p (read p.rounds l.role l.word p.reading)) h.1

-- ---- operators

abbrev state : Option Name → Option Rounding → Known → List Waits → Defining
state n q k ws = record { name = n; rounds = q; reading = from k ws }

direction_ends : (q : Option Rounding) (x : Special) (k : Known) (r : Rounding) (ws : List Waits)
    → read_all q (special_leaves d.Direction spelled.Direction x) (from k (wait.Operator r ∷ ws))
    ≡ from k (wait.Operator (record { lsb = r.lsb; dir = direction_of (special_text x) }) ∷ ws)
unfolding read read_all
direction_ends q (free t) k r ws = refl
direction_ends q (defined t) k r ws = refl

-- behind its first word
rest_reads : (q : Option Rounding) (o : Operator) (k : Known) (ws : List Waits)
    → read_all q (operator_rest o) (from k (wait.Operator no_rounding ∷ ws))
    ≡ from k (wait.Operator (rounding_of o) ∷ ws)
unfolding read read_all
rest_reads q (fixed l x) k ws = whole_reads q l _ k no_rounding ws ∙ direction_ends q x k _ ws
rest_reads q (int x) k ws = direction_ends q x k no_rounding ws

rest_defines : (o : Operator)
    (rest : List Leaf) (n : Option Name) (q : Option Rounding) (k : Known) (ws : List Waits)
    → define_all (operator_rest o ++ rest) (state n q k (wait.Operator no_rounding ∷ ws))
    ≡ define_all rest (state n q k (wait.Operator (rounding_of o) ∷ ws))
rest_defines o rest n q k ws =
    all_inner (operator_rest o) rest _ (operator_inner o) ∙ ap (λ (r : Reading).
    define_all rest (record { name = n; rounds = q; reading = r })) (rest_reads q o k ws)

-- after a definition's name, and after `@ name =`
operator_apart : (o : Operator) (rest : List Leaf) (n : Option Name) (k : Known)
    → define_all (operator_leaves d.DefinedBy o ++ rest) (state n None k [])
    ≡ define_all rest (state n None k (wait.Operator (rounding_of o) ∷ []))
unfolding define_all define_word
operator_apart (fixed l x) rest n k = rest_defines (fixed l x) rest n None k []
operator_apart (int x) rest n k = rest_defines (int x) rest n None k []

operator_named_so : (o : Operator) (rest : List Leaf) (n : Option Name) (k : Known)
    → define_all (operator_leaves d.Operator o ++ rest) (state n None k [])
    ≡ define_all rest (state n None k (wait.Operator (rounding_of o) ∷ []))
unfolding define_all define_word
operator_named_so (fixed l x) rest n k = rest_defines (fixed l x) rest n None k []
operator_named_so (int x) rest n k = rest_defines (int x) rest n None k []

-- ---- values

how_defines : (h : How) (rest : List Leaf) (n : Option Name) (k : Known)
    → define_all (how_leaves h ++ rest) (state n None k [])
    ≡ define_all rest (state n (rounding_by k h) k [])
unfolding define_all define_word read
how_defines exactly rest n k = refl
how_defines (rounded_by kind text) rest n k = refl
how_defines (rounded_apart o) rest n k =
    regroup (operator_leaves d.DefinedBy o) _ rest _ ∙ operator_apart o _ n k
how_defines (rounded_joined o) rest n k =
    regroup (operator_leaves d.DefinedBy o) _ rest _ ∙ operator_apart o _ n k

joined_value : (q : Option Rounding) (text : Name) (r : Reading) (ws : List Waits) (c : Complete)
    → expr_done q r ws ≡ Some c → joined q text r ws ≡ value_joined text r (Some c)
joined_value q text r [] c e = cc e
joined_value q text r (wait.Call o ∷ ws) c e = cc e
joined_value q text r (w ∷ ws) c e = ap (value_joined text r) e

-- the right side of a definition, up to its end
value_defines : (e : Expr) (rest : List Leaf) (text : Name) (q : Option Rounding) (k : Known)
    → define_all (expr_leaves e ++ (at d.Semicolon (sign s.Semicolon) ∷ rest))
    (state (Some text) q k []) ≡ define_all rest (between (with_value text (expr_value q e k)))
unfolding define_all define_word read_all
value_defines e rest text q k =
    let l = expr_reads q e [] k [] tt in
    let m : read_all q (expr_leaves e) (from k []) ≡ l.after =
    ap (λ t. read_all q t (from k [])) (sym (append-nil (expr_leaves e))) ∙ l.same in
    all_inner (expr_leaves e) _ _ (expr_inner e)
    ∙ ap (λ (r : Reading). define_all (at d.Semicolon (sign s.Semicolon) ∷ rest)
    (record { name = Some text; rounds = q; reading = r })) m
    ∙ ap (λ (r : Reading). define_all rest (record { name = None; rounds = None; reading = r }))
    (joined_value q text l.after l.after.waits _ l.done)

-- ---- definitions

value_name : (n : AnyName) (rest : List Leaf) (k : Known)
    → define_all (name_leaves d.Script n ++ rest) (between k)
    ≡ define_all rest (state (Some (name_text n)) None k [])
unfolding define_all define_word
value_name (plain kind text) rest k = refl
value_name (operator kind text) rest k = refl

operator_name : (n : AnyName) (rest : List Leaf) (k : Known)
    → define_all (name_leaves d.NewName n ++ rest) (between k)
    ≡ define_all rest (state (Some (name_text n)) None k [])
unfolding define_all define_word
operator_name (plain kind text) rest k = refl
operator_name (operator kind text) rest k = refl

pub definition_reads : (x : Definition) (rest : List Leaf) (k : Known)
    → define_all (definition_leaves x ++ rest) (between k)
    ≡ define_all rest (between (definition_value x k))
unfolding define_all define_word read
definition_reads (names_value n h e) rest k =
    regroup (name_leaves d.Script n) _ rest _ ∙ value_name n _ k
    ∙ regroup (how_leaves h) _ rest _ ∙ how_defines h _ _ k
    ∙ regroup (expr_leaves e) _ rest _ ∙ value_defines e rest (name_text n) (rounding_by k h) k
definition_reads (names_operator n o) rest k =
    regroup (name_leaves d.NewName n) _ rest _ ∙ operator_name n _ k
    ∙ regroup (operator_leaves d.Operator o) _ rest _ ∙ operator_named_so o _ _ k

script_reads : (tree : Script) (k : Known)
    → define_all (script_leaves tree) (between k) ≡ between (definitions_value tree k)
unfolding define_all
script_reads (formula f h) k = refl
script_reads (define x rest) k =
    definition_reads x (script_leaves rest) k ∙ script_reads rest (definition_value x k)

pub reads_definitions : ReadsDefinitions
reads_definitions tree = script_reads tree nothing_known
