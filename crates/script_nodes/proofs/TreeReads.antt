-- The words of an expression are read as its tree.
use Rattle.std.proofs.Common.{◌≡◌, List, [], ◌∷◌, ◌++◌, Option, Some, refl, ap, ◌∙◌, append_assoc}
use Rattle.fx_model.specs.declared.Rounding.{Rounding}
use Rattle.fx_model.specs.declared.ExprId.{ExprId}
use Rattle.script_words.specs.declared.class.Symbol.TheVariants as s
use Rattle.script_words.specs.Words.{sign}
use Rattle.script_words.specs.declared.class.Spelled.TheVariants as spelled
use Rattle.script_shape.specs.declared.due.Due.TheVariants as d
use Rattle.script_shape.specs.Expressions.{Special, free, defined, Whole, natural, opposite}
use Rattle.script_shape.specs.Expressions.{zero_alone, digits, Operator, fixed, int, Expr, term}
use Rattle.script_shape.specs.Expressions.{sum, difference, Term, factor, product, quotient, Factor}
use Rattle.script_shape.specs.Expressions.{negation, atom, Atom, number, variable, parenthesized}
use Rattle.script_shape.specs.Expressions.{absolute, called, rounded, fused}
use Rattle.script_shape.specs.Roles.{Leaf, at, special_leaves, whole_leaves, operator_leaves}
use Rattle.script_shape.specs.Roles.{expr_leaves, term_leaves, factor_leaves, atom_leaves}
use Rattle.script_nodes.specs.Known.{Known, PlacedNode, no_rounding, operator_named}
use Rattle.script_nodes.specs.Operators.{direction_of, special_text, whole_value, rounding_of}
use Rattle.script_nodes.specs.Values.{expr_value, term_value, factor_value, atom_value}
use Rattle.script_nodes.specs.declared.waits.Waits.{Waits}
use Rattle.script_nodes.specs.declared.waits.Waits.TheVariants as wait
use Rattle.script_nodes.specs.Waits.{Reading, waiting, factor_done, term_done, then_operation}
use Rattle.script_nodes.specs.Waits.{closed, parted, read, read_all}
use Rattle.script_nodes.specs.ReadingLaw.{IsReadAs, ReadsTrees}

-- What waits lets a whole term stand: no operation on factors waits.
abbrev pub LetsTerm : List Waits → Type 0
LetsTerm (wait.Minus ∷ ws) = ⊥
LetsTerm (wait.Product u ∷ ws) = ⊥
LetsTerm (wait.Quotient u ∷ ws) = ⊥
LetsTerm ws = Unit {0}

-- A whole expression stands at the front, or behind a sign that opens.
abbrev pub LetsExpr : List Waits → Type 0
LetsExpr [] = Unit {0}
LetsExpr (wait.Paren ∷ ws) = Unit {0}
LetsExpr (wait.Bar ∷ ws) = Unit {0}
LetsExpr (wait.Call r ∷ ws) = Unit {0}
LetsExpr (wait.Fma ∷ ws) = Unit {0}
LetsExpr (wait.FmaWithOne a ∷ ws) = Unit {0}
LetsExpr (wait.FmaWithTwo a b ∷ ws) = Unit {0}
LetsExpr ws = ⊥

term_in : (ws : List Waits) → LetsExpr ws → LetsTerm ws
term_in [] h = tt
term_in (wait.Paren ∷ ws) h = tt
term_in (wait.Bar ∷ ws) h = tt
term_in (wait.Call r ∷ ws) h = tt
term_in (wait.Fma ∷ ws) h = tt
term_in (wait.FmaWithOne a ∷ ws) h = tt
term_in (wait.FmaWithTwo a b ∷ ws) h = tt
term_in (w ∷ ws) h = absurd h

abbrev pub from : Known → List Waits → Reading
from k ws = record { known = k; waits = ws }

module _ (q : Option Rounding) where
  stands : (ws : List Waits) (p : PlacedNode) → LetsTerm ws → factor_done q ws p ≡ waiting p ws
  stands [] p h = refl
  stands (wait.Minus ∷ ws) p h = absurd h
  stands (wait.Product u ∷ ws) p h = absurd h
  stands (wait.Quotient u ∷ ws) p h = absurd h
  stands (w ∷ ws) p h = refl

  alone : (k : Known) (v : ExprId) (ws : List Waits) → LetsExpr ws
      → term_done q k v ws ≡ ((k, v), ws)
  alone k v [] h = refl
  alone k v (wait.Paren ∷ ws) h = refl
  alone k v (wait.Bar ∷ ws) h = refl
  alone k v (wait.Call r ∷ ws) h = refl
  alone k v (wait.Fma ∷ ws) h = refl
  alone k v (wait.FmaWithOne a ∷ ws) h = refl
  alone k v (wait.FmaWithTwo a b ∷ ws) h = refl
  alone k v (w ∷ ws) h = absurd h

  regroup : (a b rest : List Leaf) (r : Reading)
      → read_all q ((a ++ b) ++ rest) r ≡ read_all q (a ++ (b ++ rest)) r
  regroup a b rest r = ap (λ l. read_all q l r) (append_assoc a b rest)

  -- ---- operators

  pub direction_reads : (x : Special) (rest : List Leaf) (k : Known) (r : Rounding)
      (ws : List Waits) → read_all q (special_leaves d.Direction spelled.Direction x ++ rest)
      (from k (wait.Operator r ∷ ws)) ≡ read_all q rest (from k
      (wait.Operator (record { lsb = r.lsb; dir = direction_of (special_text x) }) ∷ ws))
  unfolding read read_all
  direction_reads (free t) rest k r ws = refl
  direction_reads (defined t) rest k r ws = refl

  pub whole_reads : (l : Whole) (rest : List Leaf) (k : Known) (r : Rounding) (ws : List Waits)
      → read_all q (whole_leaves l ++ rest) (from k (wait.Operator r ∷ ws))
      ≡ read_all q rest (from k (wait.Operator (record { lsb = whole_value l; dir = r.dir }) ∷ ws))
  unfolding read read_all
  whole_reads (natural (zero_alone t)) rest k r ws = refl
  whole_reads (natural (digits t)) rest k r ws = refl
  whole_reads (opposite (zero_alone t)) rest k r ws = refl
  whole_reads (opposite (digits t)) rest k r ws = refl

  operator_reads : (o : Operator) (rest : List Leaf) (k : Known) (ws : List Waits)
      → read_all q (operator_leaves d.Operand o ++ rest) (from k ws)
      ≡ read_all q rest (from k (wait.Operator (rounding_of o) ∷ ws))
  unfolding read read_all
  operator_reads (fixed l x) rest k ws = regroup (whole_leaves l) _ rest _
      ∙ whole_reads l _ k no_rounding ws ∙ direction_reads x rest k _ ws
  operator_reads (int x) rest k ws = direction_reads x rest k _ ws

  -- ---- expressions

  mutual
    unfolding read read_all

    pub expr_reads : (e : Expr) (rest : List Leaf) (k : Known) (ws : List Waits) → LetsExpr ws
        → IsReadAs q e rest k ws
    expr_reads (term t) rest k ws h = record {
      after = waiting (term_value q t k) ws;
      same = term_reads t rest k ws (term_in ws h);
      done = ap Some (alone _ _ ws h);
    }
    expr_reads (sum e t) rest k ws h =
        let l = expr_reads e (at d.Tail (sign s.Plus) ∷ (term_leaves t ++ rest)) k ws h in
        let left = expr_value q e k in
        record {
          after = waiting (term_value q t left.0) (wait.Sum left.1 ∷ ws);
          same = regroup (expr_leaves e) _ rest _ ∙ l.same ∙ ap (λ o.
              read_all q (term_leaves t ++ rest) (then_operation wait.Sum l.after o)) l.done
              ∙ term_reads t rest left.0 (wait.Sum left.1 ∷ ws) tt;
          done = refl;
        }
    expr_reads (difference e t) rest k ws h =
        let l = expr_reads e (at d.Tail (sign s.Minus) ∷ (term_leaves t ++ rest)) k ws h in
        let left = expr_value q e k in
        record {
          after = waiting (term_value q t left.0) (wait.Difference left.1 ∷ ws);
          same = regroup (expr_leaves e) _ rest _ ∙ l.same ∙ ap (λ o.
              read_all q (term_leaves t ++ rest) (then_operation wait.Difference l.after o)) l.done
              ∙ term_reads t rest left.0 (wait.Difference left.1 ∷ ws) tt;
          done = refl;
        }

    term_reads : (t : Term) (rest : List Leaf) (k : Known) (ws : List Waits)
        → LetsTerm ws → read_all q (term_leaves t ++ rest) (from k ws)
        ≡ read_all q rest (waiting (term_value q t k) ws)
    term_reads (factor f) rest k ws h =
        factor_reads f rest k ws ∙ ap (read_all q rest) (stands ws (factor_value q f k) h)
    term_reads (product t f) rest k ws h =
        let left = term_value q t k in
        regroup (term_leaves t) _ rest _ ∙ term_reads t _ k ws h
        ∙ factor_reads f rest left.0 (wait.Product left.1 ∷ ws)
    term_reads (quotient t f) rest k ws h =
        let left = term_value q t k in
        regroup (term_leaves t) _ rest _ ∙ term_reads t _ k ws h
        ∙ factor_reads f rest left.0 (wait.Quotient left.1 ∷ ws)

    factor_reads : (f : Factor) (rest : List Leaf) (k : Known) (ws : List Waits)
        → read_all q (factor_leaves f ++ rest) (from k ws)
        ≡ read_all q rest (factor_done q ws (factor_value q f k))
    factor_reads (negation f) rest k ws = factor_reads f rest k (wait.Minus ∷ ws)
    factor_reads (atom a) rest k ws = atom_reads a rest k ws

    atom_reads : (a : Atom) (rest : List Leaf) (k : Known) (ws : List Waits)
        → read_all q (atom_leaves a ++ rest) (from k ws)
        ≡ read_all q rest (factor_done q ws (atom_value q a k))
    atom_reads (number kind text) rest k ws = refl
    atom_reads (variable kind text) rest k ws = refl
    atom_reads (parenthesized e) rest k ws =
        let l = expr_reads e (at d.CloseParen (sign s.CloseParen) ∷ rest) k (wait.Paren ∷ ws) tt in
        regroup (expr_leaves e) _ rest _ ∙ l.same
        ∙ ap (λ o. read_all q rest (closed q l.after o)) l.done
    atom_reads (absolute e) rest k ws =
        let l = expr_reads e (at d.CloseBar (sign s.Bar) ∷ rest) k (wait.Bar ∷ ws) tt in
        regroup (expr_leaves e) _ rest _ ∙ l.same
        ∙ ap (λ o. read_all q rest (closed q l.after o)) l.done
    atom_reads (called kind text e) rest k ws =
        let l = expr_reads e (at d.CloseParen (sign s.CloseParen) ∷ rest) k
        (wait.Call (operator_named k text) ∷ ws) tt in
        regroup (expr_leaves e) _ rest _ ∙ l.same
        ∙ ap (λ o. read_all q rest (closed q l.after o)) l.done
    atom_reads (rounded o e) rest k ws =
        let l = expr_reads e (at d.CloseParen (sign s.CloseParen) ∷ rest) k
        (wait.Call (rounding_of o) ∷ ws) tt in
        regroup (operator_leaves d.Operand o) _ rest _ ∙ operator_reads o _ k ws
        ∙ regroup (expr_leaves e) _ rest _ ∙ l.same
        ∙ ap (λ c. read_all q rest (closed q l.after c)) l.done
    atom_reads (fused a b c) rest k ws =
        let x = expr_value q a k in
        let y = expr_value q b x.0 in
        let comma = at d.Comma (sign s.Comma) in
        let after_b = expr_leaves c ++ (at d.CloseParen (sign s.CloseParen) ∷ rest) in
        let l = expr_reads a (comma ∷ (expr_leaves b ++ (comma ∷ after_b))) k (wait.Fma ∷ ws) tt in
        let m = expr_reads b (comma ∷ after_b) x.0 (wait.FmaWithOne x.1 ∷ ws) tt in
        let n = expr_reads c (at d.CloseParen (sign s.CloseParen) ∷ rest) y.0
        (wait.FmaWithTwo x.1 y.1 ∷ ws) tt in
        regroup (expr_leaves a) _ rest _ ∙ ap (λ t. read_all q (expr_leaves a ++ (comma ∷ t))
        (from k (wait.Fma ∷ ws))) (append_assoc (expr_leaves b) _ rest
        ∙ ap (λ t. expr_leaves b ++ (comma ∷ t)) (append_assoc (expr_leaves c) _ rest))
        ∙ l.same ∙ ap (λ o. read_all q (expr_leaves b ++ (comma ∷ after_b))
        (parted l.after o)) l.done
        ∙ m.same ∙ ap (λ o. read_all q after_b (parted m.after o)) m.done
        ∙ n.same ∙ ap (λ o. read_all q rest (closed q n.after o)) n.done

-- at the front of what waits
pub reads_trees : ReadsTrees
reads_trees q e rest k = expr_reads q e rest k [] tt
