-- The words of a formula are read as its claims.
use Rattle.std.specs.Prelude.{◌≡◌, ℤ, pos, List, [], ◌∷◌, ◌++◌, Some, None, Bool, true, false, refl}
use Rattle.std.proofs.Common.{ap, sym, ◌∙◌, append_assoc, append-nil}
use Rattle.fx_model.specs.declared.ExprId.{ExprId}
use Rattle.script_words.specs.declared.class.Symbol.TheVariants as s
use Rattle.script_words.specs.declared.class.Spelled.TheVariants as spelled
use Rattle.script_words.specs.Words.{Word, name, rounding, literal, sign}
use Rattle.script_shape.specs.declared.due.Due.{Due}
use Rattle.script_shape.specs.declared.due.Due.TheVariants as d
use Rattle.script_shape.specs.Expressions.{Special, free, defined, zero_alone, digits, Whole}
use Rattle.script_shape.specs.Expressions.{natural, opposite, Bound, unsigned, positive, negative}
use Rattle.script_shape.specs.Expressions.{Expr}
use Rattle.script_shape.specs.Propositions.{Range, asked, between, Prop, lies_in, relative_in}
use Rattle.script_shape.specs.Propositions.{at_most, at_least, multiple, Stated, affirmed, denied}
use Rattle.script_shape.specs.Propositions.{Formula, single, and, or, implies}
use Rattle.script_shape.specs.Roles.{Leaf, at, special_leaves, whole_leaves, bound_leaves}
use Rattle.script_shape.specs.Roles.{expr_leaves, range_leaves, prop_leaves, stated_leaves}
use Rattle.script_shape.specs.Roles.{formula_leaves}
use Rattle.script_shape.proofs.Inner.{EachRole, IsInner, expr_inner}
use Rattle.script_nodes.specs.Known.{Known, PlacedNode}
use Rattle.script_nodes.specs.Values.{expr_value}
use Rattle.script_nodes.specs.Waits.{Reading, waiting, expr_done, parted as comma_parted, read}
use Rattle.script_nodes.specs.Waits.{read_all}
use Rattle.script_nodes.specs.ReadingLaw.{ReadsTrees}
use Rattle.script_nodes.specs.Written.{bound_written}
use Rattle.script_claims.specs.declared.claim.Claim.{Claim}
use Rattle.script_claims.specs.declared.claim.Claim.TheVariants.{Multiple}
use Rattle.script_claims.specs.declared.proposition.Proposition.{Proposition}
use Rattle.script_claims.specs.declared.part.Part.{Part}
use Rattle.script_claims.specs.declared.part.Part.TheVariants.{Nothing, Against, In, RelativeIn}
use Rattle.script_claims.specs.declared.part.Part.TheVariants.{AtMost, AtLeast, Made}
use Rattle.script_claims.specs.Claims.{exponent_of, ranged, relative, stated, Sides, Claims}
use Rattle.script_claims.specs.Claims.{no_claims, prop_claim, then_goal, then_or, then_arrow}
use Rattle.script_claims.specs.Claims.{then_claimed, formula_claims}
use Rattle.script_claims.specs.Parts.{questioned, bounded, relation_behind, in_behind}
use Rattle.script_claims.specs.Reads.{State, from_claims, taken, read_claim, read_claims}
use Rattle.script_claims.specs.Reads.{ReadsFormulas}

-- ---- the words of an expression leave the proposition as it is

abbrev exponent_on : Proposition → ℤ → Proposition
exponent_on p n = record p { exponent = n }

abbrev reading_on : State → Reading → ℤ → State
reading_on st r n =
    record { reading = r; proposition = exponent_on st.proposition n; sides = st.sides }

inner_step : (r : Due) (w : Word) (st : State) → IsInner r
    → (n : ℤ) × (read_claim r w st ≡ reading_on st (read None r w st.reading) n)
unfolding read_claim
inner_step d.Operand w st q = (st.proposition.exponent, refl)
inner_step d.Tail w st q = (st.proposition.exponent, refl)
inner_step d.OpenParen w st q = (st.proposition.exponent, refl)
inner_step d.CloseParen w st q = (st.proposition.exponent, refl)
inner_step d.CloseBar w st q = (st.proposition.exponent, refl)
inner_step d.Comma w st q = (st.proposition.exponent, refl)
inner_step d.Less w st q = (st.proposition.exponent, refl)
inner_step d.Greater w st q = (st.proposition.exponent, refl)
inner_step d.Direction w st q = (st.proposition.exponent, refl)
inner_step d.Whole (literal k text) st q = (_, refl)
inner_step d.Whole (name k text) st q = (st.proposition.exponent, refl)
inner_step d.Whole (rounding k text) st q = (st.proposition.exponent, refl)
inner_step d.Whole (sign g) st q = (st.proposition.exponent, refl)
inner_step d.WholeDigits (literal k text) st q = (_, refl)
inner_step d.WholeDigits (name k text) st q = (st.proposition.exponent, refl)
inner_step d.WholeDigits (rounding k text) st q = (st.proposition.exponent, refl)
inner_step d.WholeDigits (sign g) st q = (st.proposition.exponent, refl)
inner_step _ w st q = absurd q

inner_reads : (ls rest : List Leaf) (st : State)
    → EachRole IsInner ls → (n : ℤ) × (read_claims (ls ++ rest) st
    ≡ read_claims rest (reading_on st (read_all None ls st.reading) n))
unfolding read_all read_claims
inner_reads [] rest st q = (st.proposition.exponent, refl)
inner_reads (l ∷ ls) rest st q =
    let m = inner_step l.role l.word st q.0 in
    let more = inner_reads ls rest (reading_on st (read None l.role l.word st.reading) m.0) q.1 in
    (more.0, ap (read_claims (ls ++ rest)) m.1 ∙ more.1)

-- ---- an expression at the front

record ExprRead (e : Expr) (rest : List Leaf) (k : Known) (st : State) : Type 0 where
  after : Reading
  exponent : ℤ
  same : read_claims (expr_leaves e ++ rest)
      (record st { reading = record { known = k; waits = [] } })
      ≡ read_claims rest (reading_on st after exponent)
  done : expr_done None after after.waits ≡ Some (expr_value None e k, [])

-- ---- the end of a proposition

data Ending : Type 0 where
  joined : Ending
  disjoined : Ending
  parted : Ending
  closed : Ending

abbrev ending_leaf : Ending → Leaf
ending_leaf joined = at d.Connective (sign s.And)
ending_leaf disjoined = at d.Connective (sign s.Or)
ending_leaf parted = at d.Connective (sign s.Arrow)
ending_leaf closed = at d.CloseBrace (sign s.CloseBrace)

abbrev ended_by : Ending → Claims → Claims
ended_by joined cs = cs
ended_by disjoined cs = then_or cs
ended_by parted cs = then_arrow cs
ended_by closed cs = cs

-- in a proposition, with a `not` before it or without
abbrev midway : Sides → Known → Part → ℤ → Bool → Bool → State
midway sides k p n b t = record {
  reading = record { known = k; waits = [] };
  proposition = record { part = p; exponent = n; negative = b; denied = t };
  sides = sides;
}

-- its claim is one more goal
abbrev then_stated : Bool → Sides → Known × Claim → Claims
then_stated t sides p = then_goal sides (p.0, stated t p.1)

made_ends : (g : Ending) (rest : List Leaf) (sides : Sides) (k : Known) (c : Claim)
    (n : ℤ) (b t : Bool) → read_claims (ending_leaf g ∷ rest) (midway sides k (Made c) n b t)
    ≡ read_claims rest (from_claims (ended_by g (then_stated t sides (k, c))))
unfolding read read_claim read_claims
made_ends joined rest sides k c n b t = refl
made_ends disjoined rest sides k c n b t = refl
made_ends parted rest sides k c n b t = refl
made_ends closed rest sides k c n b t = refl

-- ---- bounds and ranges

regroup : (a b rest : List Leaf) (st : State)
    → read_claims ((a ++ b) ++ rest) st ≡ read_claims (a ++ (b ++ rest)) st
regroup a b rest st = ap (λ l. read_claims l st) (append_assoc a b rest)

bound_reads : (x : Bound) (rest : List Leaf) (st : State)
    → (b : Bool) × (read_claims (bound_leaves x ++ rest) st ≡ read_claims rest (record st {
      proposition =
          record st.proposition
          { part = bounded (bound_written x) st.proposition.part; negative = b };
    }))
unfolding read read_claim read_claims
bound_reads (unsigned k text) rest st = (_, refl)
bound_reads (positive k text) rest st = (_, refl)
bound_reads (negative k text) rest st = (_, refl)

range_reads : (r : Range) (g : Ending) (rest : List Leaf)
    (sides : Sides) (k : Known) (p : Part) (claim : Range → Claim) (n : ℤ) (b t : Bool)
    → questioned p ≡ Made (claim asked) → ((x y : Bound)
    → bounded (bound_written y) (bounded (bound_written x) p) ≡ Made (claim (between x y)))
    → read_claims (range_leaves r ++ (ending_leaf g ∷ rest)) (midway sides k p n b t)
    ≡ read_claims rest (from_claims (ended_by g (then_stated t sides (k, claim r))))
unfolding read read_claim read_claims
range_reads asked g rest sides k p claim n b t q h =
    ap (λ x. read_claims (ending_leaf g ∷ rest) (midway sides k x n b t)) q
    ∙ made_ends g rest sides k (claim asked) n b t
range_reads (between x y) g rest sides k p claim n b t q h =
    let close = at d.CloseBracket (sign s.CloseBracket) in
    let comma = at d.Comma (sign s.Comma) in
    let first = bound_reads x (comma ∷ (bound_leaves y ++ (close ∷ (ending_leaf g ∷ rest))))
    (midway sides k p n b t) in
    let second = bound_reads y (close ∷ (ending_leaf g ∷ rest))
    (midway sides k (bounded (bound_written x) p) n first.0 t) in
    regroup (bound_leaves x) _ (ending_leaf g ∷ rest) (midway sides k p n b t)
    ∙ ap (λ l. read_claims (bound_leaves x ++ (comma ∷ l)) (midway sides k p n b t))
    (append_assoc (bound_leaves y) (close ∷ []) (ending_leaf g ∷ rest))
    ∙ first.1 ∙ second.1
    ∙ ap (λ z. read_claims (ending_leaf g ∷ rest) (midway sides k z n second.0 t)) (h x y)
    ∙ made_ends g rest sides k (claim (between x y)) n second.0 t

-- ---- the exponent of a multiple

whole_reads : (w : Whole) (rest : List Leaf) (st : State) (v : ExprId) (k : Known)
    → read_claims (whole_leaves w ++ rest) (record st { reading = waiting (k, v) [] })
    ≡ read_claims rest (reading_on st (waiting (k, v) []) (exponent_of w))
unfolding read read_claim read_claims
whole_reads (natural (zero_alone t)) rest st v k = refl
whole_reads (natural (digits t)) rest st v k = refl
whole_reads (opposite (zero_alone t)) rest st v k = refl
whole_reads (opposite (digits t)) rest st v k = refl

-- the expression of a multiple waits until the proposition ends
multiple_ends : (g : Ending) (rest : List Leaf) (sides : Sides) (p : PlacedNode) (n : ℤ) (t : Bool)
    → read_claims (at d.CloseParen (sign s.CloseParen) ∷ (ending_leaf g ∷ rest)) (record {
      reading = waiting p [];
      proposition = record { part = Nothing; exponent = n; negative = false; denied = t };
      sides = sides;
    }) ≡ read_claims rest (from_claims (ended_by g (then_stated t sides (p.0, Multiple p.1 n))))
unfolding read read_claim read_claims
multiple_ends joined rest sides p n t = refl
multiple_ends disjoined rest sides p n t = refl
multiple_ends parted rest sides p n t = refl
multiple_ends closed rest sides p n t = refl

special_reads : (x : Special) (rest : List Leaf) (st : State)
    → read_claims (special_leaves d.Fix spelled.Fix x ++ rest) st ≡ read_claims rest st
unfolding read read_claim read_claims
special_reads (free t) rest st = refl
special_reads (defined t) rest st = refl

-- ---- propositions

module _ (reads_trees : ReadsTrees) where
  expr_reads : (e : Expr) (rest : List Leaf) (k : Known) (st : State) → ExprRead e rest k st
  unfolding read_all
  expr_reads e rest k st =
      let l = reads_trees None e [] k in
      let start : Reading = record { known = k; waits = [] } in
      let whole : read_all None (expr_leaves e) start ≡ l.after =
      ap (λ ls. read_all None ls start) (sym (append-nil (expr_leaves e))) ∙ l.same in
      let m = inner_reads (expr_leaves e) rest (record st { reading = start }) (expr_inner e) in
      record {
        after = l.after;
        exponent = m.0;
        same = m.1 ∙ ap (λ r. read_claims rest (reading_on st r m.0)) whole;
        done = l.done;
      }

  -- before a proposition, behind a `not` or without one
  abbrev before : Bool → Claims → State
  before t cs = midway cs.sides cs.known Nothing (pos 0) false t

  prop_reads : (p : Prop) (t : Bool) (g : Ending) (rest : List Leaf) (cs : Claims)
      → read_claims (prop_leaves p ++ (ending_leaf g ∷ rest)) (before t cs)
      ≡ read_claims rest (from_claims (ended_by g (then_stated t cs.sides (prop_claim p cs.known))))
  unfolding read read_claim read_claims
  prop_reads (lies_in e r) t g rest cs =
      let st = before t cs in
      let more = range_leaves r ++ (ending_leaf g ∷ rest) in
      let x = expr_reads e (at d.Relation (sign s.In) ∷ more) cs.known st in
      let v = expr_value None e cs.known in
      regroup (expr_leaves e) _ _ st ∙ x.same ∙ ap (λ o. read_claims more
      (taken (relation_behind (sign s.In)) (reading_on st x.after x.exponent) o)) x.done
      ∙ range_reads r g rest cs.sides v.0 (In v.1)
      (λ r. ranged r v.1) x.exponent false t refl (λ a b. refl)
  prop_reads (relative_in e f r) t g rest cs =
      let st = before t cs in
      let more = range_leaves r ++ (ending_leaf g ∷ rest) in
      let second = expr_leaves f ++ (at d.In (sign s.In) ∷ more) in
      let x = expr_reads e (at d.Relation (sign s.Against) ∷ second) cs.known st in
      let v = expr_value None e cs.known in
      let middle = midway cs.sides v.0 (Against v.1) x.exponent false t in
      let y = expr_reads f (at d.In (sign s.In) ∷ more) v.0 middle in
      let w = expr_value None f v.0 in
      regroup (expr_leaves e) _ _ st
      ∙ ap (λ l. read_claims (expr_leaves e ++ (at d.Relation (sign s.Against) ∷ l)) st)
      (append_assoc (expr_leaves f) _ (ending_leaf g ∷ rest))
      ∙ x.same ∙ ap (λ o. read_claims second
      (taken (relation_behind (sign s.Against)) (reading_on st x.after x.exponent) o)) x.done
      ∙ y.same
      ∙ ap (λ o. read_claims more (taken in_behind (reading_on middle y.after y.exponent) o)) y.done
      ∙ range_reads r g rest cs.sides w.0 (RelativeIn v.1 w.1)
      (λ r. relative r v.1 w.1) y.exponent false t refl (λ a b. refl)
  prop_reads (at_most e b) t g rest cs =
      let st = before t cs in
      let more = bound_leaves b ++ (ending_leaf g ∷ rest) in
      let x = expr_reads e (at d.Relation (sign s.LessEqual) ∷ more) cs.known st in
      let v = expr_value None e cs.known in
      let n = bound_reads b (ending_leaf g ∷ rest)
      (midway cs.sides v.0 (AtMost v.1) x.exponent false t) in
      regroup (expr_leaves e) _ _ st ∙ x.same ∙ ap (λ o. read_claims more
      (taken (relation_behind (sign s.LessEqual)) (reading_on st x.after x.exponent) o)) x.done
      ∙ n.1 ∙ made_ends g rest cs.sides v.0 _ x.exponent n.0 t
  prop_reads (at_least e b) t g rest cs =
      let st = before t cs in
      let more = bound_leaves b ++ (ending_leaf g ∷ rest) in
      let x = expr_reads e (at d.Relation (sign s.GreaterEqual) ∷ more) cs.known st in
      let v = expr_value None e cs.known in
      let n = bound_reads b (ending_leaf g ∷ rest)
      (midway cs.sides v.0 (AtLeast v.1) x.exponent false t) in
      regroup (expr_leaves e) _ _ st ∙ x.same ∙ ap (λ o. read_claims more
      (taken (relation_behind (sign s.GreaterEqual)) (reading_on st x.after x.exponent) o)) x.done
      ∙ n.1 ∙ made_ends g rest cs.sides v.0 _ x.exponent n.0 t
  prop_reads (multiple f e w) t g rest cs =
      let st = before t cs in
      let close = at d.CloseParen (sign s.CloseParen) in
      let last = close ∷ (ending_leaf g ∷ rest) in
      let behind = whole_leaves w ++ last in
      let x = expr_reads e (at d.Comma (sign s.Comma) ∷ behind) cs.known st in
      let v = expr_value None e cs.known in
      regroup (special_leaves d.Fix spelled.Fix f) _ _ st ∙ special_reads f _ st
      ∙ regroup (expr_leaves e) _ _ st
      ∙ ap (λ l. read_claims (expr_leaves e ++ (at d.Comma (sign s.Comma) ∷ l)) st)
      (append_assoc (whole_leaves w) (close ∷ []) (ending_leaf g ∷ rest))
      ∙ x.same
      ∙ ap (λ o. read_claims behind (reading_on st (comma_parted x.after o) x.exponent)) x.done
      ∙ whole_reads w last (midway cs.sides v.0 Nothing x.exponent false t) v.1 v.0
      ∙ multiple_ends g rest cs.sides v (exponent_of w) t

  -- `not`, and the proposition behind it
  stated_reads : (p : Stated) (g : Ending) (rest : List Leaf) (cs : Claims)
      → read_claims (stated_leaves p ++ (ending_leaf g ∷ rest)) (from_claims cs)
      ≡ read_claims rest (from_claims (ended_by g (then_claimed p cs)))
  unfolding read read_claim read_claims
  stated_reads (affirmed p) g rest cs = prop_reads p false g rest cs
  stated_reads (denied p) g rest cs = prop_reads p true g rest cs

  -- ---- formulas

  formula_reads : (f : Formula) (g : Ending) (rest : List Leaf) (k : Known)
      → read_claims (formula_leaves f ++ (ending_leaf g ∷ rest)) (from_claims (no_claims k))
      ≡ read_claims rest (from_claims (ended_by g (formula_claims f k)))
  formula_reads (single p) g rest k = stated_reads p g rest (no_claims k)
  formula_reads (and f p) g rest k =
      regroup (formula_leaves f) _ _ (from_claims (no_claims k))
      ∙ formula_reads f joined (stated_leaves p ++ (ending_leaf g ∷ rest)) k
      ∙ stated_reads p g rest (formula_claims f k)
  formula_reads (or f p) g rest k =
      regroup (formula_leaves f) _ _ (from_claims (no_claims k))
      ∙ formula_reads f disjoined (stated_leaves p ++ (ending_leaf g ∷ rest)) k
      ∙ stated_reads p g rest (then_or (formula_claims f k))
  formula_reads (implies f p) g rest k =
      regroup (formula_leaves f) _ _ (from_claims (no_claims k))
      ∙ formula_reads f parted (stated_leaves p ++ (ending_leaf g ∷ rest)) k
      ∙ stated_reads p g rest (then_arrow (formula_claims f k))

  pub formulas_read : ReadsFormulas
  formulas_read f rest k = formula_reads f closed rest k
