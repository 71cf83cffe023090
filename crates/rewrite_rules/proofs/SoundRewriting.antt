-- The rule of rewriting hints is sound where the hint's row is true.
use Rattle.std.specs.Prelude.{◌≡◌, ◌≢◌, ◌&&◌, not, nat_lt, length, Bool, true, false, List, [], ◌∷◌}
use Rattle.std.specs.Prelude.{Option, Some, None, refl}
use Rattle.std.specs.List.{AllByRecursion}
use Rattle.std.specs.Option.{IsSomeAnd}
use Rattle.std.proofs.Common.{sym, subst}
use Rattle.std.proofs.lemmas.Bool.{and_parts}
use Rattle.fx_model.specs.Fraction.{Fraction, abs_ℚ, zero_ℚ, lt_by}
use Rattle.fx_model.specs.Powers.{IsMultiple}
use Rattle.fx_model.specs.Grid.{Bound, Below, At, Above, le_bound}
use Rattle.fx_model.specs.Enclosure.{IsFrom, IsUpTo, Lies, BoundLe, up_to-le, from-le}
use Rattle.fx_model.specs.Expression.{Assignment, value}
use Rattle.fx_model.specs.declared.ExprId.{ExprId}
use Rattle.fx_model.specs.declared.Node.{Node}
use Rattle.dyadic.specs.Ends.{bound_of}
use Rattle.dyadic.specs.Compared.{BoundLe_in, BoundLe_out}
use Rattle.interval.specs.Intervals.{range_of}
use Rattle.interval.proofs.Members.{between}
use Rattle.expr_dag.specs.Shapes.{is_known, are_known}
use Rattle.facts.specs.declared.hint.Need.{Need}
use Rattle.facts.specs.declared.hint.Need.TheVariants as need
use Rattle.facts.specs.declared.hint.HintRow.{HintRow}
use Rattle.facts.specs.declared.fact.Fact.{Fact}
use Rattle.facts.specs.declared.fact.Slot.{Slot}
use Rattle.facts.specs.declared.fact.Fact.TheVariants as fact
use Rattle.facts.specs.declared.fact.Slot.TheVariants as slot
use Rattle.facts.specs.Holds.{Holds}
use Rattle.facts.specs.Order.{is_same}
use Rattle.facts.proofs.CommonParts.{if-some, expr_same}
use Rattle.facts.proofs.Held.{some-and}
use Rattle.facts.proofs.Conclusions.{given}
use Rattle.facts.specs.Rows.{IsUnder, IsOver, IsMet}
use Rattle.rewrite_rules.specs.Rewriting.{is_under, shows, show_needs, show_row, rewritten}
use Rattle.rewrite_rules.specs.Rewriting.{rewriting_rule}
use Rattle.rewrite_rules.specs.WithRow.{IsSoundWithRow}

-- ---- constraints
apart_out : (b c : Bound) → not (le_bound c b) ≡ true → ¬ BoundLe c b
apart_out b c e l = let h : le_bound c b ≡ true = BoundLe_out c b l in
    let g : not true ≡ true = subst (λ (t : Bool). not t ≡ true) h e in cc

under_apart : (end : Bound) (x : Fraction) → ¬ IsFrom end x → IsUnder end true x
under_apart Below x n = n tt
under_apart (At g) x n = lt_by x g n
under_apart Above x n = tt

under_at_most : (end : Bound) (x : Fraction) → IsUpTo end x → IsUnder end false x
under_at_most Below x q = q
under_at_most (At g) x q = q
under_at_most Above x q = tt

over_apart : (end : Bound) (x : Fraction) → ¬ IsUpTo end x → IsOver end true x
over_apart Below x n = tt
over_apart (At g) x n = lt_by g x n
over_apart Above x n = n tt

over_at_least : (end : Bound) (x : Fraction) → IsFrom end x → IsOver end false x
over_at_least Below x p = tt
over_at_least (At g) x p = p
over_at_least Above x p = p

under_holds : (apart : Bool) (high end : Bound) (x : Fraction) → is_under apart high end ≡ true
    → IsUpTo high x → IsUnder end apart x
under_holds true high end x e q =
    under_apart end x (λ p. apart_out high end e (between end high x p q))
under_holds false high end x e q =
    under_at_most end x (up_to-le high end x (BoundLe_in high end e) q)

over_holds : (apart : Bool) (low end : Bound) (x : Fraction) → is_under apart end low ≡ true
    → IsFrom low x → IsOver end apart x
over_holds true low end x e p = over_apart end x (λ q. apart_out end low e (between low end x p q))
over_holds false low end x e p = over_at_least end x (from-le end low x (BoundLe_in end low e) p)

-- a fact that holds and shows a constraint makes it hold
shown_holds : (nodes : List Node) (a : Assignment) (n : Need) (p : Fact) → shows nodes n p ≡ true
    → Holds nodes a p → IsMet nodes a n
shown_holds nodes a (need.NotZero x) (fact.Nzr z) e h =
    let b = and_parts (is_known nodes x) (is_same z x) e in
    subst (λ u. Holds nodes a (fact.Nzr u)) (expr_same z x b.1) h
shown_holds nodes a (need.Below x end apart) (fact.Bnd z j) e h =
    let b = and_parts (is_known nodes x && is_same z x)
    (is_under apart (range_of j).high (bound_of end)) e in
    let c = and_parts (is_known nodes x) (is_same z x) b.0 in
    subst (λ u. IsSomeAnd (value nodes a u) (IsUnder (bound_of end) apart)) (expr_same z x c.1)
    (some-and (value nodes a z) (Lies (range_of j)) (IsUnder (bound_of end) apart)
    (λ v l. under_holds apart (range_of j).high (bound_of end) v b.1 l.1) h)
shown_holds nodes a (need.Above x end apart) (fact.Bnd z j) e h =
    let b = and_parts (is_known nodes x && is_same z x)
    (is_under apart (bound_of end) (range_of j).low) e in
    let c = and_parts (is_known nodes x) (is_same z x) b.0 in
    subst (λ u. IsSomeAnd (value nodes a u) (IsOver (bound_of end) apart)) (expr_same z x c.1)
    (some-and (value nodes a z) (Lies (range_of j)) (IsOver (bound_of end) apart)
    (λ v l. over_holds apart (range_of j).low (bound_of end) v b.1 l.0) h)
shown_holds nodes a _ _ e h = cc

needs_hold : (nodes : List Node) (a : Assignment) (ns : List Need) (ps : List Fact)
    → show_needs nodes ns ps ≡ true → AllByRecursion (Holds nodes a) ps
    → AllByRecursion (IsMet nodes a) ns
needs_hold nodes a [] ps e h = tt
needs_hold nodes a (n ∷ ns) [] e h = cc
needs_hold nodes a (n ∷ ns) (p ∷ ps) e h =
    let b = and_parts (shows nodes n p) (show_needs nodes ns ps) e in
    (shown_holds nodes a n p b.0 h.0, needs_hold nodes a ns ps b.1 h.1)

divisors_hold : (nodes : List Node) (a : Assignment) (ds : List ExprId) (ns : List Need)
    (ps : List Fact) → show_row nodes ds ns ps ≡ true → AllByRecursion (Holds nodes a) ps
    → AllByRecursion (λ d. Holds nodes a (fact.Nzr d)) ds × AllByRecursion (IsMet nodes a) ns
divisors_hold nodes a [] ns ps e h = (tt, needs_hold nodes a ns ps e h)
divisors_hold nodes a (d ∷ ds) ns [] e h = cc
divisors_hold nodes a (d ∷ ds) ns (p ∷ ps) e h =
    let b = and_parts (shows nodes (need.NotZero d) p) (show_row nodes ds ns ps) e in
    let r = divisors_hold nodes a ds ns ps b.1 h.1 in
    ((shown_holds nodes a (need.NotZero d) p b.0 h.0, r.0), r.1)

-- ---- the rule
-- what holds of b's value holds of a's, where they are the same
carried : (nodes : List Node) (a : Assignment) (l r x e : ExprId) (P : Fraction → Type 0)
    → ((v : Fraction) → value nodes a r ≡ Some v → value nodes a l ≡ Some v)
    → (is_same x r && is_same e l) ≡ true → IsSomeAnd (value nodes a x) P
    → IsSomeAnd (value nodes a e) P
carried nodes a l r x e P s t h =
    let b = and_parts (is_same x r) (is_same e l) t in
    let k : IsSomeAnd (value nodes a r) P =
    subst (λ u. IsSomeAnd (value nodes a u) P) (expr_same x r b.0) h in
    subst (λ u. IsSomeAnd (value nodes a u) P) (sym (expr_same e l b.1))
    (at_value (value nodes a r) refl k)
  where
    at_value : (o : Option Fraction) → value nodes a r ≡ o → IsSomeAnd o P
        → IsSomeAnd (value nodes a l) P
    at_value None w k = absurd k
    at_value (Some v) w k = subst (λ o. IsSomeAnd o P) (sym (s v w)) k

rewritten_holds : (nodes : List Node) (a : Assignment) (l r : ExprId) (p : Fact)
    (t : Slot) (f : Fact) → ((v : Fraction) → value nodes a r ≡ Some v → value nodes a l ≡ Some v)
    → rewritten l r p t ≡ Some f → Holds nodes a p → Holds nodes a f
rewritten_holds nodes a l r (fact.Bnd x i) (slot.Bnd e) f s q h =
    let t = if-some (is_same x r && is_same e l) (fact.Bnd e i) f q in
    subst (Holds nodes a) t.1 (carried nodes a l r x e (Lies (range_of i)) s t.0 h)
rewritten_holds nodes a l r (fact.Abs x i) (slot.Abs e) f s q h =
    let t = if-some (is_same x r && is_same e l) (fact.Abs e i) f q in
    subst (Holds nodes a) t.1
    (carried nodes a l r x e (λ v. Lies (range_of i.interval) (abs_ℚ v)) s t.0 h)
rewritten_holds nodes a l r (fact.Fix x k) (slot.Fix e) f s q h =
    let t = if-some (is_same x r && is_same e l) (fact.Fix e k) f q in
    subst (Holds nodes a) t.1 (carried nodes a l r x e (IsMultiple k.exponent) s t.0 h)
rewritten_holds nodes a l r (fact.Nzr x) (slot.Nzr e) f s q h =
    let t = if-some (is_same x r && is_same e l) (fact.Nzr e) f q in
    subst (Holds nodes a) t.1 (carried nodes a l r x e (λ v. v ≢ zero_ℚ) s t.0 h)
rewritten_holds nodes a l r _ _ f s q h = cc

pub rewriting_rule-sound : (row : HintRow) → IsSoundWithRow row (rewriting_rule row)
rewriting_rule-sound row nodes [] t f o q = cc
rewriting_rule-sound row nodes (p ∷ ps) t f o q = λ a w h.
    let g = given (nat_lt (length ps) 65535 && (are_known nodes row.left row.right
    && show_row nodes row.divisors row.needs ps)) (rewritten row.left row.right p t) f q in
    let b = and_parts (nat_lt (length ps) 65535)
    (are_known nodes row.left row.right && show_row nodes row.divisors row.needs ps) g.0 in
    let c = and_parts (are_known nodes row.left row.right)
    (show_row nodes row.divisors row.needs ps) b.1 in
    let d = divisors_hold nodes a row.divisors row.needs ps c.1 h.1 in
    rewritten_holds nodes a row.left row.right p t f (w d.0 d.1) g.1 h.0
