-- The rule of rewriting hints: from stronger premises it gives a fact as strong, or stronger.
use Rattle.std.specs.Prelude.{◌≡◌, ◌&&◌, not, nat_lt, length, Bool, true, false, List, [], ◌∷◌}
use Rattle.std.specs.Prelude.{refl}
use Rattle.std.proofs.Common.{sym, ap, subst, suc}
use Rattle.std.proofs.lemmas.Bool.{and_parts, and_from}
use Rattle.fx_model.specs.Grid.{Bound, le_bound}
use Rattle.fx_model.specs.Enclosure.{BoundLe}
use Rattle.fx_model.specs.declared.ExprId.{ExprId}
use Rattle.fx_model.specs.declared.Node.{Node}
use Rattle.dyadic.specs.Ends.{bound_of}
use Rattle.dyadic.specs.Order.{bound_trans}
use Rattle.dyadic.specs.Extremes.{BoundLe-refl}
use Rattle.dyadic.specs.Compared.{BoundLe_out}
use Rattle.interval.specs.Intervals.{range_of}
use Rattle.expr_dag.specs.Shapes.{is_known, are_known}
use Rattle.facts.specs.declared.hint.Need.{Need}
use Rattle.facts.specs.declared.hint.Need.TheVariants as need
use Rattle.facts.specs.declared.hint.HintRow.{HintRow}
use Rattle.facts.specs.declared.fact.Fact.{Fact}
use Rattle.facts.specs.declared.fact.Slot.{Slot}
use Rattle.facts.specs.declared.fact.Fact.TheVariants as fact
use Rattle.facts.specs.declared.fact.Slot.TheVariants as slot
use Rattle.facts.specs.Order.{IsStronger, is_same}
use Rattle.facts.specs.Promises.{EachStronger, IsIsotone}
use Rattle.facts.specs.Premises.{Gives}
use Rattle.facts.proofs.Premises.{first_premise, strong_bnd, strong_abs, strong_fix, strong_nzr}
use Rattle.facts.proofs.Conclusions.{Improves, given, improves_only}
use Rattle.facts.specs.Conclusions.{given_if}
use Rattle.rewrite_rules.specs.Rewriting.{is_under, shows, show_needs, show_row, rewritten}
use Rattle.rewrite_rules.specs.Rewriting.{rewriting_rule}

-- ---- tests
-- further apart than what is under is under
apart_rises : (b c g h : Bound) → BoundLe g b → BoundLe c h → not (le_bound c b) ≡ true
    → not (le_bound h g) ≡ true
apart_rises b c g h l m e = by_test (le_bound h g) refl
  where
    by_test : (t : Bool) → le_bound h g ≡ t → not t ≡ true
    by_test false w = refl
    by_test true w =
        let k : le_bound c b ≡ true =
        bound_trans c h b (BoundLe_out c h m) (bound_trans h g b w (BoundLe_out g b l)) in
        let n : not true ≡ true = subst (λ (t : Bool). not t ≡ true) k e in cc

is_under-rises : (apart : Bool) (b c g h : Bound) → BoundLe g b → BoundLe c h
    → is_under apart b c ≡ true → is_under apart g h ≡ true
is_under-rises true b c g h l m e = apart_rises b c g h l m e
is_under-rises false b c g h l m e =
    bound_trans g b h (BoundLe_out g b l) (bound_trans b c h e (BoundLe_out c h m))

-- a stronger fact shows what a fact shows
shows-rises : (nodes : List Node) (n : Need) (q p : Fact) → ¬ (p ≡ fact.Void) → IsStronger p q
    → shows nodes n q ≡ true → shows nodes n p ≡ true
shows-rises nodes (need.NotZero x) (fact.Nzr z) p v s e =
    subst (λ k. shows nodes (need.NotZero x) k ≡ true) (sym (strong_nzr p z v s)) e
shows-rises nodes (need.Below x end apart) (fact.Bnd z j) p v s e =
    let t = strong_bnd p z j v s in
    let b = and_parts (is_known nodes x && is_same z x)
    (is_under apart (range_of j).high (bound_of end)) e in
    subst (λ k. shows nodes (need.Below x end apart) k ≡ true) (sym t.1)
    (and_from (is_known nodes x && is_same z x)
    (is_under apart (range_of t.0).high (bound_of end)) b.0 (is_under-rises apart (range_of j).high
    (bound_of end) (range_of t.0).high (bound_of end) t.2.1 (BoundLe-refl (bound_of end)) b.1))
shows-rises nodes (need.Above x end apart) (fact.Bnd z j) p v s e =
    let t = strong_bnd p z j v s in
    let b = and_parts (is_known nodes x && is_same z x)
    (is_under apart (bound_of end) (range_of j).low) e in
    subst (λ k. shows nodes (need.Above x end apart) k ≡ true) (sym t.1)
    (and_from (is_known nodes x && is_same z x)
    (is_under apart (bound_of end) (range_of t.0).low) b.0 (is_under-rises apart (bound_of end)
    (range_of j).low (bound_of end) (range_of t.0).low (BoundLe-refl (bound_of end)) t.2.0 b.1))
shows-rises nodes _ _ p v s e = cc

show_needs-rises : (nodes : List Node) (ns : List Need) (qs ps : List Fact) → EachStronger ps qs
    → show_needs nodes ns qs ≡ true → show_needs nodes ns ps ≡ true
show_needs-rises nodes [] [] [] s e = refl
show_needs-rises nodes [] [] (p ∷ ps) s e = absurd s
show_needs-rises nodes [] (q ∷ qs) ps s e = cc
show_needs-rises nodes (n ∷ ns) [] ps s e = cc
show_needs-rises nodes (n ∷ ns) (q ∷ qs) [] s e = absurd s
show_needs-rises nodes (n ∷ ns) (q ∷ qs) (p ∷ ps) s e =
    let b = and_parts (shows nodes n q) (show_needs nodes ns qs) e in
    and_from (shows nodes n p) (show_needs nodes ns ps) (shows-rises nodes n q p s.0 s.1 b.0)
    (show_needs-rises nodes ns qs ps s.2 b.1)

show_row-rises : (nodes : List Node) (ds : List ExprId) (ns : List Need) (qs ps : List Fact)
    → EachStronger ps qs → show_row nodes ds ns qs ≡ true → show_row nodes ds ns ps ≡ true
show_row-rises nodes [] ns qs ps s e = show_needs-rises nodes ns qs ps s e
show_row-rises nodes (d ∷ ds) ns [] ps s e = cc
show_row-rises nodes (d ∷ ds) ns (q ∷ qs) [] s e = absurd s
show_row-rises nodes (d ∷ ds) ns (q ∷ qs) (p ∷ ps) s e =
    let b = and_parts (shows nodes (need.NotZero d) q) (show_row nodes ds ns qs) e in
    and_from (shows nodes (need.NotZero d) p) (show_row nodes ds ns ps)
    (shows-rises nodes (need.NotZero d) q p s.0 s.1 b.0) (show_row-rises nodes ds ns qs ps s.2 b.1)

as_many : (ps qs : List Fact) → EachStronger ps qs → length ps ≡ length qs
as_many [] [] s = refl
as_many [] (q ∷ qs) s = absurd s
as_many (p ∷ ps) [] s = absurd s
as_many (p ∷ ps) (q ∷ qs) s = ap suc (as_many ps qs s.2)

-- ---- the rule
rewritten-improves : (a b : ExprId) (q p : Fact) (t : Slot) → ¬ (p ≡ fact.Void) → IsStronger p q
    → Improves (rewritten a b q t) (rewritten a b p t)
rewritten-improves a b (fact.Bnd x i) p (slot.Bnd e) v s = let k = strong_bnd p x i v s in
    subst (λ r. Improves (rewritten a b (fact.Bnd x i) (slot.Bnd e)) (rewritten a b r (slot.Bnd e)))
    (sym k.1) (improves_only (is_same x b && is_same e a) (fact.Bnd e i)
    (fact.Bnd e k.0) (refl, k.2))
rewritten-improves a b (fact.Abs x i) p (slot.Abs e) v s = let k = strong_abs p x i v s in
    subst (λ r. Improves (rewritten a b (fact.Abs x i) (slot.Abs e)) (rewritten a b r (slot.Abs e)))
    (sym k.1) (improves_only (is_same x b && is_same e a) (fact.Abs e i)
    (fact.Abs e k.0) (refl, k.2))
rewritten-improves a b (fact.Fix x i) p (slot.Fix e) v s = let k = strong_fix p x i v s in
    subst (λ r. Improves (rewritten a b (fact.Fix x i) (slot.Fix e)) (rewritten a b r (slot.Fix e)))
    (sym k.1) (improves_only (is_same x b && is_same e a) (fact.Fix e i)
    (fact.Fix e k.0) (refl, k.2))
rewritten-improves a b (fact.Nzr x) p (slot.Nzr e) v s =
    subst (λ r. Improves (rewritten a b (fact.Nzr x) (slot.Nzr e)) (rewritten a b r (slot.Nzr e)))
    (sym (strong_nzr p x v s))
    (improves_only (is_same x b && is_same e a) (fact.Nzr e) (fact.Nzr e) refl)
rewritten-improves a b _ p _ v s = λ c e. cc

pub rewriting_rule-isotone : (row : HintRow) → IsIsotone (rewriting_rule row)
rewriting_rule-isotone row nodes [] t ps c s e = cc
rewriting_rule-isotone row nodes (q ∷ qs) t ps c s e =
    let a = first_premise ps q qs s in
    let known : Bool = are_known nodes row.left row.right in
    let w = given (nat_lt (length qs) 65535 && (known && show_row nodes row.divisors row.needs qs))
    (rewritten row.left row.right q t) c e in
    let b = and_parts (nat_lt (length qs) 65535)
    (known && show_row nodes row.divisors row.needs qs) w.0 in
    let d = and_parts known (show_row nodes row.divisors row.needs qs) b.1 in
    let few : nat_lt (length a.1) 65535 ≡ true =
    subst (λ n. nat_lt n 65535 ≡ true) (sym (as_many a.1 qs a.2.others)) b.0 in
    let all : (nat_lt (length a.1) 65535
    && (known && show_row nodes row.divisors row.needs a.1)) ≡ true =
    and_from (nat_lt (length a.1) 65535) (known && show_row nodes row.divisors row.needs a.1) few
    (and_from known (show_row nodes row.divisors row.needs a.1) d.0
    (show_row-rises nodes row.divisors row.needs qs a.1 a.2.others d.1)) in
    subst (λ l. Gives (rewriting_rule row nodes l t) c) (sym a.2.is)
    (subst (λ (k : Bool). Gives (given_if k (rewritten row.left row.right a.0 t)) c) (sym all)
    (rewritten-improves row.left row.right q a.0 t a.2.not_void a.2.first c w.1))
