-- The lists of a difference have exactly the instances of errors and of operations of one kind,
-- each once.
use Rattle.std.specs.Prelude.{◌≡◌, ◌⊎◌, ◌↔◌, Bool, true, false, if◌then◌else◌, Option, Some, None}
use Rattle.std.specs.Prelude.{List, [], ◌∷◌, refl}
use Rattle.std.proofs.Common.{inl, inr, ap, sym, subst}
use Rattle.fx_model.specs.declared.ExprId.{ExprId}
use Rattle.fx_model.specs.declared.Direction.{Direction}
use Rattle.fx_model.specs.declared.Direction.TheVariants.{Zr, Aw}
use Rattle.fx_model.specs.declared.Rounding.{Rounding}
use Rattle.fx_model.specs.declared.Node.{Node}
use Rattle.fx_model.specs.declared.Node.TheVariants.{Neg, Add, Sub, Mul, Round}
use Rattle.expr_dag.specs.Nodes.{IsAt, place_of}
use Rattle.expr_dag.proofs.Nodes.{one_node}
use Rattle.pair_closure.specs.Reached.{Has, IsListOf, IsEachOnce}
use Rattle.pair_closure.specs.Closure.{is_same}
use Rattle.pair_closure.proofs.Ids.{same_ids, self_same}
use Rattle.pair_closure.proofs.Members.{no_member, has_cases, has_first, has_all, has_right}
use Rattle.pair_closure.proofs.Members.{has_either, once_cons, once_nil}
use Rattle.facts.specs.declared.fact.Slot.TheVariants as slot
use Rattle.facts.specs.declared.instance.Instance.{Instance}
use Rattle.rule_instances.specs.Slots.{rule}
use Rattle.rule_instances.specs.Lists.{given}
use Rattle.rule_instances.specs.Instances.{OfError, OfTerms}
use Rattle.rule_instances.specs.Instances.OfError.{rule_42, rule_43, rule_44}
use Rattle.rule_instances.specs.Instances.OfTerms.{rule_71, rule_72, rule_73, rule_74}
use Rattle.rule_instances.specs.Found.{found, both_found, is_sided, error_rules, at_error, at_terms}
use Rattle.rule_instances.proofs.Lists.{once_given, given_out, given_in}

-- ---- what is found
pub found_out : (o : Option ExprId) (f : ExprId → List Instance) (i : Instance) → Has (found o f) i
    → (d : ExprId) × (o ≡ Some d) × Has (f d) i
found_out None f i m = absurd (no_member i m)
found_out (Some d) f i m = (d, refl, m)

pub found_in : (o : Option ExprId) (d : ExprId) (f : ExprId → List Instance) (i : Instance)
    → o ≡ Some d → Has (f d) i → Has (found o f) i
found_in o d f i e m = subst (λ p. Has (found p f) i) (sym e) m

pub found_once : (o : Option ExprId) (f : ExprId → List Instance)
    → ((d : ExprId) → IsEachOnce (f d)) → IsEachOnce (found o f)
found_once None f h = once_nil
found_once (Some d) f h = h d

pub both_out : (o p : Option ExprId) (f : ExprId → ExprId → List Instance) (i : Instance)
    → Has (both_found o p f) i
    → (d : ExprId) × (e : ExprId) × (o ≡ Some d) × (p ≡ Some e) × Has (f d e) i
both_out None p f i m = absurd (no_member i m)
both_out (Some d) None f i m = absurd (no_member i m)
both_out (Some d) (Some e) f i m = (d, e, refl, refl, m)

pub both_in : (o p : Option ExprId) (d e : ExprId) (f : ExprId → ExprId → List Instance)
    (i : Instance) → o ≡ Some d → p ≡ Some e → Has (f d e) i → Has (both_found o p f) i
both_in o p d e f i a b m = subst (λ u. Has (both_found u p f) i) (sym a)
    (subst (λ v. Has (both_found (Some d) v f) i) (sym b) m)

pub both_once : (o p : Option ExprId) (f : ExprId → ExprId → List Instance)
    → ((d e : ExprId) → IsEachOnce (f d e)) → IsEachOnce (both_found o p f)
both_once None p f h = once_nil
both_once (Some d) None f h = once_nil
both_once (Some d) (Some e) f h = h d e

pub one_once : (i : Instance) → IsEachOnce (i ∷ [])
one_once i = once_cons i [] (no_member i) once_nil

pub one_out : (i j : Instance) → Has (i ∷ []) j → j ≡ i
one_out i j m = elim (has_cases i [] j m) [ inl e ↦ e | inr n ↦ absurd (no_member j n) ]

-- ---- errors
sided_out : (d : Direction) → is_sided d ≡ true → (d ≡ Zr) ⊎ (d ≡ Aw)
sided_out Zr e = inl refl
sided_out Aw e = inr refl
sided_out d e = absurd (cc)

sided_in : (d : Direction) → (d ≡ Zr) ⊎ (d ≡ Aw) → is_sided d ≡ true
sided_in d (inl e) = ap is_sided e
sided_in d (inr e) = ap is_sided e

module _ (nodes : List Node) (x y z : ExprId) (at : IsAt nodes x (Sub y z)) where
  first_side : (u v : ExprId) → IsAt nodes x (Sub u v) → u ≡ y
  first_side u v e = let s : Sub u v ≡ Sub y z = one_node nodes x (Sub u v) (Sub y z) e at in cc

  second_side : (u v : ExprId) → IsAt nodes x (Sub u v) → v ≡ z
  second_side u v e = let s : Sub u v ≡ Sub y z = one_node nodes x (Sub u v) (Sub y z) e at in cc

  node_first : (u v : ExprId) (m n : Node) → IsAt nodes x (Sub u v) → IsAt nodes u n
      → IsAt nodes y m → m ≡ n
  node_first u v m n e un ym =
      one_node nodes y m n ym (subst (λ w. IsAt nodes w n) (first_side u v e) un)

  node_second : (u v : ExprId) (m n : Node) → IsAt nodes x (Sub u v) → IsAt nodes v n
      → IsAt nodes z m → m ≡ n
  node_second u v m n e vn zm =
      one_node nodes z m n zm (subst (λ w. IsAt nodes w n) (second_side u v e) vn)

  error_rules_out : (r : Rounding) → IsAt nodes y (Round r z) → (i : Instance)
      → Has (error_rules x z (is_sided r.dir)) i → OfError nodes x i
  error_rules_out r yr i m =
      elim (has_either (rule 42 (slot.Bnd z ∷ []) (slot.Bnd x) ∷ rule 44 (slot.Fix z ∷ [])
      (slot.Bnd x) ∷ []) (given (is_sided r.dir) (rule 43 (slot.Bnd z ∷ []) (slot.Bnd x))) i m) [
        | inl h ↦ has_all (OfError nodes x) (rule 42 (slot.Bnd z ∷ []) (slot.Bnd x) ∷ rule 44
            (slot.Fix z ∷ []) (slot.Bnd x) ∷ [])
            (rule_42 r y z at yr, (rule_44 r y z at yr, tt)) i h
        | inr h ↦ (let g = given_out (is_sided r.dir)
            (rule 43 (slot.Bnd z ∷ []) (slot.Bnd x)) i h in
            subst (OfError nodes x) (sym g.1) (rule_43 r y z at yr (sided_out r.dir g.0)))
      ]

  error_by : (r : Rounding) (e : ExprId) (b : Bool)
      → IsAt nodes y (Round r e) → is_same e z ≡ b → (i : Instance)
      → Has (if b then error_rules x z (is_sided r.dir) else []) i → OfError nodes x i
  error_by r e true yr s i m =
      error_rules_out r (subst (λ w. IsAt nodes y (Round r w)) (same_ids e z s) yr) i m
  error_by r e false yr s i m = absurd (no_member i m)

  error_only : (m : Node) → IsAt nodes y m → (i : Instance)
      → Has (at_error x m z) i → OfError nodes x i
  error_only (Round r e) ym i h = error_by r e (is_same e z) ym refl i h
  error_only m ym i h = absurd (no_member i h)

  -- what the list of that rounding has, the list of y has
  in_error : (m : Node) (r : Rounding) (u a : ExprId)
      → IsAt nodes y m → IsAt nodes x (Sub u a) → IsAt nodes u (Round r a) → (f : ExprId → Instance)
      → Has (error_rules x a (is_sided r.dir)) (f a) → Has (at_error x m z) (f a)
  in_error m r u a ym e ur f h =
      let is : m ≡ Round r a = node_first u a m (Round r a) e ur ym in
      let same : a ≡ z = second_side u a e in
      let here : Has (at_error x (Round r a) a) (f a) = subst
      (λ b. Has (if b then error_rules x a (is_sided r.dir) else []) (f a)) (sym (self_same a)) h in
      subst (λ k. Has (at_error x k z) (f a)) (sym is)
      (subst (λ w. Has (at_error x (Round r a) w) (f a)) same here)

  error_in : (m : Node) → IsAt nodes y m → (i : Instance) → OfError nodes x i
      → Has (at_error x m z) i
  error_in m ym i (rule_42 r u a e ur) =
      in_error m r u a ym e ur (λ w. rule 42 (slot.Bnd w ∷ []) (slot.Bnd x)) (0, refl)
  error_in m ym i (rule_43 r u a e ur s) =
      in_error m r u a ym e ur (λ w. rule 43 (slot.Bnd w ∷ []) (slot.Bnd x))
      (has_right (rule 42 (slot.Bnd a ∷ []) (slot.Bnd x) ∷ rule 44 (slot.Fix a ∷ []) (slot.Bnd x)
      ∷ []) (given (is_sided r.dir) (rule 43 (slot.Bnd a ∷ []) (slot.Bnd x))) _
      (given_in (is_sided r.dir) (rule 43 (slot.Bnd a ∷ []) (slot.Bnd x)) (sided_in r.dir s)))
  error_in m ym i (rule_44 r u a e ur) =
      in_error m r u a ym e ur (λ w. rule 44 (slot.Fix w ∷ []) (slot.Bnd x)) (1, refl)

  error_once_by : (b sided : Bool) → IsEachOnce (if b then error_rules x z sided else [])
  error_once_by true sided = once_given sided (rule 42 (slot.Bnd z ∷ []) (slot.Bnd x) ∷ rule 44
      (slot.Fix z ∷ []) (slot.Bnd x) ∷ []) (rule 43 (slot.Bnd z ∷ []) (slot.Bnd x)) refl refl
  error_once_by false sided = once_nil

  error_once : (m : Node) → IsEachOnce (at_error x m z)
  error_once (Round r e) = error_once_by (is_same e z) (is_sided r.dir)
  error_once m = once_nil

  pub error_list : (m : Node) → IsAt nodes y m → IsListOf (OfError nodes x) (at_error x m z)
  error_list m ym = record { only = error_only m ym; each = error_in m ym; once = error_once m }

  -- ---- two operations of one kind
  module _ (number : (w : ExprId) (n : Node) → (place_of nodes n ≡ Some w) ↔ IsAt nodes w n) where
    terms_only : (m n : Node) → IsAt nodes y m → IsAt nodes z n → (i : Instance)
        → Has (at_terms nodes x m n) i → OfTerms nodes x i
    terms_only (Add a b) (Add c d) ym zn i h =
        let g = both_out (place_of nodes (Sub a c)) (place_of nodes (Sub b d))
        (λ p q. rule 71 (slot.Bnd p ∷ slot.Bnd q ∷ []) (slot.Bnd x) ∷ []) i h in
        subst (OfTerms nodes x) (sym (one_out _ i g.4)) (rule_71 y z a b c d g.0 g.1 at ym zn
        ((number g.0 (Sub a c)).0 g.2) ((number g.1 (Sub b d)).0 g.3))
    terms_only (Sub a b) (Sub c d) ym zn i h =
        let g = both_out (place_of nodes (Sub a c)) (place_of nodes (Sub b d))
        (λ p q. rule 72 (slot.Bnd p ∷ slot.Bnd q ∷ []) (slot.Bnd x) ∷ []) i h in
        subst (OfTerms nodes x) (sym (one_out _ i g.4)) (rule_72 y z a b c d g.0 g.1 at ym zn
        ((number g.0 (Sub a c)).0 g.2) ((number g.1 (Sub b d)).0 g.3))
    terms_only (Mul a b) (Mul c d) ym zn i h =
        let g = both_out (place_of nodes (Sub a c)) (place_of nodes (Sub b d)) (λ p q.
        rule 73 (slot.Bnd a ∷ slot.Bnd q ∷ slot.Bnd p ∷ slot.Bnd d ∷ []) (slot.Bnd x) ∷ []) i h in
        subst (OfTerms nodes x) (sym (one_out _ i g.4)) (rule_73 y z a b c d g.0 g.1 at ym zn
        ((number g.0 (Sub a c)).0 g.2) ((number g.1 (Sub b d)).0 g.3))
    terms_only (Neg a) (Neg b) ym zn i h = let g = found_out (place_of nodes (Sub a b))
        (λ p. rule 74 (slot.Bnd p ∷ []) (slot.Bnd x) ∷ []) i h in
        subst (OfTerms nodes x) (sym (one_out _ i g.2))
        (rule_74 y z a b g.0 at ym zn ((number g.0 (Sub a b)).0 g.1))
    terms_only m n ym zn i h = absurd (no_member i h)

    -- what the list of those operations has, the list of y and z has
    in_terms : (m n k j : Node) (u v : ExprId) (i : Instance) → IsAt nodes y m → IsAt nodes z n
        → IsAt nodes x (Sub u v) → IsAt nodes u k → IsAt nodes v j → Has (at_terms nodes x k j) i
        → Has (at_terms nodes x m n) i
    in_terms m n k j u v i ym zn e uk vj h =
        subst (λ w. Has (at_terms nodes x w n) i) (sym (node_first u v m k e uk ym))
        (subst (λ w. Has (at_terms nodes x k w) i) (sym (node_second u v n j e vj zn)) h)

    terms_in : (m n : Node) → IsAt nodes y m → IsAt nodes z n → (i : Instance) → OfTerms nodes x i
        → Has (at_terms nodes x m n) i
    terms_in m n ym zn i (rule_71 u v a b c d p q e uk vj pa qb) =
        in_terms m n (Add a b) (Add c d) u v i ym zn e uk vj
        (both_in (place_of nodes (Sub a c)) (place_of nodes (Sub b d)) p q
        (λ p q. rule 71 (slot.Bnd p ∷ slot.Bnd q ∷ []) (slot.Bnd x) ∷ []) i
        ((number p (Sub a c)).1 pa) ((number q (Sub b d)).1 qb) (has_first i []))
    terms_in m n ym zn i (rule_72 u v a b c d p q e uk vj pa qb) =
        in_terms m n (Sub a b) (Sub c d) u v i ym zn e uk vj
        (both_in (place_of nodes (Sub a c)) (place_of nodes (Sub b d)) p q
        (λ p q. rule 72 (slot.Bnd p ∷ slot.Bnd q ∷ []) (slot.Bnd x) ∷ []) i
        ((number p (Sub a c)).1 pa) ((number q (Sub b d)).1 qb) (has_first i []))
    terms_in m n ym zn i (rule_73 u v a b c d p q e uk vj pa qb) =
        in_terms m n (Mul a b) (Mul c d) u v i ym zn e uk vj
        (both_in (place_of nodes (Sub a c)) (place_of nodes (Sub b d)) p q
        (λ p q. rule 73 (slot.Bnd a ∷ slot.Bnd q ∷ slot.Bnd p ∷ slot.Bnd d ∷ []) (slot.Bnd x)
        ∷ []) i ((number p (Sub a c)).1 pa) ((number q (Sub b d)).1 qb) (has_first i []))
    terms_in m n ym zn i (rule_74 u v a b p e uk vj pa) =
        in_terms m n (Neg a) (Neg b) u v i ym zn e uk vj
        (found_in (place_of nodes (Sub a b)) p (λ p. rule 74 (slot.Bnd p ∷ []) (slot.Bnd x) ∷ []) i
        ((number p (Sub a b)).1 pa) (has_first i []))

    terms_once : (m n : Node) → IsEachOnce (at_terms nodes x m n)
    terms_once (Add a b) (Add c d) =
        both_once (place_of nodes (Sub a c)) (place_of nodes (Sub b d)) _ (λ p q. one_once _)
    terms_once (Sub a b) (Sub c d) =
        both_once (place_of nodes (Sub a c)) (place_of nodes (Sub b d)) _ (λ p q. one_once _)
    terms_once (Mul a b) (Mul c d) =
        both_once (place_of nodes (Sub a c)) (place_of nodes (Sub b d)) _ (λ p q. one_once _)
    terms_once (Neg a) (Neg b) = found_once (place_of nodes (Sub a b)) _ (λ p. one_once _)
    terms_once m n = once_nil

    pub terms_list : (m n : Node) → IsAt nodes y m → IsAt nodes z n
        → IsListOf (OfTerms nodes x) (at_terms nodes x m n)
    terms_list m n ym zn =
        record { only = terms_only m n ym zn; each = terms_in m n ym zn; once = terms_once m n }
