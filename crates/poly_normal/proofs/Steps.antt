-- The form of a node is made of the forms of its parts.
use Rattle.std.specs.Prelude.{◌≡◌, ℕ, ◌+◌, ◌<◌, List, [], ◌∷◌, ◌++◌, slice_index_or, length, refl}
use Rattle.std.proofs.Common.{arith, sym, ap, ◌∙◌, zero, suc, subst, length-append}
use Rattle.std.proofs.lemmas.List.{get_or_append_left}
use Rattle.std.proofs.Math.Seq.{get_or-append_seam}
use Rattle.std.proofs.Math.Nat.{zero-add}
use Rattle.fx_model.specs.Expression.{ChildrenBelow, IsOrdered}
use Rattle.fx_model.specs.declared.ExprId.{ExprId}
use Rattle.fx_model.specs.declared.Node.{Node}
use Rattle.fx_model.specs.declared.Node.TheVariants.{Var, Lit, Neg, Add, Sub, Mul, Div, Abs, Round}
use Rattle.poly_normal.specs.Form.{Form, atom_form, negation_form, sum_form, difference_form}
use Rattle.poly_normal.specs.Form.{product_form, quotient_form, node_form, forms_after, form}

abbrev at_form : List Form → ExprId → Form
at_form fs x = slice_index_or fs x.0 (atom_form x.0)

same_parts : (i k : ℕ) (f g : ExprId → Form) (n : Node) → ChildrenBelow k n
    → ((x : ExprId) → x.0 < k → f x ≡ g x) → node_form i f n ≡ node_form i g n
same_parts i k f g (Var n) h e = refl
same_parts i k f g (Lit l) h e = refl
same_parts i k f g (Neg x) h e = ap negation_form (e x h)
same_parts i k f g (Add x y) h e =
    ap (λ u. sum_form u (f y)) (e x h.0) ∙ ap (sum_form (g x)) (e y h.1)
same_parts i k f g (Sub x y) h e =
    ap (λ u. difference_form u (f y)) (e x h.0) ∙ ap (difference_form (g x)) (e y h.1)
same_parts i k f g (Mul x y) h e =
    ap (λ u. product_form u (f y)) (e x h.0) ∙ ap (product_form (g x)) (e y h.1)
same_parts i k f g (Div x y) h e =
    ap (λ u. quotient_form u (f y)) (e x h.0) ∙ ap (quotient_form (g x)) (e y h.1)
same_parts i k f g (Abs x) h e = refl
same_parts i k f g (Round r x) h e = refl

at_front : (done rest : List Form) (x : ExprId) → x.0 < length done
    → at_form (done ++ rest) x ≡ at_form done x
at_front done rest x h = get_or_append_left done rest (atom_form x.0) x.0 h

longer : (done : List Form) (f : Form) → length (done ++ (f ∷ [])) ≡ length done + 1
longer done f = length-append done (f ∷ [])

-- what is done stays
kept : (done : List Form) (ns : List Node) (x : ExprId) → x.0 < length done
    → at_form (forms_after done ns) x ≡ at_form done x
unfolding forms_after
kept done [] x h = refl
kept done (n ∷ ns) x h =
    let f : Form = node_form (length done) (at_form done) n in
    let m : x.0 < length (done ++ (f ∷ [])) = omega (arith, longer done f) in
    kept (done ++ (f ∷ [])) ns x m ∙ at_front done (f ∷ []) x h

step : (done : List Form) (ns : List Node) (i : ℕ) (x : ExprId) (d : Node)
    → x.0 ≡ length done + i → i < length ns
    → ((k l : ℕ) → l ≡ length done + k → k < length ns → ChildrenBelow l (slice_index_or ns k d))
    → at_form (forms_after done ns) x
    ≡ node_form x.0 (at_form (forms_after done ns)) (slice_index_or ns i d)
unfolding forms_after
step done [] i x d e h o = absurd (omega arith)
step done (n ∷ ns) zero x d e h o =
    let f : Form = node_form (length done) (at_form done) n in
    let here : length done ≡ length done + 0 = omega arith in
    let c : ChildrenBelow (length done) n = o zero (length done) here (omega arith) in
    let m : x.0 < length (done ++ (f ∷ [])) = omega (arith, longer done f) in
    let at : x.0 ≡ length done = omega arith in
    kept (done ++ (f ∷ [])) ns x m
    ∙ ap (λ j. slice_index_or (done ++ (f ∷ [])) j (atom_form x.0)) at
    ∙ get_or-append_seam done f [] (atom_form x.0)
    ∙ same_parts (length done) (length done) (at_form done)
    (at_form (forms_after (done ++ (f ∷ [])) ns)) n c
    (λ z l. sym (kept (done ++ (f ∷ [])) ns z (omega (arith, longer done f))
    ∙ at_front done (f ∷ []) z l))
    ∙ ap (λ j. node_form j (at_form (forms_after (done ++ (f ∷ [])) ns)) n) (sym at)
step done (n ∷ ns) (suc i) x d e h o =
    let f : Form = node_form (length done) (at_form done) n in
    step (done ++ (f ∷ [])) ns i x d (omega (arith, longer done f)) (omega arith)
    (λ k l g m. o (suc k) l (omega (arith, longer done f)) (omega arith))

pub form_step : (nodes : List Node) (x : ExprId) (d : Node) → IsOrdered nodes → x.0 < length nodes
    → form nodes x ≡ node_form x.0 (form nodes) (slice_index_or nodes x.0 d)
form_step nodes x d o h = step [] nodes x.0 x d (omega arith) h
    (λ k l e m. subst (λ l. ChildrenBelow l (slice_index_or nodes k d))
    (sym (e ∙ zero-add k)) (o k d m))
