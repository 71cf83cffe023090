-- The value of a step, and what is known behind it.
use Rattle.std.proofs.Common.{◌≡◌, ◌<◌, ◌==◌, inl, inr, ℕ, pos, zero, suc, List, [], ◌∷◌, map}
use Rattle.std.proofs.Common.{Option, Some, None, Bool, true, false, refl, sym, ap, ◌∙◌, subst}
use Rattle.std.proofs.Common.{arith, if◌then◌else◌}
use Rattle.std.specs.Prelude.{neg_ℤ}
use Rattle.std.specs.Fmt.{decimal, digits}
use Rattle.std.specs.Str.{bytes_eq}
use Rattle.std.proofs.lemmas.Slice.Eq.{bytes_eq-Decides}
use Rattle.fx_model.specs.Fraction.{Fraction}
use Rattle.fx_model.specs.Rounded.{rounded}
use Rattle.fx_model.specs.Expression.{IsOrdered}
use Rattle.expr_dag.specs.Extended.{ValuesStay}
use Rattle.script_shape.specs.Expressions.{free, fixed}
use Rattle.script_nodes.specs.Operators.{direction_of, number_of, whole_value, rounding_of}
use Rattle.script_nodes.specs.Known.{Name, Known, PlacedNode, entry_of, with_entry}
use Rattle.script_nodes.specs.Definitions.{with_value}
use Rattle.script_nodes.specs.Values.{expr_value}
use Rattle.fixprog.specs.Grammar.{Step}
use Rattle.fixprog.specs.Formats.{format_of}
use Rattle.fixprog.specs.Execution.{Values, exact_value, step_value, way_text}
use Rattle.fixprog.specs.Printed.{IsShort}
use Rattle.program_truths.proofs.Trees.{place_whole, operation_expr, step_expr}
use Rattle.program_truths.proofs.Texts.{all_below, below}
use Rattle.program_truths.proofs.Given.{Gives, rounded_gives}
use Rattle.program_truths.proofs.Knowing.{IsFront, Knows, NameIs, knows_behind}
use Rattle.program_truths.proofs.Doing.{Operands, operation_gives, front_put}

-- ---- last places

numbers_are_read : all_below 64 (λ n. number_of (decimal n) == n) ≡ true
unfolding number_of digits
numbers_are_read = refl

number_is : (n : ℕ) → n < 64 → number_of (decimal n) ≡ n
number_is n l = let h = below 64 n (λ n. number_of (decimal n) == n) numbers_are_read l in
    grind (arith, h)

pub place_value : (n : ℕ) → n < 64 → whole_value (place_whole n) ≡ neg_ℤ (pos n)
unfolding number_of
place_value zero l = refl
place_value (suc k) l = ap (λ m. neg_ℤ (pos m)) (number_is (suc k) l)

-- ---- entries

by_both : {A : Type 0} (b c : Bool) (x y : A) (o : Option A) → b ≡ c → (if b then Some x else o)
    ≡ (if c then Some x else (if b then Some y else o))
by_both true true x y o e = refl
by_both false false x y o e = refl
by_both true false x y o e = absurd (cc)
by_both false true x y o e = absurd (cc)

by_one : {A : Type 0} (b c : Bool) (x y : A) (o p : Option A) → (b ≡ true → c ≡ true → ⊥) → p
    ≡ (if c then Some x else o) → (if b then Some y else p)
    ≡ (if c then Some x else (if b then Some y else o))
by_one true true x y o p n e = absurd (n refl refl)
by_one true false x y o p n e = refl
by_one false c x y o p n e = e

pub entry_with : {A : Type 0} (es : List (Name × A)) (n t : Name) (x : A)
    → entry_of (with_entry es n x) t ≡ (if bytes_eq t n then Some x else entry_of es t)
entry_with [] n t x = refl
entry_with (e ∷ es) n t x = by_name (bytes_eq n e.0) refl (entry_with es n t x)
  where
    by_name : (b : Bool) → bytes_eq n e.0 ≡ b → entry_of (with_entry es n x) t
        ≡ (if bytes_eq t n then Some x else entry_of es t)
        → entry_of (if b then (e.0, x) ∷ es else e ∷ with_entry es n x) t
        ≡ (if bytes_eq t n then Some x else (if bytes_eq t e.0 then Some e.1
        else entry_of es t))
    by_name true s r = by_both (bytes_eq t e.0) (bytes_eq t n) x e.1 (entry_of es t)
        (ap (bytes_eq t) (sym ((bytes_eq-Decides n e.0).0 s)))
    by_name false s r = by_one (bytes_eq t e.0) (bytes_eq t n) x e.1 (entry_of es t)
        (entry_of (with_entry es n x) t)
        (λ u v. let a : n ≡ e.0 = sym ((bytes_eq-Decides t n).0 v)
        ∙ (bytes_eq-Decides t e.0).0 u in let c : false ≡ true = sym s
        ∙ (bytes_eq-Decides n e.0).1 a in cc) r

module _ (stay : ValuesStay) (f : Name → Fraction) (vars : List Name) where
  -- the step's expression has its value
  pub step_gives : (vs : Values) (k : Known) (x : Step) → (format_of x.format).places < 64
      → IsShort x.operation → IsOrdered k.nodes → Knows (map f vars) f vs k
      → Operands stay f vars vs x.operation
      → IsFront (expr_value None (step_expr x) k).0.variables vars
      → Gives (map f vars) k (expr_value None (step_expr x) k) (Some (step_value vs x))
  step_gives vs k x l s o n h front =
      let n0 = (format_of x.format).places in
      let r = rounding_of (fixed (place_whole n0) (free (way_text x.way))) in
      let q = expr_value None (operation_expr x.operation) k in
      let g = operation_gives stay f vars vs k x.operation s o n h (front_put vars q.0 _ front) in
      subst (λ z. Gives (map f vars) k (expr_value None (step_expr x) k)
      (Some (rounded (direction_of (way_text x.way)) z (exact_value vs x.operation))))
      (place_value n0 l) (rounded_gives stay (map f vars) r k q _ g)

-- A name that takes a value is known by it.
pub knows_with : (f : Name → Fraction) (vars : List Name) (vs : Values) (k : Known) (q : PlacedNode)
    (n : Name) (v : Fraction) → Gives (map f vars) k q (Some v) → Knows (map f vars) f vs k
    → Knows (map f vars) f ((n, v) ∷ vs) (with_value n q)
knows_with f vars vs k q n v g h t w e = by_name (bytes_eq t n) refl e
  where
    by_name : (b : Bool) → bytes_eq t n ≡ b → (if b then Some v else entry_of vs t) ≡ Some w
        → NameIs (map f vars) f (with_value n q) t w
    by_name true s r = inl (
      q.1,
      entry_with q.0.values n t q.1
          ∙ ap (λ b. if b then Some q.1 else entry_of q.0.values t) s,
      g.within,
      g.is ∙ r,
    )
    by_name false s r =
        let same : entry_of (with_entry q.0.values n q.1) t ≡ entry_of q.0.values t =
        entry_with q.0.values n t q.1 ∙ ap (λ b. if b then Some q.1 else entry_of q.0.values t)
        s in
        elim (knows_behind (map f vars) f vs k q (Some v) g h t w r) [
          | inl m ↦ inl (m.0, same ∙ m.1, m.2, m.3)
          | inr m ↦ inr (same ∙ m.0, m.1)
        ]
