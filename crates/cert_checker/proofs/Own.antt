-- A node that is judged well is new and lawful at its place.
use Rattle.std.proofs.Common.{◌≡◌, ◌≤◌, ◌<◌, ◌++◌, ◌∷◌, [], ℕ, zero, suc, List, length, Some, None}
use Rattle.std.proofs.Common.{refl, sym, ap, ◌∙◌, arith, ⊎_elim}
use Rattle.std.specs.Prelude.{slice_get}
use Rattle.std.proofs.lemmas.Bool.{cases_lt}
use Rattle.std.proofs.lemmas.List.{length-append}
use Rattle.std.proofs.lemmas.Option.{slice_get_within}
use Rattle.fx_model.specs.declared.Node.{Node}
use Rattle.fx_model.specs.declared.ExprId.{ExprId}
use Rattle.expr_dag.specs.Nodes.{IsLawful, IsInLimits, IsAt, IsAbsent, IsPlaced, IsFull}
use Rattle.cert_checker.specs.Faults.{JudgesNode, IsFurther, IsOwn}
use Rattle.cert_checker.specs.Own.{Agrees}

module _ (own nodes : List Node) (variables : ℕ) (node : Node)
    (judged : JudgesNode own variables nodes node None) where
  at_next : (P : Type 0) → (length nodes < length own → IsOwn own nodes node → P)
      → (length own ≤ length nodes → IsFurther variables nodes node → P) → P
  at_next P o f =
      ⊎_elim (λ l. o l (judged.0 l)) (λ l. f l (judged.1 l)) (cases_lt (length nodes) (length own))

  pub lawful_next : ((x : ExprId) (n : Node) → IsAt own x n → IsLawful x.0 n) → IsInLimits node
      → IsLawful (length nodes) node
  lawful_next laws limits =
      at_next (IsLawful (length nodes) node) (λ l o. laws (record { 0 = length nodes }) node o)
      (λ l f. record { children = f.children; limits = limits })

  pub absent_next : ((x y : ExprId) (n : Node) → IsAt own x n → IsAt own y n → x ≡ y)
      → Agrees own nodes → IsAbsent nodes node
  absent_next distinct agrees x at = at_next ⊥
      (λ l o.
      let within : x.0 < length nodes = slice_get_within nodes x.0 node at in
      let same : IsAt own x node = sym (agrees x.0 (omega (arith, within, l)) within) ∙ at in
      let e : x.0 ≡ length nodes =
      ap (λ (y : ExprId). y.0) (distinct x (record { 0 = length nodes }) node same o) in
      absurd (omega (arith, e, within)))
      (λ l f. f.absent x at)

  pub not_full : length own ≤ 1024 → ¬ IsFull nodes node
  not_full short full = at_next ⊥ (λ l o. let m = full.long in absurd (omega (arith, m, l, short)))
      (λ l f. let m = full.long in let r = f.room in absurd (omega (arith, m, r)))

  at_front : (xs : List Node) (i : ℕ) → i < length xs
      → slice_get (xs ++ node ∷ []) i ≡ slice_get xs i
  at_front [] i l = absurd (omega arith)
  at_front (x ∷ xs) zero l = refl
  at_front (x ∷ xs) (suc i) l = at_front xs i (omega arith)

  at_last : (xs : List Node) (i : ℕ) → i ≡ length xs → slice_get (xs ++ node ∷ []) i ≡ Some node
  at_last [] zero e = refl
  at_last [] (suc i) e = absurd (omega arith)
  at_last (x ∷ xs) zero e = absurd (omega arith)
  at_last (x ∷ xs) (suc i) e = at_last xs i (omega arith)

  pub agrees_next : Agrees own nodes → Agrees own (nodes ++ node ∷ [])
  agrees_next agrees i l m = ⊎_elim
      (λ b. at_front nodes i b ∙ agrees i l b)
      (λ b. let e : i ≡ length nodes = omega (arith, m, length-append nodes (node ∷ [])) in
      at_next (slice_get (nodes ++ node ∷ []) i ≡ slice_get own i) (λ k o. at_last nodes i e ∙ sym o
      ∙ ap (slice_get own) (sym e)) (λ k f. absurd (omega (arith, k, l, e))))
      (cases_lt i (length nodes))

  pub placed_last : (new : List Node) (x : ExprId) → IsAbsent nodes node → IsPlaced nodes node new x
      → new ≡ nodes ++ node ∷ []
  placed_last new x absent p = ⊎_elim (λ f. absurd (absent x f.there)) (λ l. l.list) p.how
