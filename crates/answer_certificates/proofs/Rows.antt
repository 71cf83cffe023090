-- How many premises the instances of hints have.
use Rattle.std.specs.Prelude.{◌≡◌, ◌<◌, ◌≤◌, ◌+◌, ◌-◌, ◌*◌, ℕ, zero, suc, List, [], ◌∷◌, ◌++◌}
use Rattle.std.specs.Prelude.{length, map, Some, slice_get, refl}
use Rattle.std.proofs.Common.{arith, ap, inl, inr}
use Rattle.std.proofs.lemmas.List.{length-append, length-map}
use Rattle.std.proofs.lemmas.Option.{slice_get_within, slice_get_cases}
use Rattle.fx_model.specs.declared.ExprId.{ExprId}
use Rattle.fx_model.specs.declared.Node.{Node}
use Rattle.fx_model.specs.declared.Node.TheVariants.{Div}
use Rattle.expr_dag.specs.Nodes.{IsAt, IsLawful}
use Rattle.facts.specs.declared.fact.Slot.TheVariants as slot
use Rattle.facts.specs.declared.hint.HintRow.{HintRow}
use Rattle.facts.specs.declared.instance.Instance.{Instance}
use Rattle.script_hints.specs.declared.hint.Hint.{Hint}
use Rattle.script_hints.specs.Needs.{need_of}
use Rattle.script_grammar.specs.Few.{constraints_in}
use Rattle.rule_instances.specs.Slots.{need_slot, conditions}
use Rattle.rule_instances.specs.InOrder.{each_at, of_node, of_difference, of_pair, of_hint}
use Rattle.rule_universe.specs.Sizes.{beyond_four}
use Rattle.rewrite_hints.specs.Divisors.{IsDivisor, AreDivisors}
use Rattle.rewrite_hints.specs.Rows.{IsRowOf}
use Rattle.rewrite_hints.specs.Marks.{AreRows}
use Rattle.answer_certificates.specs.Premises.{PremisesAreFew}
use Rattle.answer_certificates.proofs.Plain.{beyond_both, plain_node, plain_difference, plain_pair}
use Rattle.answer_certificates.proofs.Plain.{plain_each}

-- ---- lists that rise
-- a list whose numbers rise has the one at a place at least as large as the place
module _ (ds : List ExprId)
    (rising : (i j : ℕ) (d e : ExprId) → slice_get ds i ≡ Some d → slice_get ds j ≡ Some e
    → i < j → d.0 < e.0) where
  there : (k : ℕ) → k < length ds → (d : ExprId) × (slice_get ds k ≡ Some d)
  there k l =
      elim (slice_get_cases ds k).1 [
        | inl w ↦ (w.0, w.2)
        | inr w ↦ absurd (let m = w.0 in omega (arith, l, m))
      ]

  as_large : (k : ℕ) (d : ExprId) → slice_get ds k ≡ Some d → k ≤ d.0
  as_large zero d e = omega arith
  as_large (suc k) d e =
      let l = slice_get_within ds (suc k) d e in
      let before = there k (omega (arith, l)) in
      let h = as_large k before.0 before.1 in
      let r = rising k (suc k) before.0 d before.1 e (omega arith) in
      omega (arith, h, r)

  few_rising : (n : ℕ) → ((k : ℕ) (d : ExprId) → slice_get ds k ≡ Some d → d.0 < n) → length ds ≤ n
  few_rising n below = by_length (length ds) refl
    where
      by_length : (m : ℕ) → length ds ≡ m → length ds ≤ n
      by_length zero e = omega (arith, e)
      by_length (suc m) e =
          let last = there m (omega (arith, e)) in
          let h = as_large m last.0 last.1 in
          let b = below m last.0 last.1 in
          omega (arith, e, h, b)

-- ---- divisors
got_more : {A : Type 0} (xs ys : List A) (k : ℕ) (x : A) → slice_get xs k ≡ Some x
    → slice_get (xs ++ ys) k ≡ Some x
got_more [] ys k x e = cc
got_more (y ∷ xs) ys zero x e = e
got_more (y ∷ xs) ys (suc k) x e = got_more xs ys k x e

module _ (nodes more : List Node)
    (lawful : (x : ExprId) (n : Node) → IsAt (nodes ++ more) x n → IsLawful x.0 n)
    (short : length (nodes ++ more) ≤ 1024) where
  divisors_most : (x : ExprId) (ds : List ExprId) → AreDivisors nodes x ds → length ds ≤ 1024
  divisors_most x ds are =
      few_rising ds are.rising 1024
      (λ k d e.
      let w : IsDivisor nodes x d = (are.exactly d).0 (k, e) in
      let at : IsAt (nodes ++ more) w.0 (Div w.1 d) = got_more nodes more (w.0).0 (Div w.1 d) w.3 in
      let inside = slice_get_within (nodes ++ more) (w.0).0 (Div w.1 d) at in
      let children = (lawful w.0 (Div w.1 d) at).children in
      let below : d.0 < (w.0).0 = children.1 in
      omega (arith, below, inside, short))

  -- ---- rows
  conditions_most : (h : Hint) (row : HintRow) → IsRowOf nodes h row
      → length (conditions row) ≤ 1024 + length h.constraints
  conditions_most h row r =
      let d = divisors_most h.left row.divisors r.divisors in
      let one = length-append (map slot.Nzr row.divisors) (map need_slot row.needs) in
      let two = length-map row.divisors slot.Nzr in
      let three = length-map row.needs need_slot in
      let needs = ap length r.needs in
      let four = length-map h.constraints need_of in
      omega (arith, d, one, two, three, needs, four)

  hint_most : (k : ℕ) (h : Hint) (row : HintRow) → IsRowOf nodes h row
      → beyond_four (of_hint k row) ≤ 4 * (1025 + length h.constraints)
  hint_most k h row r = let c = conditions_most h row r in omega (arith, c)

  rows_most : (k : ℕ) (hints : List Hint) (rows : List HintRow) → AreRows nodes hints rows
      → beyond_four (each_at of_hint k rows) ≤ 4 * (1025 * length hints + constraints_in hints)
  rows_most k hints [] are = omega arith
  rows_most k [] (row ∷ rows) are = absurd (let c = are.count in omega (arith, c))
  rows_most k (h ∷ hints) (row ∷ rows) are =
      let first = hint_most k h row (are.each 0 h row refl refl) in
      let later = rows_most (k + 1) hints rows (record {
        count = (let c = are.count in omega (arith, c));
        each = λ j x y e f. are.each (suc j) x y e f;
      }) in
      let both = beyond_both (of_hint k row) (each_at of_hint (k + 1) rows) in
      omega (arith, first, later, both)

pub premises_few : PremisesAreFew
premises_few nodes more pairs hints rows lawful short are =
    let all : List Node = nodes ++ more in
    let a : List Instance = each_at of_node 0 all in
    let b : List Instance = each_at (of_difference all pairs) 0 all in
    let c : List Instance = each_at (of_pair all pairs) 0 pairs in
    let d : List Instance = each_at of_hint 0 rows in
    let one = beyond_both a (b ++ (c ++ d)) in
    let two = beyond_both b (c ++ d) in
    let three = beyond_both c d in
    let p = plain_each of_node plain_node 0 all in
    let q = plain_each (of_difference all pairs) (plain_difference all pairs) 0 all in
    let r = plain_each (of_pair all pairs) (plain_pair all pairs) 0 pairs in
    let s = rows_most nodes more lawful short 0 hints rows are in
    omega (arith, one, two, three, p, q, r, s)
