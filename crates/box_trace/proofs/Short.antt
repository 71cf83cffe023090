-- How many bytes the steps of a box and the item behind them have.
use Rattle.std.specs.Prelude.{◌≡◌, ◌≤◌, ◌+◌, ◌*◌, ℕ, zero, suc, List, [], ◌∷◌, ◌++◌, length, map}
use Rattle.std.specs.Prelude.{Option, Some, None, refl}
use Rattle.std.specs.Borrow.{Bor}
use Rattle.std.specs.List.{AllByRecursion}
use Rattle.std.proofs.Common.{arith, ap}
use Rattle.std.proofs.lemmas.List.{length-append}
use Rattle.fx_model.specs.declared.Node.{Node}
use Rattle.fx_model.specs.declared.Node.TheVariants.{Var, Lit, Neg, Add, Sub, Mul, Div, Abs, Round}
use Rattle.rule_universe.specs.Worlds.{World}
use Rattle.rule_universe.specs.Sizes.{IsSmall}
use Rattle.cert_bytes.specs.declared.item.Item.{Item}
use Rattle.cert_bytes.specs.declared.item.Item.TheVariants as item
use Rattle.cert_bytes.specs.declared.item.StepRow.{StepRow}
use Rattle.cert_bytes.specs.Sizes.{most_bytes, most_bytes_in}
use Rattle.box_trace.specs.declared.known.Known.{Known}
use Rattle.box_trace.specs.Rounds.{premises_in, premises_a_round, IsGivenStep, AreRounds}
use Rattle.box_trace.specs.Rounds.{one_if_variable, variable_count, most_given, IsOfParent}
use Rattle.box_trace.specs.Short.{EndsBox, BoxesAreShort}
use Rattle.box_trace.proofs.Added.{premises_joined}

-- ---- steps
given_none : (rows : List StepRow) → AllByRecursion IsGivenStep rows → premises_in rows ≡ 0
given_none [] w = refl
given_none (row ∷ rows) w =
    let one = ap length w.0.1 in let h = given_none rows w.1 in omega (arith, one, h)

-- so many steps, and premises
rounds_few : (u : World) (Given : ℕ → Type 0) (first start n : ℕ) (rows : List StepRow)
    → AreRounds u Given first start n rows → length rows ≤ n * 8192
rounds_few u Given first start zero rows w = let l = ap length w in omega (arith, l)
rounds_few u Given first start (suc n) rows w =
    let h = rounds_few u Given first start n w.0 w.3 in
    let f = w.4.few in
    let e = ap length w.2 in
    let l = length-append w.0 w.1 in
    omega (arith, h, f, e, l)

rounds_cite : (u : World) (Given : ℕ → Type 0) (first start n : ℕ) (rows : List StepRow)
    → premises_a_round u ≤ 2654720 → AreRounds u Given first start n rows
    → premises_in rows ≤ n * 2654720
rounds_cite u Given first start zero rows most w =
    let l = ap premises_in w in omega (arith, l)
rounds_cite u Given first start (suc n) rows most w =
    let h = rounds_cite u Given first start n w.0 most w.3 in
    let p = w.4.premises in
    let e = ap premises_in w.2 in
    let l = premises_joined w.0 w.1 in
    omega (arith, h, p, e, l, most)

-- ---- what is given
one_most : (n : Node) → one_if_variable n ≤ 1
one_most (Var v) = omega arith
one_most (Lit l) = omega arith
one_most (Neg x) = omega arith
one_most (Add x y) = omega arith
one_most (Sub x y) = omega arith
one_most (Mul x y) = omega arith
one_most (Div x y) = omega arith
one_most (Abs x) = omega arith
one_most (Round r x) = omega arith

variables_most : (nodes : List Node) → variable_count nodes ≤ length nodes
variables_most [] = omega arith
variables_most (n ∷ nodes) =
    let p = one_most n in let h = variables_most nodes in omega (arith, p, h)

given_most : (u : World) (parent : Option (Bor Known)) → IsSmall u → most_given u parent ≤ 66560
given_most u None small =
    let h = small.hypotheses in
    let n = small.nodes in
    let v = variables_most u.nodes in
    omega (arith, h, n, v)
given_most u (Some parent) small = omega arith

-- ---- bytes
bytes_of_steps : (rows : List StepRow) (last : Item)
    → most_bytes_in (map item.Step rows ++ last ∷ [])
    ≡ 169 * length rows + 10 * premises_in rows + most_bytes last
bytes_of_steps [] last = omega arith
bytes_of_steps (row ∷ rows) last = let h = bytes_of_steps rows last in omega (arith, h)

last_most : (last : Item) → EndsBox last → most_bytes last ≤ 655370
last_most (item.Cut x points) e = let l : length points ≤ 63 = e in omega (arith, l)
last_most (item.Leaf refs) e = let l : length refs ≤ 65535 = e in omega (arith, l)
last_most (item.Dead r) e = omega arith
last_most (item.Nodes n) e = absurd e
last_most (item.Node n) e = absurd e
last_most (item.Marks n) e = absurd e
last_most (item.Mark m) e = absurd e
last_most (item.Cases n) e = absurd e
last_most (item.Step s) e = absurd e
last_most item.End e = absurd e

pub boxes_short : BoxesAreShort
boxes_short u parent height first steps last small low are ends =
    let p = small.premises in
    let round : premises_a_round u ≤ 2654720 = omega (arith, p) in
    let given = are.given in
    let later = are.later in
    let few = are.given_are.0 in
    let most = given_most u parent small in
    let one = rounds_few u (IsOfParent u parent) first
    (first + length given) height later are.rounds in
    let two = rounds_cite u (IsOfParent u parent) first
    (first + length given) height later round are.rounds in
    let none = given_none given are.given_are.1 in
    let e = ap length are.steps_are in
    let f = ap premises_in are.steps_are in
    let l = length-append given later in
    let m = premises_joined given later in
    let long : length steps ≤ 590848 = omega (arith, few, most, one, e, l, low) in
    let cited : premises_in steps ≤ 169902080 = omega (arith, two, none, f, m, low) in
    let bytes = bytes_of_steps steps last in
    let end = last_most last ends in
    omega (arith, long, cited, bytes, end)
