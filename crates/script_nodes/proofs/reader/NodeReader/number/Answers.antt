use Rattle.std.proofs.Common.{◌≡◌, ◌≤◌, ◌<◌, ℕ, Bool, true, false, Option, Some, None, cond, nat_lt}
use Rattle.std.proofs.Common.{length, arith, refl, sym, ◌∙◌}
use Rattle.std.proofs.lemmas.Bool.{ltb-true}
use Rattle.std.specs.List.{position, position_or_len}
use Rattle.std.specs.Str.{bytes_eq}
use Rattle.script_nodes.proofs.reader.NodeReader.number.Goals as goal

-- a place that there is
within : (n m : ℕ) (b : Bool) → nat_lt n m ≡ b → (i : ℕ) → Some i ≡ cond b (Some n) None → i < m
within n m true e i h = let same : i ≡ n = cc h in let l = ltb-true n m e in omega arith
within n m false e i h = absurd (cc h)

pub overflow_cast-place : goal.overflow_cast-place
overflow_cast-place c =
    let names = c.self.inside.variables in
    let at : Some c.in-Some-place.place ≡ position (bytes_eq c.args.name.now) names =
    sym c.in-Some-place.is ∙ c.place.ensures in
    let low = within (position_or_len (bytes_eq c.args.name.now) names) (length names) _ refl
    c.in-Some-place.place at in
    let count : length names ≤ length c.self.inside.dag = c.self.invariant.variables in
    let short = c.laws.ensures.short in
    omega arith
