use Rattle.std.proofs.Common.{rules, ◌≡◌, ◌≤◌, ◌++◌, ℕ, List, [], ◌∷◌, length, take, refl, sym, ap}
use Rattle.std.proofs.Common.{subst}
use Rattle.std.specs.List.{AllByRecursion}
use Rattle.script_claims.specs.declared.range.SplitRange.{SplitRange}
use Rattle.script_claims.specs.Ranges.{IsOrdered}
use Rattle.box_tree.proofs.region.Region.put.Goals as goal

front : (n : ℕ) (xs ys : List SplitRange) → length xs ≡ n → take n (xs ++ ys) ≡ xs
front n xs ys e = subst (λ k. take k (xs ++ ys) ≡ xs) e (all xs ys)
  where
    all : (xs ys : List SplitRange) → take (length xs) (xs ++ ys) ≡ xs
    all [] ys = refl
    all (x ∷ xs) ys = ap (λ (zs : List SplitRange). x ∷ zs) (all xs ys)

kept : (n : ℕ) (xs ys : List SplitRange) → n ≤ 8 → length xs ≡ n → AllByRecursion IsOrdered xs
    → (n ≤ 8) × AllByRecursion IsOrdered (take n (xs ++ ys))
kept n xs ys l e o = (l, subst (AllByRecursion IsOrdered) (sym (front n xs ys e)) o)

pub invariant_of-self : goal.invariant_of-self
invariant_of-self c =
    let n = c.self.inside.count in
    let l : length c.put_range.new.ranges ≡ n = search rules in
    kept n c.put_range.new.ranges _ c.self.invariant.0 l
    (c.put_range.ensures.ordered c.requires c.self.invariant.1)
