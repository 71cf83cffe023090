-- How the numbers of a path lie in its 36 places.
use Rattle.std.specs.Prelude.{◌≡◌, ◌≤◌, ◌-◌, ◌++◌, ℕ, List, length, take, replicate}
use Rattle.std.proofs.Common.{sym, ap, ◌∙◌, arith}
use Rattle.std.proofs.lemmas.List.{length-take-le}
use Rattle.fx_edge.specs.declared.path.Path.TheInside.{Inside}

-- the piece numbers, from the root
abbrev pub numbers_of : Inside → List ℕ
numbers_of p = take p.len p.numbers

-- what isn't used is 0
pub record IsPadded (p : Inside) : Type 0 where
  pub short : p.len ≤ 36
  pub size : length p.numbers ≡ 36
  pub rest : p.numbers ≡ take p.len p.numbers ++ replicate (36 - p.len) 0

-- the fields of a path with these numbers
abbrev pub fields_of : List ℕ → Inside
fields_of numbers =
    record { numbers = numbers ++ replicate (36 - length numbers) 0; len = length numbers }

abbrev made : List ℕ → ℕ → Inside
made numbers len = record { numbers = numbers; len = len }

-- the list gives the fields back
pub fields_of_numbers : (p : Inside) → IsPadded p → fields_of (numbers_of p) ≡ p
fields_of_numbers p ok =
    let le : p.len ≤ length p.numbers = omega (arith, ok.size, ok.short) in
    let e : length (take p.len p.numbers) ≡ p.len = length-take-le p.len p.numbers le in
    let n : take p.len p.numbers ++ replicate (36 - length (take p.len p.numbers)) 0
    ≡ p.numbers = rw e (sym ok.rest) in
    ap (λ (a : List ℕ). made a (length (take p.len p.numbers))) n
    ∙ ap (λ (m : ℕ). made p.numbers m) e
