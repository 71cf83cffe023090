-- What the cases of parts are: none has more items than all parts together, and a script has one at
-- least.
use Rattle.std.specs.Prelude.{◌<◌, ◌≤◌, ◌+◌, ℕ, List, [], ◌∷◌, ◌++◌, length}
use Rattle.std.specs.List.{AllByRecursion, flat_map}
use Rattle.std.proofs.Common.{sym, subst, arith}
use Rattle.std.proofs.lemmas.List.{length-append}
use Rattle.std.proofs.lemmas.Nat.{mul-le}
use Rattle.facts.proofs.CommonParts.{all_last}
use Rattle.script_shape.specs.Propositions.{Formula, single, and, or, implies}
use Rattle.script_shape.specs.Tree.{Script, formula, define}
use Rattle.script_cases.specs.Cases.{with_first, cases, case_count, all_items}
use Rattle.script_cases.proofs.Counted.{cases_are_counted}
use Rattle.script_cases.specs.Parts.{part_of}
use Rattle.script_nodes.specs.Known.{Known}
use Rattle.script_nodes.specs.Definitions.{definition_value}
use Rattle.script_claims.specs.declared.claim.Claim.{Claim}
use Rattle.script_claims.specs.Claims.{formula_claims}
use Rattle.script_grammar.specs.Meaning.{meaning_from}

-- ---- how many items a case has
abbrev AreShort : {X : Type 0} → ℕ → List (List X) → Type 0
AreShort n cs = AllByRecursion (λ c. length c ≤ n) cs

module _ {X : Type 0} where
  both_short : (n : ℕ) (a b : List (List X)) → AreShort n a → AreShort n b → AreShort n (a ++ b)
  both_short n [] b p q = q
  both_short n (c ∷ a) b p q = (p.0, both_short n a b p.1 q)

  first_short : (m n : ℕ) (c : List X) (later : List (List X)) → length c ≤ m → AreShort n later
      → AreShort (m + n) (with_first later c)
  first_short m n c [] h k = tt
  first_short m n c (r ∷ later) h k =
      (let l = k.0 in omega (arith, length-append c r, h, l), first_short m n c later h k.1)

  part_short : (m n : ℕ) (p : List (List X)) (later : List (List X))
      → length (flat_map (λ c. c) p) ≤ m → AreShort n later
      → AreShort (m + n) (flat_map (with_first later) p)
  part_short m n [] later h k = tt
  part_short m n (c ∷ p) later h k =
      let e = length-append c (flat_map (λ c. c) p) in
      both_short (m + n) (with_first later c) (flat_map (with_first later) p)
      (first_short m n c later (omega (arith, e, h)) k)
      (part_short m n p later (omega (arith, e, h)) k)

  pub cases_short : (parts : List (List (List X)))
      → AreShort (length (all_items parts)) (cases parts)
  cases_short [] = (omega arith, tt)
  cases_short (p ∷ ps) =
      let here : List X = flat_map (λ c. c) p in
      let later : List X = all_items ps in
      subst (λ n. AreShort n (cases (p ∷ ps))) (sym (length-append here later))
      (part_short (length here) (length later) p (cases ps) (omega arith) (cases_short ps))

  -- ---- that there is one
  abbrev AreFilled : List (List (List X)) → Type 0
  AreFilled parts = AllByRecursion (λ p. 1 ≤ length p) parts

  counted : (parts : List (List (List X))) → AreFilled parts → 1 ≤ case_count parts
  counted [] h = omega arith
  counted (p ∷ ps) h =
      let l = mul-le 1 1 (length p) (case_count ps) h.0 (counted ps h.1) in omega (arith, l)

  some_of : (parts : List (List (List X))) → AreFilled parts → 0 < length (cases parts)
  some_of parts h = omega (arith, cases_are_counted parts, counted parts h)

formula_filled : (f : Formula) (k : Known) → AreFilled (formula_claims f k).sides.parts.before
formula_filled (single p) k = tt
formula_filled (and f p) k = formula_filled f k
formula_filled (or f p) k = formula_filled f k
formula_filled (implies f p) k =
    let parts = (formula_claims f k).sides.parts in
    let filled : List (List Claim) → Type 0 = λ p. 1 ≤ length p in
    all_last filled parts.before (part_of parts) (formula_filled f k)
    (omega (arith, length-append parts.ended (parts.last ∷ [])))

tree_filled : (tree : Script) (k : Known) → AreFilled (meaning_from tree k).parts.before
tree_filled (formula f h) k = formula_filled f k
tree_filled (define d rest) k = tree_filled rest (definition_value d k)

pub some_case : (tree : Script) (k : Known) → 0 < length (cases (meaning_from tree k).parts.before)
some_case tree k = some_of (meaning_from tree k).parts.before (tree_filled tree k)
