-- Laws of what specs/Met defines.
use Rattle.std.specs.Prelude.{◌⊎◌, ◌↔◌, List, [], ◌∷◌, ◌++◌}
use Rattle.std.specs.List.{flat_map, AllByRecursion}
use Rattle.std.proofs.Common.{inl, inr, ⊎_elim}
use Rattle.script_cases.proofs.Lists.{all_joined, all_front, all_behind}
use Rattle.script_cases.specs.Cases.{with_first, cases}
use Rattle.script_cases.specs.Met.{SomeOf, AreMet}

-- each item of some case has it
abbrev pub IsSomeMet : {X : Type 0} → (X → Type 0) → List (List (List X)) → Type 0
IsSomeMet P parts = SomeOf (AllByRecursion P) (cases parts)

module _ {X : Type 0} (P : X → Type 0) where
  some_left : (xs ys : List (List X))
      → SomeOf (AllByRecursion P) xs → SomeOf (AllByRecursion P) (xs ++ ys)
  some_left [] ys h = absurd h
  some_left (x ∷ xs) ys h = ⊎_elim (λ p. inl p) (λ q. inr (some_left xs ys q)) h

  some_right : (xs ys : List (List X))
      → SomeOf (AllByRecursion P) ys → SomeOf (AllByRecursion P) (xs ++ ys)
  some_right [] ys h = h
  some_right (x ∷ xs) ys h = inr (some_right xs ys h)

  some_either : (xs ys : List (List X)) → SomeOf (AllByRecursion P) (xs ++ ys)
      → SomeOf (AllByRecursion P) xs ⊎ SomeOf (AllByRecursion P) ys
  some_either [] ys h = inr h
  some_either (x ∷ xs) ys h = ⊎_elim (λ p.
      inl (inl p)) (λ q. ⊎_elim (λ l. inl (inr l)) (λ r. inr r) (some_either xs ys q)) h

  begin_with : (c : List X) (later : List (List X)) → AllByRecursion P c
      → SomeOf (AllByRecursion P) later → SomeOf (AllByRecursion P) (with_first later c)
  begin_with c [] p h = absurd h
  begin_with c (r ∷ later) p h = ⊎_elim (λ q.
      inl (all_joined P c r p q)) (λ q. inr (begin_with c later p q)) h

  begins_with : (c : List X) (later : List (List X)) → SomeOf
      (AllByRecursion P) (with_first later c) → AllByRecursion P c × SomeOf (AllByRecursion P) later
  begins_with c [] h = absurd h
  begins_with c (r ∷ later) h = ⊎_elim (λ q. (all_front P c r q, inl (all_behind P c r q)))
      (λ q. let s = begins_with c later q in (s.0, inr s.1)) h

  part_to : (p : List (List X)) (later : List (List X)) → SomeOf (AllByRecursion P) p
      → SomeOf (AllByRecursion P) later → SomeOf (AllByRecursion P) (flat_map (with_first later) p)
  part_to [] later h k = absurd h
  part_to (c ∷ p) later h k = ⊎_elim (λ q.
      some_left (with_first later c) _ (begin_with c later q k)) (λ q.
      some_right (with_first later c) _ (part_to p later q k)) h

  part_from : (p : List (List X)) (later : List (List X))
      → SomeOf (AllByRecursion P) (flat_map (with_first later) p)
      → SomeOf (AllByRecursion P) p × SomeOf (AllByRecursion P) later
  part_from [] later h = absurd h
  part_from (c ∷ p) later h = ⊎_elim (λ q. let r = begins_with c later q in (inl r.0, r.1))
      (λ q. let r = part_from p later q in (inr r.0, r.1)) (some_either (with_first later c) _ h)

  met_to : (parts : List (List (List X))) → AreMet P parts → IsSomeMet P parts
  met_to [] h = inl tt
  met_to (p ∷ ps) h = part_to p (cases ps) h.0 (met_to ps h.1)

  met_from : (parts : List (List (List X))) → IsSomeMet P parts → AreMet P parts
  met_from [] h = tt
  met_from (p ∷ ps) h = let r = part_from p (cases ps) h in (r.0, met_from ps r.1)

  pub met_in_some_case : (parts : List (List (List X))) → AreMet P parts ↔ IsSomeMet P parts
  met_in_some_case parts = (met_to parts, met_from parts)
