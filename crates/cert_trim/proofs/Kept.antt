-- The used steps by their new numbers: what is found among them, and what is concluded, settled and
-- shown by them.
use Rattle.std.proofs.Common.{◌≡◌, ◌==◌, ℕ, Bool, true, false, List, [], ◌∷◌, ◌++◌, Option, Some}
use Rattle.std.proofs.Common.{None, refl, sym, ap, ◌∙◌, arith, ⊎_elim, map}
use Rattle.std.specs.Prelude.{if◌then◌else◌}
use Rattle.std.specs.Option.{option_map}
use Rattle.std.proofs.lemmas.Bool.{cases_lt, ne_eqb, eq-eqb}
use Rattle.facts.specs.declared.fact.Fact.{Fact}
use Rattle.goals.specs.declared.goal.Goal.{Goal}
use Rattle.goals.specs.declared.line.Line.{Line}
use Rattle.cert_bytes.specs.declared.item.StepRow.{StepRow}
use Rattle.cert_checker.specs.declared.open.Citable.{Citable}
use Rattle.cert_checker.specs.Steps.{step_fact, step_facts, before, IsMetWith, Givens, IsConcluded}
use Rattle.cert_checker.specs.Faults.{AreSettled}
use Rattle.cert_checker.specs.After.{with_cited, lines_with}
use Rattle.cert_trim.specs.Trimmed.{new_number, moved_row}
use Rattle.cert_trim.specs.Used.{and_more, cited, AreUsed}
use Rattle.cert_trim.proofs.Numbers.{lower, on_both}

abbrev pub renumbered : (ℕ → Bool) → Citable → Citable
renumbered used s = record { number = new_number used s.number; fact = s.fact }

abbrev pub if_kept : Bool → Citable → List Citable → List Citable
if_kept true s later = s ∷ later
if_kept false s later = later

-- the used steps
abbrev pub kept : (ℕ → Bool) → List Citable → List Citable
kept used [] = []
kept used (s ∷ steps) = if_kept (used s.number) (renumbered used s) (kept used steps)

if_kept_append : (b : Bool) (s : Citable) (xs ys : List Citable)
    → if_kept b s (xs ++ ys) ≡ if_kept b s xs ++ ys
if_kept_append true s xs ys = refl
if_kept_append false s xs ys = refl

pub kept_append : (used : ℕ → Bool) (xs ys : List Citable)
    → kept used (xs ++ ys) ≡ kept used xs ++ kept used ys
kept_append used [] ys = refl
kept_append used (s ∷ xs) ys =
    ap (if_kept (used s.number) (renumbered used s)) (kept_append used xs ys)
    ∙ if_kept_append (used s.number) (renumbered used s) (kept used xs) (kept used ys)

same_test : (used : ℕ → Bool) (m p : ℕ)
    → used m ≡ true → used p ≡ true → (new_number used m == new_number used p) ≡ (m == p)
same_test used m p u v = ⊎_elim
    (λ l. let k = lower used m p u l in ne_eqb _ _ (λ e. absurd (omega (arith, k, e)))
    ∙ sym (ne_eqb m p (λ e. absurd (omega (arith, l, e)))))
    (λ g. ⊎_elim
    (λ l. let k = lower used p m v l in ne_eqb _ _ (λ e. absurd (omega (arith, k, e)))
    ∙ sym (ne_eqb m p (λ e. absurd (omega (arith, l, e)))))
    (λ h. let e : m ≡ p = omega (arith, g, h) in
    eq-eqb _ _ (ap (new_number used) e) ∙ sym (eq-eqb m p e))
    (cases_lt p m))
    (cases_lt m p)

module _ (used : ℕ → Bool) where
  one_found : (s : Citable) (steps : List Citable) (p : ℕ) (b : Bool) → used s.number ≡ b
      → used p ≡ true → step_fact (kept used steps) (new_number used p) ≡ step_fact steps p
      → step_fact (if_kept b (renumbered used s) (kept used steps))
      (new_number used p) ≡ step_fact (s ∷ steps) p
  one_found s steps p true e u h =
      on_both (λ t o. if t then Some s.fact else o) (same_test used s.number p e u) h
  one_found s steps p false e u h = let q : (s.number == p) ≡ false =
      ne_eqb s.number p (λ d. absurd (cc (sym e ∙ ap used d ∙ u))) in
      h ∙ sym (ap (λ t. if t then Some s.fact else step_fact steps p) q)

  -- a used step is found by its new number
  pub found_again : (steps : List Citable) (p : ℕ)
      → used p ≡ true → step_fact (kept used steps) (new_number used p) ≡ step_fact steps p
  found_again [] p u = refl
  found_again (s ∷ steps) p u = one_found s steps p (used s.number) refl u (found_again steps p u)

  pub all_found_again : (steps : List Citable) (ns : List ℕ) → AreUsed used ns
      → step_facts (kept used steps) (map (new_number used) ns) ≡ step_facts steps ns
  all_found_again steps [] u = refl
  all_found_again steps (n ∷ ns) u =
      on_both before (found_again steps n u.0) (all_found_again steps ns u.1)

  premises_used : (w : Option ℕ) (ns : List ℕ) → AreUsed used (and_more w ns) → AreUsed used ns
  premises_used None ns u = u
  premises_used (Some n) ns u = u.1

  met_again : (steps : List Citable) (w : Option ℕ) (ns : List ℕ) (f : Option Fact)
      → AreUsed used (and_more w ns)
      → IsMetWith steps w f → IsMetWith (kept used steps) (option_map (new_number used) w) f
  met_again steps None ns f u h = h
  met_again steps (Some n) ns f u h = (found_again steps n u.0 ∙ h.0, h.1)

  -- what a used step concludes
  pub concluded_again : (g : Givens) (steps : List Citable) (r : StepRow) → AreUsed used (cited r)
      → IsConcluded g steps r → IsConcluded g (kept used steps) (moved_row used r)
  concluded_again g steps r u h = (
    h.0,
    h.1,
    record {
      found = all_found_again steps r.premises (premises_used r.with r.premises u)
          ∙ h.2.found;
      met = met_again steps r.with r.premises h.1 u h.2.met;
      like = h.2.like;
    },
    record { known = h.3.known; enough = h.3.enough },
  )

  pub settled_again : (steps : List Citable) (goals : List Goal) (refs : List ℕ)
      → AreUsed used refs → AreSettled steps goals refs
      → AreSettled (kept used steps) goals (map (new_number used) refs)
  settled_again steps [] [] u h = h
  settled_again steps (g ∷ goals) (r ∷ refs) u h =
      ((h.0.0, found_again steps r u.0 ∙ h.0.1, h.0.2), settled_again steps goals refs u.1 h.1)
  settled_again steps [] (r ∷ refs) u h = absurd h
  settled_again steps (g ∷ goals) [] u h = absurd h

  pub shown_again : (steps : List Citable) (lines : List Line) (refs : List ℕ)
      → AreUsed used refs → lines_with
      (kept used steps) lines (map (new_number used) refs) ≡ lines_with steps lines refs
  shown_again steps [] refs u = refl
  shown_again steps (l ∷ lines) [] u = refl
  shown_again steps (l ∷ lines) (r ∷ refs) u = on_both
      (λ o ls. with_cited l o ∷ ls) (found_again steps r u.0) (shown_again steps lines refs u.1)
