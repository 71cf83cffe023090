-- Lines that a leaf changes one after the other.
use Rattle.std.proofs.Common.{◌≡◌, ◌≤◌, ◌<◌, ◌++◌, ◌∷◌, [], ℕ, zero, suc, List, length, take, drop}
use Rattle.std.proofs.Common.{refl, sym, ap, ◌∙◌, arith}
use Rattle.std.specs.Prelude.{slice_index_or, slice_set, min}
use Rattle.goals.specs.declared.line.Line.{Line}
use Rattle.cert_checker.specs.declared.open.Citable.{Citable}
use Rattle.cert_checker.specs.Steps.{step_fact}
use Rattle.cert_checker.specs.After.{with_cited, lines_with}

-- the first k lines are done, of all that the leaf makes of them
pub so_far : List Citable → List Line → List ℕ → ℕ → List Line
so_far steps lines refs k = take k lines ++ lines_with steps (drop k lines) (drop k refs)

pub none_yet : (steps : List Citable) (lines : List Line) (refs : List ℕ)
    → so_far steps lines refs 0 ≡ lines_with steps lines refs
unfolding so_far
none_yet steps lines refs = refl

pub one_more : (steps : List Citable) (lines : List Line) (refs : List ℕ) (k : ℕ) (o l : Line)
    → k < length lines → k < length refs → o ≡ slice_index_or lines k o
    → l ≡ with_cited o (step_fact steps (slice_index_or refs k 0))
    → so_far steps (slice_set lines k l) refs (suc k) ≡ so_far steps lines refs k
unfolding so_far
one_more steps [] refs k o l a b f e = absurd (omega arith)
one_more steps (x ∷ lines) [] k o l a b f e = absurd (omega arith)
one_more steps (x ∷ lines) (r ∷ refs) zero o l a b f e =
    ap (λ z. z ∷ lines_with steps lines refs) (e ∙ ap (λ z. with_cited z (step_fact steps r)) f)
one_more steps (x ∷ lines) (r ∷ refs) (suc k) o l a b f e =
    ap (λ z. x ∷ z) (one_more steps lines refs k o l (omega arith) (omega arith) f e)

abbrev nothing : List ℕ
nothing = []

drop_nil : (k : ℕ) → drop k [] ≡ nothing
drop_nil zero = refl
drop_nil (suc k) = refl

pub all_done : (steps : List Citable) (lines : List Line) (refs : List ℕ) (k : ℕ)
    → min (length lines) (length refs) ≤ k → so_far steps lines refs k ≡ lines
unfolding so_far
all_done steps [] refs zero h = refl
all_done steps [] refs (suc k) h = refl
all_done steps (x ∷ lines) [] zero h = refl
all_done steps (x ∷ lines) [] (suc k) h = ap (λ z. x ∷ z)
    (ap (λ (r : List ℕ). take k lines ++ lines_with steps (drop k lines) r) (sym (drop_nil k))
    ∙ all_done steps lines [] k (omega arith))
all_done steps (x ∷ lines) (r ∷ refs) zero h = absurd (omega arith)
all_done steps (x ∷ lines) (r ∷ refs) (suc k) h =
    ap (λ z. x ∷ z) (all_done steps lines refs k (omega arith))
