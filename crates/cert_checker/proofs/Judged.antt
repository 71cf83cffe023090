-- What is found wrong is the fault.
use Rattle.std.proofs.Common.{◌≡◌, ◌<◌, length, ℕ, zero, suc, Bool, true, List, [], ◌∷◌, Option}
use Rattle.std.proofs.Common.{Some, None, refl, sym, subst, ◌∙◌, arith}
use Rattle.std.specs.Prelude.{slice_index_or, min, IsTrue}
use Rattle.facts.specs.declared.fact.Fact.{Fact}
use Rattle.goals.specs.declared.goal.Goal.{Goal}
use Rattle.cert_bytes.specs.declared.item.StepRow.{StepRow}
use Rattle.cert_checker.specs.declared.open.Citable.{Citable}
use Rattle.cert_checker.specs.Steps.{step_facts, IsMetWith, IsLike, IsCiting, Givens, Concludes}
use Rattle.cert_checker.specs.Steps.{IsConcluded}
use Rattle.cert_checker.specs.Faults.{IsSettledBy, AreSettled, IsFirstMissing}

met_once : (steps : List Citable) (o : Option ℕ) (f g : Option Fact) → IsMetWith steps o f
    → IsMetWith steps o g → f ≡ g
met_once steps None f g p q = p ∙ sym q
met_once steps (Some n) f g p q = sym p.0 ∙ q.0

found_once : (o : Option (List Fact)) (ps qs : List Fact) → o ≡ Some ps → o ≡ Some qs → ps ≡ qs
found_once o ps qs p q = let e : Some ps ≡ Some qs = sym p ∙ q in cc

-- a step that cites what it may, and isn't concluded from that
pub not_concluded : (g : Givens) (steps : List Citable) (row : StepRow) (ps : List Fact)
    (w : Option Fact) → step_facts steps row.premises ≡ Some ps → IsMetWith steps row.with w
    → ¬ Concludes g row ps w → ¬ IsConcluded g steps row
not_concluded g steps row ps w f m n q =
    let P : List Fact → Type 0 = λ x. Concludes g row x q.1 in
    let Q : Option Fact → Type 0 = λ x. Concludes g row ps x in
    n (subst Q (met_once steps row.with q.1 w q.2.met m)
    (subst P (found_once (step_facts steps row.premises) q.0 ps q.2.found f) q.3))

pub cites : (steps : List Citable) (row : StepRow) (ps : List Fact) (w : Option Fact)
    → step_facts steps row.premises ≡ Some ps → IsMetWith steps row.with w
    → IsLike row.fact w → IsCiting steps row
cites steps row ps w f m l = (ps, w, record { found = f; met = m; like = l })

-- ---- the first goal that isn't settled, where some were
abbrev pub SettledTo : List Citable → List Goal → List ℕ → ℕ → Type 0
SettledTo steps goals refs zero = Unit {0}
SettledTo steps (g ∷ goals) (r ∷ refs) (suc k) =
    IsSettledBy steps g r × SettledTo steps goals refs k
SettledTo steps _ _ (suc k) = ⊥

pub settled_next : (steps : List Citable) (goals : List Goal) (refs : List ℕ)
    (k : ℕ) (g : Goal) (r : ℕ) → k < length goals → k < length refs → g ≡ slice_index_or goals k g
    → r ≡ slice_index_or refs k 0
    → IsSettledBy steps g r → SettledTo steps goals refs k → SettledTo steps goals refs (suc k)
settled_next steps [] refs k g r l m e f s t = absurd (omega arith)
settled_next steps (x ∷ goals) [] k g r l m e f s t = absurd (omega arith)
settled_next steps (x ∷ goals) (y ∷ refs) zero g r l m e f s t =
    let P : Goal → Type 0 = λ z. IsSettledBy steps z y in
    let Q : ℕ → Type 0 = λ z. IsSettledBy steps g z in (subst P e (subst Q f s), tt)
settled_next steps (x ∷ goals) (y ∷ refs) (suc k) g r l m e f s t =
    (t.0, settled_next steps goals refs k g r (omega arith) (omega arith) e f s t.1)

pub missing_at : (steps : List Citable) (goals : List Goal) (refs : List ℕ)
    (k : ℕ) (g : Goal) (r : ℕ) → k < length goals → k < length refs → g ≡ slice_index_or goals k g
    → r ≡ slice_index_or refs k 0
    → ¬ IsSettledBy steps g r → SettledTo steps goals refs k → IsFirstMissing steps goals refs k
missing_at steps [] refs k g r l m e f s t = absurd (omega arith)
missing_at steps (x ∷ goals) [] k g r l m e f s t = absurd (omega arith)
missing_at steps (x ∷ goals) (y ∷ refs) zero g r l m e f s t =
    let P : Goal → Type 0 = λ z. ¬ IsSettledBy steps z y in
    let Q : ℕ → Type 0 = λ z. ¬ IsSettledBy steps g z in subst P e (subst Q f s)
missing_at steps (x ∷ goals) (y ∷ refs) (suc k) g r l m e f s t =
    (t.0, missing_at steps goals refs k g r (omega arith) (omega arith) e f s t.1)

pub all_settled : (steps : List Citable) (goals : List Goal) (refs : List ℕ) (k : ℕ)
    → length goals ≡ length refs → k ≡ length goals → SettledTo steps goals refs k
    → AreSettled steps goals refs
all_settled steps [] [] k e f t = tt
all_settled steps [] (y ∷ refs) k e f t = absurd (omega (arith, e))
all_settled steps (x ∷ goals) [] k e f t = absurd (omega (arith, e))
all_settled steps (x ∷ goals) (y ∷ refs) zero e f t = absurd (omega (arith, f))
all_settled steps (x ∷ goals) (y ∷ refs) (suc k) e f t =
    (t.0, all_settled steps goals refs k (omega (arith, e)) (omega (arith, f)) t.1)

pub missing_behind : (steps : List Citable) (goals : List Goal) (refs : List ℕ) (k : ℕ)
    → ¬ (length goals ≡ length refs) → k ≡ min (length goals) (length refs)
    → SettledTo steps goals refs k → IsFirstMissing steps goals refs k
missing_behind steps [] [] k e f t = absurd (e refl)
missing_behind steps [] (y ∷ refs) zero e f t = tt
missing_behind steps [] (y ∷ refs) (suc k) e f t = absurd (omega (arith, f))
missing_behind steps (x ∷ goals) [] zero e f t = tt
missing_behind steps (x ∷ goals) [] (suc k) e f t = absurd (omega (arith, f))
missing_behind steps (x ∷ goals) (y ∷ refs) zero e f t = absurd (omega (arith, f))
missing_behind steps (x ∷ goals) (y ∷ refs) (suc k) e f t =
    (t.0, missing_behind steps goals refs k (λ h. e (omega (arith, h))) (omega (arith, f)) t.1)

-- ---- tests
pub is_true : (b : Bool) → IsTrue b → b ≡ true
is_true b t = t

pub true_is : (b : Bool) → b ≡ true → IsTrue b
true_is b t = t
