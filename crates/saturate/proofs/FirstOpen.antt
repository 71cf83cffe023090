-- The least goal that isn't settled, found one after another.
use Rattle.std.specs.Prelude.{◌≡◌, ◌<◌, ◌≤◌, ◌+◌, ℕ, zero, true, false, List, Option, Some, None}
use Rattle.std.specs.Prelude.{length, if◌then◌else◌, refl}
use Rattle.std.proofs.Common.{sym, ◌∙◌, ap, arith, drop, get_or, add-one}
use Rattle.std.proofs.Math.Seq.{drop-cons}
use Rattle.std.proofs.lemmas.List.{drop_all}
use Rattle.facts.specs.declared.fact.Fact.{Fact}
use Rattle.facts.specs.declared.fact.Slot.{Slot}
use Rattle.goals.specs.declared.goal.Goal.{Goal}
use Rattle.derivation.specs.Decided.{is_settled, one_later, first_open}

-- so many places later
abbrev pub later_by : ℕ → Option ℕ → Option ℕ
later_by n None = None
later_by n (Some k) = Some (n + k)

pub later_by_none : (o : Option ℕ) → o ≡ later_by 0 o
later_by_none None = refl
later_by_none (Some k) = ap Some (omega arith)

later_by_one : (n : ℕ) (o : Option ℕ) → later_by n (one_later o) ≡ later_by (n + 1) o
later_by_one n None = refl
later_by_one n (Some k) = ap Some (omega arith)

module _ (at : Slot → Option Fact) (goals : List Goal) (n : ℕ) (d : Goal)
    (h : n < length goals) where
  rest : first_open at (drop n goals) ≡ (if is_settled at (get_or goals n d)
      then one_later (first_open at (drop (n + 1) goals)) else Some zero)
  rest = ap (first_open at) (drop-cons goals n d h) ∙ ap (λ k. if is_settled at (get_or goals n d)
      then one_later (first_open at (drop k goals)) else Some zero) (sym (add-one n))

  pub settled_next : is_settled at (get_or goals n d) ≡ true
      → first_open at goals ≡ later_by n (first_open at (drop n goals))
      → first_open at goals ≡ later_by (n + 1) (first_open at (drop (n + 1) goals))
  settled_next m e = e ∙ ap (later_by n) (rest
      ∙ ap (λ b. if b then one_later (first_open at (drop (n + 1) goals)) else Some zero) m)
      ∙ later_by_one n (first_open at (drop (n + 1) goals))

  pub open_here : is_settled at (get_or goals n d) ≡ false
      → first_open at goals ≡ later_by n (first_open at (drop n goals))
      → Some n ≡ first_open at goals
  open_here m e = sym (e ∙ ap (later_by n) (rest
      ∙ ap (λ b. if b then one_later (first_open at (drop (n + 1) goals)) else Some zero) m)
      ∙ ap Some (omega arith))

pub settled_all : (at : Slot → Option Fact) (goals : List Goal) (n : ℕ)
    → length goals ≤ n → first_open at goals ≡ later_by n (first_open at (drop n goals))
    → None ≡ first_open at goals
settled_all at goals n h e = sym (e ∙ ap (λ l. later_by n (first_open at l)) (drop_all n goals h))
