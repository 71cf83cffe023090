-- Whether what a table has is as strong as a fact.
use Rattle.std.specs.Prelude.{◌≡◌, ◌↔◌, ◌<◌, ℕ, Bool, true, false, List, Option, Some, None, IsTrue}
use Rattle.std.specs.Prelude.{length, slice_get, slice_index_or, refl}
use Rattle.std.proofs.Common.{sym, ◌∙◌, ap, subst}
use Rattle.std.proofs.lemmas.Option.{slice_get-get_or}
use Rattle.fx_model.specs.declared.ExprId.{ExprId}
use Rattle.facts.specs.declared.fact.Fact.{Fact}
use Rattle.facts.specs.declared.fact.Fact.TheVariants as fact
use Rattle.facts.specs.Order.{IsStronger}
use Rattle.saturate.specs.Tables.{nzr_fact, IsAsStrong}

-- the element with this number
pub got : {X : Type 0} (xs : List X) (i : ℕ) (v : X) → i < length xs
    → v ≡ slice_index_or xs i v → slice_get xs i ≡ Some v
got xs i v l e = slice_get-get_or xs i v l ∙ ap Some (sym e)

pub as_strong : (o : Option Fact) (k f : Fact) (b : Bool) → o ≡ Some k
    → IsTrue b ↔ IsStronger k f → IsTrue b ↔ IsAsStrong o f
as_strong o k f b e by = (
  λ t. subst (λ p. IsAsStrong p f) (sym e) (by.0 t),
  λ s. by.1 (subst (λ p. IsAsStrong p f) e s),
)

pub none_strong : (o : Option Fact) (f : Fact) → o ≡ None → IsTrue false ↔ IsAsStrong o f
none_strong o f e = (
  λ t. (let h : false ≡ true = t in cc),
  λ s. absurd (subst (λ p. IsAsStrong p f) e s),
)

by_mark : (x : ExprId) (b : Bool) → IsTrue b ↔ IsAsStrong (nzr_fact x (Some b)) (fact.Nzr x)
by_mark x true = (λ t. refl, λ s. refl)
by_mark x false = (λ t. (let h : false ≡ true = t in cc), λ s. absurd s)

pub mark_strong : (o : Option Fact) (f : Fact) (x : ExprId) (b : Bool) → o ≡ nzr_fact x (Some b)
    → f ≡ fact.Nzr x → IsTrue b ↔ IsAsStrong o f
mark_strong o f x b e g =
    subst (λ p. IsTrue b ↔ IsAsStrong p f) (sym e)
    (subst (λ h. IsTrue b ↔ IsAsStrong (nzr_fact x (Some b)) h) (sym g) (by_mark x b))
