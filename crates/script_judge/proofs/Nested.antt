-- What is open as it is kept, with the last that was opened at the end.
use Rattle.std.proofs.Common.{◌≡◌, List, [], ◌∷◌, ◌++◌, reverse, sym, ap, ◌∙◌, append-nil}
use Rattle.std.proofs.lemmas.List.{reverse-append}
use Rattle.script_judge.specs.declared.nesting.Open.{Open}
use Rattle.script_judge.specs.declared.nesting.Open.TheVariants.{Pair, Minus}
use Rattle.script_judge.specs.Nesting.{without_minus, closed}

pub last_first : (old rest : List Open) (top : Open) → old ≡ rest ++ (top ∷ [])
    → reverse old ≡ top ∷ reverse rest
last_first old rest top e = ap reverse e ∙ reverse-append rest (top ∷ [])

pub at_nothing : (old rest : List Open) → old ≡ rest ++ [] → rest ≡ [] → reverse old ≡ []
at_nothing old rest e k = ap reverse (e ∙ append-nil rest ∙ k)

-- a minus sign is taken off
pub minus_off : (old rest : List Open) (top : Open) → old ≡ rest ++ (top ∷ []) → top ≡ Minus
    → without_minus (reverse old) ≡ without_minus (reverse rest)
minus_off old rest top e k =
    ap without_minus (last_first old rest top e ∙ ap (λ o. o ∷ reverse rest) k)

-- a pair stays
pub pair_stays : (old rest new : List Open) (top : Open) → old ≡ rest ++ (top ∷ []) → top ≡ Pair
    → new ≡ rest ++ (Pair ∷ []) → reverse new ≡ without_minus (reverse old)
pair_stays old rest new top e k n = last_first new rest Pair n
    ∙ sym (ap without_minus (last_first old rest top e ∙ ap (λ o. o ∷ reverse rest) k))

pub closes : (old rest : List Open) (top : Open) → old ≡ rest ++ (top ∷ [])
    → without_minus (reverse rest) ≡ closed (reverse old)
closes old rest top e = sym (ap closed (last_first old rest top e))
