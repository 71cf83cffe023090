-- Words have one shape.
use Rattle.std.proofs.Common.{◌≡◌, ℕ, ◌+◌, ◌<◌, ◌≤◌, List, take, drop, Option, Some, None}
use Rattle.std.proofs.Common.{option_and_then, Bool, true, false, refl, sym, ap, ◌∙◌, arith, ⊎_elim}
use Rattle.std.proofs.lemmas.List.{take-append-drop, take-take}
use Rattle.std.proofs.lemmas.Bool.{cases_lt}
use Rattle.script_words.specs.Words.{Word}
use Rattle.script_shape.specs.declared.due.Due.{Due}
use Rattle.script_shape.specs.Tree.{BeginsScript}
use Rattle.script_shape.specs.Shape.{run, start}
use Rattle.script_shape.specs.ShapeLaw.{IsShapeOf, ShapeIsUnique}
use Rattle.script_shape.proofs.ShapeLaws.{run_on, shape_is_exact}

-- words that the run refuses are refused with more behind them
refused_later : (ws : List Word) (k m : ℕ) → k ≤ m → run (take k ws) start ≡ None
    → run (take m ws) start ≡ None
refused_later ws k m h e =
    let front : run (take k (take m ws)) start ≡ None =
    ap (λ l. run l start) (take-take k m ws h) ∙ e in
    ap (λ l. run l start) (sym (take-append-drop k (take m ws))) ∙ run_on (take k (take m ws))
    (drop k (take m ws)) start ∙ ap (option_and_then (run (drop k (take m ws)))) front

none_taken : (ws : List Word) (k : ℕ) (o : Option (List Due)) → run (take k ws) start ≡ o
    → ¬ BeginsScript (take k ws) → o ≡ None
none_taken ws k None e h = refl
none_taken ws k (Some left) e h = absurd (h (shape_is_exact.begins (take k ws) left e))

not_longer : (ws : List Word) (n m : ℕ) (a b : Bool) → IsShapeOf ws n a
    → IsShapeOf ws m b → n < m → ⊥
not_longer ws n m a b h k lt =
    let within = k.within in
    let stops = h.stops (omega arith) in
    let none : run (take (n + 1) ws) start ≡ None = none_taken ws (n + 1) _ refl stops in
    shape_is_exact.refused (take m ws) (refused_later ws (n + 1) m (omega arith) none) k.begins

same_whole : (ws : List Word) (n m : ℕ) (a b : Bool) → IsShapeOf ws n a → IsShapeOf ws m b → a ≡ b
same_whole ws n m true true h k = refl
same_whole ws n m false false h k = refl
same_whole ws n m true false h k = absurd (k.not_whole refl (h.whole refl).1)
same_whole ws n m false true h k = absurd (h.not_whole refl (k.whole refl).1)

equal : (n m : ℕ) → (n < m → ⊥) → (m < n → ⊥) → n ≡ m
equal n m h k = ⊎_elim (λ l. absurd (h l))
    (λ l. ⊎_elim (λ g. absurd (k g)) (λ g. omega arith) (cases_lt m n)) (cases_lt n m)

pub shape_once : ShapeIsUnique
shape_once ws n m a b h k =
    (equal n m (not_longer ws n m a b h k) (not_longer ws m n b a k h), same_whole ws n m a b h k)
