-- The words that may come next.
use Rattle.std.proofs.Common.{◌≡◌, ℕ, List, [], ◌∷◌, ◌++◌, take, drop, Option, Some, None}
use Rattle.std.proofs.Common.{option_and_then, false, IsTrue, refl, sym, ap, ◌∙◌}
use Rattle.std.specs.Option.{is_some}
use Rattle.std.proofs.lemmas.List.{take-append-drop}
use Rattle.script_words.specs.declared.class.Class.{Class}
use Rattle.script_words.specs.Words.{Word, class_of}
use Rattle.script_shape.specs.declared.due.Due.{Due}
use Rattle.script_shape.specs.Tree.{BeginsScript}
use Rattle.script_shape.specs.Shape.{step, run, start}
use Rattle.script_shape.specs.ShapeLaw.{Steps}
use Rattle.script_shape.specs.Next.{may_follow, NextIsExact}
use Rattle.script_shape.proofs.ShapeLaws.{run_on, shape_is_exact}
use Rattle.script_shape.proofs.Shaped.{single}

-- the run over one more word
last_step : (ws : List Word) (w : Word)
    → run (ws ++ (w ∷ [])) start ≡ option_and_then (step (class_of w)) (run ws start)
last_step ws w = run_on ws (w ∷ []) start ∙ go (run ws start)
  where
    go : (o : Option (List Due))
        → option_and_then (run (w ∷ [])) o ≡ option_and_then (step (class_of w)) o
    go None = refl
    go (Some left) = single w left

begins_next : (ws : List Word) (w : Word) (o : Option (List Due)) → run (ws ++ (w ∷ [])) start ≡ o
    → IsTrue (is_some o) → BeginsScript (ws ++ (w ∷ []))
begins_next ws w None e h = absurd (cc h)
begins_next ws w (Some left) e h = shape_is_exact.begins (ws ++ (w ∷ [])) left e

runs_next : (ws : List Word) (w : Word) (o : Option (List Due)) → run (ws ++ (w ∷ [])) start ≡ o
    → BeginsScript (ws ++ (w ∷ [])) → IsTrue (is_some o)
runs_next ws w None e h = absurd (shape_is_exact.refused (ws ++ (w ∷ [])) e h)
runs_next ws w (Some left) e h = refl

pub next_exact : NextIsExact
next_exact ws w = (begins_next ws w _ (last_step ws w), runs_next ws w _ (last_step ws w))

-- words behind a front that the run refuses don't help
pub refused_front : (ws : List Word) (k : ℕ) (c : Class) → run (take k ws) start ≡ None
    → false ≡ may_follow ws c
refused_front ws k c h =
    let e : run ws start ≡ None = ap (λ l. run l start) (sym (take-append-drop k ws))
    ∙ run_on (take k ws) (drop k ws) start ∙ ap (option_and_then (run (drop k ws))) h in
    sym (ap (λ o. is_some (option_and_then (step c) o)) e)

-- the answer of the last step
pub may_step : (ws : List Word) (c : Class) (left new : List Due) (found : Option Due)
    → run ws start ≡ Some left → Steps c left found new → is_some found ≡ may_follow ws c
may_step ws c left new (Some r) e h =
    sym (ap (λ o. is_some (option_and_then (step c) o)) e ∙ ap is_some h.0)
may_step ws c left new None e h =
    sym (ap (λ o. is_some (option_and_then (step c) o)) e ∙ ap is_some h)

pub began_run : (left : List Due) → left ≡ start → run [] start ≡ Some left
unfolding run
began_run left e = ap Some (sym e)
