-- The law of the stack.
use Rattle.std.proofs.Common.{◌≡◌, List, [], ◌∷◌, ◌++◌, Option, Some, None, option_and_then, true}
use Rattle.std.proofs.Common.{false, refl, sym, ap, ◌∙◌, append-nil, subst}
use Rattle.script_words.specs.Words.{Word, class_of}
use Rattle.script_shape.specs.declared.due.Due.{Due}
use Rattle.script_shape.specs.declared.due.Due.TheVariants as due
use Rattle.script_shape.specs.Tree.{Script, script_words, IsScript, BeginsScript}
use Rattle.script_shape.specs.Shape.{step, run, start, may_end}
use Rattle.script_shape.specs.ShapeLaw.{ShapeIsExact}
use Rattle.script_shape.proofs.Parts.{Goes, Lets, parts_words, back, nothing}
use Rattle.script_shape.proofs.Completions.{some_parts, parts_spelled}
use Rattle.script_shape.proofs.RoleLaws.{script_runs}

-- what goes on from the start is a script
from_start : (ws : List Word) → Goes start ws → IsScript ws
from_start ws g = (g.0.0, sym (append-nil (script_words g.0.0)) ∙ g.1)

pub chained : (f g h : List Due → Option (List Due))
    → ((left : List Due) → f left ≡ option_and_then g (h left)) → (o : Option (List Due))
    → option_and_then f o ≡ option_and_then g (option_and_then h o)
chained f g h e None = refl
chained f g h e (Some left) = e left

pub run_on : (a b : List Word) (left : List Due)
    → run (a ++ b) left ≡ option_and_then (run b) (run a left)
unfolding run
run_on [] b left = refl
run_on (w ∷ a) b left = chained (run (a ++ b)) (run b) (run a) (run_on a b) (step (class_of w) left)

begins_law : (ws : List Word) (left : List Due) → run ws start ≡ Some left → BeginsScript ws
begins_law ws left h =
    let p = some_parts left in
    let more = parts_words left p in
    let all : Lets (Some left) more = (p, refl) in
    let t = from_start (ws ++ more) (back ws start more (subst (λ o. Lets o more) (sym h) all)) in
    record { tree = t.0; more = more; words = t.1; spelled = parts_spelled left }

-- no script begins with words that the run refuses, whatever follows them
pub refused_all : (ws more : List Word) (tree : Script) → run ws start ≡ None
    → script_words tree ≡ ws ++ more → ⊥
refused_all ws more tree h t =
    let e : run (ws ++ more) start ≡ Some (due.Hints ∷ []) =
    ap (λ l. run l start) (sym t) ∙ script_runs tree in
    let f : run (ws ++ more) start ≡ None =
    run_on ws more start ∙ ap (option_and_then (run more)) h in
    cc

refused_law : (ws : List Word) → run ws start ≡ None → ¬ BeginsScript ws
refused_law ws h t = refused_all ws t.more t.tree h t.words

whole_law : (ws : List Word) (left : List Due) → run ws start ≡ Some left
    → may_end left ≡ true → IsScript ws
whole_law ws left h m =
    let g = subst (λ o. Lets o []) (sym h) (nothing left m) in
    let t = from_start (ws ++ []) (back ws start [] g) in
    (t.0, t.1 ∙ append-nil ws)

open_law : (ws : List Word) (left : List Due) → run ws start ≡ Some left
    → may_end left ≡ false → ¬ IsScript ws
unfolding may_end
open_law ws left h m t =
    let e : Some left ≡ Some (due.Hints ∷ []) =
    sym h ∙ ap (λ l. run l start) (sym t.1) ∙ script_runs t.0 in
    let k : left ≡ due.Hints ∷ [] = cc in
    let n : may_end (due.Hints ∷ []) ≡ false = ap may_end (sym k) ∙ m in
    cc

pub shape_is_exact : ShapeIsExact
shape_is_exact =
    record { begins = begins_law; refused = refused_law; whole = whole_law; open_ended = open_law }
