-- All words have a shape.
use Rattle.std.proofs.Common.{◌≡◌, ℕ, zero, suc, ◌+◌, ◌<◌, ◌≤◌, List, length, take, get_or, Option}
use Rattle.std.proofs.Common.{Some, None, Bool, refl, ◌∙◌, subst, arith}
use Rattle.std.proofs.lemmas.List.{take_more}
use Rattle.script_words.specs.declared.class.Symbol.TheVariants as s
use Rattle.script_words.specs.Words.{Word, sign, class_of}
use Rattle.script_shape.specs.declared.due.Due.{Due}
use Rattle.script_shape.specs.Shape.{step, run, start, may_end}
use Rattle.script_shape.specs.ShapeLaw.{IsShapeOf, ShapesExist}
use Rattle.script_shape.proofs.Shaped.{one_more, stopped, ended}

-- words that the stack takes so far, or that have their shape
pub data Reached (ws : List Word) (i : ℕ) : Type 0 where
  taken : (left : List Due) → run (take i ws) start ≡ Some left → Reached ws i
  shaped : (n : ℕ) (b : Bool) → IsShapeOf ws n b → Reached ws i

module _ (ws : List Word) (i : ℕ) (h : i < length ws) where
  abbrev word : Word
  word = get_or ws i (sign s.At)

  reached_next : (left : List Due) → run (take i ws) start ≡ Some left → (o : Option (List Due))
      → step (class_of word) left ≡ o → Reached ws (i + 1)
  reached_next left r None e =
      shaped i _ (stopped ws i word left h (take_more ws i (sign s.At) h) r e)
  reached_next left r (Some new) e =
      taken new (one_more ws i word left (take_more ws i (sign s.At) h) r ∙ e)

  reached_more : Reached ws i → Reached ws (i + 1)
  reached_more (taken left r) = reached_next left r (step (class_of word) left) refl
  reached_more (shaped n b t) = shaped n b t

reached : (ws : List Word) (i : ℕ) → i ≤ length ws → Reached ws i
unfolding run
reached ws zero h = taken start refl
reached ws (suc i) h =
    let n : i + 1 ≡ suc i = omega arith in
    subst (Reached ws) n (reached_more ws i (omega arith) (reached ws i (omega arith)))

pub shapes_exist : ShapesExist
shapes_exist ws = shape (reached ws (length ws) (omega arith))
  where
    shape : Reached ws (length ws) → (n : ℕ) × (b : Bool) × IsShapeOf ws n b
    shape (taken left r) =
        (length ws, may_end left, ended ws (length ws) left (may_end left) refl r refl)
    shape (shaped n b t) = (n, b, t)
