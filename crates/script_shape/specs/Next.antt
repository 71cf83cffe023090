-- Which words may come next.
use Rattle.std.specs.Prelude.{List, [], ◌∷◌, ◌++◌, option_and_then, Bool, IsTrue, ◌↔◌}
use Rattle.std.specs.Option.{is_some}
use Rattle.script_words.specs.declared.class.Class.{Class}
use Rattle.script_words.specs.Words.{Word, class_of}
use Rattle.script_shape.specs.Tree.{BeginsScript}
use Rattle.script_shape.specs.Shape.{step, run, start}

-- whether the stack comes through the words and then takes a word of the class
abbrev pub may_follow : List Word → Class → Bool
may_follow ws c = is_some (option_and_then (step c) (run ws start))

-- It does exactly where the words, with one of that class behind them, begin a script.
abbrev pub NextIsExact : Type 0
NextIsExact = (ws : List Word) (w : Word)
    → IsTrue (may_follow ws (class_of w)) ↔ BeginsScript (ws ++ (w ∷ []))
