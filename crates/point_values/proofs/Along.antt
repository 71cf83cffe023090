-- The lines of hints, one after another.
use Rattle.std.specs.Prelude.{◌≡◌, ◌&&◌, ◌++◌, ℕ, List, drop, Bool, Option}
use Rattle.std.specs.List.{list_all}
use Rattle.fx_model.specs.Fraction.{Fraction}
use Rattle.fx_model.specs.declared.ExprId.{ExprId}
use Rattle.facts.specs.declared.hint.HintMark.{HintMark}
use Rattle.script_hints.specs.declared.hint.Hint.{Hint}
use Rattle.point_values.specs.Numbers.{marked_numbers, wide_from}
use Rattle.point_values.specs.Truth.{marked_holds}
use Rattle.point_values.specs.Text.{Bytes, hint_line, lines_from}
use Rattle.point_values.specs.Evaluation.{pairs}
use Rattle.point_values.specs.declared.place.Place.TheVariants as place

-- The first n hints have their lines behind `before`, hold if they all do, and have no number that
-- is too wide.
pub record IsAlong (v : ExprId → Option Fraction) (hints : List Hint) (marks : List HintMark)
    (before out : Bytes) (hold : Bool) (n : ℕ) : Type 0 where
  pub lines : out ++ lines_from (hint_line v) n (pairs (drop n hints) (drop n marks)) ≡ before
      ++ lines_from (hint_line v) 0 (pairs hints marks)
  pub holds : (hold && list_all (marked_holds v) (pairs (drop n hints) (drop n marks)))
      ≡ list_all (marked_holds v) (pairs hints marks)
  pub narrow : wide_from place.Hint (marked_numbers v) n (pairs (drop n hints) (drop n marks))
      ≡ wide_from place.Hint (marked_numbers v) 0 (pairs hints marks)
