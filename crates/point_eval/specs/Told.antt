-- The last line of an evaluation tells whether the assignment meets the script.
use Rattle.std.specs.Prelude.{◌↔◌, List, IsTrue}
use Rattle.fx_model.specs.Expression.{Assignment}
use Rattle.facts.specs.declared.hint.HintMark.{HintMark}
use Rattle.script_grammar.specs.Spells.{View}
use Rattle.script_meets.specs.Meets.{Meets}
use Rattle.rewrite_hints.specs.Marks.{AreMarks}
use Rattle.point_values.specs.Evaluation.{meets}
use Rattle.point_eval.specs.Judged.{judged_of}

-- `point: meets` stands exactly where the assignment meets the script, with the marks that its
-- hints have.
abbrev pub MeetsIsTold : Type 0
MeetsIsTold = (s : View) (marks : List HintMark) (a : Assignment)
    → AreMarks s.nodes s.hints.rewrites marks → IsTrue (meets (judged_of s marks) a) ↔ Meets a s
