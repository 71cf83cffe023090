-- What is judged of a script at a point.
use Rattle.std.specs.Prelude.{◌≡◌, ◌++◌, List}
use Rattle.facts.specs.declared.hint.HintMark.{HintMark}
use Rattle.script_cases.specs.Cases.{cases}
use Rattle.script_grammar.specs.Spells.{View}
use Rattle.point_values.specs.Text.{Bytes}
use Rattle.point_values.specs.Evaluation.{Subject, subject_of}

-- Its claims, by cases too, and its rewritings, over its nodes.
abbrev pub judged_of : View → List HintMark → Subject
judged_of s marks = subject_of s.nodes s.hypotheses (cases s.parts) s.goals s.hints.rewrites marks

-- The text ends so.
abbrev pub EndsIn : Bytes → Bytes → Type 0
EndsIn text end = (front : Bytes) × (text ≡ front ++ end)
