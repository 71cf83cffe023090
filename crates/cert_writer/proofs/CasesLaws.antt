-- Laws of what specs/Cases defines.
use Rattle.std.specs.Prelude.{List, length, map}
use Rattle.facts.specs.declared.hint.HintMark.{HintMark}
use Rattle.script_claims.specs.Facts.{goal_of, facts_of}
use Rattle.script_grammar.specs.Cases.{cases_of}
use Rattle.script_grammar.specs.Spells.{View}
use Rattle.rule_universe.specs.Worlds.{World}
use Rattle.cert_checker.specs.declared.subject.Subject.{Subject}

-- ---- what is written
-- what certificates of a script are judged against, by its universe and its marks
abbrev pub subject_in : View → World → List HintMark → Subject
subject_in s u marks = record {
  nodes = s.nodes;
  variables = length s.variables;
  cases = map facts_of (cases_of s);
  goals = map goal_of s.goals;
  marks = marks;
  hints = u.hints;
}
