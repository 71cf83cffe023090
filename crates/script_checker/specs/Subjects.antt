-- What a script asks of its certificates.
use Rattle.std.specs.Prelude.{◌≡◌, map, length}
use Rattle.script_claims.specs.Facts.{goal_of, facts_of}
use Rattle.script_grammar.specs.Spells.{View}
use Rattle.script_grammar.specs.Cases.{cases_of}
use Rattle.rewrite_hints.specs.Marks.{AreRows, AreMarks}
use Rattle.cert_checker.specs.declared.subject.Subject.{Subject}

-- The subject is what the script asks of its certificates: the facts of each case; marks and rows
-- of its rewritings.
pub record IsSubjectOf (s : View) (t : Subject) : Type 0 where
  pub nodes : t.nodes ≡ s.nodes
  pub variables : t.variables ≡ length s.variables
  pub cases : t.cases ≡ map facts_of (cases_of s)
  pub goals : t.goals ≡ map goal_of s.goals
  pub marks : AreMarks s.nodes s.hints.rewrites t.marks
  pub hints : AreRows s.nodes s.hints.rewrites t.hints
