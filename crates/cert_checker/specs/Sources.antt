-- What rules draw on, of the sources that the code has.
use Rattle.cert_checker.specs.declared.conclude.Sources.{Sources}
use Rattle.cert_checker.specs.Contexts.{open_piece}
use Rattle.cert_checker.specs.Steps.{Givens, case_facts}

-- What rules draw on beside premises: the facts of the case and the piece that are open, the nodes,
-- and the subject's hints.
abbrev pub givens_of : Sources → Givens
givens_of s = record {
  facts = case_facts s.subject.now.cases s.case;
  hints = s.subject.now.hints;
  nodes = s.nodes.now;
  piece = open_piece s.cuts.now;
}
