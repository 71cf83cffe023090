-- What items are judged against: the script, and the items before.
use Rattle.std.specs.Prelude.{◌-◌, ◌==◌, ℕ, Bool, false, List, [], ◌∷◌, length, map, if◌then◌else◌}
use Rattle.std.specs.Prelude.{Option, None}
use Rattle.fx_model.specs.declared.Node.{Node}
use Rattle.dyadic.specs.declared.number.Dyadic.{Dyadic}
use Rattle.dyadic.specs.declared.number.End.{End}
use Rattle.dyadic.specs.declared.number.End.TheVariants.{Low, At, High}
use Rattle.dyadic.specs.Rising.{point_of}
use Rattle.interval.specs.declared.interval.Interval.{Interval}
use Rattle.interval.specs.Meets.{interval_from}
use Rattle.facts.specs.declared.fact.Fact.{Fact}
use Rattle.facts.specs.Conclusions.{bnd_of}
use Rattle.goals.specs.declared.line.Line.{Line}
use Rattle.goals.specs.declared.line.Line.TheVariants as line
use Rattle.cert_checker.specs.declared.subject.Subject.{Subject}
use Rattle.cert_checker.specs.declared.open.Citable.{Citable}
use Rattle.cert_checker.specs.declared.open.OpenCut.{OpenCut}

-- What the items so far come to.
pub record Context : Type 0 where
  pub nodes : List Node
  -- how many marks there were
  pub marked : ℕ
  -- the steps that may be cited, by rising numbers: those of the open sections
  pub steps : List Citable
  -- the number of the next step
  pub next : ℕ
  -- the number of the section that is open innermost
  pub section : ℕ
  -- the cuts around it, the innermost first
  pub cuts : List OpenCut
  -- how many root sections have ended, which is the number of the case that is open
  pub case : ℕ
  -- whether the sections have begun: an item of theirs was taken, or their number
  pub begun : Bool
  -- what the leaves so far show of each goal
  pub lines : List Line
  -- whether the last item was the end
  pub ended : Bool

-- before the first item; the root section is open
abbrev pub first : Subject → Context
first s = record {
  nodes = [];
  marked = 0;
  steps = [];
  next = 0;
  section = 0;
  cuts = [];
  case = 0;
  begun = false;
  lines = map (λ g. line.Empty) s.goals;
  ended = false;
}

-- ---- pieces

-- The pieces of a cut at points p1 to pn lie from minus infinity to p1, from p1 to p2, and so on to
-- plus infinity.
abbrev pub low_end : List Dyadic → ℕ → End
low_end points k = if k == 0 then Low else At (point_of points (k - 1))

-- The upper end of piece `k`, counted from 0: the point behind it, and plus infinity for the last
-- piece.
abbrev pub high_end : List Dyadic → ℕ → End
high_end points k = if k == length points then High else At (point_of points k)

-- piece k, counted from 0
abbrev pub piece_of : List Dyadic → ℕ → Option Interval
piece_of points k = interval_from (low_end points k) (high_end points k)

-- that the variable of a cut lies in its piece k
abbrev pub piece_fact : OpenCut → ℕ → Option Fact
piece_fact cut k = bnd_of cut.var (piece_of cut.points k)

-- that the variable of the innermost cut lies in the piece that is open; nothing in the root
-- section
abbrev pub open_piece : List OpenCut → Option Fact
open_piece [] = None
open_piece (cut ∷ cuts) = piece_fact cut (cut.entered - 1)
