-- What an item that nothing is wrong with makes of the context.
use Rattle.std.specs.Prelude.{◌≤◌, ◌+◌, ◌||◌, ℕ, Bool, false, List, [], ◌∷◌, ◌++◌, length, take}
use Rattle.std.specs.Prelude.{nat_lt, if◌then◌else◌, Option, Some, None}
use Rattle.fx_model.specs.declared.ExprId.{ExprId}
use Rattle.dyadic.specs.declared.number.Dyadic.{Dyadic}
use Rattle.facts.specs.declared.fact.Fact.{Fact}
use Rattle.goals.specs.declared.line.Line.{Line}
use Rattle.goals.specs.Joined.{joined}
use Rattle.cert_bytes.specs.declared.item.Item.{Item}
use Rattle.cert_bytes.specs.declared.item.Item.TheVariants as item
use Rattle.cert_bytes.specs.Due.{is_of_root, is_end}
use Rattle.cert_checker.specs.declared.open.Citable.{Citable}
use Rattle.cert_checker.specs.declared.open.OpenCut.{OpenCut}
use Rattle.cert_checker.specs.Contexts.{Context}
use Rattle.cert_checker.specs.Steps.{step_fact}

-- ---- sections

-- how many steps of the sections around may be cited at the begin of a section
abbrev pub around_of : List OpenCut → ℕ
around_of [] = 0
around_of (cut ∷ cuts) = cut.around

-- one of its pieces was entered last
abbrev pub IsEntered : OpenCut → Type 0
IsEntered cut = (1 ≤ cut.entered) × (cut.entered ≤ length cut.points + 1)

-- the last piece of the innermost cut was entered
abbrev pub is_used : List OpenCut → Bool
is_used [] = false
is_used (cut ∷ cuts) = nat_lt (length cut.points) cut.entered

-- the cuts around the innermost
abbrev pub around : List OpenCut → List OpenCut
around [] = []
around (cut ∷ cuts) = cuts

-- the next piece of the innermost cut is entered
abbrev pub entered : List OpenCut → List OpenCut
entered [] = []
entered (cut ∷ cuts) = record cut { entered = cut.entered + 1 } ∷ cuts

-- The cuts around the section that comes behind one that has ended: a cut whose last piece has
-- ended goes, and of the first other one the next piece is entered.
abbrev pub cuts_behind : List OpenCut → List OpenCut
cuts_behind [] = []
cuts_behind (cut ∷ cuts) = if nat_lt (length cut.points) cut.entered then cuts_behind cuts
    else record cut { entered = cut.entered + 1 } ∷ cuts

-- the case that is open where these cuts are left behind a section: where none are, its root
-- section has ended
abbrev pub case_behind : ℕ → List OpenCut → ℕ
case_behind k [] = k + 1
case_behind k (cut ∷ cuts) = k

-- The section that is open innermost ends, and with it each cut whose last piece it was. Their
-- steps can't be cited any more.
abbrev pub behind : Context → Context
behind c = record c {
  section = c.section + 1;
  cuts = cuts_behind c.cuts;
  case = case_behind c.case (cuts_behind c.cuts);
  steps = take (around_of (cuts_behind c.cuts)) c.steps;
}

-- the first piece is entered
abbrev pub new_cut : Context → ExprId → List Dyadic → OpenCut
new_cut c x ps = record { var = x; points = ps; entered = 1; around = length c.steps }

-- ---- lines

-- The line joined with the fact that a leaf cites for it; where there is no such fact, the line as
-- it was.
abbrev pub with_cited : Line → Option Fact → Line
with_cited l None = l
with_cited l (Some f) = joined l f

-- each line, with the fact that a leaf cites for it
abbrev pub lines_with : List Citable → List Line → List ℕ → List Line
lines_with steps (l ∷ lines) (r ∷ refs) =
    with_cited l (step_fact steps r) ∷ lines_with steps lines refs
lines_with steps lines _ = lines

-- ---- items

-- What an item by itself makes of the context; that sections begin with it, or that it is the end,
-- isn't noted yet.
abbrev pub changed_by : Context → Item → Context
changed_by c (item.Nodes n) = c
changed_by c (item.Node n) = record c { nodes = c.nodes ++ n ∷ [] }
changed_by c (item.Marks n) = c
changed_by c (item.Mark m) = record c { marked = c.marked + 1 }
changed_by c (item.Cases n) = c
changed_by c (item.Step r) = record c
    { steps = c.steps ++ record { number = c.next; fact = r.fact } ∷ []; next = c.next + 1 }
changed_by c (item.Cut x ps) = record c { section = c.section + 1; cuts = new_cut c x ps ∷ c.cuts }
changed_by c (item.Leaf refs) = behind (record c { lines = lines_with c.steps c.lines refs })
changed_by c (item.Dead r) = behind c
changed_by c item.End = c

-- the context behind the item
abbrev pub after : Context → Item → Context
after c i = record (changed_by c i) { begun = is_of_root i || c.begun; ended = is_end i }
