-- What is answered to a text: a status and lines.
use Rattle.std.specs.Prelude.{◌≡◌, ◌≢◌, ◌⊎◌, ℕ, List, [], ◌∷◌, length, Some, slice_get}
use Rattle.fx_model.specs.Expression.{Assignment}
use Rattle.facts.specs.declared.hint.HintMark.{HintMark}
use Rattle.goals.specs.declared.line.Line.{Line}
use Rattle.goals.specs.declared.line.Line.TheVariants as line
use Rattle.script_claims.specs.declared.claim.Claim.{Claim}
use Rattle.script_grammar.specs.Spells.{View, Spells}
use Rattle.script_grammar.specs.Cases.{cases_of}
use Rattle.script_meets.specs.Meets.{Meets}
use Rattle.script_meets.specs.Held.{AreHeld}
use Rattle.rewrite_hints.specs.Marks.{AreMarks}
use Rattle.bisect.specs.declared.outcome.OpenLeaf.{OpenLeaf}
use Rattle.settler.specs.Answers.{Options, HasTooManyExpressions, HasTooManyBoxes, IsUnproved}
use Rattle.settler.specs.Answers.{IsProvedIn, options_from, plan_of}
use Rattle.settler.specs.Tight.{AreTight}
use Rattle.command_line.specs.Reading.{Asked}
use Rattle.made_script.specs.Script.{script_text}
use Rattle.made_script.specs.Proving.{stated_options}
use Rattle.command_runs.specs.Runs.{Bytes}
use Rattle.command_runs.specs.declared.status.Status.{Status}
use Rattle.command_runs.specs.declared.status.Status.TheVariants as status
use Rattle.report.specs.Lines.{expressions_text, boxes_text}
use Rattle.report.specs.Proved.{answer_text, made_text}
use Rattle.report.specs.Unproved.{unproved_text}
use Rattle.script_texts.specs.Texts.{IsRefusedWith}
use Rattle.script_answers.specs.declared.found.Found.{Found}
use Rattle.script_answers.specs.declared.found.Found.TheVariants as found

-- How the words ask for a script to be proved. The number of workers changes no answer.
abbrev pub options_of : Asked → Options
options_of a = options_from a.options

-- The text spells a script that is proved over so many boxes, with a line for each goal. The lines
-- are tight: each is the hull, over the leaves of the trees of all its cases, of the goal's best
-- known facts. They hold: every assignment of fractions that meets the script, with bounds exactly
-- as they are written, gives each goal's expression a value in its interval and makes the goal
-- true.
pub record IsProvedText (o : Options) (text : Bytes) (script : View) (boxes : ℕ)
    (shown : List Line) : Type 0 where
  pub spelled : Spells text script
  pub proved : IsProvedIn script o boxes shown
  pub tight : AreTight script o shown
  pub words : length script.spans ≡ length script.goals
  pub each : length shown ≡ length script.goals
  pub holds : (a : Assignment) → Meets a script → AreHeld script a shown

-- The text is proved, and the lines print what was found of each goal, and which hints were
-- assumed.
pub record IsAnswered (o : Options) (text lines : Bytes) : Type 0 where
  pub script : View
  pub boxes : ℕ
  pub shown : List Line
  pub marks : List HintMark
  pub proved : IsProvedText o text script boxes shown
  pub marked : AreMarks script.nodes script.hints.rewrites marks
  pub printed : lines ≡ answer_text script.text script.tokens script.spans shown marks

-- `prove` answers a text with this status and these lines
abbrev pub ProvePrints : Options → Bytes → Status → Bytes → Type 0
ProvePrints o text status.Answered lines = IsAnswered o text lines
-- a leaf is open: the first of the first case that has one is named, with its least goal that isn't
-- settled
ProvePrints o text status.Unproved lines = (s : View) × (leaf : OpenLeaf) × (claims : List Claim)
    × Spells text s × IsUnproved s o leaf × (slice_get (cases_of s) leaf.case ≡ Some claims)
    × (lines ≡ unproved_text s
    (plan_of s claims o.depth) (length (cases_of s)) leaf.case leaf.path leaf.goal)
-- there are too many expressions, or too many boxes
ProvePrints o text status.Limit lines = (s : View) × Spells text s
    × ((HasTooManyExpressions s × (lines ≡ expressions_text))
    ⊎ (HasTooManyBoxes s o × (lines ≡ boxes_text o.boxes)))
-- the text spells no script, but is refused
ProvePrints o text status.Script lines = IsRefusedWith text lines
ProvePrints o text _ lines = ⊥

-- ---- of the made script
-- how it is proved
abbrev pub made_options : Options
made_options = options_from stated_options

-- the line of the first goal: the made script has one goal
abbrev pub first_line : List Line → Line
first_line [] = line.None
first_line (l ∷ lines) = l

-- The made script of degree n is proved, and the line has the number of its boxes and what was
-- found of its goal.
pub record IsMadeAnswered (n : ℕ) (lines : Bytes) : Type 0 where
  pub script : View
  pub boxes : ℕ
  pub shown : List Line
  pub proved : IsProvedText made_options (script_text n) script boxes shown
  pub printed : lines ≡ made_text n boxes (first_line shown)

-- `gen` answers the degree with this status and these lines: as `prove` answers the made script,
-- but for the line where it is proved
abbrev pub MadePrints : ℕ → Status → Bytes → Type 0
MadePrints n status.Answered lines = IsMadeAnswered n lines
MadePrints n s lines = ProvePrints made_options (script_text n) s lines

-- ---- what is found of a script
-- a line for each goal, or another answer
abbrev pub IsFound : Options → View → Found → Type 0
IsFound o s (found.Proved boxes shown) = IsProvedText o s.text s boxes shown
IsFound o s (found.Stopped other lines) =
    (other ≢ status.Answered) × ProvePrints o s.text other lines.items
