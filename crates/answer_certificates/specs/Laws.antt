-- What is promised of the certificates of scripts.
use Rattle.std.specs.Prelude.{◌≡◌, ◌≤◌, ◌^◌, ℕ, List, [], ◌∷◌, ◌++◌, length, Some, None, slice_get}
use Rattle.fx_model.specs.declared.ExprId.{ExprId}
use Rattle.goals.specs.declared.line.Line.{Line}
use Rattle.script_claims.specs.declared.claim.Claim.{Claim}
use Rattle.script_grammar.specs.Spells.{View}
use Rattle.script_grammar.specs.Cases.{cases_of}
use Rattle.rule_universe.specs.Worlds.{World}
use Rattle.saturate.specs.Universes.{setting_of}
use Rattle.box_tree.specs.Plans.{cut_at, piece_at}
use Rattle.box_tree.specs.Regions.{PlanParts}
use Rattle.bisect.specs.declared.settler.State.{State}
use Rattle.bisect.specs.Boxes.{AreBoxes, first_open, leaves_of}
use Rattle.script_truths.specs.Truths.{HasUniverse}
use Rattle.settler.specs.Standing.{AreStates}
use Rattle.settler.specs.Answers.{Options, plan_of, tree_by, IsProved}
use Rattle.cert_bytes.specs.declared.item.Item.{Item}
use Rattle.cert_checker.specs.declared.subject.Subject.{Subject}
use Rattle.cert_checker.specs.Accepted.{Accepts}
use Rattle.script_checker.specs.Subjects.{IsSubjectOf}
use Rattle.script_checker.specs.Checking.{AreAcceptedFor}
use Rattle.tree_certificates.specs.Writing.{IsWritable}
use Rattle.tree_certificates.specs.Trees as trees
use Rattle.answer_certificates.specs.Scripts.{HasRoom, HasCases}
use Rattle.answer_certificates.specs.Boxes.{range_of_piece, variable_of, boxes_of, IsProvedTree}
use Rattle.answer_certificates.specs.Roots.{most_in, HasRoots}

-- ---- one case
-- This is so of each script with its universe in which some claims are assumed, where certificates
-- have room for the case.
abbrev pub OfCases : (View → List Claim → World → Type 0) → Type 0
OfCases P = (s : View) (claims : List Claim) (u : World) → HasUniverse s claims u → HasRoom s u
    → P s claims u

-- What derivations over the universe use can be written as steps.
abbrev pub UniversesAreWritten : Type 0
UniversesAreWritten = OfCases (λ s claims u. IsWritable (setting_of u) u.hints)

-- It has at most 2^22 instances.
abbrev pub InstancesAreFew : Type 0
InstancesAreFew = OfCases (λ s claims u. length u.instances ≤ 2 ^ 22)

-- The script's subject is what derivations over the universe use in the case with these claims.
abbrev pub SubjectsAreOfUniverses : Type 0
SubjectsAreOfUniverses = OfCases (λ s claims u.
    (case : ℕ) → slice_get (cases_of s) case ≡ Some claims → (t : Subject) → IsSubjectOf s t
    → trees.IsSubjectOf t case (setting_of u) u.hints u.goals)

-- Where no leaf of the case's tree is open, it has a certificate, whose boxes and leaves are those
-- of the tree.
abbrev pub TreesAreProved : Type 0
TreesAreProved = OfCases (λ s claims u. (o : Options) → o.depth ≤ 32
    → (states : List ℕ → State) → AreStates u (plan_of s claims o.depth) o.rounds states
    → (boxes : List (List ℕ)) → AreBoxes (tree_by s claims o states) boxes
    → first_open (tree_by s claims o states) boxes ≡ None
    → IsProvedTree u o.rounds (boxes_of (plan_of s claims o.depth) states) (length boxes)
    (leaves_of (tree_by s claims o states) boxes))

-- The pieces of a box that is cut are of the cut's variable.
abbrev pub PiecesAreOfCuts : PlanParts → Type 0
PiecesAreOfCuts plan = (path : List ℕ) (x : ExprId)
    → variable_of (cut_at plan path) ≡ Some x → (k : ℕ)
    → piece_at plan (path ++ k ∷ []) ≡ Some (x, range_of_piece (piece_at plan (path ++ k ∷ [])))

-- ---- all cases
-- the options as a script is proved with: at most 64 rounds, 32 halvings, and 8,192 boxes
abbrev pub AreInRange : Options → Type 0
AreInRange o = (o.rounds ≤ 64) × (o.depth ≤ 32) × (o.boxes ≤ 8192)

-- This is so of each script that is proved, with its universe, whatever is assumed in that, and
-- with its subject.
abbrev pub OfAnswers : (View → World → Options → List Line → Subject → Type 0) → Type 0
OfAnswers P = (s : View) (u : World) → HasCases s u → (o : Options) → AreInRange o
    → (lines : List Line) → IsProved s o lines → (t : Subject) → IsSubjectOf s t → P s u o lines t

-- Its cases have roots that have a certificate with its lines, however many steps a box may have
-- beyond those that are needed,
abbrev pub ScriptsHaveRoots : Type 0
ScriptsHaveRoots = OfAnswers (λ s u o lines t.
    (most : ℕ) → most_in u o.rounds ≤ most → HasRoots s u o t most lines)

-- so that there are items which the checker accepts for it, with its lines,
abbrev pub AnswersHaveCertificates : Type 0
AnswersHaveCertificates = OfAnswers (λ s u o lines t. (items : List Item) × Accepts t items lines)

-- and bytes that spell them.
abbrev pub AnswersAreSpelled : Type 0
AnswersAreSpelled = OfAnswers (λ s u o lines t. (bytes : List ℕ) × AreAcceptedFor s bytes lines)
