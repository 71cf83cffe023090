-- What the calls of the walk answer.
use Rattle.std.specs.Prelude.{◌≡◌, ◌+◌, ℕ, List, [], ◌∷◌, ◌++◌, length, Some, None}
use Rattle.derivation.specs.Laws.{TablesAreOne, BoxesComeToOneState}
use Rattle.rule_universe.specs.Worlds.{World}
use Rattle.box_tree.specs.declared.cut.Cut.{Cut}
use Rattle.box_tree.specs.Plans.{piece_at, pieces_at, with_last}
use Rattle.box_tree.specs.Regions.{PlanParts}
use Rattle.cert_bytes.specs.declared.item.Item.{Item}
use Rattle.cert_bytes.specs.declared.item.Item.TheVariants as item
use Rattle.tree_certificates.specs.Moves.{WalksMove}
use Rattle.box_trace.specs.declared.known.Known.{Known}
use Rattle.box_trace.specs.Tables.{known_at}
use Rattle.answer_certificates.specs.Laws.{PiecesAreOfCuts}
use Rattle.cert_writer.specs.Boxes.{CutsAt, IsClosed, IsEnd}
use Rattle.cert_writer.specs.Courses.{Course, IsCourse, HasBest}
use Rattle.cert_writer.specs.Laws.{WritingGoesOn}

-- ---- one box
-- What isn't cut shows something.
abbrev pub MayEnd : World → Known → Cut → Type 0
MayEnd u k cut = CutsAt (known_at u k) u.goals cut None → IsClosed (known_at u k) u.goals

-- The item is the last of the box's own, by what is known there, and the box goes into so many
-- pieces.
abbrev pub IsLast : World → Known → Cut → Item → ℕ → Type 0
IsLast u k cut (item.Cut x points) n = CutsAt (known_at u k) u.goals cut (Some (x, points))
    × (n ≡ length points + 1)
IsLast u k cut i n = CutsAt (known_at u k) u.goals cut None × IsEnd u k i × (n ≡ 0)

-- ---- laws
-- What the walk over a plan's boxes goes by.
pub record WalkGoesOn (plan : PlanParts) : Type 0 where
  pub writing : WritingGoesOn
  pub moves : WalksMove
  pub tables : TablesAreOne
  pub states : BoxesComeToOneState
  pub best : (c : Course) → IsCourse c → HasBest c
  pub pieces : PiecesAreOfCuts plan
  pub one_more : (path : List ℕ) (i : ℕ) → pieces_at plan (path ++ i ∷ [])
      ≡ with_last (piece_at plan (path ++ i ∷ [])) (pieces_at plan path)
