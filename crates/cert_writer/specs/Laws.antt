-- What is promised of a certificate that is written box by box.
use Rattle.std.specs.Prelude.{◌≡◌, ◌<◌, ◌≤◌, ◌+◌, ◌*◌, ℕ, List, [], ◌∷◌, ◌++◌, length, map, Some}
use Rattle.std.specs.Prelude.{None}
use Rattle.fx_model.specs.declared.ExprId.{ExprId}
use Rattle.dyadic.specs.declared.number.Dyadic.{Dyadic}
use Rattle.interval.specs.declared.interval.Interval.{Interval}
use Rattle.facts.specs.declared.fact.Fact.{Fact}
use Rattle.facts.specs.declared.fact.Fact.TheVariants as fact
use Rattle.facts.specs.declared.fact.Slot.TheVariants as slot
use Rattle.goals.specs.declared.line.Line.{Line}
use Rattle.goals.specs.declared.line.Line.TheVariants as line
use Rattle.derivation.specs.Exists.{table_at}
use Rattle.saturate.specs.Universes.{setting_of}
use Rattle.cert_bytes.specs.declared.item.Item.{Item}
use Rattle.cert_bytes.specs.declared.item.Item.TheVariants as item
use Rattle.cert_bytes.specs.declared.item.StepRow.{StepRow}
use Rattle.cert_bytes.specs.Spelling.{certificate_of}
use Rattle.cert_checker.specs.Contexts.{Context}
use Rattle.cert_checker.specs.Steps.{step_fact}
use Rattle.cert_trim.specs.Behind.{IsLeafOrDead, section_of}
use Rattle.cert_trim.specs.Used.{CiteEarlier}
use Rattle.tree_certificates.specs.Trees.{Tree, Trees, leaf, cut, last, next, IsProved}
use Rattle.tree_certificates.specs.Trees.{lines_of_tree, steps_in}
use Rattle.tree_certificates.specs.Roots.{Root}
use Rattle.tree_certificates.specs.Walks.{behind_steps, Frame}
use Rattle.tree_certificates.specs.Moves.{AreSteps}
use Rattle.box_trace.specs.Short.{bytes_a_box}
use Rattle.cert_writer.specs.Standing.{Aim, IsAim, IsWhole, IsBegun, SectionStart, IsAt, Ended}
use Rattle.cert_writer.specs.Standing.{HasEnded, AreBoxSteps, AreShort, AreCited, most_for}
use Rattle.cert_writer.specs.Standing.{steps_left, lines_left, at_root, inside, closed, trimmed}
use Rattle.cert_writer.specs.Standing.{beside, around, next_aim, next_root, root_with}

-- This is so of each aim.
abbrev pub OfAims : (Aim → Type 0) → Type 0
OfAims P = (t : Aim) → IsAim t → P t

-- From its head to its end, what is written box by box stays a front of an accepted certificate,
-- which at last is whole.
pub record WritingGoesOn : Type 0 where
  -- Behind the head the root section of the first case is to begin, with step 0, where its tree is
  -- proved and there are no more than 8,192 boxes of all cases.
  pub begins : OfAims (λ t. t.target.number ≡ 0
      → (tree : Tree) → IsProved (setting_of t.world) t.height t.world.goals tree [] 0
      → steps_in (most_for t) tree + steps_left t ≤ 8192 * bytes_a_box →
      t.lines ≡ lines_left t (lines_of_tree
      (setting_of t.world) t.height t.world.goals tree [] (map (λ g. line.Empty) t.world.goals))
      → (c : Context) × (c.next ≡ 0) × IsAt t (at_root t c tree))
  -- Where a section is to begin, what was written is a front of an accepted certificate with all
  -- lines,
  pub begun : OfAims (λ t. (p : SectionStart) → IsAt t p → IsBegun t (certificate_of p.items))
  -- and where one has ended.
  pub ended : OfAims (λ t. (e : Ended) → HasEnded t e → IsBegun t (certificate_of e.items))
  -- Behind its steps a box is cut, and its first piece begins;
  pub enters : OfAims (λ t. (p : SectionStart) (rows : List StepRow)
      (x : ExprId) (points : List Dyadic) (i : Interval) (tree : Tree) (later : Trees)
      → p.tree ≡ cut x points (next i tree later) → IsAt t p
      → AreBoxSteps t p rows → AreShort t rows (item.Cut x points)
      → IsAt t (inside p rows x points i tree later))
  -- or a leaf ends it,
  pub settles : OfAims (λ t. (p : SectionStart) (rows : List StepRow) (refs : List ℕ)
      → p.tree ≡ leaf → IsAt t p → AreBoxSteps t p rows → AreShort t rows (item.Leaf refs) →
      table_at (setting_of t.world) t.height p.pieces slot.Void ≡ None
      → AreCited (behind_steps p.context rows).steps
      (table_at (setting_of t.world) t.height p.pieces) t.world.goals refs
      → HasEnded t (closed p rows (item.Leaf refs)
      (lines_of_tree (setting_of t.world) t.height t.world.goals leaf p.pieces p.context.lines)))
  -- or a step that concludes VOID, whatever else its steps conclude.
  pub voids : OfAims (λ t. (p : SectionStart) (rows : List StepRow) (r : ℕ) → p.tree ≡ leaf
      → IsAt t p → AreSteps t.target.subject p.context rows → length rows < most_for t
      → AreShort t rows (item.Dead r) →
      table_at (setting_of t.world) t.height p.pieces slot.Void ≡ Some fact.Void
      → step_fact (behind_steps p.context rows).steps r ≡ Some fact.Void
      → HasEnded t (closed p rows (item.Dead r) p.context.lines))
  -- Of a section that has ended so the items cite earlier steps alone, and it has also ended
  -- without the steps that its end doesn't need.
  pub trims : OfAims (λ t. (p : SectionStart) (rows : List StepRow)
      (last : Item) (lines : List Line)
      → IsAt t p → IsLeafOrDead last → HasEnded t (closed p rows last lines)
      → CiteEarlier p.context.next (section_of rows last) × HasEnded t (trimmed p rows last lines))
  -- Behind a section the next piece begins,
  pub follows : OfAims (λ t. (e : Ended) (fr : Frame) (i : Interval) (tree : Tree) (later : Trees)
      (frames : List Frame) → e.frames ≡ fr ∷ frames → fr.later ≡ next i tree later → HasEnded t e
      → IsAt t (beside e fr i tree later frames))
  -- and behind the last its box has ended.
  pub ends : OfAims (λ t. (e : Ended) (fr : Frame) (frames : List Frame) → e.frames ≡ fr ∷ frames
      → fr.later ≡ last → HasEnded t e → HasEnded t (around e fr frames))
  -- Behind the root section of a case that of the next is to begin,
  pub next_case : OfAims (λ t.
      (e : Ended) (hypotheses : List Fact) (tree : Tree) (later : List Root)
      → e.frames ≡ [] → t.target.later ≡ root_with t.world hypotheses tree ∷ later → HasEnded t e →
      IsAt (next_aim t hypotheses later) (next_root e tree))
  -- and behind that of the last, with the end, the certificate is whole.
  pub whole : OfAims (λ t. (e : Ended)
      → e.frames ≡ [] → t.target.later ≡ [] → HasEnded t e
      → IsWhole t (certificate_of (e.items ++ item.End ∷ [])))
