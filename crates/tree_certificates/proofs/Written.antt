-- Steps that are accepted can be written, where they can be numbered.
use Rattle.std.specs.Prelude.{◌≡◌, ◌<◌, ◌≤◌, ◌+◌, ◌^◌, ⊤, ℕ, List, [], ◌∷◌, length, Option, Some}
use Rattle.std.specs.Prelude.{None, IfSome, refl}
use Rattle.std.specs.List.{AllByRecursion}
use Rattle.std.proofs.Common.{arith}
use Rattle.fx_model.specs.declared.Node.{Node}
use Rattle.facts.specs.declared.fact.Fact.{Fact}
use Rattle.facts.specs.declared.fact.Fact.TheVariants as fact
use Rattle.facts.proofs.CommonParts.{at_option}
use Rattle.goals.specs.declared.goal.Goal.{Goal}
use Rattle.cert_bytes.specs.declared.item.StepRow.{StepRow}
use Rattle.cert_bytes.specs.Certificates.{IsCounted, IsLong, IsOnShort, HasRoomFor}
use Rattle.cert_checker.specs.declared.open.Citable.{Citable}
use Rattle.cert_checker.specs.Open.{Numbered, with_step}
use Rattle.cert_checker.specs.Steps.{step_fact, step_facts, before, IsMetWith, AreKnown, Givens}
use Rattle.cert_checker.specs.Steps.{IsConcluded}
use Rattle.cert_checker.specs.Faults.{AreSettled}
use Rattle.tree_certificates.specs.Sections.{AreAccepted, AllBelow, AreBelow}
use Rattle.tree_certificates.specs.Traces.{HasFields, HaveFields}
use Rattle.tree_certificates.proofs.Cited.{step_below, found_below, found_long}

-- ---- what is found is below the next
-- the numbers are long where the next is no longer than that
abbrev IsLongBelow : ℕ → Type 0
IsLongBelow m = m ≤ 2 ^ 64

facts_below : (rows : List Citable) (m : ℕ) (ns : List ℕ) (ps : List Fact) → AllBelow m rows
    → IsLongBelow m → step_facts rows ns ≡ Some ps → AllByRecursion IsLong ns
facts_below rows m [] ps b h e = tt
facts_below rows m (n ∷ ns) ps b h e =
    at_option (step_fact rows n) (λ o. step_fact rows n ≡ o
    → before o (step_facts rows ns) ≡ Some ps → AllByRecursion IsLong (n ∷ ns))
    (λ y q w. cc)
    (λ f y q w. at_option (step_facts rows ns) (λ o. step_facts rows ns ≡ o
    → before (Some f) o ≡ Some ps → AllByRecursion IsLong (n ∷ ns))
    (λ z r v. cc)
    (λ fs z r v. (
      let l : n < m = found_below rows n m f b q in omega (arith, l, h),
      facts_below rows m ns fs b h r,
    ))
    refl w)
    refl e

with_below : (rows : List Citable) (m : ℕ) (o : Option ℕ) (f : Option Fact) → AllBelow m rows
    → IsLongBelow m → IsMetWith rows o f → IfSome o IsLong
with_below rows m None f b h w = tt
with_below rows m (Some n) None b h w = absurd (w.1 refl)
with_below rows m (Some n) (Some f) b h w =
    let l : n < m = found_below rows n m f b w.0 in omega (arith, l, h)

on_short : (nodes : List Node) (f : Fact) → length nodes < 2 ^ 16 → AreKnown nodes f → IsOnShort f
on_short nodes (fact.Bnd x i) h k = omega (arith, h, k)
on_short nodes (fact.Abs x i) h k = omega (arith, h, k)
on_short nodes (fact.Rel x y e) h k = (
  let a : x.0 < length nodes = k.0 in omega (arith, h, a),
  let a : y.0 < length nodes = k.1 in omega (arith, h, a),
)
on_short nodes (fact.Fix x i) h k = omega (arith, h, k)
on_short nodes (fact.Nzr x) h k = omega (arith, h, k)
on_short nodes fact.Void h k = tt

-- ---- steps
-- each has a spelling, and its parts have room
abbrev pub AreWritten : List StepRow → Type 0
AreWritten [] = ⊤
AreWritten (row ∷ rows) = (IsCounted row.premises × HasRoomFor row) × AreWritten rows

row_written : (g : Givens) (s : Numbered) (row : StepRow) → AreBelow s → IsLongBelow s.next
    → length g.nodes < 2 ^ 16 → IsConcluded g s.rows row → HasFields row → HasRoomFor row
row_written g s row b h k c r = record {
  rule = r.rule;
  arg = r.arg;
  fact = on_short g.nodes row.fact k (c.3).known;
  with = with_below s.rows s.next row.with c.1 b h (c.2).met;
  premises = facts_below s.rows s.next row.premises c.0 b h (c.2).found;
}

pub rows_written : (g : Givens) (s : Numbered) (rows : List StepRow)
    → AreBelow s → s.next + length rows ≤ 2 ^ 64 → length g.nodes < 2 ^ 16 → AreAccepted g s rows
    → HaveFields rows → AreWritten rows
rows_written g s [] b h k a r = tt
rows_written g s (row ∷ rows) b h k a r = (
  ((r.0).counted, row_written g s row b (omega (arith, h)) k a.0 r.0),
  rows_written g (with_step s row.fact) rows (step_below s row.fact b) (omega (arith, h)) k a.1 r.1,
)

-- ---- what a leaf cites
pub settled_long : (rows : List Citable) (m : ℕ) (goals : List Goal) (refs : List ℕ)
    → AllBelow m rows → m ≤ 2 ^ 64 → AreSettled rows goals refs → AllByRecursion IsLong refs
settled_long rows m [] [] b h a = tt
settled_long rows m (g ∷ goals) (r ∷ refs) b h a =
    (found_long rows r m (a.0).0 b h (a.0).1, settled_long rows m goals refs b h a.1)
settled_long rows m [] (r ∷ refs) b h a = absurd a
settled_long rows m (g ∷ goals) [] b h a = absurd a
