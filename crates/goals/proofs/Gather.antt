-- A line holds of what each of its facts holds of.
use Rattle.std.specs.Prelude.{◌≡◌, List, Some, None}
use Rattle.std.specs.Option.{IsSomeAnd}
use Rattle.std.proofs.Common.{subst, inl, inr, ⊎_elim}
use Rattle.fx_model.specs.Fraction.{Fraction}
use Rattle.fx_model.specs.Enclosure.{Lies}
use Rattle.fx_model.specs.Expression.{Assignment, value}
use Rattle.fx_model.specs.declared.Node.{Node}
use Rattle.fx_model.specs.declared.ExprId.{ExprId}
use Rattle.interval.specs.declared.interval.Interval.{Interval}
use Rattle.interval.specs.Intervals.{range_of}
use Rattle.interval.specs.Meets.{hull_of}
use Rattle.interval.proofs.Meets.{lies-hull_left, lies-hull_right}
use Rattle.facts.specs.declared.fact.Fact.{Fact}
use Rattle.facts.specs.declared.fact.Fact.TheVariants as fact
use Rattle.facts.specs.declared.fact.Slot.{Slot}
use Rattle.facts.specs.declared.fact.Slot.TheVariants as slot
use Rattle.facts.specs.Holds.{AreZero, IsRelated, Holds}
use Rattle.facts.specs.Order.{slot_of}
use Rattle.facts.proofs.Held.{some-and}
use Rattle.goals.specs.Lies.{LiesAt, AreZeroAt, OfBoth}
use Rattle.goals.specs.declared.line.Line.{Line}
use Rattle.goals.specs.declared.line.Line.TheVariants as line
use Rattle.goals.specs.Joined.{with_interval, with_zeros, joined}
use Rattle.goals.specs.Holds.{LineHolds, IsOfGoal}

-- ---- slots
abbrev Grows : Interval → Interval → Type 0
Grows i j = (v : Fraction) → Lies (range_of i) v → Lies (range_of j) v

related_grows : (i j : Interval) → Grows i j → (x y : Fraction) → IsRelated i x y → IsRelated j x y
related_grows i j g x y r = ⊎_elim (λ z. inl z) (λ q. inr (q.0, g _ q.1)) r

both-and : (nodes : List Node) (a : Assignment) (x y : ExprId) (P Q : Fraction → Fraction → Type 0)
    → ((v w : Fraction) → P v w → Q v w) → OfBoth nodes a x y P → OfBoth nodes a x y Q
both-and nodes a x y P Q h p = some-and (value nodes a x)
    (λ v. IsSomeAnd (value nodes a y) (P v)) (λ v. IsSomeAnd (value nodes a y) (Q v))
    (λ v q. some-and (value nodes a y) (P v) (Q v) (h v) q) p

at_grows : (nodes : List Node) (a : Assignment) (i j : Interval) (s : Slot) → Grows i j
    → LiesAt nodes a i s → LiesAt nodes a j s
at_grows nodes a i j (slot.Bnd x) g l =
    some-and (value nodes a x) (Lies (range_of i)) (Lies (range_of j)) g l
at_grows nodes a i j (slot.Rel x y) g l =
    both-and nodes a x y (IsRelated i) (IsRelated j) (related_grows i j g) l
at_grows nodes a i j _ g l = absurd l

zero_lies : (nodes : List Node) (a : Assignment) (i : Interval) (s : Slot)
    → AreZeroAt nodes a s → LiesAt nodes a i s
zero_lies nodes a i (slot.Rel x y) z = both-and nodes a x y AreZero (IsRelated i) (λ v w q. inl q) z
zero_lies nodes a i _ z = absurd z

-- ---- lines
interval_first : (nodes : List Node) (a : Assignment) (s : Slot) (l : Line) (i : Interval)
    → LiesAt nodes a i s → LineHolds nodes a s (with_interval l i)
interval_first nodes a s (line.In j) i h =
    at_grows nodes a i (hull_of j i) s (λ v k. lies-hull_right j i v k) h
interval_first nodes a s line.None i h = h
interval_first nodes a s line.Empty i h = h

interval_more : (nodes : List Node) (a : Assignment) (s : Slot) (l : Line) (i : Interval)
    → LineHolds nodes a s l → LineHolds nodes a s (with_interval l i)
interval_more nodes a s (line.In j) i h =
    at_grows nodes a j (hull_of j i) s (λ v k. lies-hull_left j i v k) h
interval_more nodes a s line.None i h = zero_lies nodes a i s h
interval_more nodes a s line.Empty i h = absurd h

zeros_first : (nodes : List Node) (a : Assignment) (s : Slot) (l : Line) → AreZeroAt nodes a s
    → LineHolds nodes a s (with_zeros l)
zeros_first nodes a s (line.In j) z = zero_lies nodes a j s z
zeros_first nodes a s line.None z = z
zeros_first nodes a s line.Empty z = z

zeros_more : (nodes : List Node) (a : Assignment) (s : Slot) (l : Line) → LineHolds nodes a s l
    → LineHolds nodes a s (with_zeros l)
zeros_more nodes a s (line.In j) h = h
zeros_more nodes a s line.None h = h
zeros_more nodes a s line.Empty h = absurd h

pub fact_first : (nodes : List Node) (a : Assignment) (s : Slot) (l : Line) (f : Fact) → IsOfGoal f
    → slot_of f ≡ s → Holds nodes a f → LineHolds nodes a s (joined l f)
fact_first nodes a s l (fact.Bnd x i) g e h =
    interval_first nodes a s l i (subst (LiesAt nodes a i) e h)
fact_first nodes a s l (fact.Rel x y (Some k)) g e h =
    interval_first nodes a s l k.interval (subst (LiesAt nodes a k.interval) e h)
fact_first nodes a s l (fact.Rel x y None) g e h =
    zeros_first nodes a s l (subst (AreZeroAt nodes a) e h)
fact_first nodes a s l _ g e h = absurd g

pub fact_more : (nodes : List Node) (a : Assignment) (s : Slot) (l : Line) (f : Fact)
    → LineHolds nodes a s l → LineHolds nodes a s (joined l f)
fact_more nodes a s l (fact.Bnd x i) h = interval_more nodes a s l i h
fact_more nodes a s l (fact.Rel x y (Some k)) h = interval_more nodes a s l k.interval h
fact_more nodes a s l (fact.Rel x y None) h = zeros_more nodes a s l h
fact_more nodes a s l _ h = h
