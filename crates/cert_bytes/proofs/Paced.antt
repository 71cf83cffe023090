-- How a reader goes on, and back.
use Rattle.std.proofs.Common.{◌≡◌, ◌≤◌, ◌<◌, ◌+◌, ◌*◌, ℕ, List, [], drop, length, Option, Some}
use Rattle.std.proofs.Common.{None, refl, sym, ap, subst, arith}
use Rattle.cert_bytes.specs.declared.item.Item.{Item}
use Rattle.cert_bytes.specs.declared.item.Item.TheVariants as item
use Rattle.cert_bytes.specs.declared.order.DueItem.{DueItem}
use Rattle.cert_bytes.specs.declared.order.DueItem.TheVariants.{Head, Nodes, Marks, Sections, Done}
use Rattle.cert_bytes.specs.declared.style.Seen.{Seen}
use Rattle.cert_bytes.specs.declared.style.Style.{Style}
use Rattle.cert_bytes.specs.declared.style.Style.TheVariants.{First, Second}
use Rattle.cert_bytes.specs.Styles.{style_after, Opens, IsStyleFor, IsFew}
use Rattle.cert_bytes.specs.Due.{IsOfRoot}
use Rattle.cert_bytes.specs.Pieces.{Ahead, AgreesTold}

moved : (known next start at : ℕ) → known ≤ 64 * start → start < at
    → next ≤ known + 64 → next ≤ 64 * at
moved known next start at p m f = omega (arith, p, m, f)

still : (known next start at : ℕ) → known ≤ 64 * start → start ≤ at → next ≤ known → next ≤ 64 * at
still known next start at p g f = omega (arith, p, g, f)

pub paced_on : (i : Item) (known next start at : ℕ)
    → known ≤ 64 * start → start ≤ at → (¬ (i ≡ item.End) → start < at) → next ≤ known + 64
    → (¬ IsOfRoot i → next ≤ known) → next ≤ 64 * at
paced_on (item.Cases n) known next start at p g m f q = moved known next start at p (m (λ e. cc)) f
paced_on (item.Step s) known next start at p g m f q = moved known next start at p (m (λ e. cc)) f
paced_on (item.Cut x ps) known next start at p g m f q = moved known next start at p (m (λ e. cc)) f
paced_on (item.Leaf refs) known next start at p g m f q =
    moved known next start at p (m (λ e. cc)) f
paced_on (item.Dead r) known next start at p g m f q = moved known next start at p (m (λ e. cc)) f
paced_on (item.Nodes n) known next start at p g m f q = still known next start at p g (q (λ z. z))
paced_on (item.Node n) known next start at p g m f q = still known next start at p g (q (λ z. z))
paced_on (item.Marks n) known next start at p g m f q = still known next start at p g (q (λ z. z))
paced_on (item.Mark n) known next start at p g m f q = still known next start at p g (q (λ z. z))
paced_on item.End known next start at p g m f q = still known next start at p g (q (λ z. z))

pub agrees_back : (o : Option (List ℕ)) (s new : Ahead) → AgreesTold o s → new.at ≡ s.at
    → new.ahead ≡ [] → AgreesTold o new
agrees_back None s new a e h = tt
agrees_back (Some all) s new a e h = record {
  within = subst (λ (k : ℕ). k ≤ length all) (sym e) a.within;
  rest = drop new.at all;
  ahead = rw h refl;
}

-- a reader that has read nothing agrees with whatever is told
pub fresh_agrees : (o : Option (List ℕ)) (s : Ahead) → s.at ≡ 0 → s.ahead ≡ [] → AgreesTold o s
fresh_agrees None s e h = tt
fresh_agrees (Some all) s e h =
    record { within = rw e (omega arith); rest = drop s.at all; ahead = rw h refl }

-- ---- what was seen

pub few_at_first : (style : Style) → Opens style → IsFew style 0
few_at_first First o = tt
few_at_first (Second seen) o = (
  let e = ap (λ (s : Seen). s.steps) o in omega (arith, e),
  let e = ap (λ (s : Seen). s.sections) o in omega (arith, e),
)

pub fewer_than : (style : Style) (at next : ℕ) (i : Item) → IsFew style at
    → (¬ (i ≡ item.End) → at + 1 ≤ next) → at ≤ next → IsFew (style_after style i) next
fewer_than First at next i f m g = tt
fewer_than (Second seen) at next (item.Nodes n) f m g =
    (let x = f.0 in omega (arith, x, g), let y = f.1 in omega (arith, y, g))
fewer_than (Second seen) at next (item.Node n) f m g =
    (let x = f.0 in omega (arith, x, g), let y = f.1 in omega (arith, y, g))
fewer_than (Second seen) at next (item.Marks n) f m g =
    (let x = f.0 in omega (arith, x, g), let y = f.1 in omega (arith, y, g))
fewer_than (Second seen) at next (item.Mark n) f m g =
    (let x = f.0 in omega (arith, x, g), let y = f.1 in omega (arith, y, g))
fewer_than (Second seen) at next (item.Cases n) f m g =
    (let x = f.0 in omega (arith, x, g), let y = f.1 in omega (arith, y, g))
fewer_than (Second seen) at next (item.Step s) f m g =
    (let x = f.0 in let o = m (λ e. cc) in omega (arith, x, o), let y = f.1 in omega (arith, y, g))
fewer_than (Second seen) at next (item.Cut v ps) f m g =
    (let x = f.0 in omega (arith, x, g), let y = f.1 in let o = m (λ e. cc) in omega (arith, y, o))
fewer_than (Second seen) at next (item.Leaf refs) f m g =
    (let x = f.0 in omega (arith, x, g), let y = f.1 in let o = m (λ e. cc) in omega (arith, y, o))
fewer_than (Second seen) at next (item.Dead r) f m g =
    (let x = f.0 in omega (arith, x, g), let y = f.1 in let o = m (λ e. cc) in omega (arith, y, o))
fewer_than (Second seen) at next item.End f m g =
    (let x = f.0 in omega (arith, x, g), let y = f.1 in omega (arith, y, g))

pub fewer_later : (style : Style) (at next : ℕ) → IsFew style at → at ≤ next → IsFew style next
fewer_later First at next f g = tt
fewer_later (Second seen) at next f g =
    (let x = f.0 in omega (arith, x, g), let y = f.1 in omega (arith, y, g))

-- where an item is read, its style has seen as little as the one before
pub few_for : (d : DueItem) (old style : Style) (at : ℕ) → IsFew old at
    → IsStyleFor d old style → IsFew style at
few_for Head old style at f s = fewer_later style 0 at (few_at_first style s) (omega arith)
few_for (Nodes n) old style at f s = subst (λ (style : Style). IsFew style at) (sym s) f
few_for (Marks n) old style at f s = subst (λ (style : Style). IsFew style at) (sym s) f
few_for (Sections n) old style at f s = subst (λ (style : Style). IsFew style at) (sym s) f
few_for Done old style at f s = subst (λ (style : Style). IsFew style at) (sym s) f

pub few_on : (d : DueItem) (i : Item) (old style : Style) (start at : ℕ)
    → IsFew old start → IsStyleFor d old style → (¬ (i ≡ item.End) → start < at) → start ≤ at
    → IsFew (style_after style i) at
few_on d i old style start at f s m g = fewer_than style start at i (few_for d old style start f s)
    (λ n. let l = m n in omega (arith, l)) g

pub few_seen : (d : DueItem) (old style : Style) (start : ℕ) → IsFew old start
    → IsStyleFor d old style → start ≤ 17592186044416 → IsFew style 17592186044416
few_seen d old style start f s l =
    fewer_later style start 17592186044416 (few_for d old style start f s) l
