-- A certificate has a root section for each case.
use Rattle.std.proofs.Common.{◌≡◌, ◌≤◌, ◌+◌, ◌-◌, ℕ, zero, suc, Bool, true, false, List, [], ◌∷◌}
use Rattle.std.proofs.Common.{length, Some, refl, sym, ap, subst, ◌∙◌, arith, ⊎_elim}
use Rattle.std.proofs.lemmas.Bool.{cases_lt}
use Rattle.fx_model.specs.declared.ExprId.{ExprId}
use Rattle.dyadic.specs.declared.number.Dyadic.{Dyadic}
use Rattle.cert_bytes.specs.declared.item.Item.{Item}
use Rattle.cert_bytes.specs.declared.item.Item.TheVariants as item
use Rattle.cert_bytes.specs.declared.order.DueItem.{DueItem}
use Rattle.cert_bytes.specs.declared.order.DueItem.TheVariants.{Head, Nodes, Marks, Sections, Done}
use Rattle.cert_checker.specs.declared.subject.Subject.{Subject}
use Rattle.cert_checker.specs.Contexts.{Context, first}
use Rattle.cert_checker.specs.After.{case_behind, cuts_behind, behind, lines_with, after}
use Rattle.cert_checker.specs.Accepted.{LeadsTo, AreInOrder, HaveEachRoot}
use Rattle.cert_checker.proofs.Sound.{pending, pending_behind, none_behind, same_case}

-- Of a script with n cases, w sections are still to end: pieces of the open root section, and the
-- root sections of the cases to come.
record IsWithin (n w : ℕ) (c : Context) : Type 0 where
  sections : w + c.case ≡ pending c.cuts + n
  case : c.case ≤ n

record IsBefore (c : Context) : Type 0 where
  cuts : c.cuts ≡ []
  case : c.case ≡ 0
  begun : c.begun ≡ false

abbrev At : ℕ → DueItem → Context → Type 0
At n (Sections w) c = IsWithin n w c
At n Done c = c.case ≡ n
At n _ c = IsBefore c

-- where so many root sections are told as there are cases
told : (n k : ℕ) (c : Context) → k ≡ n → IsBefore c → IsWithin n k c
told n k c e b = let p = ap pending b.cuts in let z = b.case in
    record { sections = omega (arith, e, p, z); case = omega (arith, z) }

cut_on : (n w : ℕ) (c : Context) (x : ExprId) (ps : List Dyadic) → IsWithin n (suc w) c
    → IsWithin n (w + (length ps + 1)) (after c (item.Cut x ps))
cut_on n w c x ps q = let s = q.sections in record { sections = omega (arith, s); case = q.case }

end_on : (n w : ℕ) (b d : Bool) (c : Context) → IsWithin n (suc w) c
    → IsWithin n w (record (behind c) { begun = b; ended = d })
end_on n w b d c q =
    let s = q.sections in
    ⊎_elim
    (λ m.
    let same : case_behind c.case (cuts_behind c.cuts) ≡ c.case =
    same_case (pending c.cuts - 1) c.case c.cuts (omega (arith, m)) in
    let fewer = pending_behind c.cuts in
    let l = q.case in
    record { sections = omega (arith, s, m, same, fewer); case = omega (arith, l, same) })
    (λ m.
    let none = none_behind c.cuts (omega (arith, m)) in
    let next : case_behind c.case (cuts_behind c.cuts) ≡ c.case + 1 =
    ap (case_behind c.case) none in
    let left = ap pending none in
    record { sections = omega (arith, s, m, next, left); case = omega (arith, s, m, next) })
    (cases_lt 0 (pending c.cuts))

each_root : (s : Subject) (items : List Item) (d : DueItem) (c end : Context)
    → At (length s.cases) d c → AreInOrder (Some d) items → LeadsTo s c items end
    → end.case ≡ length s.cases
each_root s [] Done c end q g l = ap (λ (x : Context). x.case) (sym l) ∙ q
each_root s (item.Nodes n ∷ items) Head c end q g l = each_root s items (Nodes n)
    (after c (item.Nodes n)) end (record { cuts = q.cuts; case = q.case; begun = q.begun }) g l.1
each_root s (item.Node n ∷ items) (Nodes (suc k)) c end q g l = each_root s items (Nodes k)
    (after c (item.Node n)) end (record { cuts = q.cuts; case = q.case; begun = q.begun }) g l.1
each_root s (item.Marks m ∷ items) (Nodes zero) c end q g l = each_root s items (Marks m)
    (after c (item.Marks m)) end (record { cuts = q.cuts; case = q.case; begun = q.begun }) g l.1
each_root s (item.Mark m ∷ items) (Marks (suc k)) c end q g l = each_root s items (Marks k)
    (after c (item.Mark m)) end (record { cuts = q.cuts; case = q.case; begun = q.begun }) g l.1
each_root s (item.Cases k ∷ items) (Marks zero) c end q g l =
    each_root s items (Sections k)
    (after c (item.Cases k)) end (let t = told (length s.cases) k c (l.0.0 q.begun refl) q in
    record { sections = t.sections; case = t.case }) g l.1
each_root s (item.Step r ∷ items) (Marks zero) c end q g l =
    each_root s items (Sections 1)
    (after c (item.Step r)) end (let t = told (length s.cases) 1 c (l.0.0 q.begun refl) q in
    record { sections = t.sections; case = t.case }) g l.1
each_root s (item.Cut x ps ∷ items) (Marks zero) c end q g l =
    let e : 0 + (length ps + 1) ≡ length ps + 1 = omega arith in
    each_root s items (Sections (length ps + 1)) (after c (item.Cut x ps)) end
    (subst (λ k. IsWithin (length s.cases) k (after c (item.Cut x ps))) e
    (cut_on (length s.cases) 0 c x ps (told (length s.cases) 1 c (l.0.0 q.begun refl) q))) g l.1
each_root s (item.Leaf refs ∷ items) (Marks zero) c end q g l =
    each_root s items (Sections 0) (after c (item.Leaf refs)) end
    (let t = told (length s.cases) 1 c (l.0.0 q.begun refl) q in
    end_on (length s.cases) 0 true false (record c { lines = lines_with c.steps c.lines refs })
    (record { sections = t.sections; case = t.case })) g l.1
each_root s (item.Dead r ∷ items) (Marks zero) c end q g l =
    each_root s items (Sections 0) (after c (item.Dead r)) end (end_on
    (length s.cases) 0 true false c (told (length s.cases) 1 c (l.0.0 q.begun refl) q)) g l.1
each_root s (item.Step r ∷ items) (Sections (suc w)) c end q g l =
    each_root s items (Sections (suc w))
    (after c (item.Step r)) end (record { sections = q.sections; case = q.case }) g l.1
each_root s (item.Cut x ps ∷ items) (Sections (suc w)) c end q g l =
    each_root s items (Sections (w + (length ps + 1)))
    (after c (item.Cut x ps)) end (cut_on (length s.cases) w c x ps q) g l.1
each_root s (item.Leaf refs ∷ items) (Sections (suc w)) c end q g l =
    each_root s items (Sections w) (after c (item.Leaf refs)) end
    (end_on (length s.cases) w true false (record c { lines = lines_with c.steps c.lines refs })
    (record { sections = q.sections; case = q.case })) g l.1
each_root s (item.Dead r ∷ items) (Sections (suc w)) c end q g l = each_root s items (Sections w)
    (after c (item.Dead r)) end (end_on (length s.cases) w true false c q) g l.1
each_root s (item.End ∷ items) (Sections zero) c end q g l =
    each_root s items Done (after c item.End) end (let e = q.sections in let m = q.case in
    omega (arith, e, m)) g l.1
each_root s [] Head c end q g l = cc
each_root s [] (Nodes k) c end q g l = cc
each_root s [] (Marks k) c end q g l = cc
each_root s [] (Sections w) c end q g l = cc
each_root s (i ∷ items) Head c end q g l = absurd g
each_root s (i ∷ items) (Nodes zero) c end q g l = absurd g
each_root s (i ∷ items) (Nodes (suc k)) c end q g l = absurd g
each_root s (i ∷ items) (Marks zero) c end q g l = absurd g
each_root s (i ∷ items) (Marks (suc k)) c end q g l = absurd g
each_root s (i ∷ items) (Sections zero) c end q g l = absurd g
each_root s (i ∷ items) (Sections (suc w)) c end q g l = absurd g
each_root s (i ∷ items) Done c end q g l = absurd g

pub have_each_root : HaveEachRoot
have_each_root s items end d l =
    each_root s items Head (first s) end (record { cuts = refl; case = refl; begun = refl }) d l
