-- Items with which nothing is wrong cite earlier steps alone. Where items do, the used steps are
-- enough, and each step that is left is used.
use Rattle.std.proofs.Common.{◌≡◌, ◌≤◌, ◌<◌, ◌+◌, ◌==◌, ℕ, zero, suc, Bool, true, false, List, []}
use Rattle.std.proofs.Common.{◌∷◌, ◌++◌, take, Option, Some, None, refl, sym, ap, subst, ◌∙◌, arith}
use Rattle.std.proofs.Common.{eqb-true}
use Rattle.std.specs.Prelude.{◌||◌, if◌then◌else◌}
use Rattle.std.specs.List.{AllByRecursion}
use Rattle.std.proofs.lemmas.Bool.{eq-eqb, ne_eqb}
use Rattle.facts.specs.declared.fact.Fact.{Fact}
use Rattle.facts.specs.declared.fact.Fact.TheVariants as fact
use Rattle.goals.specs.declared.goal.Goal.{Goal}
use Rattle.cert_bytes.specs.declared.item.Item.{Item}
use Rattle.cert_bytes.specs.declared.item.Item.TheVariants as item
use Rattle.cert_checker.specs.declared.subject.Subject.{Subject}
use Rattle.cert_checker.specs.declared.open.Citable.{Citable}
use Rattle.cert_checker.specs.Contexts.{Context, first}
use Rattle.cert_checker.specs.Steps.{step_fact, step_facts, before, IsMetWith}
use Rattle.cert_checker.specs.After.{after, around_of, cuts_behind}
use Rattle.cert_checker.specs.Faults.{AreSettled}
use Rattle.cert_checker.specs.Accepted.{LeadsTo}
use Rattle.cert_trim.specs.Used.{AllBelow, CiteEarlier, and_more, cited, is_among, used_from}
use Rattle.cert_trim.specs.Used.{AreUsed, AreEnough}

-- ---- members

pub or_right : (a b : Bool) → b ≡ true → (a || b) ≡ true
or_right true b h = refl
or_right false b h = h

pub among_right : (xs ys : List ℕ) (m : ℕ) → is_among ys m ≡ true → is_among (xs ++ ys) m ≡ true
among_right [] ys m h = h
among_right (x ∷ xs) ys m h = or_right (x == m) _ (among_right xs ys m h)

later_among : (n : ℕ) (xs ys : List ℕ) (m : ℕ)
    → AllBelow n xs → n ≤ m → is_among (xs ++ ys) m ≡ true → is_among ys m ≡ true
later_among n [] ys m b l h = h
later_among n (x ∷ xs) ys m b l h =
    let q : (x == m) ≡ false = ne_eqb x m (λ e. let k = b.0 in absurd (omega (arith, k, l, e))) in
    later_among n xs ys m b.1 l (subst (λ t. (t || is_among (xs ++ ys) m) ≡ true) q h)

used_front : (used : ℕ → Bool) (xs ys : List ℕ)
    → ((m : ℕ) → is_among (xs ++ ys) m ≡ true → used m ≡ true) → AreUsed used xs
used_front used [] ys h = tt
used_front used (x ∷ xs) ys h =
    let q : (x == x) ≡ true = eq-eqb x x refl in (
      h x (ap (λ t. t || is_among (xs ++ ys) x) q),
      used_front used xs ys (λ m k. h m (or_right (x == m) _ k)),
    )

-- ---- what is cited stands before

abbrev AreBelow : ℕ → List Citable → Type 0
AreBelow n steps = AllByRecursion (λ s. s.number < n) steps

one_below : (n : ℕ) (s : Citable) (o : Option Fact) (p : ℕ) (b : Bool) → (s.number == p) ≡ b
    → s.number < n → (¬ (o ≡ None) → p < n) → ¬ ((if b then Some s.fact else o) ≡ None) → p < n
one_below n s o p true e l h k = let q = eqb-true s.number p e in omega (arith, q, l)
one_below n s o p false e l h k = h k

found_below : (n : ℕ) (steps : List Citable) (p : ℕ)
    → AreBelow n steps → ¬ (step_fact steps p ≡ None) → p < n
found_below n [] p b k = absurd (k refl)
found_below n (s ∷ steps) p b k =
    one_below n s (step_fact steps p) p (s.number == p) refl b.0 (found_below n steps p b.1) k

some_is_there : (o : Option Fact) (f : Fact) → o ≡ Some f → ¬ (o ≡ None)
some_is_there o f e k = absurd (cc (sym e ∙ k))

both_there : (o : Option Fact) (os : Option (List Fact)) (fs : List Fact)
    → before o os ≡ Some fs → (¬ (o ≡ None)) × ((gs : List Fact) × (os ≡ Some gs))
both_there (Some f) (Some gs) fs h = (λ k. absurd (cc k), (gs, refl))
both_there (Some f) None fs h = absurd (cc h)
both_there None os fs h = absurd (cc h)

facts_below : (n : ℕ) (steps : List Citable) (ps : List ℕ) (fs : List Fact)
    → AreBelow n steps → step_facts steps ps ≡ Some fs → AllBelow n ps
facts_below n steps [] fs b h = tt
facts_below n steps (p ∷ ps) fs b h =
    let k = both_there (step_fact steps p) (step_facts steps ps) fs h in
    (found_below n steps p b k.0, facts_below n steps ps k.1.0 b k.1.1)

with_below : (n : ℕ) (steps : List Citable) (w : Option ℕ) (ps : List ℕ) (f : Option Fact)
    → AreBelow n steps → IsMetWith steps w f → AllBelow n ps → AllBelow n (and_more w ps)
with_below n steps None ps f b h a = a
with_below n steps (Some p) ps f b h a = (found_below n steps p b (λ k. h.1 (sym h.0 ∙ k)), a)

settled_below : (n : ℕ) (steps : List Citable) (goals : List Goal) (refs : List ℕ)
    → AreBelow n steps → AreSettled steps goals refs → AllBelow n refs
settled_below n steps [] [] b h = tt
settled_below n steps (g ∷ goals) (r ∷ refs) b h =
    (found_below n steps r b (some_is_there _ h.0.0 h.0.1), settled_below n steps goals refs b h.1)
settled_below n steps [] (r ∷ refs) b h = absurd h
settled_below n steps (g ∷ goals) [] b h = absurd h

below_more : (n : ℕ) (steps : List Citable) (f : Fact)
    → AreBelow n steps → AreBelow (n + 1) (steps ++ record { number = n; fact = f } ∷ [])
below_more n [] f b = (omega arith, tt)
below_more n (s ∷ steps) f b = let l = b.0 in (omega (arith, l), below_more n steps f b.1)

below_front : (n k : ℕ) (steps : List Citable) → AreBelow n steps → AreBelow n (take k steps)
below_front n zero steps b = tt
below_front n (suc k) [] b = tt
below_front n (suc k) (s ∷ steps) b = (b.0, below_front n k steps b.1)

-- ---- items that are judged cite earlier steps alone

pub cite_earlier : (s : Subject) (items : List Item) (c end : Context)
    → AreBelow c.next c.steps → LeadsTo s c items end → CiteEarlier c.next items
cite_earlier s [] c end b leads = tt
cite_earlier s (item.Step r ∷ items) c end b leads =
    let concluded = leads.0.1 in (
      with_below c.next c.steps r.with r.premises concluded.1 b concluded.2.met
          (facts_below c.next c.steps r.premises concluded.0 b concluded.2.found),
      cite_earlier s items (after c (item.Step r)) end (below_more c.next c.steps r.fact b) leads.1,
    )
cite_earlier s (item.Leaf refs ∷ items) c end b leads = (
  settled_below c.next c.steps s.goals refs b leads.0.1,
  cite_earlier s items (after c
      (item.Leaf refs)) end (below_front c.next (around_of (cuts_behind c.cuts)) c.steps b) leads.1,
)
cite_earlier s (item.Dead r ∷ items) c end b leads = (
  (found_below c.next c.steps r b (some_is_there _ fact.Void leads.0.1), tt),
  cite_earlier s items (after c (item.Dead r)) end
      (below_front c.next (around_of (cuts_behind c.cuts)) c.steps b) leads.1,
)
cite_earlier s (item.Nodes n ∷ items) c end b leads =
    (tt, cite_earlier s items (after c (item.Nodes n)) end b leads.1)
cite_earlier s (item.Node n ∷ items) c end b leads =
    (tt, cite_earlier s items (after c (item.Node n)) end b leads.1)
cite_earlier s (item.Marks n ∷ items) c end b leads =
    (tt, cite_earlier s items (after c (item.Marks n)) end b leads.1)
cite_earlier s (item.Mark n ∷ items) c end b leads =
    (tt, cite_earlier s items (after c (item.Mark n)) end b leads.1)
cite_earlier s (item.Cases n ∷ items) c end b leads =
    (tt, cite_earlier s items (after c (item.Cases n)) end b leads.1)
cite_earlier s (item.Cut x ps ∷ items) c end b leads =
    (tt, cite_earlier s items (after c (item.Cut x ps)) end b leads.1)
cite_earlier s (item.End ∷ items) c end b leads =
    (tt, cite_earlier s items (after c item.End) end b leads.1)

-- ---- used steps are enough

module _ (used : ℕ → Bool) where
  abbrev pub Tells : ℕ → List ℕ → Type 0
  Tells n ns = (m : ℕ) → n ≤ m → used m ≡ true → is_among ns m ≡ true

  abbrev pub Stays : List ℕ → Type 0
  Stays ns = (m : ℕ) → is_among ns m ≡ true → used m ≡ true

  module _ (n : ℕ) (cites later : List ℕ) (below : AllBelow n cites) where
    pub tells_later : (b : Bool)
        → Tells n (if b then cites ++ later else later) → Tells (n + 1) later
    tells_later true t m l u =
        later_among n cites later m below (omega (arith, l)) (t m (omega (arith, l)) u)
    tells_later false t m l u = t m (omega (arith, l)) u

    pub stays_later : (b : Bool) → Stays (if b then cites ++ later else later) → Stays later
    stays_later true h m k = h m (among_right cites later m k)
    stays_later false h m k = h m k

    cites_used : (b : Bool) → is_among later n ≡ b → Tells n (if b then cites ++ later else later)
        → Stays (if b then cites ++ later else later) → used n ≡ true → AreUsed used cites
    cites_used true e t h u = used_front used cites later h
    cites_used false e t h u = absurd (cc (sym e ∙ t n (omega arith) u))

  pub tells_behind : (n : ℕ) (refs later : List ℕ)
      → AllBelow n refs → Tells n (refs ++ later) → Tells n later
  tells_behind n refs later below t m l u = later_among n refs later m below l (t m l u)

  pub stays_behind : (refs later : List ℕ) → Stays (refs ++ later) → Stays later
  stays_behind refs later h m k = h m (among_right refs later m k)

  pub enough : (items : List Item) (n : ℕ) → CiteEarlier n items
      → Tells n (used_from n items) → Stays (used_from n items) → AreEnough used n items
  enough [] n e t h = tt
  enough (item.Step r ∷ items) n e t h =
      let later = used_from (n + 1) items in
      let told = is_among later n in (
        cites_used n (cited r) later e.0 told refl t h,
        enough items (n + 1) e.1
            (tells_later n (cited r) later e.0 told t) (stays_later n (cited r) later e.0 told h),
      )
  enough (item.Leaf refs ∷ items) n e t h = (
    used_front used refs _ h,
    enough items n e.1 (tells_behind n refs _ e.0 t) (stays_behind refs _ h),
  )
  enough (item.Dead r ∷ items) n e t h = let q = used_front used (r ∷ []) _ h in
      (q.0, enough items n e.1 (tells_behind n (r ∷ []) _ e.0 t) (stays_behind (r ∷ []) _ h))
  enough (item.Nodes k ∷ items) n e t h = enough items n e.1 t h
  enough (item.Node k ∷ items) n e t h = enough items n e.1 t h
  enough (item.Marks k ∷ items) n e t h = enough items n e.1 t h
  enough (item.Mark k ∷ items) n e t h = enough items n e.1 t h
  enough (item.Cases k ∷ items) n e t h = enough items n e.1 t h
  enough (item.Cut x ps ∷ items) n e t h = enough items n e.1 t h
  enough (item.End ∷ items) n e t h = enough items n e.1 t h

pub used_are_enough : (items : List Item)
    → CiteEarlier 0 items → AreEnough (is_among (used_from 0 items)) 0 items
used_are_enough items e = enough (is_among (used_from 0 items)) items 0 e (λ m l u. u) (λ m u. u)

pub led_cite_earlier : (s : Subject) (items : List Item) (end : Context)
    → LeadsTo s (first s) items end → CiteEarlier 0 items
led_cite_earlier s items end leads = cite_earlier s items (first s) end tt leads
