-- Steps that may be cited stay so as steps are added.
use Rattle.std.specs.Prelude.{◌≡◌, ◌<◌, ◌+◌, ◌==◌, ℕ, Bool, true, false, List, [], ◌∷◌, ◌++◌, Some}
use Rattle.std.specs.Prelude.{if◌then◌else◌, map, refl, ◌^◌}
use Rattle.std.proofs.Common.{arith, length, ◌≤◌}
use Rattle.std.proofs.lemmas.Bool.{eqb-true}
use Rattle.facts.specs.declared.fact.Fact.{Fact}
use Rattle.facts.specs.declared.fact.Slot.{Slot}
use Rattle.derivation.specs.Derivations.{At}
use Rattle.derivation.proofs.Rounds.{Reads}
use Rattle.cert_bytes.specs.declared.item.StepRow.{StepRow}
use Rattle.cert_bytes.specs.Certificates.{IsLong}
use Rattle.cert_checker.specs.declared.open.Citable.{Citable}
use Rattle.cert_checker.specs.Open.{Numbered, with_step}
use Rattle.cert_checker.specs.Steps.{step_fact, step_facts, Givens}
use Rattle.tree_certificates.specs.Sections.{behind, AreAccepted, ArePlaces, AllBelow, AreBelow}
use Rattle.tree_certificates.specs.Traces.{HasFields, HaveFields}

-- The fact that steps may cite by this number.
abbrev citable : ℕ → Fact → Citable
citable n f = record { number = n; fact = f }

-- ---- one step more
found_kept : (rows : List Citable) (n k : ℕ) (f c : Fact) → step_fact rows n ≡ Some f
    → step_fact (rows ++ citable k c ∷ []) n ≡ Some f
found_kept [] n k f c e = cc
found_kept (r ∷ rows) n k f c e = by_test (r.number == n) e (found_kept rows n k f c)
  where
    by_test : (b : Bool) → (if b then Some r.fact else step_fact rows n) ≡ Some f
        → (step_fact rows n ≡ Some f → step_fact (rows ++ citable k c ∷ []) n ≡ Some f)
        → (if b then Some r.fact else step_fact (rows ++ citable k c ∷ []) n) ≡ Some f
    by_test true e h = e
    by_test false e h = h e

pub differs : (m n : ℕ) → m < n → (m == n) ≡ false
differs m n h = grind (arith, h)

equals : (n : ℕ) → (n == n) ≡ true
equals n = grind (arith)

found_new : (rows : List Citable) (n : ℕ) (c : Fact) → AllBelow n rows
    → step_fact (rows ++ citable n c ∷ []) n ≡ Some c
found_new [] n c b = let q : (n == n) ≡ true = equals n in rw q refl
found_new (r ∷ rows) n c b = let q : (r.number == n) ≡ false = differs r.number n b.0 in
    rw q (found_new rows n c b.1)

below_more : (rows : List Citable) (n : ℕ) (c : Fact) → AllBelow n rows
    → AllBelow (n + 1) (rows ++ citable n c ∷ [])
below_more [] n c b = (omega arith, tt)
below_more (r ∷ rows) n c b = (let h : r.number < n = b.0 in omega arith, below_more rows n c b.1)

module _ (s : Numbered) (c : Fact) where
  pub step_kept : (n : ℕ) (f : Fact) → step_fact s.rows n ≡ Some f
      → step_fact (with_step s c).rows n ≡ Some f
  step_kept n f e = found_kept s.rows n s.next f c e

  pub step_new : AreBelow s → step_fact (with_step s c).rows s.next ≡ Some c
  step_new b = found_new s.rows s.next c b

  pub step_below : AreBelow s → AreBelow (with_step s c)
  step_below b = below_more s.rows s.next c b

-- ---- many steps more
pub kept_behind : (s : Numbered) (rows : List StepRow) (n : ℕ) (f : Fact)
    → step_fact s.rows n ≡ Some f → step_fact (behind s rows).rows n ≡ Some f
kept_behind s [] n f e = e
kept_behind s (row ∷ rows) n f e =
    kept_behind (with_step s row.fact) rows n f (step_kept s row.fact n f e)

pub below_behind : (s : Numbered) (rows : List StepRow) → AreBelow s → AreBelow (behind s rows)
below_behind s [] b = b
below_behind s (row ∷ rows) b = below_behind (with_step s row.fact) rows (step_below s row.fact b)

pub places_behind : (s : Numbered) (rows : List StepRow) (at : At) (place : Slot → ℕ)
    → ArePlaces s at place → ArePlaces (behind s rows) at place
places_behind s rows at place p t f e = kept_behind s rows (place t) f (p t f e)

pub behind_both : (s : Numbered) (rows more : List StepRow)
    → behind s (rows ++ more) ≡ behind (behind s rows) more
behind_both s [] more = refl
behind_both s (row ∷ rows) more = behind_both (with_step s row.fact) rows more

pub accepted_both : (g : Givens) (s : Numbered) (rows more : List StepRow) → AreAccepted g s rows
    → AreAccepted g (behind s rows) more → AreAccepted g s (rows ++ more)
accepted_both g s [] more a b = b
accepted_both g s (row ∷ rows) more a b =
    (a.0, accepted_both g (with_step s row.fact) rows more a.1 b)

-- the facts that a table has on these slots are found by their places
pub premises_found : (s : Numbered) (at : At) (place : Slot → ℕ)
    → ArePlaces s at place → (ss : List Slot) (ps : List Fact) → Reads at ss ps
    → step_facts s.rows (map place ss) ≡ Some ps
premises_found s at place p [] [] r = refl
premises_found s at place p (t ∷ ss) (f ∷ ps) r =
    rw (p t f r.0, premises_found s at place p ss ps r.1) refl
premises_found s at place p [] (f ∷ ps) r = absurd r
premises_found s at place p (t ∷ ss) [] r = absurd r

-- ---- the fields of steps, and what is read
pub fields_more : (rows : List StepRow) (row : StepRow) → HaveFields rows → HasFields row
    → HaveFields (rows ++ row ∷ [])
fields_more [] row a c = (c, tt)
fields_more (r ∷ rows) row a c = (a.0, fields_more rows row a.1 c)

pub mapped : (place : Slot → ℕ) (ss : List Slot) → length (map place ss) ≡ length ss
mapped place [] = refl
mapped place (s ∷ ss) = let h = mapped place ss in omega (arith, h)

-- what is read is as many as the slots
pub reads_length : (at : At) (ss : List Slot) (ps : List Fact)
    → Reads at ss ps → length ss ≡ length ps
reads_length at [] [] r = refl
reads_length at (s ∷ ss) (p ∷ ps) r = let h = reads_length at ss ps r.1 in omega (arith, h)
reads_length at [] (p ∷ ps) r = absurd r
reads_length at (s ∷ ss) [] r = absurd r

pub found_below : (rows : List Citable) (n m : ℕ) (f : Fact) → AllBelow m rows
    → step_fact rows n ≡ Some f → n < m
found_below [] n m f b e = cc
found_below (r ∷ rows) n m f b e =
    by_test (r.number == n) refl e (λ w. found_below rows n m f b.1 w)
  where
    by_test : (t : Bool) → (r.number == n) ≡ t
        → (if t then Some r.fact else step_fact rows n) ≡ Some f
        → (step_fact rows n ≡ Some f → n < m) → n < m
    by_test true q e later = let d : r.number ≡ n = eqb-true r.number n q in
        let l : r.number < m = b.0 in omega (arith, d, l)
    by_test false q e later = later e

pub found_long : (rows : List Citable) (n m : ℕ) (f : Fact) → AllBelow m rows → m ≤ 2 ^ 64
    → step_fact rows n ≡ Some f → IsLong n
found_long rows n m f b h e = let l : n < m = found_below rows n m f b e in omega (arith, l, h)
