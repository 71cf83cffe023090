-- A machine that runs through the tokens of entries: a list of tokens begins a list of entries
-- where it runs.
use Rattle.std.specs.Prelude.{◌≡◌, ℕ, suc, ◌+◌, ◌<◌, ◌≤◌, List, [], ◌∷◌, ◌++◌, length, take, Option}
use Rattle.std.specs.Prelude.{Some, None, refl}
use Rattle.std.proofs.Common.{sym, ap, ◌∙◌, subst, arith, append_assoc, append-nil}
use Rattle.std.proofs.lemmas.Option.{none-some, same_Some}
use Rattle.point_text.specs.Points.{Part, name, literal, equal, plus, minus, slash, semicolon}
use Rattle.point_text.specs.Points.{other, Mark, unmarked, with_plus, with_minus, Entry, mark_parts}
use Rattle.point_text.specs.Points.{divisor_parts, entry_parts, entries_parts, Begins}
use Rattle.point_text.proofs.Entries.{joined}

-- what is due
pub data State : Type 0 where
  at_name : State
  at_equal : State
  at_number : State
  behind_sign : State
  behind_number : State
  at_divisor : State
  behind_divisor : State

abbrev pub step : State → Part → Option State
step at_name (name v) = Some at_equal
step at_equal equal = Some at_number
step at_number plus = Some behind_sign
step at_number minus = Some behind_sign
step at_number (literal n) = Some behind_number
step behind_sign (literal n) = Some behind_number
step behind_number slash = Some at_divisor
step behind_number semicolon = Some at_name
step at_divisor (literal d) = Some behind_divisor
step behind_divisor semicolon = Some at_name
step s p = None

abbrev pub step_of : Option State → Part → Option State
step_of None p = None
step_of (Some s) p = step s p

abbrev pub run : Option State → List Part → Option State
run o [] = o
run o (p ∷ ps) = run (step_of o p) ps

run_none : (ps : List Part) → run None ps ≡ None
run_none [] = refl
run_none (p ∷ ps) = run_none ps

stuck : (ps : List Part) (s : State) → run None ps ≡ Some s → ⊥
stuck ps s h = none-some _ (sym (run_none ps) ∙ h)

pub run_append : (o : Option State) (ps qs : List Part) → run o (ps ++ qs) ≡ run (run o ps) qs
run_append o [] qs = refl
run_append o (p ∷ ps) qs = run_append (step_of o p) ps qs

went : (o : Option State) (qs : List Part) (t : State) → run o qs ≡ Some t → (s : State)
    × (o ≡ Some s)
went None qs t h = absurd (stuck qs t h)
went (Some s) qs t h = (s, refl)

-- ---- what begins entries, runs
run_entry : (v : List ℕ) (m : Mark) (n : List ℕ) (d : Option (List ℕ)) (qs : List Part)
    → run (Some at_name) (entry_parts (record { variable = v; mark = m; number = n; divisor = d })
    ++ qs) ≡ run (Some at_name) qs
run_entry v unmarked n None qs = refl
run_entry v unmarked n (Some d) qs = refl
run_entry v with_plus n None qs = refl
run_entry v with_plus n (Some d) qs = refl
run_entry v with_minus n None qs = refl
run_entry v with_minus n (Some d) qs = refl

pub run_entries : (es : List Entry) (qs : List Part) → run (Some at_name) (entries_parts es ++ qs)
    ≡ run (Some at_name) qs
run_entries [] qs = refl
run_entries (e ∷ es) qs =
    ap (run (Some at_name)) (append_assoc (entry_parts e) (entries_parts es) qs)
    ∙ run_entry e.variable e.mark e.number e.divisor (entries_parts es ++ qs) ∙ run_entries es qs

pub begun_runs : (ps : List Part) → Begins ps → (s : State) × (run (Some at_name) ps ≡ Some s)
begun_runs ps b = went (run (Some at_name) ps) b.1 at_name (sym (run_append (Some at_name) ps b.1)
    ∙ ap (run (Some at_name)) (sym b.2 ∙ sym (append-nil (entries_parts b.0))) ∙ run_entries b.0 [])

-- ---- what runs, begins entries
-- the shortest end of an entry
abbrev ending : State → List Part
ending at_name = []
ending at_equal = equal ∷ (literal [] ∷ (semicolon ∷ []))
ending at_number = literal [] ∷ (semicolon ∷ [])
ending behind_sign = literal [] ∷ (semicolon ∷ [])
ending behind_number = semicolon ∷ []
ending at_divisor = literal [] ∷ (semicolon ∷ [])
ending behind_divisor = semicolon ∷ []

abbrev Whole : List Part → Type 0
Whole ps = (es : List Entry) × (entries_parts es ≡ ps)

-- behind what brings the machine here, these tokens make whole entries
abbrev Makes : State → List Part → Type 0
Makes at_name qs = Whole qs
Makes at_equal qs = (v : List ℕ) → Whole (name v ∷ qs)
Makes at_number qs = (v : List ℕ) → Whole (name v ∷ (equal ∷ qs))
Makes behind_sign qs = (v : List ℕ) (m : Mark) → Whole (name v ∷ (equal ∷ (mark_parts m ++ qs)))
Makes behind_number qs = (v : List ℕ) (m : Mark) (n : List ℕ)
    → Whole (name v ∷ (equal ∷ (mark_parts m ++ (literal n ∷ qs))))
Makes at_divisor qs = (v : List ℕ) (m : Mark) (n : List ℕ)
    → Whole (name v ∷ (equal ∷ (mark_parts m ++ (literal n ∷ (slash ∷ qs)))))
Makes behind_divisor qs = (v : List ℕ) (m : Mark) (n d : List ℕ)
    → Whole (name v ∷ (equal ∷ (mark_parts m ++ (literal n ∷ (slash ∷ (literal d ∷ qs))))))

one_more : (v : List ℕ) (m : Mark) (n : List ℕ) (d : Option (List ℕ)) (qs : List Part) → Whole qs
    → Whole (name v
    ∷ (equal ∷ (mark_parts m ++ (literal n ∷ (divisor_parts d ++ (semicolon ∷ qs))))))
one_more v m n d qs w = (
  record { variable = v; mark = m; number = n; divisor = d } ∷ w.0,
  ap (λ ps. name v ∷ (equal ∷ ps)) (sym (joined m n d (entries_parts w.0))
      ∙ ap (λ ps. mark_parts m ++ (literal n ∷ (divisor_parts d ++ (semicolon ∷ ps)))) w.1),
)

none_more : Whole []
none_more = ([], refl)

ends_so : (s : State) → Makes s (ending s)
ends_so at_name = none_more
ends_so at_equal = λ v. one_more v unmarked [] None [] none_more
ends_so at_number = λ v. one_more v unmarked [] None [] none_more
ends_so behind_sign = λ v m. one_more v m [] None [] none_more
ends_so behind_number = λ v m n. one_more v m n None [] none_more
ends_so at_divisor = λ v m n. one_more v m n (Some []) [] none_more
ends_so behind_divisor = λ v m n d. one_more v m n (Some d) [] none_more

other_stops : (s : State) → step s other ≡ None
other_stops at_name = refl
other_stops at_equal = refl
other_stops at_number = refl
other_stops behind_sign = refl
other_stops behind_number = refl
other_stops at_divisor = refl
other_stops behind_divisor = refl

makes : (ps : List Part) (s t : State) → run (Some s) ps ≡ Some t → Makes s (ps ++ ending t)
makes [] s t h = subst (λ u. Makes s (ending u)) (same_Some _ _ h) (ends_so s)
makes (name v ∷ ps) at_name t h = makes ps at_equal t h v
makes (equal ∷ ps) at_equal t h = λ v. makes ps at_number t h v
makes (plus ∷ ps) at_number t h = λ v. makes ps behind_sign t h v with_plus
makes (minus ∷ ps) at_number t h = λ v. makes ps behind_sign t h v with_minus
makes (literal n ∷ ps) at_number t h = λ v. makes ps behind_number t h v unmarked n
makes (literal n ∷ ps) behind_sign t h = λ v m. makes ps behind_number t h v m n
makes (slash ∷ ps) behind_number t h = λ v m n. makes ps at_divisor t h v m n
makes (semicolon ∷ ps) behind_number t h =
    λ v m n. one_more v m n None (ps ++ ending t) (makes ps at_name t h)
makes (literal d ∷ ps) at_divisor t h = λ v m n. makes ps behind_divisor t h v m n d
makes (semicolon ∷ ps) behind_divisor t h =
    λ v m n d. one_more v m n (Some d) (ps ++ ending t) (makes ps at_name t h)
makes (other ∷ ps) s t h = absurd (stuck ps t (ap (λ o. run o ps) (sym (other_stops s)) ∙ h))
makes (p ∷ ps) s t h = absurd (stuck ps t h)

pub runs_begun : (ps : List Part) (t : State) → run (Some at_name) ps ≡ Some t → Begins ps
runs_begun ps t h = let w = makes ps at_name t h in (w.0, ending t, w.1)

-- ---- how far it runs
record Longest (o : Option State) (ps : List Part) (n : ℕ) : Type 0 where
  pub within : n ≤ length ps
  pub state : State
  pub runs : run o (take n ps) ≡ Some state
  pub stops : n < length ps → run o (take (suc n) ps) ≡ None

longest_of : (o : Option State) (s : State) (p : Part) (ps : List Part) → step s p ≡ o
    → ((t : State) → (n : ℕ) × Longest (Some t) ps n) → (n : ℕ) × Longest (Some s) (p ∷ ps) n
longest_of None s p ps e f =
    (0, record { within = omega arith; state = s; runs = refl; stops = λ l. e })
longest_of (Some t) s p ps e f =
    let r = f t in (
      suc r.0,
      record {
        within = let w = r.1.within in omega arith;
        state = r.1.state;
        runs = ap (λ o. run o (take r.0 ps)) e ∙ r.1.runs;
        stops = λ l. ap (λ o. run o (take (suc r.0) ps)) e ∙ r.1.stops (omega arith);
      },
    )

longest : (ps : List Part) (s : State) → (n : ℕ) × Longest (Some s) ps n
longest [] s =
    (0, record { within = omega arith; state = s; runs = refl; stops = λ l. absurd (omega arith) })
longest (p ∷ ps) s = longest_of (step s p) s p ps refl (longest ps)

-- each list of tokens begins entries up to some token
pub farthest : (ps : List Part) → (n : ℕ) × (n ≤ length ps) × Begins (take n ps)
    × (n < length ps → ¬ Begins (take (n + 1) ps))
farthest ps =
    let r = longest ps at_name in (
      r.0,
      r.1.within,
      runs_begun (take r.0 ps) r.1.state r.1.runs,
      λ l b. let w = begun_runs (take (r.0 + 1) ps) b in
          let s : r.0 + 1 ≡ suc r.0 = omega arith in
          none-some _ (sym (r.1.stops l) ∙ ap (λ k. run (Some at_name) (take k ps)) (sym s) ∙ w.1),
    )
