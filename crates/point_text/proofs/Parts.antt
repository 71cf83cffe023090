-- Names, literals and divisors among the tokens of entries.
use Rattle.std.specs.Prelude.{◌≡◌, ◌⊎◌, ℕ, zero, suc, ◌<◌, List, [], ◌∷◌, ◌++◌, slice_get, Option}
use Rattle.std.specs.Prelude.{Some, None, refl}
use Rattle.std.specs.List.{AllByRecursion}
use Rattle.std.proofs.Common.{sym, ap, ◌∙◌, subst, inl, inr, arith}
use Rattle.std.proofs.lemmas.Option.{none-some, same_Some}
use Rattle.point_text.specs.Points.{Part, name, literal, equal, slash, semicolon, Mark, unmarked}
use Rattle.point_text.specs.Points.{with_plus, with_minus, Entry, mark_parts, divisor_parts}
use Rattle.point_text.specs.Points.{entry_parts, entries_parts}

-- ---- what stands somewhere in a list

abbrev pub Has : {A : Type 0} → List A → A → Type 0
Has xs x = (i : ℕ) × (slice_get xs i ≡ Some x)

-- a name stands twice
abbrev pub HasTwo : List Part → List ℕ → Type 0
HasTwo ps v = (i j : ℕ) × (j < i) × (slice_get ps i ≡ Some (name v))
    × (slice_get ps j ≡ Some (name v))

-- a literal stands behind a slash
abbrev pub HasDivisor : List Part → List ℕ → Type 0
HasDivisor ps d = (i : ℕ) × (slice_get ps i ≡ Some slash)
    × (slice_get ps (suc i) ≡ Some (literal d))

-- ---- of a list behind others that are none of these

abbrev Isnt : Part → Part → Type 0
Isnt x q = ¬ (q ≡ x)

past : (x : Part) (xs ps : List Part) → AllByRecursion (Isnt x) xs → Has (xs ++ ps) x → Has ps x
past x [] ps h w = w
past x (q ∷ xs) ps h (zero, e) = absurd (h.0 (same_Some _ _ e))
past x (q ∷ xs) ps h (suc i, e) = past x xs ps h.1 (i, e)

past_two : (v : List ℕ) (xs ps : List Part)
    → AllByRecursion (Isnt (name v)) xs → HasTwo (xs ++ ps) v → HasTwo ps v
past_two v [] ps h w = w
past_two v (q ∷ xs) ps h (zero, j, l, e, f) = absurd (omega arith)
past_two v (q ∷ xs) ps h (suc i, zero, l, e, f) = absurd (h.0 (same_Some _ _ f))
past_two v (q ∷ xs) ps h (suc i, suc j, l, e, f) = past_two v xs ps h.1 (i, j, omega arith, e, f)

past_slashes : (d : List ℕ) (xs ps : List Part)
    → AllByRecursion (Isnt slash) xs → HasDivisor (xs ++ ps) d → HasDivisor ps d
past_slashes d [] ps h w = w
past_slashes d (q ∷ xs) ps h (zero, e, f) = absurd (h.0 (same_Some _ _ e))
past_slashes d (q ∷ xs) ps h (suc i, e, f) = past_slashes d xs ps h.1 (i, e, f)

-- ---- an entry

-- what stands behind its name
abbrev tail : Mark → List ℕ → Option (List ℕ) → List Part
tail m n d = equal ∷ (mark_parts m ++ (literal n ∷ (divisor_parts d ++ (semicolon ∷ []))))

no_name : (v : List ℕ) (m : Mark) (n : List ℕ) (d : Option (List ℕ))
    → AllByRecursion (Isnt (name v)) (tail m n d)
no_name v unmarked n None = ((λ e. cc), ((λ e. cc), ((λ e. cc), tt)))
no_name v unmarked n (Some d) = ((λ e. cc), ((λ e. cc), ((λ e. cc), ((λ e. cc), ((λ e. cc), tt)))))
no_name v with_plus n None = ((λ e. cc), ((λ e. cc), ((λ e. cc), ((λ e. cc), tt))))
no_name v with_plus n (Some d) =
    ((λ e. cc), ((λ e. cc), ((λ e. cc), ((λ e. cc), ((λ e. cc), ((λ e. cc), tt))))))
no_name v with_minus n None = ((λ e. cc), ((λ e. cc), ((λ e. cc), ((λ e. cc), tt))))
no_name v with_minus n (Some d) =
    ((λ e. cc), ((λ e. cc), ((λ e. cc), ((λ e. cc), ((λ e. cc), ((λ e. cc), tt))))))

name_past : (e : Entry) (ps : List Part) (v : List ℕ)
    → Has (entry_parts e ++ ps) (name v) → (e.variable ≡ v) ⊎ Has ps (name v)
name_past e ps v (zero, h) = inl (let q : name e.variable ≡ name v = same_Some _ _ h in cc)
name_past e ps v (suc i, h) =
    inr (past (name v) (tail e.mark e.number e.divisor) ps (no_name v e.mark e.number e.divisor) (
      i,
      h,
    ))

two_past : (e : Entry) (ps : List Part) (v : List ℕ) → HasTwo (entry_parts e ++ ps) v
    → ((e.variable ≡ v) × Has ps (name v)) ⊎ HasTwo ps v
two_past e ps v (zero, j, l, h, g) = absurd (omega arith)
two_past e ps v (suc i, zero, l, h, g) = inl (
  (let q : name e.variable ≡ name v = same_Some _ _ g in cc),
  past (name v) (tail e.mark e.number e.divisor) ps (no_name v e.mark e.number e.divisor) (i, h),
)
two_past e ps v (suc i, suc j, l, h, g) =
    inr (past_two v (tail e.mark e.number e.divisor) ps (no_name v e.mark e.number e.divisor) (
      i,
      j,
      omega arith,
      h,
      g,
    ))

-- one of its two literals
abbrev IsOf : Entry → List ℕ → Type 0
IsOf e d = (e.number ≡ d) ⊎ (e.divisor ≡ Some d)

before_number : (d : List ℕ) (v : List ℕ) (m : Mark)
    → AllByRecursion (Isnt (literal d)) (name v ∷ (equal ∷ mark_parts m))
before_number d v unmarked = ((λ e. cc), ((λ e. cc), tt))
before_number d v with_plus = ((λ e. cc), ((λ e. cc), ((λ e. cc), tt)))
before_number d v with_minus = ((λ e. cc), ((λ e. cc), ((λ e. cc), tt)))

before_divisor : (v : List ℕ) (m : Mark)
    → AllByRecursion (Isnt slash) (name v ∷ (equal ∷ mark_parts m))
before_divisor v unmarked = ((λ e. cc), ((λ e. cc), tt))
before_divisor v with_plus = ((λ e. cc), ((λ e. cc), ((λ e. cc), tt)))
before_divisor v with_minus = ((λ e. cc), ((λ e. cc), ((λ e. cc), tt)))

-- its number and what stands behind it
abbrev behind : List ℕ → Option (List ℕ) → List Part → List Part
behind n None ps = literal n ∷ (semicolon ∷ ps)
behind n (Some d) ps = literal n ∷ (slash ∷ (literal d ∷ (semicolon ∷ ps)))

split_entry : (v : List ℕ) (m : Mark) (n : List ℕ) (d : Option (List ℕ)) (ps : List Part)
    → entry_parts (record { variable = v; mark = m; number = n; divisor = d }) ++ ps
    ≡ (name v ∷ (equal ∷ mark_parts m)) ++ behind n d ps
split_entry v unmarked n None ps = refl
split_entry v unmarked n (Some d) ps = refl
split_entry v with_plus n None ps = refl
split_entry v with_plus n (Some d) ps = refl
split_entry v with_minus n None ps = refl
split_entry v with_minus n (Some d) ps = refl

literal_behind : (n : List ℕ) (o : Option (List ℕ)) (ps : List Part) (d : List ℕ)
    → Has (behind n o ps) (literal d) → ((n ≡ d) ⊎ (o ≡ Some d)) ⊎ Has ps (literal d)
literal_behind n None ps d (zero, h) =
    inl (inl (let q : literal n ≡ literal d = same_Some _ _ h in cc))
literal_behind n None ps d (suc zero, h) =
    absurd (let q : semicolon ≡ literal d = same_Some _ _ h in cc)
literal_behind n None ps d (suc (suc i), h) = inr (i, h)
literal_behind n (Some c) ps d (zero, h) =
    inl (inl (let q : literal n ≡ literal d = same_Some _ _ h in cc))
literal_behind n (Some c) ps d (suc zero, h) =
    absurd (let q : slash ≡ literal d = same_Some _ _ h in cc)
literal_behind n (Some c) ps d (suc (suc zero), h) =
    inl (inr (let q : literal c ≡ literal d = same_Some _ _ h in cc))
literal_behind n (Some c) ps d (suc (suc (suc zero)), h) =
    absurd (let q : semicolon ≡ literal d = same_Some _ _ h in cc)
literal_behind n (Some c) ps d (suc (suc (suc (suc i))), h) = inr (i, h)

divisor_behind : (n : List ℕ) (o : Option (List ℕ)) (ps : List Part) (d : List ℕ)
    → HasDivisor (behind n o ps) d → (o ≡ Some d) ⊎ HasDivisor ps d
divisor_behind n None ps d (zero, h, g) =
    absurd (let q : literal n ≡ slash = same_Some _ _ h in cc)
divisor_behind n None ps d (suc zero, h, g) =
    absurd (let q : semicolon ≡ slash = same_Some _ _ h in cc)
divisor_behind n None ps d (suc (suc i), h, g) = inr (i, h, g)
divisor_behind n (Some c) ps d (zero, h, g) =
    absurd (let q : literal n ≡ slash = same_Some _ _ h in cc)
divisor_behind n (Some c) ps d (suc zero, h, g) =
    inl (let q : literal c ≡ literal d = same_Some _ _ g in cc)
divisor_behind n (Some c) ps d (suc (suc zero), h, g) =
    absurd (let q : literal c ≡ slash = same_Some _ _ h in cc)
divisor_behind n (Some c) ps d (suc (suc (suc zero)), h, g) =
    absurd (let q : semicolon ≡ slash = same_Some _ _ h in cc)
divisor_behind n (Some c) ps d (suc (suc (suc (suc i))), h, g) = inr (i, h, g)

literal_past : (e : Entry) (ps : List Part) (d : List ℕ)
    → Has (entry_parts e ++ ps) (literal d) → IsOf e d ⊎ Has ps (literal d)
literal_past e ps d h =
    literal_behind e.number e.divisor ps d
    (past (literal d) (name e.variable ∷ (equal ∷ mark_parts e.mark)) _
    (before_number d e.variable e.mark)
    (subst (λ l. Has l (literal d)) (split_entry e.variable e.mark e.number e.divisor ps) h))

divisor_past : (e : Entry) (ps : List Part) (d : List ℕ)
    → HasDivisor (entry_parts e ++ ps) d → (e.divisor ≡ Some d) ⊎ HasDivisor ps d
divisor_past e ps d h =
    divisor_behind e.number e.divisor ps d
    (past_slashes d (name e.variable ∷ (equal ∷ mark_parts e.mark)) _
    (before_divisor e.variable e.mark)
    (subst (λ l. HasDivisor l d) (split_entry e.variable e.mark e.number e.divisor ps) h))

-- ---- entries: what stands among their tokens is of some entry

abbrev pub SomeEntry : List Entry → (Entry → Type 0) → Type 0
SomeEntry es P = (k : ℕ) × (e : Entry) × (slice_get es k ≡ Some e) × P e

one_later : (e : Entry) (es : List Entry) (P : Entry → Type 0) → SomeEntry es P
    → SomeEntry (e ∷ es) P
one_later e es P w = (suc w.0, w.1, w.2, w.3)

pub name_of_entry : (es : List Entry) (v : List ℕ)
    → Has (entries_parts es) (name v) → SomeEntry es (λ e. e.variable ≡ v)
name_of_entry [] v h = absurd (none-some _ h.1)
name_of_entry (e ∷ es) v h = elim (name_past e (entries_parts es) v h) [
  | inl q ↦ (0, e, refl, q)
  | inr r ↦ one_later e es (λ e. e.variable ≡ v) (name_of_entry es v r)
]

pub literal_of_entry : (es : List Entry) (d : List ℕ) → Has (entries_parts es) (literal d)
    → SomeEntry es (λ e. (e.number ≡ d) ⊎ (e.divisor ≡ Some d))
literal_of_entry [] d h = absurd (none-some _ h.1)
literal_of_entry (e ∷ es) d h = elim (literal_past e (entries_parts es) d h) [
  | inl q ↦ (0, e, refl, q)
  | inr r ↦ one_later e es (λ e. (e.number ≡ d) ⊎ (e.divisor ≡ Some d)) (literal_of_entry es d r)
]

pub divisor_of_entry : (es : List Entry) (d : List ℕ)
    → HasDivisor (entries_parts es) d → SomeEntry es (λ e. e.divisor ≡ Some d)
divisor_of_entry [] d h = absurd (none-some _ h.1)
divisor_of_entry (e ∷ es) d h = elim (divisor_past e (entries_parts es) d h) [
  | inl q ↦ (0, e, refl, q)
  | inr r ↦ one_later e es (λ e. e.divisor ≡ Some d) (divisor_of_entry es d r)
]

-- no two entries are of one variable
abbrev pub AreOnce : List Entry → Type 0
AreOnce es = (j k : ℕ) (d e : Entry)
    → slice_get es j ≡ Some d → slice_get es k ≡ Some e → d.variable ≡ e.variable → j ≡ k

pub no_name_twice : (es : List Entry) (v : List ℕ) → AreOnce es → HasTwo (entries_parts es) v → ⊥
no_name_twice [] v once h = absurd (none-some _ h.3)
no_name_twice (e ∷ es) v once h = elim (two_past e (entries_parts es) v h) [
  | inl q ↦
      let w = name_of_entry es v q.1 in
      let same : 0 ≡ suc w.0 = once 0 (suc w.0) e w.1 refl w.2 (q.0 ∙ sym w.3) in
      omega arith
  | inr r ↦ no_name_twice es v (λ j k d f p q s. let same : suc j ≡ suc k =
      once (suc j) (suc k) d f p q s in omega arith) r
]

-- ---- each entry's name is among the tokens

has_left : (p : Part) (xs ps : List Part) → Has ps p → Has (xs ++ ps) p
has_left p [] ps h = h
has_left p (x ∷ xs) ps h = let w = has_left p xs ps h in (suc w.0, w.1)

pub has_name : (es : List Entry) (k : ℕ) (e : Entry) → slice_get es k ≡ Some e
    → Has (entries_parts es) (name e.variable)
has_name [] k e h = absurd (none-some _ h)
has_name (d ∷ es) zero e h = (0, ap (λ (f : Entry). Some (name f.variable)) (same_Some _ _ h))
has_name (d ∷ es) (suc k) e h = has_left (name e.variable) (entry_parts d) (entries_parts es)
    (has_name es k e h)
