-- The first fault of a text, where its reading stops.
use Rattle.std.specs.Prelude.{◌≡◌, ◌≢◌, ◌⊎◌, ℕ, zero, suc, ◌+◌, ◌<◌, ◌≤◌, List, [], ◌∷◌, ◌++◌}
use Rattle.std.specs.Prelude.{length, take, slice_get, Option, Some, None, refl}
use Rattle.std.proofs.Common.{sym, ap, ◌∙◌, subst, inl, inr, ⊎_elim, arith, append_assoc}
use Rattle.std.proofs.lemmas.Option.{none-some, same_Some}
use Rattle.std.proofs.lemmas.Bool.{cases_lt}
use Rattle.fx_model.specs.declared.Literal.{Literal}
use Rattle.literal.specs.Normal.{IsReading}
use Rattle.script_words.specs.declared.lex.Token.{Token}
use Rattle.script_words.specs.Lex.{Lexes}
use Rattle.script_nodes.specs.Known.{Name}
use Rattle.point_text.specs.declared.fault.PointKind.{PointKind}
use Rattle.point_text.specs.declared.fault.PointKind.TheVariants as kind
use Rattle.point_text.specs.Points.{Part, name, literal, slash, parts_of, Entry, entries_parts}
use Rattle.point_text.specs.Points.{Begins, IsUnread}
use Rattle.point_text.specs.PointFaults.{Reading, IsRead, HasFault, bad_token, unexpected}
use Rattle.point_text.specs.PointFaults.{cut_short, unknown, twice, zero_divisor, literal_limit}
use Rattle.point_text.specs.PointFaults.{missing, number, IsNotAfter}
use Rattle.point_text.proofs.Parts.{Has}
use Rattle.point_text.proofs.Clean.{IsClean}
use Rattle.point_text.proofs.Machine.{State, at_name, step, step_of, run, run_append, begun_runs}
use Rattle.point_text.proofs.Machine.{runs_begun, farthest}
use Rattle.point_text.proofs.Starts.{starts, start_within, starts_rise, starts_before}
use Rattle.point_text.proofs.Standing.{part_at, length_parts, part_here, start_here, part_before}
use Rattle.point_text.proofs.Standing.{take_front, take_one_more, length_split}

-- ---- how far a text is read

-- no farther than these tokens
pub record IsStopped {text : List ℕ} (before rest : List Token) (end : Option ℕ) (r :
    Reading text) : Type 0 where
  pub tokens : r.tokens ≡ before ++ rest
  pub bad : r.bad ≡ end
  pub taken : r.taken ≡ length before

-- past the token in hand
pub record IsPast {text : List ℕ} (before rest : List Token) (end : Option ℕ) (r : Reading text) :
    Type 0 where
  pub tokens : r.tokens ≡ before ++ rest
  pub bad : r.bad ≡ end
  pub taken : length before < r.taken

-- the token in hand doesn't go on
abbrev pub IsStuck : List ℕ → State → List Token → Type 0
IsStuck text s rest = (t : Token) (ts : List Token) → rest ≡ t ∷ ts → step s (part_at text t) ≡ None

one_more_stops : (text : List ℕ) (before rest us : List Token) (s : State)
    → run (Some at_name) (parts_of text before) ≡ Some s → IsStuck text s rest → rest ≡ us
    → length before < length (before ++ rest)
    → ¬ Begins (take (length before + 1) (parts_of text (before ++ rest)))
one_more_stops text before rest [] s runs stuck e l b =
    let m = length_split before rest in let n = ap length e in omega arith
one_more_stops text before rest (t ∷ ts) s runs stuck e l b =
    let k : length before + 1 ≡ suc (length before) = omega arith in
    let w = begun_runs (take (length before + 1) (parts_of text (before ++ rest))) b in
    let front : take (length before + 1) (parts_of text (before ++ rest)) ≡ parts_of text before
    ++ (part_at text t ∷ []) =
    ap (λ n. take n (parts_of text (before ++ rest))) k
    ∙ ap (λ us. take (suc (length before)) (parts_of text (before ++ us))) e
    ∙ take_one_more text before ts t in
    none-some _ (sym (stuck t ts e) ∙ ap (λ o. step_of o (part_at text t)) (sym runs)
    ∙ sym (run_append (Some at_name) (parts_of text before) (part_at text t ∷ []))
    ∙ ap (run (Some at_name)) (sym front) ∙ w.1)

pub stopped : (text : List ℕ) (bad : Option ℕ) (before rest : List Token) (s : State)
    → Lexes 0 text (before ++ rest) bad
    → run (Some at_name) (parts_of text before) ≡ Some s → IsStuck text s rest
    → (r : Reading text) × IsStopped before rest bad r
stopped text bad before rest s lexed runs stuck = (
  record {
    tokens = before ++ rest;
    bad = bad;
    lexed = lexed;
    taken = length before;
    within = let e = length_split before rest in omega arith;
    begins = subst Begins (sym (take_front text before rest))
        (runs_begun (parts_of text before) s runs);
    ends = one_more_stops text before rest rest s runs stuck refl;
  },
  record { tokens = refl; bad = refl; taken = refl },
)

-- what begins entries, begins them with fewer tokens too
fewer : (n m : ℕ) (ps : List Part) → n ≤ m → (qs : List Part) × (take m ps ≡ take n ps ++ qs)
fewer zero m ps l = (take m ps, refl)
fewer (suc n) zero ps l = absurd (omega arith)
fewer (suc n) (suc m) [] l = ([], refl)
fewer (suc n) (suc m) (p ∷ ps) l =
    let w = fewer n m ps (omega arith) in (w.0, ap (λ x. p ∷ x) w.1)

begins_fewer : (n m : ℕ) (ps : List Part) → n ≤ m → Begins (take m ps) → Begins (take n ps)
begins_fewer n m ps l b =
    let w = fewer n m ps l in
    (b.0, w.0 ++ b.1, b.2 ∙ ap (λ x. x ++ b.1) w.1 ∙ append_assoc (take n ps) w.0 b.1)

pub gone_past : (text : List ℕ) (bad : Option ℕ) (before ts : List Token) (t : Token) (s u : State)
    → Lexes 0 text (before ++ (t ∷ ts)) bad → run (Some at_name) (parts_of text before) ≡ Some s
    → step s (part_at text t) ≡ Some u → (r : Reading text) × IsPast before (t ∷ ts) bad r
gone_past text bad before ts t s u lexed runs goes =
    let ps : List Part = parts_of text (before ++ (t ∷ ts)) in
    let f = farthest ps in
    let count = length_parts text (before ++ (t ∷ ts)) in
    let size = length_split before (t ∷ ts) in
    let more : Begins (take (suc (length before)) ps) =
    subst Begins (sym (take_one_more text before ts t))
    (runs_begun (parts_of text before ++ (part_at text t ∷ [])) u
    (run_append (Some at_name) (parts_of text before) (part_at text t ∷ [])
    ∙ ap (λ o. step_of o (part_at text t)) runs ∙ goes)) in (
      record {
        tokens = before ++ (t ∷ ts);
        bad = bad;
        lexed = lexed;
        taken = f.0;
        within = let w = f.1 in omega arith;
        begins = f.2;
        ends = λ l. f.3 (omega arith);
      },
      record {
        tokens = refl;
        bad = refl;
        taken = ⊎_elim (λ l. l) (λ l.
            absurd (f.3 (omega arith) (begins_fewer (f.0 + 1) (suc (length before)) ps (omega arith)
            more)))
            (cases_lt (length before) f.0);
      },
    )

-- ---- tokens before the one in hand have no fault

module _ (variables : List Name) (text : List ℕ) (before rest : List Token) (clean :
    IsClean variables (parts_of text before)) where
  no_unknown : (i : ℕ) (v : Name) → i < length before → slice_get (parts_of text (before ++ rest)) i
      ≡ Some (name v)
      → ((k : ℕ) → slice_get variables k ≢ Some v) → ⊥
  no_unknown i v l h n = let w = clean.known v (i, part_before text before rest i (name v) l h) in
      n w.0 w.1

  no_twice : (i j : ℕ) (v : Name) → i < length before → j < i
      → slice_get (parts_of text (before ++ rest)) i ≡ Some (name v)
      → slice_get (parts_of text (before ++ rest)) j ≡ Some (name v) → ⊥
  no_twice i j v l m h g = clean.once v (
    i,
    j,
    m,
    part_before text before rest i (name v) l h,
    part_before text before rest j (name v) (omega arith) g,
  )

  no_zero : (i : ℕ) (d : List ℕ) (l : Literal) → suc i < length before
      → slice_get (parts_of text (before ++ rest)) i ≡ Some slash
      → slice_get (parts_of text (before ++ rest)) (suc i) ≡ Some (literal d) → IsReading d l
      → l.num ≡ 0 → ⊥
  no_zero i d l k h g r z = clean.nonzero d l (
    i,
    part_before text before rest i slash (omega arith) h,
    part_before text before rest (suc i) (literal d) k g,
  ) r z

  no_limit : (i : ℕ) (d : List ℕ) → i < length before → slice_get (parts_of text (before ++ rest)) i
      ≡ Some (literal d)
      → IsUnread d → ⊥
  no_limit i d l h u = let w = clean.read d (i, part_before text before rest i (literal d) l h) in
      u w.0 w.1

-- where a token that is read stands, among the tokens before and behind
read_at : {text : List ℕ} (r : Reading text) (tokens : List Token) → r.tokens ≡ tokens
    → (i at : ℕ) (p : Part)
    → IsRead r i at p → slice_get (parts_of text tokens) i ≡ Some p
read_at {text = text} r tokens e i at p q = sym (ap (λ us. slice_get (parts_of text us) i) e)
    ∙ q.part

-- ---- what is first where no token that is read has a fault

pub stopped_first : {text : List ℕ} (variables : List Name) (before rest : List Token) (bad :
    Option ℕ) (r : Reading text)
    → IsStopped before rest bad r → IsClean variables (parts_of text before)
    → (k : PointKind) (at : ℕ)
    → ((there : ℕ) → length before ≡ length (before ++ rest) → bad ≡ Some there
    → IsNotAfter k at kind.BadToken there)
    → ((there : ℕ) → slice_get (starts (before ++ rest)) (length before) ≡ Some there
    → IsNotAfter k at kind.Unexpected there)
    → (length before ≡ length (before ++ rest) → bad ≡ None
    → ((es : List Entry) → parts_of text (before ++ rest) ≢ entries_parts es)
    → IsNotAfter k at kind.Unexpected (length text))
    → IsNotAfter k at kind.Missing (length text)
    → (other : PointKind) (there : ℕ) → HasFault variables r other there
    → IsNotAfter k at other there
stopped_first {text = text} variables before rest bad r z clean k at b u c m other there
    (bad_token e f) =
    b there (sym z.taken ∙ e ∙ ap length z.tokens) (sym z.bad ∙ f)
stopped_first {text = text} variables before rest bad r z clean k at b u c m other there
    (unexpected e) =
    u there (ap (slice_get (starts (before ++ rest))) (sym z.taken)
    ∙ sym (ap (λ us. slice_get (starts us) r.taken) z.tokens) ∙ e)
stopped_first {text = text} variables before rest bad r z clean k at b u c m other there
    (cut_short e f g) =
    c (sym z.taken ∙ e ∙ ap length z.tokens) (sym z.bad
    ∙ f) (λ es q. g es (ap (parts_of text) z.tokens ∙ q))
stopped_first {text = text} variables before rest bad r z clean k at b u c m other there
    (unknown {i = i} {at = a} {v = v} q n) =
    absurd (no_unknown variables text before rest clean i v (subst (λ n. i < n) z.taken q.read)
    (read_at r _ z.tokens i a (name v) q) n)
stopped_first {text = text} variables before rest bad r z clean k at b u c m other there
    (twice {i = i} {at = a} {j = j} {before = o} {v = v} q w l) =
    absurd (no_twice variables text before rest clean i j v (subst (λ n. i < n) z.taken q.read) l
    (read_at r _ z.tokens i a (name v) q) (read_at r _ z.tokens j o (name v) w))
stopped_first {text = text} variables before rest bad r z clean k at b u c m other there
    (zero_divisor {i = i} {at = a} {before = o} {digits = d} {l = l} q w h g) =
    let e : i + 1 ≡ suc i = omega arith in
    absurd (no_zero variables text before rest clean i d l
    (subst (λ n. n < length before) e (subst (λ n. i + 1 < n) z.taken w.read))
    (read_at r _ z.tokens i o slash q) (ap (slice_get (parts_of text (before ++ rest))) (sym e)
    ∙ read_at r _ z.tokens (i + 1) a (literal d) w) h g)
stopped_first {text = text} variables before rest bad r z clean k at b u c m other there
    (literal_limit {i = i} {at = a} {digits = d} q h) =
    absurd (no_limit variables text before rest clean i d (subst (λ n. i < n) z.taken q.read)
    (read_at r _ z.tokens i a (literal d) q) h)
stopped_first {text = text} variables before rest bad r z clean k at b u c m other there
    (missing i h f) = m

-- ---- what is first where the token in hand has a fault

-- Of the faults that this token may have, none has a lower number.
pub record IsLeast (variables : List Name) (text : List ℕ) (before : List Token) (t : Token) (k :
    PointKind) : Type 0 where
  pub unknown : (v : Name) → part_at text t ≡ name v → ((i : ℕ) → slice_get variables i ≢ Some v)
      → number k ≤ 4
  pub twice : (v : Name) → part_at text t ≡ name v → Has (parts_of text before) (name v)
      → number k ≤ 5
  pub zero : (d : List ℕ) (l : Literal) → part_at text t ≡ literal d → IsReading d l → l.num ≡ 0
      → number k ≤ 6
  pub limit : (d : List ℕ) → part_at text t ≡ literal d → IsUnread d → number k ≤ 7

three_ways : (i p : ℕ) → (i < p) ⊎ ((i ≡ p) ⊎ (p < i))
three_ways i p =
    ⊎_elim (λ l. inl l) (λ l. ⊎_elim (λ m. inr (inr m)) (λ m. inr (inl (omega arith)))
    (cases_lt p i)) (cases_lt i p)

-- a token that is read begins where the one in hand does, or behind it
not_before : {text : List ℕ} (before ts : List Token) (t : Token) (bad : Option ℕ) (r :
    Reading text) → IsPast before (t ∷ ts) bad r
    → (i at : ℕ) (p : Part) → IsRead r i at p → (k other : PointKind)
    → (i < length before → ⊥) → (i ≡ length before → part_at text t ≡ p → number k ≤ number other)
    → IsNotAfter k t.start other at
not_before {text = text} before ts t bad r z i at p q k other low same =
    elim (three_ways i (length before)) [
      | inl l ↦ absurd (low l)
      | inr o ↦ elim o [
        | inl e ↦
            let part : part_at text t ≡ p =
            same_Some _ _ (sym (part_here text before ts t)
            ∙ ap (slice_get (parts_of text (before ++ (t ∷ ts)))) (sym e)
            ∙ read_at r _ z.tokens i at p q) in
            let place : t.start ≡ at =
            same_Some _ _ (sym (start_here before ts t)
            ∙ ap (slice_get (starts (before ++ (t ∷ ts)))) (sym e)
            ∙ sym (ap (λ us. slice_get (starts us) i) z.tokens) ∙ q.start) in
            inr (place, same e part)
        | inr l ↦ inl (starts_rise 0 text r.tokens r.bad r.lexed (length before) i t.start at l
            (ap (λ us. slice_get (starts us) (length before)) z.tokens ∙ start_here before ts t)
            q.start)
      ]
    ]

pub past_first : {text : List ℕ} (variables : List Name) (before ts : List Token) (t : Token) (bad :
    Option ℕ) (r : Reading text)
    → IsPast before (t ∷ ts) bad r → IsClean variables (parts_of text before) → (k : PointKind)
    → IsLeast variables text before t k
    → (other : PointKind) (there : ℕ) → HasFault variables r other there
    → IsNotAfter k t.start other there
past_first {text = text} variables before ts t bad r z clean k least other there (bad_token e f) =
    inl (starts_before 0 text r.tokens r.bad r.lexed (length before) t.start there
    (ap (λ us. slice_get (starts us) (length before)) z.tokens ∙ start_here before ts t) f)
past_first {text = text} variables before ts t bad r z clean k least other there (unexpected e) =
    inl (starts_rise 0 text r.tokens r.bad r.lexed (length before) r.taken t.start there z.taken
    (ap (λ us. slice_get (starts us) (length before)) z.tokens ∙ start_here before ts t) e)
past_first {text = text} variables before ts t bad r z clean k least other there (cut_short e f g) =
    inl (let w = start_within 0 text r.tokens r.bad r.lexed (length before) t.start
    (ap (λ us. slice_get (starts us) (length before)) z.tokens ∙ start_here before ts t) in
    omega (arith, w.1))
past_first {text = text} variables before ts t bad r z clean k least other there
    (unknown {i = i} {v = v} q n) =
    not_before before ts t bad r z i there (name v) q k kind.Unknown
    (λ l. no_unknown variables text before (t ∷ ts) clean i v l
    (read_at r _ z.tokens i there (name v) q) n)
    (λ e p. least.unknown v p n)
past_first {text = text} variables before ts t bad r z clean k least other there
    (twice {i = i} {j = j} {before = o} {v = v} q w l) =
    not_before before ts t bad r z i there (name v) q k kind.Twice
    (λ m. no_twice variables text before (t ∷ ts) clean i j v m l
    (read_at r _ z.tokens i there (name v) q) (read_at r _ z.tokens j o (name v) w))
    (λ e p. least.twice v p (
      j,
      part_before text before (t ∷ ts) j (name v) (omega arith)
          (read_at r _ z.tokens j o (name v) w),
    ))
past_first {text = text} variables before ts t bad r z clean k least other there
    (zero_divisor {i = i} {before = o} {digits = d} {l = l} q w h g) =
    let e : i + 1 ≡ suc i = omega arith in
    not_before before ts t bad r z (i + 1) there (literal d) w k kind.ZeroDivisor
    (λ m. no_zero variables text before (t ∷ ts) clean i d l (subst (λ n. n < length before) e m)
    (read_at r _ z.tokens i o slash q) (ap (slice_get (parts_of text (before ++ (t ∷ ts)))) (sym e)
    ∙ read_at r _ z.tokens (i + 1) there (literal d) w) h g)
    (λ f p. least.zero d l p h g)
past_first {text = text} variables before ts t bad r z clean k least other there
    (literal_limit {i = i} {digits = d} q h) =
    not_before before ts t bad r z i there (literal d) q k kind.LiteralLimit
    (λ l. no_limit variables text before (t ∷ ts) clean i d l
    (read_at r _ z.tokens i there (literal d) q) h)
    (λ e p. least.limit d p h)
past_first {text = text} variables before ts t bad r z clean k least other there (missing i h f) =
    inl (let w = start_within 0 text r.tokens r.bad r.lexed (length before) t.start
    (ap (λ us. slice_get (starts us) (length before)) z.tokens ∙ start_here before ts t) in
    omega (arith, w.1))
