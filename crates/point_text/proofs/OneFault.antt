-- A text has one fault at most.
use Rattle.std.specs.Prelude.{◌≡◌, ℕ, ◌+◌, ◌<◌, ◌≤◌, ◌++◌, List, [], ◌∷◌, length, take, slice_get}
use Rattle.std.specs.Prelude.{slice_index_or, map, Some, refl}
use Rattle.std.proofs.Common.{sym, ap, ◌∙◌, subst, inl, inr, ⊎_elim, arith, append_assoc}
use Rattle.std.proofs.lemmas.Bool.{cases_lt}
use Rattle.std.proofs.lemmas.List.{take-take}
use Rattle.std.proofs.lemmas.Str.{utf8_valid_len-IsValidUpTo}
use Rattle.script_words.specs.Lex.{LexesOnce}
use Rattle.script_words.proofs.Utf8.{no_both}
use Rattle.script_nodes.specs.Known.{Name}
use Rattle.point_text.specs.declared.fault.PointKind.{PointKind}
use Rattle.point_text.specs.declared.fault.PointKind.TheVariants as kind
use Rattle.point_text.specs.declared.fault.PointFault.{PointFault}
use Rattle.point_text.specs.Points.{Part, name, literal, slash, parts_of, Begins}
use Rattle.point_text.specs.PointFaults.{Reading, IsRead, HasFault, bad_token, unexpected}
use Rattle.point_text.specs.PointFaults.{cut_short, unknown, twice, zero_divisor, literal_limit}
use Rattle.point_text.specs.PointFaults.{missing, number, IsNotAfter, IsPointFault, too_long}
use Rattle.point_text.specs.PointFaults.{not_text, first}
use Rattle.point_text.proofs.Spelled.{front_split}

-- ---- a text is read to one token

-- the same tokens, read as far
record IsSameReading {text : List ℕ} (r q : Reading text) : Type 0 where
  tokens : r.tokens ≡ q.tokens
  bad : r.bad ≡ q.bad
  taken : r.taken ≡ q.taken

front_begins : (n : ℕ) (ps : List Part) → Begins ps → Begins (take n ps)
front_begins n ps b =
    let w = front_split n ps in (
      b.0,
      w.0 ++ b.1,
      b.2 ∙ ap (λ x. x ++ b.1) w.1 ∙ append_assoc (take n ps) w.0 b.1,
    )

no_farther : {text : List ℕ} (r q : Reading text) → r.tokens ≡ q.tokens → q.taken ≤ r.taken
no_farther {text = text} r q same =
    ⊎_elim (λ l. absurd (farther l)) (λ l. l) (cases_lt r.taken q.taken)
  where
    farther : r.taken < q.taken → ⊥
    farther l =
        let ps = parts_of text q.tokens in
        let count = ap length same in
        let within = q.within in
        let e = take-take (r.taken + 1) q.taken ps (omega arith) in
        let b = front_begins (r.taken + 1) (take q.taken ps) q.begins in
        r.ends (omega arith)
        (subst (λ ts. Begins (take (r.taken + 1) (parts_of text ts))) (sym same) (subst Begins e b))

same_reading : LexesOnce → {text : List ℕ} (r q : Reading text) → IsSameReading r q
same_reading once {text = text} r q =
    let s = once text r.tokens q.tokens r.bad q.bad r.lexed q.lexed in
    let a = no_farther r q s.tokens in
    let b = no_farther q r (sym s.tokens) in
    record { tokens = s.tokens; bad = s.bad; taken = omega arith }

back : {text : List ℕ} {r q : Reading text} → IsSameReading r q → IsSameReading q r
back s = record { tokens = sym s.tokens; bad = sym s.bad; taken = sym s.taken }

-- ---- its faults are those of each reading

module _ {text : List ℕ} (variables : List Name) (r q : Reading text) (s : IsSameReading r q) where
  read_too : (i at : ℕ) (p : Part) → IsRead r i at p → IsRead q i at p
  read_too i at p h = record {
    read = subst (λ n. i < n) s.taken h.read;
    part = subst (λ ts. slice_get (parts_of text ts) i ≡ Some p) s.tokens h.part;
    start = subst (λ ts. slice_get (map (λ t. t.start) ts) i ≡ Some at) s.tokens h.start;
  }

  unread_too : (i at : ℕ) (p : Part) → ¬ IsRead r i at p → ¬ IsRead q i at p
  unread_too i at p n h = n (record {
    read = subst (λ m. i < m) (sym s.taken) h.read;
    part = subst (λ ts. slice_get (parts_of text ts) i ≡ Some p) (sym s.tokens) h.part;
    start = subst (λ ts. slice_get (map (λ t. t.start) ts) i ≡ Some at) (sym s.tokens) h.start;
  })

  all_too : r.taken ≡ length r.tokens → q.taken ≡ length q.tokens
  all_too e = sym s.taken ∙ e ∙ ap length s.tokens

  fault_too : (k : PointKind) (at : ℕ) → HasFault variables r k at → HasFault variables q k at
  fault_too k at (bad_token e b) = bad_token (all_too e) (sym s.bad ∙ b)
  fault_too k at (unexpected e) =
      unexpected (subst (λ ts. slice_get (map (λ t. t.start) ts) q.taken ≡ Some at) s.tokens
      (subst (λ n. slice_get (map (λ t. t.start) r.tokens) n ≡ Some at) s.taken e))
  fault_too k at (cut_short e b n) =
      cut_short (all_too e) (sym s.bad ∙ b) (λ es f. n es (ap (parts_of text) s.tokens ∙ f))
  fault_too k at (unknown {i = i} {v = v} h n) = unknown (read_too i at (name v) h) n
  fault_too k at (twice {i = i} {j = j} {before = before} {v = v} h g l) =
      twice (read_too i at (name v) h) (read_too j before (name v) g) l
  fault_too k at (zero_divisor {i = i} {before = before} {digits = d} h g e z) =
      zero_divisor (read_too i before slash h) (read_too (i + 1) at (literal d) g) e z
  fault_too k at (literal_limit {i = i} {digits = d} h u) =
      literal_limit (read_too i at (literal d) h) u
  fault_too k at (missing i {v = v} h n) =
      missing i h (λ j a. unread_too j a (name v) (n j a))

-- ---- the first is one

-- the kinds by their numbers, and none at 0
kinds : List PointKind
kinds = kind.Missing
    ∷ (kind.NotText
    ∷ (kind.BadToken
    ∷ (kind.Unexpected
    ∷ (kind.Unknown
    ∷ (kind.Twice ∷ (kind.ZeroDivisor ∷ (kind.LiteralLimit ∷ (kind.Limit ∷ []))))))))

kind_at : ℕ → PointKind
kind_at n = slice_index_or kinds n kind.Missing

kind_of_number : (k : PointKind) → kind_at (number k) ≡ k
unfolding kind_at kinds
kind_of_number kind.NotText = refl
kind_of_number kind.BadToken = refl
kind_of_number kind.Unexpected = refl
kind_of_number kind.Unknown = refl
kind_of_number kind.Twice = refl
kind_of_number kind.ZeroDivisor = refl
kind_of_number kind.LiteralLimit = refl
kind_of_number kind.Limit = refl
kind_of_number kind.Missing = refl

fault_of : PointKind → ℕ → PointFault
fault_of k at = record { kind = k; at = at }

same_fault : (k j : PointKind) (at there : ℕ) → IsNotAfter k at j there → IsNotAfter j there k at
    → fault_of k at ≡ fault_of j there
same_fault k j at there (inl l) (inl m) = absurd (omega arith)
same_fault k j at there (inl l) (inr (e, m)) = absurd (omega arith)
same_fault k j at there (inr (e, m)) (inl l) = absurd (omega arith)
same_fault k j at there (inr (e, m)) (inr (f, n)) =
    let same : number k ≡ number j = omega arith in
    ap (λ i. fault_of i at) (sym (kind_of_number k) ∙ ap kind_at same ∙ kind_of_number j)
    ∙ ap (fault_of j) e

pub faults_once : LexesOnce → (variables : List Name) (text : List ℕ) (f g : PointFault)
    → IsPointFault variables text f → IsPointFault variables text g → f ≡ g
unfolding fault_of
faults_once once variables text f g (too_long l) (too_long m) = refl
faults_once once variables text f g (too_long l) (not_text m v) = absurd (omega arith)
faults_once once variables text f g (too_long l) (first short r h b) =
    let m = short.0 in absurd (omega arith)
faults_once once variables text f g (not_text l v) (too_long m) = absurd (omega arith)
faults_once once variables text f g (not_text {at = a} l v) (not_text {at = b} m w) =
    let same = sym (utf8_valid_len-IsValidUpTo text a v) ∙ utf8_valid_len-IsValidUpTo text b w in
    ap (fault_of kind.NotText) same
faults_once once variables text f g (not_text {at = a} l v) (first short r h b) =
    absurd (no_both text a v short.1)
faults_once once variables text f g (first short r h b) (too_long m) =
    let l = short.0 in absurd (omega arith)
faults_once once variables text f g (first short r h b) (not_text {at = a} m v) =
    absurd (no_both text a v short.1)
faults_once once variables text f g (first {k = k} {at = a} short r h least)
    (first {k = j} {at = b} again q i lowest) =
    let s = same_reading once r q in
    same_fault k j a b (least j b (fault_too variables q r (back s) j b i))
    (lowest k a (fault_too variables r q s k a h))
