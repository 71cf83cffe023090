-- A text has one reading, and one first fault.
use Rattle.std.proofs.Common.{◌≡◌, ⊎_elim, ℕ, ◌+◌, ◌<◌, ◌≤◌, nat_lt, ◌==◌, ◌&&◌, ◌||◌, false, List}
use Rattle.std.proofs.Common.{[], ◌∷◌, ◌++◌, ◌-◌, length, take, drop, Option, Some, None, refl, sym}
use Rattle.std.proofs.Common.{ap, ◌∙◌, subst, arith, if◌then◌else◌}
use Rattle.std.proofs.lemmas.Str.{utf8_valid_len-IsValidUpTo}
use Rattle.std.proofs.lemmas.Bool.{cases_lt}
use Rattle.std.proofs.Math.Seq.{take-add}
use Rattle.script_words.proofs.Utf8.{no_both}
use Rattle.fixprog.specs.declared.fault.ProgKind.{ProgKind}
use Rattle.fixprog.specs.declared.fault.ProgKind.TheVariants as kind
use Rattle.fixprog.specs.declared.fault.ProgFault.{ProgFault}
use Rattle.fixprog.specs.Words.{Name, Word}
use Rattle.fixprog.specs.Grammar.{Program, outputs, program_words}
use Rattle.fixprog.specs.Lex.{words_of}
use Rattle.fixprog.specs.First.{BeginsProgram, Reading, IsReadingOf, fault, HasFault, number}
use Rattle.fixprog.specs.First.{is_before, too_long, not_text, first, faultless, FirstsAreUnique}
use Rattle.fixprog.specs.First.{SpellsOnce}
use Rattle.fixprog.proofs.Finding.{Course, course_of, nothing_judged}
use Rattle.fixprog.proofs.LexedOnce.{lexed_once}
use Rattle.fixprog.proofs.Courses.{course_goes, course_of-append, none_stays, nothing_is_course}
use Rattle.fixprog.proofs.Completed.{begins_some}
use Rattle.fixprog.proofs.ProgramCourse.{program_course}
use Rattle.fixprog.proofs.Decided.{none_begins}
use Rattle.fixprog.proofs.Common.{one_value}

-- ---- readings

-- Words begin a program where they have a course.
course_begins : (ws : List Word) (c : Course) → course_of (Some nothing_judged) ws ≡ Some c
    → BeginsProgram ws
course_begins ws c e = let b = begins_some c ws
    (course_goes ws nothing_judged c [] nothing_is_course e).0 in (b.program, b.begins)

begins_front : (ws vs : List Word) → BeginsProgram (ws ++ vs) → BeginsProgram ws
begins_front ws vs b = by_course (course_of (Some nothing_judged) ws) refl
  where
    by_course : (o : Option Course) → course_of (Some nothing_judged) ws ≡ o → BeginsProgram ws
    by_course (Some c) e = course_begins ws c e
    by_course None e = absurd (none_begins (ws ++ vs) b.0 b.1
        (course_of-append ws vs (Some nothing_judged) ∙ ap (λ o. course_of o vs) e ∙ none_stays vs))

-- fewer words begin a program, too
fewer_begin : (ws : List Word) (m n : ℕ) → m ≤ n → BeginsProgram (take n ws)
    → BeginsProgram (take m ws)
fewer_begin ws m n h b = let e : n ≡ m + (n - m) = omega arith in
    begins_front (take m ws) (take (n - m) (drop m ws)) (subst BeginsProgram (ap (λ k. take k ws) e
    ∙ take-add m (n - m) ws) b)

not_more : (text : List ℕ) (r t : Reading) → r.words ≡ t.words → IsReadingOf text r
    → IsReadingOf text t → r.taken < t.taken → ⊥
not_more text r t e h k l =
    let w = k.within in
    let n = ap length e in
    h.most (omega arith) (fewer_begin r.words (r.taken + 1) t.taken (omega arith)
    (subst (λ ws. BeginsProgram (take t.taken ws)) (sym e) k.begins))

same_taken : (m n : ℕ) → (m < n → ⊥) → (n < m → ⊥) → m ≡ n
same_taken m n h k = ⊎_elim (λ l. absurd (h l)) (λ l. ⊎_elim (λ g. absurd (k g)) (λ g. omega arith)
    (cases_lt n m)) (cases_lt m n)

same_fields : (r t : Reading) → r.tokens ≡ t.tokens → r.bad ≡ t.bad → r.words ≡ t.words → r.taken
    ≡ t.taken → r ≡ t
same_fields r t a b w n =
    ap (λ x. record { tokens = x; bad = r.bad; words = r.words; taken = r.taken }) a
    ∙ ap (λ x. record { tokens = t.tokens; bad = x; words = r.words; taken = r.taken }) b
    ∙ ap (λ x. record { tokens = t.tokens; bad = t.bad; words = x; taken = r.taken }) w
    ∙ ap (λ x. record { tokens = t.tokens; bad = t.bad; words = t.words; taken = x }) n

reading_once : (text : List ℕ) (r t : Reading) → IsReadingOf text r → IsReadingOf text t → r ≡ t
reading_once text r t h k =
    let same = lexed_once h.lexed k.lexed in
    let words : r.words ≡ t.words = sym h.words ∙ ap (words_of text) same.tokens ∙ k.words in
    same_fields r t same.tokens same.bad words
    (same_taken r.taken t.taken (not_more text r t words h k)
    (not_more text t r (sym words) k h))

-- ---- first faults

kind_at : ℕ → ProgKind
kind_at n =
    if n == 1 then kind.NotText else if n == 2 then kind.BadToken else if n == 3
    then kind.Unexpected else if n == 4 then kind.BadFormat else if n == 5 then kind.Undefined
    else if n == 6 then kind.NameUsed else if n == 7 then kind.BadRange else if n == 8
    then kind.LiteralLimit else if n == 9 then kind.BadDirection else kind.Limit

kind_is : (k : ProgKind) → kind_at (number k) ≡ k
unfolding kind_at
kind_is kind.NotText = refl
kind_is kind.BadToken = refl
kind_is kind.Unexpected = refl
kind_is kind.BadFormat = refl
kind_is kind.Undefined = refl
kind_is kind.NameUsed = refl
kind_is kind.BadRange = refl
kind_is kind.LiteralLimit = refl
kind_is kind.BadDirection = refl
kind_is kind.Limit = refl

neither : (a b c d : ℕ) → (nat_lt a c || (a == c && nat_lt b d)) ≡ false
    → (nat_lt c a || (c == a && nat_lt d b)) ≡ false → (a ≡ c) × (b ≡ d)
neither a b c d h k = let e : a ≡ c = grind arith in (e, grind arith)

both_first : (f g : ProgFault) → is_before f g ≡ false → is_before g f ≡ false → f ≡ g
both_first f g h k =
    let n = neither f.at (number f.kind) g.at (number g.kind) h k in
    let kinds : f.kind ≡ g.kind = sym (kind_is f.kind) ∙ ap kind_at n.1 ∙ kind_is g.kind in
    ap (λ x. record { kind = x; at = f.at }) kinds ∙ ap (λ x. record { kind = g.kind; at = x }) n.0

pub firsts_are_unique : FirstsAreUnique
firsts_are_unique text a b (too_long h) (too_long k) = refl
firsts_are_unique text a b (too_long h) (not_text k v) = absurd (omega arith)
firsts_are_unique text a b (too_long h) (first u r f m) = absurd (omega (arith, u.0))
firsts_are_unique text a b (too_long h) (faultless u r m) = absurd (omega (arith, u.0))
firsts_are_unique text a b (not_text k v) (too_long h) = absurd (omega arith)
firsts_are_unique text a b (not_text {at = m} h v) (not_text {at = n} k w) =
    ap (λ i. Some (fault kind.NotText i)) (sym (utf8_valid_len-IsValidUpTo text m v)
    ∙ utf8_valid_len-IsValidUpTo text n w)
firsts_are_unique text a b (not_text {at = at} k v) (first u r f m) = absurd (no_both text at v u.1)
firsts_are_unique text a b (not_text {at = at} k v) (faultless u r m) =
    absurd (no_both text at v u.1)
firsts_are_unique text a b (first u r f m) (too_long h) = absurd (omega (arith, u.0))
firsts_are_unique text a b (first u r f m) (not_text {at = at} k v) = absurd (no_both text at v u.1)
firsts_are_unique text a b (first {r = r} {f = f} u h x m) (first {r = t} {f = g} v k y n) =
    let same = reading_once text r t h k in
    ap (λ z. Some z) (both_first f g (n f (subst (λ q. HasFault text q f) same x))
    (m g (subst (λ q. HasFault text q g) (sym same) y)))
firsts_are_unique text a b (first {r = r} {f = f} u h x m) (faultless {r = t} v k n) =
    absurd (n f (subst (λ q. HasFault text q f) (reading_once text r t h k) x))
firsts_are_unique text a b (faultless u r m) (too_long h) = absurd (omega (arith, u.0))
firsts_are_unique text a b (faultless u r m) (not_text {at = at} k v) =
    absurd (no_both text at v u.1)
firsts_are_unique text a b (faultless {r = t} v k n) (first {r = r} {f = f} u h x m) =
    absurd (n f (subst (λ q. HasFault text q f) (reading_once text r t h k) x))
firsts_are_unique text a b (faultless u r m) (faultless v t n) = refl

-- ---- programs

same_program : (p q : Program) → p.inputs ≡ q.inputs → p.steps ≡ q.steps → outputs p ≡ outputs q
    → p ≡ q
same_program p q i t o =
    ap (λ x. record {
      inputs = x;
      steps = p.steps;
      output = p.output;
      more_outputs =
          p.more_outputs;
    }) i ∙ ap (λ x. record {
      inputs = q.inputs;
      steps = x;
      output =
          p.output;
      more_outputs = p.more_outputs;
    }) t
    ∙ ap (λ x. record {
      inputs = q.inputs;
      steps = q.steps;
      output = first_in x;
      more_outputs =
          rest_in x;
    }) o
  where
    first_in : List Name → Name
    first_in [] = []
    first_in (x ∷ xs) = x

    rest_in : List Name → List Name
    rest_in [] = []
    rest_in (x ∷ xs) = xs

pub spells_once : SpellsOnce
spells_once text p q h k =
    let same = lexed_once h.lexed k.lexed in
    let words : program_words p ≡ program_words q = h.words ∙ ap (words_of text) same.tokens
    ∙ sym k.words in
    let x = program_course p in
    let y = program_course q in
    let course : y.0 ≡ x.0 = one_value x.0 y.0 (sym x.1
    ∙ ap (course_of (Some nothing_judged)) words ∙ y.1) in
    same_program p q (sym x.2.inputs ∙ ap (λ c. c.stands.inputs) (sym course) ∙ y.2.inputs)
    (sym x.2.steps ∙ ap (λ c. c.stands.steps) (sym course) ∙ y.2.steps)
    (sym x.2.outputs ∙ ap (λ c. c.stands.outputs) (sym course) ∙ y.2.outputs)
