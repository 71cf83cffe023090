-- A text has one reading, and one first refusal.
use Rattle.std.proofs.Common.{◌≡◌, ℕ, ◌+◌, Bool, true, false, List, length, take, Option, Some}
use Rattle.std.proofs.Common.{None, IsTrue, ◌↔◌, refl, sym, ap, ◌∙◌, subst, arith}
use Rattle.std.proofs.lemmas.Str.{utf8_valid_len-IsValidUpTo}
use Rattle.fx_model.specs.Fraction.{Fraction}
use Rattle.script_words.specs.Lex.{LexesOnce}
use Rattle.script_words.specs.Words.{Word}
use Rattle.script_words.specs.Named.{words_of}
use Rattle.script_words.proofs.Utf8.{no_both}
use Rattle.script_shape.specs.declared.due.Due.{Due}
use Rattle.script_shape.specs.Shape.{start}
use Rattle.script_shape.specs.Roles.{Leaf}
use Rattle.script_shape.specs.ShapeLaw.{IsShapeOf, ShapeIsUnique, RolesAreUnique, roles_from}
use Rattle.script_judge.specs.declared.refusal.RefusalKind.{RefusalKind}
use Rattle.script_judge.specs.declared.refusal.Refusal.{Refusal}
use Rattle.script_judge.specs.declared.fault.Fault.{Fault}
use Rattle.script_judge.specs.Reading.{Reading, IsReadingOf, IsReadable, IsTextRefusal, too_long}
use Rattle.script_judge.specs.Reading.{not_text, readable, IsFaultOf, refusal, fault}
use Rattle.script_judge.specs.Reading as reading
use Rattle.script_judge.specs.First.{IsFirstRefusal, first_of, refusal_of}
use Rattle.script_judge.specs.First as first
use Rattle.script_judge.specs.Said.{Said, Says}
use Rattle.script_judge.specs.Front.{ReadsFronts}
use Rattle.script_judge.specs.Numbers.{Notes, Tells}
use Rattle.script_judge.specs.Judge.{Seen, nothing_seen, seen_after, refusal_at, Judged}
use Rattle.script_judge.specs.Judge.{none_refused, refused, passed}
use Rattle.script_judge.specs.declared.refusal.RefusalKind.TheVariants as kind
use Rattle.script_judge.proofs.FrontsRead.{says_once}

-- ---- readings

same_fields : (r s : Reading) → r.tokens ≡ s.tokens → r.bad ≡ s.bad → r.words ≡ s.words
    → r.taken ≡ s.taken → r.whole ≡ s.whole → r.leaves ≡ s.leaves → r ≡ s
same_fields r s t b w n h l =
    ap (λ x. record {
      tokens = x;
      bad = r.bad;
      words = r.words;
      taken = r.taken;
      whole = r.whole;
      leaves = r.leaves;
    }) t
    ∙ ap (λ x. record {
      tokens = s.tokens;
      bad = x;
      words = r.words;
      taken = r.taken;
      whole = r.whole;
      leaves = r.leaves;
    }) b
    ∙ ap (λ x. record {
      tokens = s.tokens;
      bad = s.bad;
      words = x;
      taken = r.taken;
      whole = r.whole;
      leaves = r.leaves;
    }) w
    ∙ ap (λ x. record {
      tokens = s.tokens;
      bad = s.bad;
      words = s.words;
      taken = x;
      whole = r.whole;
      leaves = r.leaves;
    }) n
    ∙ ap (λ x. record {
      tokens = s.tokens;
      bad = s.bad;
      words = s.words;
      taken = s.taken;
      whole = x;
      leaves = r.leaves;
    }) h
    ∙ ap (λ x. record {
      tokens = s.tokens;
      bad = s.bad;
      words = s.words;
      taken = s.taken;
      whole = s.whole;
      leaves = x;
    }) l

pub reading_once : LexesOnce → ShapeIsUnique → RolesAreUnique → (text : List ℕ) (r s : Reading)
    → IsReadingOf text r → IsReadingOf text s → r ≡ s
reading_once lexes shapes roles text r s h k =
    let same = lexes text r.tokens s.tokens r.bad s.bad h.lexed k.lexed in
    let words : r.words ≡ s.words = sym h.words ∙ ap (words_of text) same.tokens ∙ k.words in
    let shape = shapes s.words r.taken s.taken r.whole s.whole
    (subst (λ ws. IsShapeOf ws r.taken r.whole) words h.shape) k.shape in
    let front : take r.taken r.words ≡ take s.taken s.words =
    ap (take r.taken) words ∙ ap (λ n. take n s.words) shape.0 in
    let leaves : r.leaves ≡ s.leaves =
    roles _ _ h.roles ∙ ap (λ ws. roles_from ws start) front ∙ sym (roles _ _ k.roles) in
    same_fields r s same.tokens same.bad words shape.0 shape.1 leaves

-- ---- texts that aren't read

read_and_not : (text : List ℕ) (o : Option Refusal) (r : Refusal) → o ≡ Some r
    → IsTextRefusal text o → IsReadable text → ⊥
read_and_not text o r e (too_long h) k = omega (arith, k.0)
read_and_not text o r e (not_text {at = at} h v) k = no_both text at v k.1
read_and_not text o r e (readable h) k = cc e

text_once : (text : List ℕ) (a b : Option Refusal) → IsTextRefusal text a
    → IsTextRefusal text b → a ≡ b
text_once text a b (too_long h) (too_long k) = refl
text_once text a b (too_long h) (not_text k v) = absurd (omega arith)
text_once text a b (too_long h) (readable k) = absurd (omega (arith, k.0))
text_once text a b (not_text h v) (too_long k) = absurd (omega arith)
text_once text a b (not_text {at = m} h v) (not_text {at = n} k w) =
    ap (λ i. Some (refusal kind.NotText i))
    (sym (utf8_valid_len-IsValidUpTo text m v) ∙ utf8_valid_len-IsValidUpTo text n w)
text_once text a b (not_text {at = at} h v) (readable k) = absurd (no_both text at v k.1)
text_once text a b (readable h) (too_long k) = absurd (omega (arith, h.0))
text_once text a b (readable h) (not_text {at = at} k v) = absurd (no_both text at v h.1)
text_once text a b (readable h) (readable k) = refl

module _ (lexes : LexesOnce) (shapes : ShapeIsUnique) (roles : RolesAreUnique) where
  pub fault_once : (text : List ℕ) (a b : Option Refusal) → IsFaultOf text a
      → IsFaultOf text b → a ≡ b
  fault_once text a b (reading.unread h) (reading.unread k) = text_once text _ _ h k
  fault_once text a b (reading.unread h) (reading.read k s) =
      absurd (read_and_not text _ _ refl h k)
  fault_once text a b (reading.read h r) (reading.unread k) =
      absurd (read_and_not text _ _ refl k h)
  fault_once text a b (reading.read {r = x} h r) (reading.read {r = y} k s) =
      ap (fault (length text)) (reading_once lexes shapes roles text x y r s)

-- ---- the judge

same_truth : (a b : Bool) (P : Type 0) → IsTrue a ↔ P → IsTrue b ↔ P → a ≡ b
same_truth true true P h k = refl
same_truth true false P h k = sym (k.1 (h.0 refl))
same_truth false true P h k = h.1 (k.0 refl)
same_truth false false P h k = refl

-- a number is told by what it is
same_number : (a b : Option Fraction) (P : Fraction → Type 0)
    → ((x : Fraction) → (a ≡ Some x) ↔ P x) → ((x : Fraction) → (b ≡ Some x) ↔ P x) → a ≡ b
same_number (Some x) b P h k = sym ((k x).1 ((h x).0 refl))
same_number None (Some y) P h k = (h y).1 ((k y).0 refl)
same_number None None P h k = refl

same_notes : (r : Due) (w : Word) (ls : List Leaf) (v u : Notes) → Tells v r w ls
    → Tells u r w ls → v ≡ u
same_notes r w ls v u h k =
    let past = same_truth v.past u.past _ h.past k.past in
    let number = same_number v.number u.number _ h.number k.number in
    λ i. record { past = past i; number = number i }

same_kind : (seen : Seen) (l : Leaf) (ls : List Leaf) (v w : Notes) (a b : Option RefusalKind)
    → Tells v l.role l.word ls → Tells w l.role l.word ls
    → refusal_at v seen l.role l.word ls ≡ a → refusal_at w seen l.role l.word ls ≡ b → a ≡ b
same_kind seen l ls v w a b h k e f =
    sym e ∙ ap (λ x. refusal_at x seen l.role l.word ls) (same_notes l.role l.word ls v w h k) ∙ f

abbrev kind_in : Option RefusalKind → RefusalKind → RefusalKind
kind_in None k = k
kind_in (Some j) k = j

pub judged_once : {i : ℕ} {seen : Seen} {leaves : List Leaf} {a b : Option Fault}
    → Judged i seen leaves a → Judged i seen leaves b → a ≡ b
judged_once none_refused none_refused = refl
judged_once {i} {seen} (refused {l = l} {ls = ls} {v = v} {k = j} t e)
    (refused {v = w} {k = k} u f) =
    ap (λ x. Some (record { kind = kind_in x j; word = i }))
    (same_kind seen l ls v w (Some j) (Some k) t u e f)
judged_once {i} {seen} (refused {l = l} {ls = ls} {v = v} {k = j} t e) (passed {v = w} u f r) =
    let h = same_kind seen l ls v w (Some j) None t u e f in absurd (cc h)
judged_once {i} {seen} (passed {l = l} {ls = ls} {v = v} t e r) (refused {v = w} {k = k} u f) =
    let h = same_kind seen l ls v w None (Some k) t u e f in absurd (cc h)
judged_once {i} {seen} (passed {l = l} {ls = ls} {v = v} {found = a} t e r) (passed {v = w} u f s) =
    judged_once (subst (λ x. Judged (i + 1) (seen_after x seen l.role l.word) ls a)
    (same_notes l.role l.word ls v w t u) r) s

module _ (lexes : LexesOnce) (shapes : ShapeIsUnique) (roles : RolesAreUnique)
    (fronts : ReadsFronts)
  where
    same_first : (text : List ℕ) (x y : Reading) (a b : Option Said) (f g : Option Fault) → x ≡ y
        → Says x.leaves a → Says y.leaves b
        → Judged 0 (nothing_seen a) x.leaves f → Judged 0 (nothing_seen b) y.leaves g
        → first_of (fault (length text) x) (refusal_of x f)
        ≡ first_of (fault (length text) y) (refusal_of y g)
    same_first text x y a b f g e p q h k =
        let says : Says y.leaves a = subst (λ (r : Reading). Says r.leaves a) e p in
        let there : Judged 0 (nothing_seen b) y.leaves f =
        subst (λ s. Judged 0 (nothing_seen s) y.leaves f) (says_once fronts y.leaves a b says q)
        (subst (λ (r : Reading). Judged 0 (nothing_seen a) r.leaves f) e h) in
        ap (λ (r : Reading). first_of (fault (length text) r) (refusal_of r f)) e
        ∙ ap (λ o. first_of (fault (length text) y) (refusal_of y o)) (judged_once there k)

    pub first_once : (text : List ℕ) (a b : Option Refusal) → IsFirstRefusal text a
        → IsFirstRefusal text b → a ≡ b
    first_once text a b (first.unread h) (first.unread k) = text_once text _ _ h k
    first_once text a b (first.unread h) (first.read k s q j) =
        absurd (read_and_not text _ _ refl h k)
    first_once text a b (first.read h r p i) (first.unread k) =
        absurd (read_and_not text _ _ refl k h)
    first_once text a b (first.read {r = x} {said = m} {found = f} h r p i)
        (first.read {r = y} {said = n} {found = g} k s q j) =
        same_first text x y m n f g (reading_once lexes shapes roles text x y r s) p q i j
