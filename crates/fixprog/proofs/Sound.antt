-- A text without a fault spells a program, and nothing is wrong in it.
use Rattle.std.proofs.Common.{◌≡◌, ⊎_elim, ℕ, ◌<◌, Bool, true, false, List, [], ◌∷◌, length, take}
use Rattle.std.proofs.Common.{Option, Some, None, refl, sym, ap, ◌∙◌, subst, arith, append-nil}
use Rattle.std.specs.List.{All, Contains}
use Rattle.std.proofs.lemmas.Bool.{cases_lt}
use Rattle.std.proofs.lemmas.List.Elements.{All-contains, All-nil}
use Rattle.std.proofs.Math.Seq.{take-length}
use Rattle.fixprog.specs.declared.fault.ProgFault.{ProgFault}
use Rattle.fixprog.specs.Lex.{IsToken, Lexes, words_of}
use Rattle.fixprog.specs.Grammar.{Program, program_words}
use Rattle.fixprog.specs.Faults.{Fault, program_faults}
use Rattle.fixprog.specs.First.{Reading, IsReadingOf, HasFault, out_of_place, no_token, cut_short}
use Rattle.fixprog.specs.First.{judged, IsReadable, IsFirstFault, too_long, not_text, first}
use Rattle.fixprog.specs.First.{faultless, Spells, SpellsAll, SpelledAreFaultless}
use Rattle.fixprog.specs.Standing.{is_whole}
use Rattle.fixprog.proofs.Finding.{Course, course_of, nothing_judged}
use Rattle.fixprog.specs.Answer.{ScriptsAreText}
use Rattle.fixprog.proofs.LexedOnce.{lexed_once}
use Rattle.fixprog.proofs.Courses.{course_goes, nothing_is_course}
use Rattle.fixprog.proofs.ProgramCourse.{program_course}
use Rattle.fixprog.proofs.Decided.{IsTakenBy, none_begins, not_program, complete_program}
use Rattle.fixprog.proofs.AsciiScript.{script_utf8}

-- The text is read to its end, and has no fault.
record IsSound (text : List ℕ) (r : Reading) : Type 0 where
  readable : IsReadable text
  reading : IsReadingOf text r
  none : (f : ProgFault) → ¬ HasFault text r f
  all : r.taken ≡ length r.words
  ends : r.bad ≡ None

all_taken : (text : List ℕ) (r : Reading) → IsReadingOf text r
    → ((f : ProgFault) → ¬ HasFault text r f) → r.taken ≡ length r.words
all_taken text r k m = ⊎_elim (λ l. absurd (m _ (out_of_place l)))
    (λ g. let w = k.within in omega arith) (cases_lt r.taken (length r.words))

no_end : (text : List ℕ) (r : Reading) → r.taken ≡ length r.words
    → ((f : ProgFault) → ¬ HasFault text r f) → (o : Option ℕ) → r.bad ≡ o → r.bad ≡ None
no_end text r t m None e = e
no_end text r t m (Some at) e = absurd (m _ (no_token t e))

sound_reading : (text : List ℕ) {o : Option ProgFault} → IsFirstFault text o → o ≡ None
    → (r : Reading) × IsSound text r
sound_reading text (too_long h) e = absurd (cc)
sound_reading text (not_text h v) e = absurd (cc)
sound_reading text (first u k f m) e = absurd (cc)
sound_reading text (faultless {r = r} u k m) e =
    let t = all_taken text r k m in (
      r,
      record {
        readable = u;
        reading = k;
        none = m;
        all = t;
        ends = no_end text r t m r.bad refl;
      },
    )

took_all : (text : List ℕ) (r : Reading) → IsSound text r → take r.taken r.words ≡ r.words
took_all text r w = ap (λ n. take n r.words) w.all ∙ take-length r.words

none_contained : (xs : List Fault) → ((f : Fault) → Contains xs f → ⊥) → xs ≡ []
none_contained [] h = refl
none_contained (x ∷ xs) h = absurd (h x (0, omega arith, refl))

pub spelled_faultless : SpelledAreFaultless
spelled_faultless text p s =
    let x = sound_reading text s.accepted refl in
    let r = x.0 in
    let w = x.1 in
    let same = lexed_once w.reading.lexed s.lexed in
    let words : r.words ≡ program_words p =
    sym w.reading.words ∙ ap (words_of text) same.tokens ∙ sym s.words in
    let took : take r.taken r.words ≡ program_words p = took_all text r w ∙ words in
    let count : r.taken ≡ length (program_words p) = w.all ∙ ap length words in
    let c = program_course p in
    let g = (course_goes (program_words p) nothing_judged c.0 [] nothing_is_course c.1).0 in
    let told : All (λ f. f.told < length (program_words p)) (program_faults p) =
    subst (All (λ f. f.told < length (program_words p))) c.2.faults g.told in
    none_contained (program_faults p)
    (λ f m. w.none _ (judged {p = p} {f = f}
    (record {
      more = [];
      words = sym took ∙ sym (append-nil (take r.taken r.words));
      spelled = All-nil IsToken;
    }) m
    (subst (λ n. f.told < n) (sym count)
    (All-contains (λ f. f.told < length (program_words p)) (program_faults p) f told m))))

pub scripts_are_text : ScriptsAreText
scripts_are_text text p s = script_utf8 text p s (spelled_faultless text p s)

-- ---- each text without a fault

taken_by : (text : List ℕ) (r : Reading) (c : Course) → IsSound text r
    → course_of (Some nothing_judged) r.words ≡ Some c → IsTakenBy text r c
taken_by text r c w e =
    let took = took_all text r w in
    let comes : course_of (Some nothing_judged) (take r.taken r.words) ≡ Some c =
    ap (course_of (Some nothing_judged)) took ∙ e in
    record {
      lexed = w.reading.lexed;
      words = w.reading.words;
      within = w.reading.within;
      comes = comes;
      is = (course_goes (take r.taken r.words) nothing_judged c [] nothing_is_course comes).0;
      stuck = λ l. absurd (let a = w.all in omega arith);
    }

program_by : (text : List ℕ) (r : Reading) (c : Course) → IsSound text r
    → course_of (Some nothing_judged) r.words ≡ Some c → (b : Bool) → is_whole c.stands ≡ b
    → (p : Program) × Spells text p
program_by text r c w e true v =
    let x = complete_program c r.words
    (course_goes r.words nothing_judged c [] nothing_is_course e).0 v in (
      x.program,
      record {
        accepted = faultless {r = r} w.readable w.reading w.none;
        tokens = r.tokens;
        lexed = subst (λ o. Lexes 0 text r.tokens o) w.ends w.reading.lexed;
        words = x.words ∙ sym w.reading.words;
      },
    )
program_by text r c w e false v =
    absurd (w.none _ (cut_short w.all w.ends
    (not_program text r c (taken_by text r c w e) w.all v)))

by_course : (text : List ℕ) (r : Reading) → IsSound text r → (o : Option Course)
    → course_of (Some nothing_judged) r.words ≡ o → (p : Program) × Spells text p
by_course text r w (Some c) e = program_by text r c w e (is_whole c.stands) refl
by_course text r w None e =
    let b = w.reading.begins in
    absurd (none_begins (take r.taken r.words) b.0 b.1
    (ap (course_of (Some nothing_judged)) (took_all text r w) ∙ e))

pub spells_all : SpellsAll
spells_all text a =
    let x = sound_reading text a refl in
    by_course text x.0 x.1 (course_of (Some nothing_judged) x.0.words) refl
