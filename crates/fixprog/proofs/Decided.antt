-- The first fault of a text, from the course of its words.
use Rattle.std.proofs.Common.{◌≡◌, ⊎_elim, ℕ, zero, suc, ◌+◌, ◌<◌, ◌≤◌, true, false, List, [], ◌∷◌}
use Rattle.std.proofs.Common.{◌++◌, length, take, map, Option, Some, None, refl, sym, ap, ◌∙◌}
use Rattle.std.proofs.Common.{subst, arith, append-nil, get_or}
use Rattle.std.specs.List.{All, Contains}
use Rattle.std.proofs.lemmas.List.Elements.{All-contains, Contains-push, Contains-append_left}
use Rattle.std.proofs.lemmas.List.Elements.{Contains-append_right, Contains-append_cases}
use Rattle.std.proofs.lemmas.List.{get_or-map, length-map, length-take-le}
use Rattle.std.proofs.Math.Seq.{take-length}
use Rattle.fixprog.specs.declared.fault.ProgKind.TheVariants as kind
use Rattle.fixprog.specs.declared.fault.ProgFault.{ProgFault}
use Rattle.fixprog.specs.declared.token.ProgramToken.{ProgramToken}
use Rattle.fixprog.specs.Words.{Name, Word}
use Rattle.fixprog.specs.Lex.{Lexes, words_of}
use Rattle.fixprog.specs.Grammar.{input, step, output, words_from, Program, outputs, program_words}
use Rattle.fixprog.specs.Faults.{Fault, program_faults}
use Rattle.fixprog.specs.First.{IsProgram, Begins, Reading, IsReadingOf, fault, start_of, HasFault}
use Rattle.fixprog.specs.First.{out_of_place, no_token, cut_short, judged, is_before, IsReadable}
use Rattle.fixprog.specs.First.{IsFirstFault, first, faultless}
use Rattle.fixprog.specs.Views.{program_with}
use Rattle.fixprog.specs.Standing.{Part, between, Standing, is_whole}
use Rattle.fixprog.proofs.Standing.{part_words}
use Rattle.fixprog.proofs.Finding.{placed, Course, course_of, nothing_judged}
use Rattle.fixprog.specs.Finding.{first_from}
use Rattle.fixprog.proofs.Course.{whole, IsCourse}
use Rattle.fixprog.proofs.Courses.{course_goes, course_of-append, none_stays}
use Rattle.fixprog.proofs.Completed.{begins_some}
use Rattle.fixprog.proofs.ProgramCourse.{program_course}
use Rattle.fixprog.proofs.Least.{IsFirstOf, first_of}
use Rattle.fixprog.proofs.Common.{one_value}

-- what is among mapped values
contains_map : {A B : Type 0} (f : A → B) (xs : List A) (x : A) → Contains xs x
    → Contains (map f xs) (f x)
contains_map f xs x h = (
  h.0,
  subst (λ n. h.0 < n) (sym (length-map xs f)) h.1,
  get_or-map f xs h.0 x (f x) h.1 ∙ ap f h.2,
)

mapped_at : {A B : Type 0} (f : A → B) (xs : List A) (y : B) (k : ℕ) → k < length xs
    → get_or (map f xs) k y ≡ y → (x : A) × Contains xs x × (f x ≡ y)
mapped_at f [] y k l e = absurd (omega arith)
mapped_at f (x ∷ xs) y zero l e = (x, (0, omega arith, refl), e)
mapped_at f (x ∷ xs) y (suc k) l e = let r = mapped_at f xs y k (omega arith) e in
    (r.0, (suc r.1.0, let n = r.1.1 in omega arith, r.1.2), r.2)

pub mapped_from : {A B : Type 0} (f : A → B) (xs : List A) (y : B) → Contains (map f xs) y
    → (x : A) × Contains xs x × (f x ≡ y)
mapped_from f xs y h = mapped_at f xs y h.0 (subst (λ n. h.0 < n) (length-map xs f) h.1) h.2

-- ---- what the course of the words that are taken says

-- These words are taken of the text, this is their course, and with the next there is none.
pub record IsTakenBy (text : List ℕ) (r : Reading) (c : Course) : Type 0 where
  pub lexed : Lexes 0 text r.tokens r.bad
  pub words : words_of text r.tokens ≡ r.words
  pub within : r.taken ≤ length r.words
  pub is : IsCourse c (take r.taken r.words)
  pub comes : course_of (Some nothing_judged) (take r.taken r.words) ≡ Some c
  pub stuck : r.taken < length r.words → course_of (Some nothing_judged)
      (take (r.taken + 1) r.words) ≡ None

-- A program that begins with words has a course behind them.
pub none_begins : (ws : List Word) (p : Program) → Begins ws p → course_of (Some nothing_judged) ws
    ≡ None → ⊥
none_begins ws p b e =
    let x = program_course p in
    let none : course_of (Some nothing_judged) (program_words p) ≡ None =
    ap (course_of (Some nothing_judged)) b.words ∙ course_of-append ws b.more (Some nothing_judged)
    ∙ ap (λ o. course_of o b.more) e ∙ none_stays b.more in
    let some = x.1 in
    absurd (cc)

reading_of : (text : List ℕ) (r : Reading) (c : Course) → IsTakenBy text r c → IsReadingOf text r
reading_of text r c h = record {
  lexed = h.lexed;
  words = h.words;
  within = h.within;
  begins = let b = begins_some c (take r.taken r.words) h.is in (b.program, b.begins);
  most = λ l b. none_begins (take (r.taken + 1) r.words) b.0 b.1 (h.stuck l);
}

-- The faults of a program that begins so are those of the course, and further ones that later
-- words tell.
pub record IsBegun (c : Course) (p : Program) (n : ℕ) : Type 0 where
  pub later : List Fault
  pub faults : program_faults p ≡ c.faults ++ later
  pub told : All (λ f. n ≤ f.told) later

begun_so : (text : List ℕ) (r : Reading) (c : Course) (p : Program) → IsTakenBy text r c
    → Begins (take r.taken r.words) p → IsBegun c p (length (take r.taken r.words))
begun_so text r c p h b =
    let x = program_course p in
    let rest : course_of (Some c) b.more ≡ Some x.0 =
    ap (λ o. course_of o b.more) (sym h.comes)
    ∙ sym (course_of-append (take r.taken r.words) b.more (Some nothing_judged))
    ∙ ap (course_of (Some nothing_judged)) (sym b.words) ∙ x.1 in
    let m = (course_goes b.more c x.0 (take r.taken r.words) h.is rest).1 in
    record { later = m.faults; faults = sym x.2.faults ∙ m.all; told = m.later }

taken_len : (text : List ℕ) (r : Reading) (c : Course) → IsTakenBy text r c
    → length (take r.taken r.words) ≡ r.taken
taken_len text r c h = length-take-le r.taken r.words h.within

-- a fault of the course is one of the text
course_fault : (text : List ℕ) (r : Reading) (c : Course) (g : ProgFault) → IsTakenBy text r c
    → Contains (map (placed r.tokens) c.faults) g → HasFault text r g
course_fault text r c g h m =
    let x = mapped_from (placed r.tokens) c.faults g m in
    let b = begins_some c (take r.taken r.words) h.is in
    let s = begun_so text r c b.program h b.begins in
    let told : x.0.told < length (take r.taken r.words) =
    All-contains (λ f. f.told < length (take r.taken r.words)) c.faults x.0 h.is.told x.1 in
    subst (HasFault text r) x.2
    (judged b.begins (subst (λ l. Contains l x.0) (sym s.faults)
    (Contains-append_left c.faults s.later x.0 x.1))
    (subst (λ n. x.0.told < n) (taken_len text r c h) told))

-- where the reading ends
pub data IsEnd : List ℕ → Reading → Course → List ProgFault → Type 0 where
  at_word : {text : List ℕ} {r : Reading} {c : Course} → r.taken < length r.words
      → IsEnd text r c (fault kind.Unexpected (start_of r.tokens r.taken) ∷ [])
  at_byte : {text : List ℕ} {r : Reading} {c : Course} {at : ℕ} → r.taken ≡ length r.words → r.bad
      ≡ Some at → IsEnd text r c (fault kind.BadToken at ∷ [])
  too_soon : {text : List ℕ} {r : Reading} {c : Course} → r.taken ≡ length r.words → r.bad ≡ None
      → is_whole c.stands ≡ false → IsEnd text r c (fault kind.Unexpected (length text) ∷ [])
  complete : {text : List ℕ} {r : Reading} {c : Course} → r.taken ≡ length r.words → r.bad ≡ None
      → is_whole c.stands ≡ true → IsEnd text r c []

-- a course that isn't whole isn't that of a program
pub not_program : (text : List ℕ) (r : Reading) (c : Course) → IsTakenBy text r c → r.taken
    ≡ length r.words → is_whole c.stands ≡ false → ¬ IsProgram r.words
not_program text r c h e f q =
    let x = program_course q.0 in
    let all : take r.taken r.words ≡ r.words = ap (λ n. take n r.words) e ∙ take-length r.words in
    let same : c ≡ x.0 = one_value x.0 c (sym x.1 ∙ ap (course_of (Some nothing_judged)) (q.1
    ∙ sym all) ∙ h.comes) in
    let w : is_whole x.0.stands ≡ true = whole_by x.0.stands x.2.part q.0 x.2.outputs in
    absurd (let g : is_whole c.stands ≡ is_whole x.0.stands = ap (λ d. is_whole d.stands) same in
    cc)
  where
    whole_by : (s : Standing) → s.part ≡ between → (p : Program) → s.outputs ≡ outputs p
        → is_whole s ≡ true
    whole_by s g p k = ap (λ z. is_whole (record {
      inputs = [];
      steps = [];
      outputs =
          s.outputs;
      before = record { names = []; weight = 0 };
      part = z;
    })) g
        ∙ ap (λ z. is_whole (record {
          inputs = [];
          steps = [];
          outputs = z;
          before =
              record { names = []; weight = 0 };
          part = between;
        })) k

alone : {A : Type 0} (x y : A) → Contains (x ∷ []) y → x ≡ y
alone x y h = by_place h.0 h.1 h.2
  where
    by_place : (k : ℕ) → k < 1 → get_or (x ∷ []) k y ≡ y → x ≡ y
    by_place zero l e = e
    by_place (suc k) l e = absurd (omega arith)

one_alone : {A : Type 0} (x : A) → Contains (x ∷ []) x
one_alone x = Contains-push [] x

none_among : {A : Type 0} (x : A) → Contains [] x → ⊥
none_among x h = let l = h.1 in omega arith

end_fault : (text : List ℕ) (r : Reading) (c : Course) (e : List ProgFault) (g : ProgFault)
    → IsTakenBy text r c → IsEnd text r c e → Contains e g → HasFault text r g
end_fault text r c e g h (at_word l) m = subst (HasFault text r) (alone _ g m) (out_of_place l)
end_fault text r c e g h (at_byte t b) m = subst (HasFault text r) (alone _ g m) (no_token t b)
end_fault text r c e g h (too_soon t b w) m =
    subst (HasFault text r) (alone _ g m) (cut_short t b (not_program text r c h t w))
end_fault text r c e g h (complete t b w) m = absurd (none_among g m)

-- The whole statements of a course that is complete are a program with these words.
pub record IsProgramOf (c : Standing) (ws : List Word) : Type 0 where
  pub program : Program
  pub words : program_words program ≡ ws
  pub of : program_with c.inputs c.steps c.outputs ≡ Some program

parts_whole : (c : Standing) (ws : List Word) (p : Part) (os : List Name) → words_from (whole c)
    ++ part_words c.part ≡ ws → is_whole c ≡ true → c.part ≡ p → c.outputs ≡ os
    → is_whole (record c { part = p; outputs = os }) ≡ true → IsProgramOf c ws
parts_whole c ws between (o ∷ os) h w e f v = record {
  program = record { inputs = c.inputs; steps = c.steps; output = o; more_outputs = os };
  words = ap (λ l. words_from (map input c.inputs ++ (map step c.steps ++ map output l))) (sym f)
      ∙ sym (append-nil (words_from (whole c))) ∙ ap (λ p. words_from (whole c) ++ part_words p)
      (sym e) ∙ h;
  of = ap (program_with c.inputs c.steps) f;
}
parts_whole c ws between [] h w e f v = absurd (cc)
parts_whole c ws p os h w e f v = absurd (cc)

pub complete_program : (c : Course) (ws : List Word) → IsCourse c ws → is_whole c.stands ≡ true
    → IsProgramOf c.stands ws
complete_program c ws h w = parts_whole c.stands ws c.stands.part c.stands.outputs h.words w refl
    refl w

-- ---- all faults of the text

among : (text : List ℕ) (r : Reading) (c : Course) (p : Program) (f : Fault) → IsTakenBy text r c
    → Begins (take r.taken r.words) p → Contains (program_faults p) f → f.told < r.taken
    → Contains c.faults f
among text r c p f h b m t =
    let s = begun_so text r c p h b in
    ⊎_elim (λ k. k)
    (λ k. let l : length (take r.taken r.words) ≤ f.told =
    All-contains (λ f. length (take r.taken r.words) ≤ f.told) s.later f s.told k in
    absurd (let n = taken_len text r c h in omega arith))
    (Contains-append_cases c.faults s.later f (subst (λ l. Contains l f) s.faults m))

all_found : (text : List ℕ) (r : Reading) (c : Course) (e : List ProgFault) (g : ProgFault)
    → IsTakenBy text r c → IsEnd text r c e → HasFault text r g
    → Contains (map (placed r.tokens) c.faults ++ e) g
all_found text r c e g h n (judged {p = p} {f = f} b m t) =
    Contains-append_left (map (placed r.tokens) c.faults) e g
    (contains_map (placed r.tokens) c.faults f (among text r c p f h b m t))
all_found text r c e g h (at_word l) (out_of_place k) =
    Contains-append_right (map (placed r.tokens) c.faults) e g (one_alone g)
all_found text r c e g h (at_byte t b) (out_of_place k) = absurd (omega arith)
all_found text r c e g h (too_soon t b w) (out_of_place k) = absurd (omega arith)
all_found text r c e g h (complete t b w) (out_of_place k) = absurd (omega arith)
all_found text r c e g h (at_word l) (no_token k d) = absurd (omega arith)
all_found text r c e g h (at_byte {at = at} t b) (no_token {at = other} k d) =
    let same : at ≡ other = one_value other at (sym d ∙ b) in
    Contains-append_right (map (placed r.tokens) c.faults) e g
    (subst (λ a. Contains (fault kind.BadToken a ∷ []) g) (sym same) (one_alone g))
all_found text r c e g h (too_soon t b w) (no_token k d) = absurd (cc)
all_found text r c e g h (complete t b w) (no_token k d) = absurd (cc)
all_found text r c e g h (at_word l) (cut_short k d q) = absurd (omega arith)
all_found text r c e g h (at_byte t b) (cut_short k d q) = absurd (cc)
all_found text r c e g h (too_soon t b w) (cut_short k d q) =
    Contains-append_right (map (placed r.tokens) c.faults) e g (one_alone g)
all_found text r c e g h (complete t b w) (cut_short k d q) =
    let x = complete_program c (take r.taken r.words) h.is w in
    absurd (q (x.program, x.words ∙ ap (λ n. take n r.words) t ∙ take-length r.words))

all_are : (text : List ℕ) (r : Reading) (c : Course) (e : List ProgFault) (g : ProgFault)
    → IsTakenBy text r c → IsEnd text r c e → Contains (map (placed r.tokens) c.faults ++ e) g
    → HasFault text r g
all_are text r c e g h n m = ⊎_elim (course_fault text r c g h) (end_fault text r c e g h n)
    (Contains-append_cases (map (placed r.tokens) c.faults) e g m)

-- The first of these is the first fault of the text.
pub decided : (text : List ℕ) (r : Reading) (c : Course) (e : List ProgFault)
    (o : Option ProgFault) → IsReadable text → IsTakenBy text r c → IsEnd text r c e
    → IsFirstOf (map (placed r.tokens) c.faults ++ e) o → IsFirstFault text o
decided text r c e (Some f) u h n l =
    first {r = r} u (reading_of text r c h) (all_are text r c e f h n l.among)
    (λ g k. All-contains (λ g. is_before g f ≡ false) (map (placed r.tokens) c.faults ++ e) g
    l.none_before (all_found text r c e g h n k))
decided text r c e None u h n l = faultless {r = r} u (reading_of text r c h)
    (λ f k. none_among f (subst (λ x. Contains x f) l (all_found text r c e f h n k)))

none_mapped : {A B : Type 0} (f : A → B) (xs : List A) → map f xs ≡ [] → xs ≡ []
none_mapped f [] h = refl
none_mapped f (x ∷ xs) h = absurd (cc)

-- The program of a course that is complete has the faults of the course.
pub complete_faults : (c : Course) (ws : List Word) (p : Program)
    → course_of (Some nothing_judged) ws ≡ Some c → program_words p ≡ ws → program_faults p
    ≡ c.faults
complete_faults c ws p e w =
    let x = program_course p in
    let same : x.0 ≡ c = one_value c x.0 (sym e ∙ ap (course_of (Some nothing_judged)) (sym w)
    ∙ x.1) in
    sym x.2.faults ∙ ap (λ d. d.faults) same

pub no_faults : (tokens : List ProgramToken) (c : Course)
    → first_from None (map (placed tokens) c.faults)
    ≡ None → c.faults ≡ []
no_faults tokens c e = none_mapped (placed tokens) c.faults
    (subst (IsFirstOf (map (placed tokens) c.faults)) e (first_of (map (placed tokens) c.faults)))
