-- The reader's turns, a word at a time.
use Rattle.std.proofs.Common.{◌≡◌, ℕ, ◌+◌, ◌-◌, ◌*◌, ◌<◌, ◌≤◌, Bool, true, false, List, [], ◌∷◌}
use Rattle.std.proofs.Common.{◌++◌, length, take, map, Option, Some, None, refl, sym, ap, ◌∙◌}
use Rattle.std.proofs.Common.{subst, arith, get_or, if◌then◌else◌}
use Rattle.std.specs.Option.{option_map}
use Rattle.std.proofs.lemmas.List.{get_or-map, map-append, length-map, length-take-le, take_more}
use Rattle.std.proofs.Math.Seq.{take-length}
use Rattle.fixprog.specs.declared.fault.ProgKind.TheVariants as kind
use Rattle.fixprog.specs.declared.fault.ProgFault.{ProgFault}
use Rattle.fixprog.specs.declared.program.Program.{Program as CodeProgram}
use Rattle.fixprog.specs.declared.reader.ProgramReader.{ProgramReader}
use Rattle.fixprog.specs.declared.token.ProgramToken.{ProgramToken}
use Rattle.fixprog.specs.Words.{Word, colon}
use Rattle.fixprog.specs.Lex.{Lexes, token_word, words_of}
use Rattle.fixprog.specs.First.{Reading, fault, start_of, is_before, IsReadable, IsFirstFault}
use Rattle.fixprog.specs.Standing.{Standing, ended, is_whole, stands_after, nothing_read}
use Rattle.fixprog.specs.Finding.{finds, earlier, first_from, found}
use Rattle.fixprog.proofs.Finding.{at_word, placed, due, begin_after, Course, course_after}
use Rattle.fixprog.proofs.Finding.{course_of, nothing_judged}
use Rattle.fixprog.specs.Views.{standing_of, program_with, answer_of}
use Rattle.fixprog.specs.Read.{IsTaken, IsRead}
use Rattle.fixprog.proofs.Found.{due_is, placed_found}
use Rattle.fixprog.proofs.Course.{IsCourse, number_is}
use Rattle.fixprog.proofs.Courses.{is_course_after, course_of-append, nothing_is_course}
use Rattle.fixprog.proofs.Least.{IsFirstOf, first_of, first_from-append}
use Rattle.fixprog.proofs.Decided.{IsTakenBy, IsEnd, at_word as ends_at_word}
use Rattle.fixprog.proofs.Decided.{at_byte as ends_at_byte, too_soon, complete, complete_program}
use Rattle.fixprog.proofs.Decided.{complete_faults, no_faults, decided}

-- ---- the state behind some words

-- Behind so many tokens the reader stands where the course of their words does, with the first of
-- its faults.
pub record RunsTo (text : List ℕ) (tokens : List ProgramToken)
    (r : ProgramReader) (i : ℕ) : Type 0 where
  pub course : Course
  pub stands : course.stands ≡ standing_of r
  pub is : IsCourse course (take i (words_of text tokens))
  pub comes : course_of (Some nothing_judged) (take i (words_of text tokens)) ≡ Some course
  pub first : r.first ≡ first_from None (map (placed tokens) course.faults)
  pub last : 0 < i → r.last ≡ start_of tokens (i - 1)
  pub weight : r.names.weight ≤ 2 * i

pub runs_from : (text : List ℕ) (tokens : List ProgramToken) (r : ProgramReader)
    → standing_of r ≡ nothing_read
    → r.first ≡ None → r.names.weight ≡ 0 → RunsTo text tokens r 0
runs_from text tokens r s f w = record {
  course = nothing_judged;
  stands = sym s;
  is = nothing_is_course;
  comes = refl;
  first = f;
  last = λ l. absurd (omega arith);
  weight = omega arith;
}

start_is : (tokens : List ProgramToken) (i : ℕ) (d : ProgramToken)
    → i < length tokens → start_of tokens i
    ≡ (get_or tokens i d).start
start_is tokens i d h = get_or-map (λ t. t.start) tokens i d 0 h

next_words : (text : List ℕ) (tokens : List ProgramToken) (i : ℕ) (d : ProgramToken)
    → i < length tokens
    → take (i + 1) (words_of text tokens) ≡ take i (words_of text tokens)
    ++ (token_word text (get_or tokens i d) ∷ [])
next_words text tokens i d h =
    take_more (words_of text tokens) i colon (subst (λ n. i < n)
    (sym (length-map tokens (token_word text))) h)
    ∙ ap (λ w. take i (words_of text tokens) ++ (w ∷ [])) (get_or-map (token_word text) tokens i d
    colon h)

words_len : (text : List ℕ) (tokens : List ProgramToken) (i : ℕ) → i ≤ length tokens
    → length (take i (words_of text tokens)) ≡ i
words_len text tokens i h = length-take-le i (words_of text tokens)
    (subst (λ n. i ≤ n) (sym (length-map tokens (token_word text))) h)

-- the course behind one word more
abbrev course_with : Course → Word → Standing → Course
course_with c w s = record {
  stands = s;
  begin = begin_after c.begin (ended c.stands.part w);
  faults = c.faults ++ finds (at_word c.begin c.stands.part) c.stands.before c.stands.part w;
}

pub runs_on : (text : List ℕ) (tokens : List ProgramToken) (r next : ProgramReader)
    (i : ℕ) (d : ProgramToken)
    → RunsTo text tokens r i → i < length tokens
    → IsTaken r next (token_word text (get_or tokens i d)) (get_or tokens i d).start
    → next.names.weight ≤ r.names.weight + 2 → RunsTo text tokens next (i + 1)
runs_on text tokens r next i d h l t w =
    let c = h.course in
    let token = get_or tokens i d in
    let word = token_word text token in
    let new = course_with c word (standing_of next) in
    let ws = take i (words_of text tokens) in
    let step : course_after c word ≡ Some new =
    ap (option_map (course_with c word)) (ap (λ s. stands_after s word) h.stands ∙ t.stands) in
    let due_now : due c.begin c.stands.part ≡ i = due_is c.begin c.stands.part
    ∙ number_is c ws h.is ∙ words_len text tokens i (omega arith) in
    let at_start : token.start ≡ start_of tokens (due c.begin c.stands.part) =
    sym (start_is tokens i d l) ∙ ap (start_of tokens) (sym due_now) in
    let last_start : 0 < due c.begin c.stands.part → r.last
    ≡ start_of tokens (due c.begin c.stands.part - 1) =
    λ k. h.last (subst (λ n. 0 < n) due_now k) ∙ ap (λ n. start_of tokens (n - 1)) (sym due_now) in
    let told : map (placed tokens) (finds (at_word c.begin c.stands.part) c.stands.before
    c.stands.part word) ≡ found c.stands.before c.stands.part word r.last token.start =
    placed_found tokens c.begin r.last token.start c.stands.before c.stands.part word h.is.marked
    at_start last_start in
    let n : i + 1 - 1 ≡ i = omega arith in
    record {
      course = new;
      stands = refl;
      is = subst (IsCourse new) (sym (next_words text tokens i d l))
          (is_course_after c new word ws h.is step);
      comes =
          ap (course_of (Some nothing_judged)) (next_words text tokens i d l)
          ∙ course_of-append ws (word ∷ []) (Some nothing_judged)
          ∙ ap (λ o. course_of o (word ∷ [])) h.comes ∙ step;
      first =
          t.first ∙ ap (λ s. first_from r.first (found s.before s.part word r.last token.start))
          (sym h.stands) ∙ ap (first_from r.first) (sym told)
          ∙ ap (λ o. first_from o (map (placed tokens)
          (finds (at_word c.begin c.stands.part) c.stands.before c.stands.part word))) h.first
          ∙ sym (first_from-append None (map (placed tokens) c.faults) _)
          ∙ ap (first_from None) (sym (map-append (placed tokens) c.faults _));
      last = λ k. t.last ∙ sym (start_is tokens i d l) ∙ ap (start_of tokens) (sym n);
      weight = let a = h.weight in omega arith;
    }

-- ---- where it ends

-- what stays of the text's tokens
abbrev reading : List ℕ → List ProgramToken → Option ℕ → ℕ → Reading
reading text tokens bad i = record {
  tokens = tokens;
  bad = bad;
  words =
      words_of text tokens;
  taken = i;
}

taken_all : (text : List ℕ) (tokens : List ProgramToken) (bad : Option ℕ)
    (r : ProgramReader) (i : ℕ)
    (h : RunsTo text tokens r i) → Lexes 0 text tokens bad → i ≤ length tokens
    → (i < length (words_of text tokens) → course_of (Some nothing_judged)
    (take (i + 1) (words_of text tokens)) ≡ None)
    → IsTakenBy text (reading text tokens bad i) h.course
taken_all text tokens bad r i h x l s = record {
  lexed = x;
  words = refl;
  within = subst (λ n. i ≤ n) (sym (length-map tokens (token_word text))) l;
  is = h.is;
  comes = h.comes;
  stuck = s;
}

-- with the fault at which the reading ends
ends_with : (text : List ℕ) (tokens : List ProgramToken) (bad : Option ℕ)
    (r : ProgramReader) (i : ℕ)
    (h : RunsTo text tokens r i) (e : List ProgFault) → IsReadable text
    → IsTakenBy text (reading text tokens bad i) h.course
    → IsEnd text (reading text tokens bad i) h.course e
    → IsFirstFault text (first_from r.first e)
ends_with text tokens bad r i h e u t n =
    decided text (reading text tokens bad i) h.course e (first_from r.first e) u t n
    (subst (IsFirstOf (map (placed tokens) h.course.faults ++ e))
    (first_from-append None (map (placed tokens) h.course.faults) e
    ∙ ap (λ o. first_from o e) (sym h.first)) (first_of (map (placed tokens) h.course.faults
    ++ e)))

-- a fault is answered
some_answer : (text : List ℕ) (o : Option ProgFault) (f : ProgFault) (p : CodeProgram)
    → IsFirstFault text (earlier o f) → IsRead text (answer_of (earlier o f) p)
some_answer text None f p h = h
some_answer text (Some first) f p h = by_test (is_before f first) h
  where
    by_test : (b : Bool) → IsFirstFault text (if b then Some f else Some first)
        → IsRead text (answer_of (if b then Some f else Some first) p)
    by_test true k = k
    by_test false k = k

pub read_stuck : (text : List ℕ) (tokens : List ProgramToken) (bad : Option ℕ)
    (r : ProgramReader) (i : ℕ)
    (d : ProgramToken) (p : CodeProgram) → RunsTo text tokens r i → IsReadable text
    → Lexes 0 text tokens bad
    → i < length tokens → stands_after (standing_of r) (token_word text (get_or tokens i d)) ≡ None
    → IsRead text (answer_of (earlier r.first (fault kind.Unexpected (get_or tokens i d).start)) p)
read_stuck text tokens bad r i d p h u x l s =
    let word = token_word text (get_or tokens i d) in
    let none : course_of (Some nothing_judged) (take (i + 1) (words_of text tokens)) ≡ None =
    ap (course_of (Some nothing_judged)) (next_words text tokens i d l)
    ∙ course_of-append (take i (words_of text tokens)) (word ∷ []) (Some nothing_judged)
    ∙ ap (λ o. course_of o (word ∷ [])) h.comes
    ∙ ap (λ c. option_map (course_with h.course word) (stands_after c word)) h.stands
    ∙ ap (option_map (course_with h.course word)) s in
    some_answer text r.first _ p
    (subst (λ n. IsFirstFault text (earlier r.first (fault kind.Unexpected n)))
    (start_is tokens i d l)
    (ends_with text tokens bad r i h _ u (taken_all text tokens bad r i h x (omega arith)
    (λ k. none)) (ends_at_word (subst (λ n. i < n) (sym (length-map tokens (token_word text)))
    l))))

module _ (text : List ℕ) (tokens : List ProgramToken) (bad : Option ℕ)
    (r : ProgramReader) (p : CodeProgram)
    (h : RunsTo text tokens r (length tokens)) (u : IsReadable text) (x : Lexes 0 text tokens bad)
  where
    all_taken : IsTakenBy text (reading text tokens bad (length tokens)) h.course
    all_taken = taken_all text tokens bad r (length tokens) h x (omega arith)
        (λ k. absurd (let n = length-map tokens (token_word text) in omega arith))

    all_len : length tokens ≡ length (words_of text tokens)
    all_len = sym (length-map tokens (token_word text))

    pub read_bad : (at : ℕ) → bad ≡ Some at → IsRead text
        (answer_of (earlier r.first (fault kind.BadToken at)) p)
    read_bad at e = some_answer text r.first _ p (ends_with text tokens bad r (length tokens) h _ u
        all_taken (ends_at_byte all_len e))

    pub read_short : bad ≡ None → is_whole (standing_of r) ≡ false
        → IsRead text (answer_of (earlier r.first (fault kind.Unexpected (length text))) p)
    read_short e w = some_answer text r.first _ p (ends_with text tokens bad r (length tokens) h _ u
        all_taken (too_soon all_len e (ap is_whole h.stands ∙ w)))

pub read_whole : (text : List ℕ) (tokens : List ProgramToken) (r : ProgramReader)
    → RunsTo text tokens r (length tokens) → IsReadable text → Lexes 0 text tokens None
    → is_whole (standing_of r) ≡ true → IsRead text (answer_of r.first r.program)
read_whole text tokens r h u x w = by_first r.first refl
  where
    n : length tokens ≡ length (words_of text tokens)
    n = sym (length-map tokens (token_word text))

    whole : is_whole h.course.stands ≡ true
    whole = ap is_whole h.stands ∙ w

    first : IsFirstFault text r.first
    first = ends_with text tokens None r (length tokens) h [] u
        (taken_all text tokens None r (length tokens) h x (omega arith)
        (λ k. absurd (omega (arith, n)))) (complete n refl whole)

    by_first : (o : Option ProgFault) → r.first ≡ o → IsRead text (answer_of o r.program)
    by_first (Some f) e = subst (IsFirstFault text) e first
    by_first None e =
        let c = complete_program h.course (take (length tokens) (words_of text tokens)) h.is whole
        in
        record {
          tree = c.program;
          same = sym (ap (λ s. program_with s.inputs s.steps s.outputs) h.stands) ∙ c.of;
          spelled = record {
            accepted = subst (IsFirstFault text) e first;
            tokens = tokens;
            lexed =
                x;
            words = c.words ∙ ap (λ k. take k (words_of text tokens)) n
                ∙ take-length (words_of text tokens);
          };
          faultless = complete_faults h.course (take (length tokens) (words_of text tokens))
              c.program h.comes c.words ∙ no_faults tokens h.course (sym h.first ∙ e);
        }
