-- Courses go on word by word.
use Rattle.std.proofs.Common.{◌≡◌, ℕ, ◌+◌, ◌<◌, ◌≤◌, List, [], ◌∷◌, ◌++◌, length, Option, Some}
use Rattle.std.proofs.Common.{None, refl, sym, ap, ◌∙◌, subst, arith, append_assoc, append-nil}
use Rattle.std.proofs.Common.{length-append}
use Rattle.std.specs.Option.{option_map}
use Rattle.std.specs.List.{All}
use Rattle.std.proofs.lemmas.List.Elements.{All-nil, All-append}
use Rattle.fixprog.specs.Words.{Word}
use Rattle.fixprog.specs.Grammar.{Statement, input, step, output, statement_words, words_from}
use Rattle.fixprog.specs.Faults.{Fault}
use Rattle.fixprog.specs.Standing.{Part, between, next_part, ended, Standing, opening_of}
use Rattle.fixprog.specs.Standing.{with_statement, with_part, stands_by, stands_after}
use Rattle.fixprog.proofs.Standing.{part_words}
use Rattle.fixprog.specs.Finding.{finds}
use Rattle.fixprog.proofs.Finding.{at_word, Course, begin_after, course_after, goes_on, course_of}
use Rattle.fixprog.proofs.Finding.{nothing_judged}
use Rattle.fixprog.proofs.Takes.{Takes, next_takes, takes_words}
use Rattle.fixprog.proofs.Found.{IsMarked, finds_told}
use Rattle.fixprog.proofs.Course.{in_place, takes_place, takes_marked, ended_is, ending_words}
use Rattle.fixprog.proofs.Course.{ending_place, join_whole, one_word_more, whole, stand_words}
use Rattle.fixprog.proofs.Course.{IsCourse, due_number, number_is, goes_so}
use Rattle.fixprog.proofs.Common.{one_value, all_as}

between_statements : (c : Standing) (x : Statement) → (with_statement c x).part ≡ between
between_statements c (input x) = refl
between_statements c (step x) = refl
between_statements c (output x) = refl

-- ---- what a word makes of where the reading stands

-- the words are one more, and the places are kept
pub record Stands (c d : Standing) (w : Word) (begin : ℕ) (x : Option Statement) : Type 0 where
  pub words : stand_words d ≡ stand_words c ++ (w ∷ [])
  pub place : in_place d.part d.steps d.outputs
  pub marked : IsMarked d.part
  pub number : begin ≡ length (words_from (whole c)) → begin_after begin x
      ≡ length (words_from (whole d))

ends_so : (c : Standing) (w : Word) (x : Statement) (begin : ℕ) → in_place c.part c.steps c.outputs
    → ended c.part w ≡ Some x → Stands c (with_statement c x) w begin (Some x)
ends_so c w x begin h e =
    let is = ended_is c.part w x e in
    let d = with_statement c x in
    let all : words_from (whole d) ≡ words_from (whole c) ++ statement_words x =
    ap words_from (join_whole c x (ending_place c.part x c.steps c.outputs is.1 h))
    ∙ one_word_more (whole c) x in
    record {
      words =
          ap (λ p. words_from (whole d) ++ part_words p) (between_statements c x)
          ∙ append-nil (words_from (whole d)) ∙ all
          ∙ ap (λ l. words_from (whole c) ++ l) (ending_words c.part x is.1
          ∙ ap (λ v. part_words c.part ++ (v ∷ [])) (sym is.0))
          ∙ sym (append_assoc (words_from (whole c)) (part_words c.part) (w ∷ []));
      place = subst (λ p. in_place p d.steps d.outputs) (sym (between_statements c x)) tt;
      marked = subst IsMarked (sym (between_statements c x)) tt;
      number = λ b. ap (λ n. n + length (statement_words x)) b
          ∙ sym (length-append (words_from (whole c)) (statement_words x)) ∙ ap length (sym all);
    }

goes_part : (c : Standing) (w : Word) (q : Part) (begin : ℕ) → in_place c.part c.steps c.outputs
    → next_part (opening_of c) c.part w ≡ Some q → Stands c (with_part c q) w begin None
goes_part c w q begin h e =
    let t : Takes (opening_of c) c.part w q = next_takes (opening_of c) c.part w q e in
    record {
      words = ap (λ l. words_from (whole c) ++ l) (takes_words (opening_of c) c.part w q t)
          ∙ sym (append_assoc (words_from (whole c)) (part_words c.part) (w ∷ []));
      place = takes_place c.steps c.outputs c.part w q t h;
      marked = takes_marked (opening_of c) c.part w q t;
      number = λ b. b;
    }

stands_part : (c : Standing) (w : Word) (o : Option Part) (d : Standing) (begin : ℕ)
    → in_place c.part c.steps c.outputs → next_part (opening_of c) c.part w ≡ o
    → option_map (with_part c) o ≡ Some d → Stands c d w begin None
stands_part c w (Some q) d begin h e f = subst (λ z. Stands c z w begin None)
    (sym (one_value _ d f)) (goes_part c w q begin h e)
stands_part c w None d begin h e f = absurd (cc)

stands_by_case : (c : Standing) (w : Word) (x : Option Statement) (d : Standing) (begin : ℕ)
    → in_place c.part c.steps c.outputs → ended c.part w ≡ x
    → stands_by c x (next_part (opening_of c) c.part w) ≡ Some d → Stands c d w begin x
stands_by_case c w (Some x) d begin h e f = subst (λ z. Stands c z w begin (Some x))
    (sym (one_value _ d f)) (ends_so c w x begin h e)
stands_by_case c w None d begin h e f = stands_part c w (next_part (opening_of c) c.part w) d begin
    h refl f

stands_so : (c : Standing) (w : Word) (d : Standing) (begin : ℕ)
    → in_place c.part c.steps c.outputs → stands_after c w ≡ Some d
    → Stands c d w begin (ended c.part w)
stands_so c w d begin h e = stands_by_case c w (ended c.part w) d begin h refl e

-- ---- courses

pub is_course_after : (c d : Course) (w : Word) (ws : List Word) → IsCourse c ws → course_after c w
    ≡ Some d → IsCourse d (ws ++ (w ∷ []))
is_course_after c d w ws h e =
    let g = goes_so c w d e in
    let t = stands_so c.stands w d.stands c.begin h.place g.stands in
    let n : length (ws ++ (w ∷ [])) ≡ length ws + 1 = length-append ws (w ∷ []) in
    record {
      words = t.words ∙ ap (λ l. l ++ (w ∷ [])) h.words;
      place = t.place;
      marked = t.marked;
      begin = g.begin ∙ t.number h.begin;
      told = subst (All (λ f. f.told < length (ws ++ (w ∷ [])))) (sym g.faults)
          (All-append (λ f. f.told < length (ws ++ (w ∷ []))) c.faults _
          (all_as (λ f. f.told < length ws) (λ f. f.told < length (ws ++ (w ∷ []))) c.faults
          (λ f k. omega (arith, n)) h.told)
          (all_as (λ f. f.told ≡ due_number c) (λ f. f.told < length (ws ++ (w ∷ []))) _
          (λ f k. omega (arith, n, number_is c ws h))
          (finds_told c.begin c.stands.before c.stands.part w)));
    }

-- The faults that further words tell are behind those so far, and each is told by one of these
-- words.
pub record More (c d : Course) (n : ℕ) : Type 0 where
  pub faults : List Fault
  pub all : d.faults ≡ c.faults ++ faults
  pub later : All (λ f. n ≤ f.told) faults

more_none : (c : Course) (n : ℕ) → More c c n
more_none c n = record {
  faults = [];
  all = sym (append-nil c.faults);
  later =
      All-nil (λ f. n ≤ f.told);
}

pub none_stays : (ws : List Word) → course_of None ws ≡ None
none_stays [] = refl
none_stays (w ∷ ws) = none_stays ws

-- all words that are left, given what comes of them behind any course
abbrev GoesOn : List Word → Type 0
GoesOn vs = (c d : Course) (ws : List Word) → IsCourse c ws → course_of (Some c) vs ≡ Some d
    → IsCourse d (ws ++ vs) × More c d (length ws)

word_first : (w : Word) (vs : List Word) → GoesOn vs
    → (c d : Course) (ws : List Word) (o : Option Course) → IsCourse c ws → course_after c w ≡ o
    → course_of o vs ≡ Some d → IsCourse d (ws ++ (w ∷ vs)) × More c d (length ws)
word_first w vs on c d ws (Some b) h f g =
    let k = is_course_after c b w ws h f in
    let r = on b d (ws ++ (w ∷ [])) k g in
    let go = goes_so c w b f in
    let n : length (ws ++ (w ∷ [])) ≡ length ws + 1 = length-append ws (w ∷ []) in (
      subst (IsCourse d) (append_assoc ws (w ∷ []) vs) r.0,
      record {
        faults = finds (at_word c.begin c.stands.part) c.stands.before c.stands.part w
            ++ r.1.faults;
        all = r.1.all ∙ ap (λ l. l ++ r.1.faults) go.faults ∙ append_assoc c.faults _ r.1.faults;
        later = All-append (λ f. length ws ≤ f.told) _ r.1.faults
            (all_as (λ f. f.told ≡ due_number c) (λ f. length ws ≤ f.told) _
            (λ f k. omega (arith, number_is c ws h))
            (finds_told c.begin c.stands.before c.stands.part w))
            (all_as (λ f. length (ws ++ (w ∷ [])) ≤ f.told) (λ f. length ws ≤ f.told) r.1.faults
            (λ f k. omega (arith, n)) r.1.later);
      },
    )
word_first w vs on c d ws None h f g = absurd (let none = none_stays vs in cc)

pub course_goes : (vs : List Word) (c d : Course) (ws : List Word) → IsCourse c ws
    → course_of (Some c) vs ≡ Some d → IsCourse d (ws ++ vs) × More c d (length ws)
course_goes [] c d ws h e =
    let same = one_value c d e in (
      subst (λ l. IsCourse d l) (sym (append-nil ws)) (subst (λ z. IsCourse z ws) (sym same) h),
      subst (λ z. More c z (length ws)) (sym same) (more_none c (length ws)),
    )
course_goes (w ∷ vs) c d ws h e = word_first w vs (course_goes vs) c d ws (course_after c w) h refl
    e

pub nothing_is_course : IsCourse nothing_judged []
nothing_is_course = record {
  words = refl;
  place = tt;
  marked = tt;
  begin = refl;
  told =
      All-nil (λ f. f.told < 0);
}

-- ---- one list behind another

pub course_of-append : (ws vs : List Word) (o : Option Course) → course_of o (ws ++ vs)
    ≡ course_of (course_of o ws) vs
course_of-append [] vs o = refl
course_of-append (w ∷ ws) vs o = course_of-append ws vs (goes_on o w)
