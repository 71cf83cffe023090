-- The case that chosen conjunctions make, and what is left behind the first of them.
use Rattle.std.specs.Prelude.{◌≡◌, ℕ, zero, suc, ◌+◌, ◌*◌, ◌/◌, ◌%◌, ◌<◌, ◌≤◌, ◌-◌, List, [], ◌∷◌}
use Rattle.std.specs.Prelude.{◌++◌, length, take, drop, slice_get, get_or, Some, refl}
use Rattle.std.specs.List.{flat_map}
use Rattle.std.proofs.Common.{ap, sym, ◌∙◌, arith, subst}
use Rattle.std.proofs.Math.Nat.{mul-div_cancel_left, mod-lt, div-lt_iff_lt-mul}
use Rattle.std.proofs.lemmas.Option.{slice_get-get_or}
use Rattle.script_cases.specs.Cases.{cases, case_count}
use Rattle.script_cases.proofs.Counted.{cases_are_counted}
use Rattle.script_cases.specs.Choice.{choice, left_by, AreLeft}
use Rattle.script_cases.specs.Gaps.{gaps}
use Rattle.script_cases.specs.Marks.{pieces, AreMarks}
use Rattle.script_cases.proofs.Counts.{counted as counted_of, rising}
use Rattle.script_cases.proofs.Pieces.{pieces_within}
use Rattle.script_cases.proofs.Lengths.{count_of_gaps, gaps_positive, in_two}
use Rattle.script_cases.proofs.Taken.{split, piece_get}

-- ---- the case that they make

positive : (a b n : ℕ) → n < a * b → 0 < b
positive a zero n h = absurd (omega (h, Rattle.std.proofs.Math.Nat.mul-zero a, arith))
positive a (suc b) n h = omega arith

pub makes_case : {X : Type 0} (parts : List (List (List X))) (number : ℕ)
    → number < case_count parts
    → slice_get (cases parts) number ≡ Some (flat_map (λ c. c) (choice parts number))
makes_case [] zero h = refl
makes_case [] (suc n) h = absurd (omega (h, arith))
makes_case (p ∷ ps) number h =
    let some : 0 < case_count ps = positive (length p) (case_count ps) number h in
    let all = cases (p ∷ ps) in
    let at : slice_get all number ≡ Some (get_or all number []) =
    slice_get-get_or all number [] (omega (h, cases_are_counted (p ∷ ps), arith)) in
    let s = split (cases ps) (case_count ps) (cases_are_counted ps) p
    number (get_or all number []) some at in
    let later = makes_case ps (number % case_count ps) (mod-lt number some) in
    let same : s.rest ≡ flat_map (λ c. c) (choice ps (number % case_count ps)) =
    cc (sym s.at ∙ later) in
    at ∙ ap Some s.joins ∙ ap (λ rest. Some (get_or p (number / case_count ps) [] ++ rest)) same

-- ---- behind the first of them

module _ {X : Type 0} (items : List X) (ends : List ℕ) where
  abbrev all : List (List X)
  all = pieces 0 items ends

  pub record Next (from end number count : ℕ) (later : List ℕ) : Type 0 where
    pub width : 0 < end - from
    pub positive : 0 < count / (end - from)
    pub within : from + number / (count / (end - from)) < length ends
    pub are_left : AreLeft items ends later end
        (number % (count / (end - from))) (count / (end - from))
    pub first : left_by items ends (end ∷ later) from number
        ≡ get_or all (from + number / (count / (end - from))) []
        ∷ left_by items ends later end (number % (count / (end - from)))

  pub next : (from end number count : ℕ) (later : List ℕ)
      → AreLeft items ends (end ∷ later) from number count → Next from end number count later
  next from end number count later t =
      let q : count / (end - from) ≡ gaps end later = ap (λ n. n / (end - from)) t.counted
      ∙ mul-div_cancel_left (gaps end later) (omega (t.rising.0, arith)) in
      let p : 0 < count / (end - from) =
      omega (q, gaps_positive end later t.rising.1, arith) in
      let cases_are : case_count (pieces end all later) ≡ count / (end - from) =
      count_of_gaps end all later (pieces_within items ends later t.parts_within.1) ∙ sym q in
      let less = subst (λ n. number < n) t.counted t.is_case in
      let k : number / (count / (end - from)) < end - from =
      (div-lt_iff_lt-mul p).1 (subst (λ n. number < (end - from) * n) (sym q) less) in
      record {
        width = omega (t.rising.0, arith);
        positive = p;
        within = omega (k, t.parts_within.0, arith);
        are_left = record {
          ends_within = t.ends_within;
          parts_within = t.parts_within.1;
          rising = t.rising.1;
          counted = q;
          is_case = mod-lt number p;
        };
        first =
            (λ i. get_or (take (end - from) (drop from all)) (number / cases_are i) []
            ∷ choice (pieces end all later) (number % cases_are i))
            ∙ ap (λ c. c ∷ choice (pieces end all later) (number % (count / (end - from))))
            (piece_get from end all (number / (count / (end - from))) k);
      }

  pub next_of : (from number count : ℕ) (later : List ℕ) → 1 ≤ length later
      → AreLeft items ends later from number count
      → Next from (get_or later 0 0) number count (take (length later - 1) (drop 1 later))
  next_of from number count later h t =
      next from (get_or later 0 0) number count (take (length later - 1) (drop 1 later))
      (subst (λ l. AreLeft items ends l from number count) (in_two later h) t)

  pub same_left : (from number : ℕ) (later : List ℕ) → 1 ≤ length later
      → left_by items ends later from number
      ≡ left_by items ends (get_or later 0 0 ∷ take (length later - 1) (drop 1 later)) from number
  same_left from number later h = ap (λ l. left_by items ends l from number) (in_two later h)

-- before the first of them
pub all_left : {X : Type 0} (items : List X) (ends parts : List ℕ) (number : ℕ)
    → AreMarks items ends parts → number < case_count (pieces 0 (pieces 0 items ends) parts)
    → AreLeft items ends parts 0 number (gaps 0 parts)
all_left items ends parts number m h = record {
  ends_within = m.ends_within;
  parts_within = m.parts_within;
  rising = rising items ends parts m;
  counted = refl;
  is_case = subst (λ n. number < n) (counted_of items ends parts m) h;
}
