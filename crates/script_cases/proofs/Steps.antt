-- How far a case was taken.
use Rattle.std.specs.Prelude.{◌≡◌, ℕ, zero, suc, ◌+◌, ◌/◌, ◌%◌, ◌<◌, ◌≤◌, ◌-◌, List, [], ◌∷◌, ◌++◌}
use Rattle.std.specs.Prelude.{length, take, drop, slice_get, get_or, Some, refl}
use Rattle.std.specs.List.{AllByRecursion}
use Rattle.std.proofs.Common.{ap, sym, ◌∙◌, arith, subst, append_assoc, append-nil}
use Rattle.std.proofs.Math.Nat.{mul-div_cancel_left}
use Rattle.std.proofs.lemmas.Option.{slice_get-get_or}
use Rattle.script_cases.specs.Cases.{cases}
use Rattle.script_cases.proofs.Counted.{cases_are_counted}
use Rattle.script_cases.specs.Gaps.{gaps, AreRising}
use Rattle.script_cases.specs.Marks.{pieces}
use Rattle.script_cases.proofs.Pieces.{pieces_within}
use Rattle.script_cases.proofs.Lengths.{length_piece, count_of_gaps, gaps_positive, in_two}
use Rattle.script_cases.proofs.Taken.{split, piece_get}

-- What was taken is the front of the case with the first number; the rest is that of the later
-- parts with the number that is left.
pub record IsTaking {X : Type 0} (items : List X) (ends parts : List ℕ) (first : ℕ) (later : List ℕ)
    (from number left : ℕ) (case : List X) : Type 0 where
  pub within : AllByRecursion (λ e. e ≤ length ends) later
  pub rising : AreRising from later
  pub count : left ≡ gaps from later
  pub rest : List X
  pub at : slice_get (cases (pieces from (pieces 0 items ends) later)) number ≡ Some rest
  pub whole : slice_get (cases (pieces 0 (pieces 0 items ends) parts)) first ≡ Some (case ++ rest)

module _ {X : Type 0} (items : List X) (ends : List ℕ) where
  abbrev all : List (List X)
  all = pieces 0 items ends

  counted : (from : ℕ) (later : List ℕ) → AllByRecursion (λ e. e ≤ length ends) later
      → length (cases (pieces from all later)) ≡ gaps from later
  counted from later h =
      cases_are_counted (pieces from all later)
      ∙ count_of_gaps from all later (pieces_within items ends later h)

  pub nothing_taken : (parts : List ℕ) (number : ℕ)
      → AllByRecursion (λ e. e ≤ length ends) parts → AreRising 0 parts → number < gaps 0 parts
      → IsTaking items ends parts number parts 0 number (gaps 0 parts) []
  nothing_taken parts number h r n =
      let at : slice_get (cases (pieces 0 all parts)) number
      ≡ Some (get_or (cases (pieces 0 all parts)) number []) = slice_get-get_or
      (cases (pieces 0 all parts)) number [] (omega (n, counted 0 parts h, arith)) in
      record {
        within = h;
        rising = r;
        count = refl;
        rest = get_or (cases (pieces 0 all parts)) number [];
        at = at;
        whole = at;
      }

  pub all_taken : (parts : List ℕ) (first from number left : ℕ) (case : List X)
      → IsTaking items ends parts first [] from number left case
      → slice_get (cases (pieces 0 all parts)) first ≡ Some case
  all_taken parts first from zero left case t =
      t.whole ∙ ap (λ l. Some (case ++ l)) (sym (cc t.at)) ∙ ap Some (append-nil case)
  all_taken parts first from (suc n) left case t = absurd (cc t.at)

  -- the cases of the later parts
  quotient : (from end : ℕ) (later : List ℕ) (left : ℕ) → from < end
      → left ≡ gaps from (end ∷ later) → left / (end - from) ≡ gaps end later
  quotient from end later left h e =
      ap (λ n. n / (end - from)) e ∙ mul-div_cancel_left (gaps end later) (omega (h, arith))

  pub record Next (parts : List ℕ) (first from end number left : ℕ) (later : List ℕ)
      (case : List X) : Type 0 where
    pub positive : 0 < left / (end - from)
    pub within : from + number / (left / (end - from)) < length ends
    pub taken : IsTaking items ends parts first later end (number % (left / (end - from)))
        (left / (end - from)) (case ++ get_or all (from + number / (left / (end - from))) [])

  pub next : (parts : List ℕ) (first from end number left : ℕ) (later : List ℕ) (case : List X)
      → IsTaking items ends parts first (end ∷ later) from number left case
      → Next parts first from end number left later case
  next parts first from end number left later case t =
      let q : left / (end - from) ≡ gaps end later =
      quotient from end later left t.rising.0 t.count in
      let p : 0 < left / (end - from) = omega (q, gaps_positive end later t.rising.1, arith) in
      let s = split (cases (pieces end all later))
      (left / (end - from)) (counted end later t.within.1 ∙ sym q)
      (take (end - from) (drop from all)) number t.rest p t.at in
      let k : number / (left / (end - from)) < end - from =
      omega (
        s.within,
        length_piece from end all
            (pieces_within items ends (end ∷ later) t.within).0,
        arith,
      ) in
      record {
        positive = p;
        within = omega (k, t.within.0, arith);
        taken = record {
          within = t.within.1;
          rising = t.rising.1;
          count = q;
          rest = s.rest;
          at = s.at;
          whole = t.whole ∙ ap (λ l. Some (case ++ l)) (s.joins ∙ ap (λ c. c ++ s.rest)
              (piece_get from end all (number / (left / (end - from))) k)) ∙ ap Some (sym
              (append_assoc case (get_or all (from + number / (left / (end - from))) []) s.rest));
        };
      }

  pub next_of : (parts : List ℕ) (first from number left : ℕ) (later : List ℕ) (case : List X)
      → 1 ≤ length later → IsTaking items ends parts first later from number left case
      → Next parts first from (get_or later 0 0) number left
      (take (length later - 1) (drop 1 later)) case
  next_of parts first from number left later case h t =
      next parts first from (get_or later 0 0) number left (take (length later - 1) (drop 1 later))
      case (subst (λ l. IsTaking items ends parts first l from number left case) (in_two later h) t)
