-- What a file took of the items, and what waits.
use Rattle.std.specs.Prelude.{◌≡◌, ◌++◌, ℕ, List, Option, Result, OnErr, Ok, Err}
use Rattle.std.proofs.Common.{sym, ap, ◌∙◌, append_assoc}
use Rattle.std.specs.Io.KnownBytes.{Appends}
use Rattle.whole_texts.specs.Pieces.{AppendsFront, PassesOn}
use Rattle.whole_texts.proofs.Pieces.{appends_both}

-- a call that failed has this
pub on_err : {T E X : Type 0} (r : Result T E) → X → OnErr r X
on_err (Ok x) p = tt
on_err (Err e) p = p

-- The file took the first of all bytes, these wait, and those are still to come.
pub record IsWriting (before now : Option (List ℕ)) (waiting rest all : List ℕ) : Type 0 where
  pub written : List ℕ
  pub took : Appends before now written
  pub all_is : all ≡ written ++ (waiting ++ rest)

module _ (before now after : Option (List ℕ)) (waiting rest all : List ℕ) where
  -- what waited was gone on with
  pub writing_on : (left : List ℕ) → IsWriting before now waiting rest all
      → PassesOn now after waiting left → IsWriting before after left rest all
  writing_on left w (front, is, took) = record {
    written = w.written ++ front;
    took = appends_both before now after w.written front w.took took;
    all_is = w.all_is ∙ ap (λ b. w.written ++ (b ++ rest)) is
        ∙ ap (λ b. w.written ++ b) (append_assoc front left rest)
        ∙ sym (append_assoc w.written front (left ++ rest));
  }

  -- the file took a front of what waited
  pub writing_front : IsWriting before now waiting rest all → AppendsFront now after waiting
      → AppendsFront before after all
  writing_front w (front, (more, is), took) = (
    w.written ++ front,
    (
      more ++ rest,
      w.all_is ∙ ap (λ b. w.written ++ (b ++ rest)) is
          ∙ ap (λ b. w.written ++ b) (append_assoc front more rest)
          ∙ sym (append_assoc w.written front (more ++ rest)),
    ),
    appends_both before now after w.written front w.took took,
  )

-- the same bytes, of which some more wait
pub writing_more : (before now : Option (List ℕ)) (waiting next piece rest all : List ℕ)
    → next ≡ waiting ++ piece → IsWriting before now waiting (piece ++ rest) all
    → IsWriting before now next rest all
writing_more before now waiting next piece rest all is w = record {
  written = w.written;
  took = w.took;
  all_is = w.all_is ∙ ap (λ b. w.written ++ b) (sym (append_assoc waiting piece rest)
      ∙ ap (λ b. b ++ rest) (sym is));
}
