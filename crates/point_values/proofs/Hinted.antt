-- From hint to hint.
use Rattle.std.specs.Prelude.{◌≡◌, ◌&&◌, ◌++◌, ◌+◌, ◌<◌, ℕ, List, [], ◌∷◌, drop, length, Bool, true}
use Rattle.std.specs.Prelude.{false, Option, Some, None, if◌then◌else◌, slice_index_or, refl}
use Rattle.std.specs.List.{list_all}
use Rattle.std.proofs.Common.{arith, sym, ap, ◌∙◌, suc, append_assoc, append-nil}
use Rattle.std.proofs.lemmas.List.{drop_all}
use Rattle.std.proofs.Math.Seq.{drop-cons}
use Rattle.fx_model.specs.Fraction.{Fraction}
use Rattle.fx_model.specs.declared.ExprId.{ExprId}
use Rattle.exact_fractions.specs.Wide.{are_narrow}
use Rattle.facts.specs.declared.hint.HintMark.{HintMark}
use Rattle.script_hints.specs.declared.hint.Hint.{Hint}
use Rattle.point_values.specs.Numbers.{marked_numbers, wide_from}
use Rattle.point_values.specs.Truth.{marked_holds}
use Rattle.point_values.specs.Text.{Bytes, hint_line, lines_from}
use Rattle.point_values.specs.Evaluation.{pairs}
use Rattle.point_values.proofs.Along.{IsAlong}
use Rattle.point_values.specs.declared.place.Place.TheVariants as place

split_here : {A : Type 0} (xs : List A) (i : ℕ) (x : A) → i < length xs → x ≡ slice_index_or xs i x
    → drop i xs ≡ x ∷ drop (i + 1) xs
split_here xs i x h e = drop-cons xs i x h ∙ ap (λ m. m ∷ drop (suc i) xs) (sym e)
    ∙ ap (λ k. x ∷ drop k xs) (let s : suc i ≡ i + 1 = omega arith in s)

pairs_here : (hs : List Hint) (ms : List HintMark) (i : ℕ) (h : Hint) (m : HintMark) → i < length hs
    → length ms ≡ length hs → h ≡ slice_index_or hs i h → m ≡ slice_index_or ms i m
    → pairs (drop i hs) (drop i ms) ≡ (h, m) ∷ pairs (drop (i + 1) hs) (drop (i + 1) ms)
pairs_here hs ms i h m l c e f = ap (λ xs. pairs xs (drop i ms)) (split_here hs i h l e)
    ∙ ap (pairs (h ∷ drop (i + 1) hs)) (split_here ms i m (omega arith) f)

pub along_start : (v : ExprId → Option Fraction) (hs : List Hint) (ms : List HintMark) (before :
    Bytes) → IsAlong v hs ms before before true 0
along_start v hs ms before = record { lines = refl; holds = refl; narrow = refl }

and_again : (a b c : Bool) → ((a && b) && c) ≡ (a && (b && c))
and_again true b c = refl
and_again false b c = refl

pub along_step : (v : ExprId → Option Fraction) (hs : List Hint) (ms : List HintMark)
    (before out next : Bytes) (hold holds again : Bool) (i : ℕ) (h : Hint) (m : HintMark)
    → IsAlong v hs ms before out hold i → i < length hs → length ms ≡ length hs
    → h ≡ slice_index_or hs i h → m ≡ slice_index_or ms i m → next ≡ out ++ hint_line v i (h, m)
    → holds ≡ marked_holds v (h, m) → again ≡ (hold && holds)
    → are_narrow (marked_numbers v (h, m)) ≡ true → IsAlong v hs ms before next again (i + 1)
along_step v hs ms before out next hold holds again i h m w l c e f p q r n =
    let s = pairs_here hs ms i h m l c e f in
    record {
      lines = ap (λ o. o ++ lines_from (hint_line v) (i + 1)
          (pairs (drop (i + 1) hs) (drop (i + 1) ms))) p
          ∙ append_assoc out (hint_line v i (h, m))
          (lines_from (hint_line v) (i + 1) (pairs (drop (i + 1) hs) (drop (i + 1) ms)))
          ∙ ap (λ ps. out ++ lines_from (hint_line v) i ps) (sym s) ∙ w.lines;
      holds = ap (λ a. a && list_all (marked_holds v) (pairs (drop (i + 1) hs) (drop (i + 1) ms)))
          (r ∙ ap (λ a. hold && a) q)
          ∙ and_again hold (marked_holds v (h, m))
          (list_all (marked_holds v) (pairs (drop (i + 1) hs) (drop (i + 1) ms)))
          ∙ ap (λ ps. hold && list_all (marked_holds v) ps) (sym s) ∙ w.holds;
      narrow = sym
          (ap (λ (t : Bool). if t then wide_from place.Hint (marked_numbers v) (i + 1)
          (pairs (drop (i + 1) hs) (drop (i + 1) ms)) else Some (place.Hint i)) n)
          ∙ ap (wide_from place.Hint (marked_numbers v) i) (sym s) ∙ w.narrow;
    }

pub along_wide : (v : ExprId → Option Fraction) (hs : List Hint) (ms : List HintMark) (before out :
    Bytes) (hold : Bool) (i : ℕ) (h : Hint) (m : HintMark) → IsAlong v hs ms before out hold i
    → i < length hs → length ms ≡ length hs
    → h ≡ slice_index_or hs i h → m ≡ slice_index_or ms i m → are_narrow (marked_numbers v (h, m))
    ≡ false → wide_from place.Hint (marked_numbers v) 0 (pairs hs ms) ≡ Some (place.Hint i)
along_wide v hs ms before out hold i h m w l c e f n = sym w.narrow
    ∙ ap (wide_from place.Hint (marked_numbers v) i) (pairs_here hs ms i h m l c e f)
    ∙ ap (λ (t : Bool). if t then wide_from place.Hint (marked_numbers v) (i + 1)
    (pairs (drop (i + 1) hs) (drop (i + 1) ms)) else Some (place.Hint i)) n

pub record IsPassed (v : ExprId → Option Fraction) (hs : List Hint) (ms : List HintMark)
    (before out : Bytes) (hold : Bool) : Type 0 where
  pub lines : out ≡ before ++ lines_from (hint_line v) 0 (pairs hs ms)
  pub holds : hold ≡ list_all (marked_holds v) (pairs hs ms)
  pub narrow : wide_from place.Hint (marked_numbers v) 0 (pairs hs ms) ≡ None

and_true : (a : Bool) → (a && true) ≡ a
and_true true = refl
and_true false = refl

with_nothing : (out : Bytes) → out ++ [] ≡ out
with_nothing out = append-nil out

pub along_end : (v : ExprId → Option Fraction) (hs : List Hint) (ms : List HintMark) (before out :
    Bytes) (hold : Bool) (i : ℕ) → IsAlong v hs ms before out hold i → i ≡ length hs
    → IsPassed v hs ms before out hold
along_end v hs ms before out hold i w e =
    let s : pairs (drop i hs) (drop i ms) ≡ [] =
    ap (λ xs. pairs xs (drop i ms)) (drop_all i hs (omega arith)) in
    record {
      lines = sym (with_nothing out) ∙ ap (λ ps. out ++ lines_from (hint_line v) i ps) (sym s)
          ∙ w.lines;
      holds = sym (and_true hold) ∙ ap (λ ps. hold && list_all (marked_holds v) ps) (sym s)
          ∙ w.holds;
      narrow = sym w.narrow ∙ ap (wide_from place.Hint (marked_numbers v) i) s;
    }
