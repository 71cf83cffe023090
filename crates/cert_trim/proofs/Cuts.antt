-- The cuts around a section, with the used steps that may be cited at each.
use Rattle.std.proofs.Common.{◌≡◌, ◌≤◌, ◌+◌, ◌-◌, ℕ, suc, Bool, true, false, List, [], ◌∷◌, ◌++◌}
use Rattle.std.proofs.Common.{length, take, refl, sym, ap, subst, ◌∙◌, arith}
use Rattle.std.specs.Prelude.{⊤, nat_lt, if◌then◌else◌}
use Rattle.std.proofs.lemmas.List.{take-take, take-append-le, length-append, length-take}
use Rattle.std.proofs.Math.Seq.{take-length}
use Rattle.fx_model.specs.declared.ExprId.{ExprId}
use Rattle.dyadic.specs.declared.number.Dyadic.{Dyadic}
use Rattle.facts.specs.Conclusions.{bnd_of}
use Rattle.cert_checker.specs.declared.open.Citable.{Citable}
use Rattle.cert_checker.specs.declared.open.OpenCut.{OpenCut}
use Rattle.cert_checker.specs.Contexts.{open_piece, piece_of}
use Rattle.cert_checker.specs.After.{around_of, cuts_behind, case_behind}
use Rattle.cert_trim.proofs.Kept.{kept}
use Rattle.cert_trim.proofs.Numbers.{on_both}

-- The same cut. As many of the steps may be cited at it as are used of those before.
pub record IsLike (used : ℕ → Bool) (steps others : List Citable) (c o : OpenCut) : Type 0 where
  pub var : o.var ≡ c.var
  pub points : o.points ≡ c.points
  pub entered : o.entered ≡ c.entered
  pub within : c.around ≤ length steps
  pub within_others : o.around ≤ length others
  pub front : take o.around others ≡ kept used (take c.around steps)

abbrev pub AreLike : (ℕ → Bool) → List Citable → List Citable → List OpenCut → List OpenCut → Type 0
AreLike used steps others [] [] = ⊤
AreLike used steps others (c ∷ cuts) (o ∷ copies) = IsLike used steps others c o
    × AreLike used (take c.around steps) (take o.around others) cuts copies
AreLike used steps others _ _ = ⊥

pub like_depth : (used : ℕ → Bool) (steps others : List Citable) (cuts copies : List OpenCut)
    → AreLike used steps others cuts copies → length copies ≡ length cuts
like_depth used steps others [] [] h = refl
like_depth used steps others (c ∷ cuts) (o ∷ copies) h =
    ap suc (like_depth used _ _ cuts copies h.1)
like_depth used steps others [] (o ∷ copies) h = absurd h
like_depth used steps others (c ∷ cuts) [] h = absurd h

pub like_piece : (used : ℕ → Bool) (steps others : List Citable) (cuts copies : List OpenCut)
    → AreLike used steps others cuts copies → open_piece copies ≡ open_piece cuts
like_piece used steps others [] [] h = refl
like_piece used steps others (c ∷ cuts) (o ∷ copies) h =
    on_both bnd_of h.0.var (on_both (λ ps n. piece_of ps (n - 1)) h.0.points h.0.entered)
like_piece used steps others [] (o ∷ copies) h = absurd h
like_piece used steps others (c ∷ cuts) [] h = absurd h

-- whether a root section has ended behind them
pub like_case : (used : ℕ → Bool) (steps others : List Citable) (cuts copies : List OpenCut) (k : ℕ)
    → AreLike used steps others cuts copies → case_behind k copies ≡ case_behind k cuts
like_case used steps others [] [] k h = refl
like_case used steps others (c ∷ cuts) (o ∷ copies) k h = refl
like_case used steps others [] (o ∷ copies) k h = absurd h
like_case used steps others (c ∷ cuts) [] k h = absurd h

-- further steps change nothing
pub like_grown : (used : ℕ → Bool) (steps others xs ys : List Citable) (cuts copies : List OpenCut)
    → AreLike used steps others cuts copies → AreLike used (steps ++ xs) (others ++ ys) cuts copies
like_grown used steps others xs ys [] [] h = tt
like_grown used steps others xs ys (c ∷ cuts) (o ∷ copies) h =
    let a = take-append-le c.around steps xs h.0.within in
    let b = take-append-le o.around others ys h.0.within_others in
    let n = length-append steps xs in
    let m = length-append others ys in
    let w = h.0.within in
    let v = h.0.within_others in (
      record {
        var = h.0.var;
        points = h.0.points;
        entered = h.0.entered;
        within = omega (
          arith,
          n,
          w,
        );
        within_others = omega (arith, m, v);
        front = b ∙ h.0.front ∙ ap (kept used) (sym a);
      },
      subst (λ l. AreLike used (take c.around (steps ++ xs)) l cuts copies)
          (sym b) (subst (λ l. AreLike used l (take o.around others) cuts copies) (sym a) h.1),
    )
like_grown used steps others xs ys [] (o ∷ copies) h = absurd h
like_grown used steps others xs ys (c ∷ cuts) [] h = absurd h

-- ---- the end of a section

pub record AreLikeBehind (used : ℕ → Bool)
    (steps others : List Citable) (cuts copies : List OpenCut) : Type 0 where
  pub within : around_of cuts ≤ length steps
  pub within_others : around_of copies ≤ length others
  pub front : take (around_of copies) others ≡ kept used (take (around_of cuts) steps)
  pub like : AreLike used (take (around_of cuts) steps) (take (around_of copies) others) cuts copies

below_take : (n : ℕ) (xs : List Citable) → n ≤ length xs → n ≤ length (take n xs)
below_take n xs h = let e = length-take n xs in omega (arith, h, e)

in_take : (n m : ℕ) (xs : List Citable) → n ≤ length (take m xs) → (n ≤ m) × (n ≤ length xs)
in_take n m xs h = let e = length-take m xs in (omega (arith, h, e), omega (arith, h, e))

module _ (used : ℕ → Bool) (steps others : List Citable)
    (c o : OpenCut) (h : IsLike used steps others c o) where
  -- the last piece of the innermost cut has ended
  ended : (cuts copies : List OpenCut) → AreLikeBehind used (take c.around steps)
      (take o.around others) cuts copies → AreLikeBehind used steps others cuts copies
  ended cuts copies k =
      let a = in_take (around_of cuts) c.around steps k.within in
      let b = in_take (around_of copies) o.around others k.within_others in
      let x = take-take (around_of cuts) c.around steps a.0 in
      let y = take-take (around_of copies) o.around others b.0 in
      record {
        within = a.1;
        within_others = b.1;
        front = sym y ∙ k.front ∙ ap (kept used) x;
        like = subst (λ l. AreLike used (take (around_of cuts) steps) l cuts copies) y (subst (λ l.
            AreLike used l (take (around_of copies) (take o.around others)) cuts copies) x k.like);
      }

  -- its next piece is entered
  again : (cuts copies : List OpenCut) → AreLike used
      (take c.around steps) (take o.around others) cuts copies → AreLikeBehind used steps others
      (record c { entered = c.entered + 1 } ∷ cuts) (record o { entered = o.entered + 1 } ∷ copies)
  again cuts copies k =
      let x = take-take c.around c.around steps (omega arith) in
      let y = take-take o.around o.around others (omega arith) in
      record {
        within = h.within;
        within_others = h.within_others;
        front = h.front;
        like = (
          record {
            var = h.var;
            points = h.points;
            entered = ap (λ n. n + 1) h.entered;
            within = below_take c.around steps h.within;
            within_others = below_take o.around others h.within_others;
            front = y ∙ h.front ∙ ap (kept used) (sym x);
          },
          subst (λ l. AreLike used (take c.around (take c.around steps)) l cuts copies)
              (sym y) (subst (λ l. AreLike used l (take o.around others) cuts copies) (sym x) k),
        );
      }

  chosen : (cuts copies : List OpenCut) (b : Bool)
      → AreLike used (take c.around steps) (take o.around others) cuts copies
      → AreLikeBehind used steps others (cuts_behind cuts) (cuts_behind copies)
      → AreLikeBehind used steps others
      (if b then cuts_behind cuts else record c { entered = c.entered + 1 } ∷ cuts)
      (if b then cuts_behind copies else record o { entered = o.entered + 1 } ∷ copies)
  chosen cuts copies true k e = e
  chosen cuts copies false k e = again cuts copies k

pub like_behind : (used : ℕ → Bool) (steps others : List Citable) (cuts copies : List OpenCut)
    → AreLike used steps others cuts copies
    → AreLikeBehind used steps others (cuts_behind cuts) (cuts_behind copies)
like_behind used steps others [] [] h =
    record { within = omega arith; within_others = omega arith; front = refl; like = tt }
like_behind used steps others (c ∷ cuts) (o ∷ copies) h =
    let same : nat_lt (length o.points) o.entered ≡ nat_lt (length c.points) c.entered =
    on_both (λ ps n. nat_lt (length ps) n) h.0.points h.0.entered in
    let rest = ended used steps others c o h.0 (cuts_behind cuts) (cuts_behind copies)
    (like_behind used (take c.around steps) (take o.around others) cuts copies h.1) in
    subst (λ b. AreLikeBehind used steps others (cuts_behind (c ∷ cuts)) (if b then cuts_behind
    copies else record o { entered = o.entered + 1 } ∷ copies)) (sym same)
    (chosen used steps others c o h.0 cuts copies (nat_lt (length c.points) c.entered) h.1 rest)
like_behind used steps others [] (o ∷ copies) h = absurd h
like_behind used steps others (c ∷ cuts) [] h = absurd h

-- a further cut
pub like_cut : (used : ℕ → Bool) (steps : List Citable) (cuts copies : List OpenCut)
    (x : ExprId) (ps : List Dyadic) → AreLike used steps (kept used steps) cuts copies
    → AreLike used steps (kept used steps)
    (record { var = x; points = ps; entered = 1; around = length steps } ∷ cuts)
    (record { var = x; points = ps; entered = 1; around = length (kept used steps) } ∷ copies)
like_cut used steps cuts copies x ps h =
    let a = take-length steps in
    let b = take-length (kept used steps) in (
      record {
        var = refl;
        points = refl;
        entered = refl;
        within = omega arith;
        within_others = omega arith;
        front = b ∙ ap (kept used) (sym a);
      },
      subst (λ l. AreLike used (take (length steps) steps) l cuts copies)
          (sym b) (subst (λ l. AreLike used l (kept used steps) cuts copies) (sym a) h),
    )
