-- What few hints say is little.
use Rattle.std.proofs.Common.{◌≡◌, ℕ, ◌+◌, ◌≤◌, nat_lt, List, [], ◌∷◌, ◌++◌, length, None, Bool}
use Rattle.std.proofs.Common.{true, false, if◌then◌else◌, refl, arith, length-append}
use Rattle.std.specs.List.{AllByRecursion}
use Rattle.std.proofs.lemmas.Bool.{ltb-true}
use Rattle.dyadic.specs.declared.number.Dyadic.{Dyadic}
use Rattle.dyadic.specs.declared.number.End.{End}
use Rattle.dyadic.specs.declared.number.End.TheVariants as end
use Rattle.interval.specs.Results.{point_of}
use Rattle.literal_order.specs.Values.{written_value}
use Rattle.facts.proofs.CommonParts.{all_last}
use Rattle.script_shape.specs.Hints.{Points, last_point, more_points, CutForm, in_four, pieces}
use Rattle.script_shape.specs.Hints.{at_points, Names, last_name, more_names, Halving, halved_by}
use Rattle.script_shape.specs.Hints.{with_goal, Hint, rewrite, like, split, halving, Hints, no_hint}
use Rattle.script_shape.specs.Hints.{hint}
use Rattle.script_shape.specs.Tree.{Script, formula, define}
use Rattle.script_nodes.specs.Known.{Known}
use Rattle.script_nodes.specs.Operators.{digits_text, number_of}
use Rattle.script_nodes.specs.Values.{expr_value}
use Rattle.script_nodes.specs.Definitions.{definition_value}
use Rattle.script_nodes.specs.Written.{bound_written}
use Rattle.script_claims.specs.Claims.{formula_claims}
use Rattle.script_hints.specs.declared.hint.Split.{Split}
use Rattle.script_hints.specs.declared.hint.HintList.{HintList}
use Rattle.script_hints.specs.Hints.{with_end, with_points, piece_count, cutting_of, HintsSoFar}
use Rattle.script_hints.specs.Hints.{with_halved, with_names, with_halving, with_hint, with_hints}
use Rattle.script_hints.specs.Hints.{no_hints}
use Rattle.script_hints.specs.Few.{HasFewPieces}
use Rattle.script_grammar.specs.CountedHints.{HasFewHints, hints_behind, HintsAreFew}
use Rattle.script_grammar.proofs.FewHints.{hint_count, hints_counted, hints_of, hints_pass}
use Rattle.script_grammar.proofs.FewHints.{all_within}
use Rattle.script_grammar.proofs.FewHalves.{halves_are_few}
use Rattle.script_grammar.proofs.FewOrdered.{order_is_short}
use Rattle.script_grammar.proofs.FewCuts.{is_cut, cut_count, cuts_counted, point_count, CutIsFew}
use Rattle.script_grammar.proofs.FewCuts.{HintIsFew, AreFew, hints_few}

-- ---- pieces

end_joined : (ps : List Dyadic) (e : End) → length (with_end ps e) ≤ 1 + length ps
end_joined ps end.Low = omega arith
end_joined ps (end.At x) = omega (arith, length-append ps (x ∷ []))
end_joined ps end.High = omega arith

points_joined : (l : Points) (ps : List Dyadic)
    → length (with_points l ps) ≤ point_count l + length ps
points_joined (last_point b) ps = end_joined ps (point_of (written_value (bound_written b))).lo
points_joined (more_points b l) ps =
    let e = (point_of (written_value (bound_written b))).lo in
    let a = end_joined ps e in
    let more = points_joined l (with_end ps e) in
    omega (arith, a, more)

few_pieces : (n : ℕ) → piece_count n ≤ 64
few_pieces n = by_test (nat_lt n 64) refl
  where
    by_test : (b : Bool) → nat_lt n 64 ≡ b → (if b then n else 64) ≤ 64
    by_test true e = let h = ltb-true n 64 e in omega arith
    by_test false e = omega arith

cutting_few : (c : CutForm) → CutIsFew c → HasFewPieces (cutting_of c)
cutting_few in_four h = omega arith
cutting_few (pieces n) h = few_pieces (number_of (digits_text n))
cutting_few (at_points l) h = let a = points_joined l [] in omega (arith, a)

-- ---- hints

pub joined_within : {A : Type 0} (xs : List A) (x : A) (n : ℕ) → length xs ≤ n
    → length (xs ++ (x ∷ [])) ≤ 1 + n
joined_within xs x n h = omega (arith, length-append xs (x ∷ []))

-- the hints say so many rewritings and likes at most, and so many cuts
record SayAtMost (a b : ℕ) (l : HintList) : Type 0 where
  rewrites : length l.rewrites ≤ a
  likes : length l.likes ≤ a
  cuts : length l.cuts ≤ b
  pieces : AllByRecursion (λ c. HasFewPieces c.cut) l.cuts

module _ (a b : ℕ) where
  names_said : (l : Names) (x : HintsSoFar) → SayAtMost a b x.1 → SayAtMost a b (with_names l x).1
  names_said (last_name n) x h =
      record { rewrites = h.rewrites; likes = h.likes; cuts = h.cuts; pieces = h.pieces }
  names_said (more_names n l) x h = names_said l (with_halved n x)
      (record { rewrites = h.rewrites; likes = h.likes; cuts = h.cuts; pieces = h.pieces })

  halving_said : (l : Halving) (x : HintsSoFar) → SayAtMost a b x.1
      → SayAtMost a b (with_halving l x).1
  halving_said (halved_by e n) x h = names_said n ((expr_value None e x.0).0, x.1) h
  halving_said (with_goal e l) x h = halving_said l ((expr_value None e x.0).0, x.1) h

  hint_said : (n : Hint) (x : HintsSoFar) → HintIsFew n → SayAtMost a b x.1
      → SayAtMost (1 + a) (is_cut n + b) (with_hint n x).1
  hint_said (rewrite p q n) x f h = let r = h.rewrites in let i = h.likes in
      let c = h.cuts in record {
        rewrites = joined_within x.1.rewrites _ a r;
        likes = omega arith;
        cuts = omega arith;
        pieces = h.pieces;
      }
  hint_said (like p q) x f h = let r = h.rewrites in let i = h.likes in let c = h.cuts in record {
    rewrites = omega arith;
    likes = joined_within x.1.likes _ a i;
    cuts = omega arith;
    pieces = h.pieces;
  }
  hint_said (split n c) x f h = let r = h.rewrites in let i = h.likes in let k = h.cuts in record {
    rewrites = omega arith;
    likes = omega arith;
    cuts = joined_within x.1.cuts _ b k;
    pieces = all_last (λ (c : Split). HasFewPieces c.cut) x.1.cuts _ h.pieces (cutting_few c f);
  }
  hint_said (halving l) x f h = let w = halving_said l x h in
      let r = w.rewrites in let i = w.likes in let c = w.cuts in
      record { rewrites = omega arith; likes = omega arith; cuts = omega arith; pieces = w.pieces }

hints_said : (a b : ℕ) (l : Hints) (x : HintsSoFar) → AreFew l → SayAtMost a b x.1
    → SayAtMost (hint_count l + a) (cut_count l + b) (with_hints l x).1
hints_said a b no_hint x f h = let r = h.rewrites in let i = h.likes in let c = h.cuts in
    record { rewrites = omega arith; likes = omega arith; cuts = omega arith; pieces = h.pieces }
hints_said a b (hint n l) x f h =
    let w = hints_said (1 + a) (is_cut n + b) l (with_hint n x) f.1 (hint_said a b n x f.0 h) in
    let r = w.rewrites in
    let i = w.likes in
    let c = w.cuts in
    record { rewrites = omega arith; likes = omega arith; cuts = omega arith; pieces = w.pieces }

-- ---- scripts

record IsShort (l : Hints) : Type 0 where
  hints : hint_count l ≤ 64
  cuts : cut_count l ≤ 4
  few : AreFew l

script_said : (tree : Script) (k : Known) → IsShort (hints_of tree)
    → length (hints_behind tree k).halves ≤ 4 → length (hints_behind tree k).order
    ≤ length (hints_behind tree k).halves + length (hints_behind tree k).cuts
    → HasFewHints (hints_behind tree k)
script_said (formula f l) k h four all =
    let w = hints_said 0 0 l ((formula_claims f k).known, no_hints) h.few
    (record { rewrites = omega arith; likes = omega arith; cuts = omega arith; pieces = tt }) in
    let r = w.rewrites in
    let i = w.likes in
    let c = w.cuts in
    let n = h.hints in
    let m = h.cuts in
    record {
      rewrites = omega arith;
      likes = omega arith;
      cuts = omega arith;
      pieces = w.pieces;
      halves = four;
      order = omega (arith, four, all);
    }
script_said (define x rest) k h four all = script_said rest (definition_value x k) h four all

pub hints_are_few : HintsAreFew
hints_are_few tree k said j =
    let p = hints_pass tree said j in
    let l = hints_of tree in
    let within = all_within _ p.before p.behind p.passes p.within in
    let a = hints_counted l p.before p.behind p.passes p.place in
    let b = cuts_counted l p.before p.behind p.passes in
    let c = within.hints in
    let d = within.splits in
    script_said tree k (record {
      hints = omega (arith, a, c);
      cuts = omega (arith, b, d);
      few = hints_few l p.before p.behind p.passes p.within;
    }) (halves_are_few tree k said j) (order_is_short tree k)
