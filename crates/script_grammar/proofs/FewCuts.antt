-- A script that the judge lets pass has few cuts, of few pieces each.
use Rattle.std.proofs.Common.{◌≡◌, ℕ, ◌+◌, ◌≤◌, ◌<◌, nat_lt, List, [], ◌∷◌, ◌++◌, refl, ap, subst}
use Rattle.std.proofs.Common.{arith, le_refl}
use Rattle.std.proofs.lemmas.Bool.{lt-ltb}
use Rattle.script_words.specs.declared.class.Symbol.TheVariants as s
use Rattle.script_words.specs.Words.{sign}
use Rattle.script_shape.specs.declared.due.Due.TheVariants as d
use Rattle.script_shape.specs.Expressions.{Bound, unsigned, positive, negative}
use Rattle.script_shape.specs.Hints.{Points, last_point, more_points, CutForm, in_four, pieces}
use Rattle.script_shape.specs.Hints.{at_points, Hint, rewrite, like, split, halving, Hints, no_hint}
use Rattle.script_shape.specs.Hints.{hint}
use Rattle.script_shape.specs.Roles.{Leaf, at, bound_leaves, name_leaves, points_leaves, cut_leaves}
use Rattle.script_shape.specs.Roles.{hint_leaves, hints_leaves}
use Rattle.script_judge.specs.Counts.{one_if}
use Rattle.script_judge.specs.Judge.{Seen, seen_after}
use Rattle.script_grammar.proofs.Passing.{Passes, passes_both}
use Rattle.script_grammar.proofs.FewHints.{IsWithin, all_within}

-- ---- cuts

splits_rise : (ls : List Leaf) (seen last : Seen) → Passes seen ls last
    → seen.counts.splits ≤ last.counts.splits
splits_rise [] seen last p =
    subst (λ (x : Seen). seen.counts.splits ≤ x.counts.splits) p (le_refl seen.counts.splits)
splits_rise (l ∷ ls) seen last p =
    let a = splits_rise ls (seen_after p.0 seen l.role l.word) last p.3 in omega arith

abbrev pub is_cut : Hint → ℕ
is_cut (split n c) = 1
is_cut h = 0

abbrev pub cut_count : Hints → ℕ
cut_count no_hint = 0
cut_count (hint h l) = is_cut h + cut_count l

one_split : (h : Hint) (seen last : Seen) → Passes seen (hint_leaves h) last
    → is_cut h + seen.counts.splits ≤ last.counts.splits
one_split (rewrite a b n) seen last p =
    let x = splits_rise (hint_leaves (rewrite a b n)) seen last p in omega arith
one_split (like a b) seen last p =
    let x = splits_rise (hint_leaves (like a b)) seen last p in omega arith
one_split (split n c) seen last p = let x = splits_rise (name_leaves d.SplitName n ++ cut_leaves c)
    (seen_after p.0 seen d.Hints (sign s.Dollar)) last p.3 in omega arith
one_split (halving h) seen last p =
    let x = splits_rise (hint_leaves (halving h)) seen last p in omega arith

pub cuts_counted : (h : Hints) (seen last : Seen) → Passes seen (hints_leaves h) last
    → cut_count h + seen.counts.splits ≤ last.counts.splits
cuts_counted no_hint seen last p = let a = splits_rise [] seen last p in omega arith
cuts_counted (hint h l) seen last p =
    let both = passes_both (hint_leaves h) _ seen last p in
    let rest = both.2 in
    let one = one_split h seen both.0 both.1 in
    let more = cuts_counted l
    (seen_after rest.0 both.0 d.Semicolon (sign s.Semicolon)) last rest.3 in
    omega (arith, one, more)

-- ---- points

abbrev pub point_count : Points → ℕ
point_count (last_point b) = 1
point_count (more_points b l) = 1 + point_count l

begun : (n : ℕ) → 0 < n → one_if (nat_lt 0 n) ≡ 1
begun n h = ap one_if (lt-ltb 0 n h)

bound_counted : (b : Bound) (seen last : Seen) → Passes seen (bound_leaves b) last
    → 0 < seen.counts.pieces → last.counts.pieces ≡ seen.counts.pieces + 1
bound_counted (unsigned k t) seen last p h = subst (λ (x : Seen). x.counts.pieces
    ≡ seen.counts.pieces + 1) p.3 (ap (λ i. seen.counts.pieces + i) (begun seen.counts.pieces h))
bound_counted (positive k t) seen last p h = let q = p.3 in subst (λ (x : Seen). x.counts.pieces
    ≡ seen.counts.pieces + 1) q.3 (ap (λ i. seen.counts.pieces + i) (begun seen.counts.pieces h))
bound_counted (negative k t) seen last p h = let q = p.3 in subst (λ (x : Seen). x.counts.pieces
    ≡ seen.counts.pieces + 1) q.3 (ap (λ i. seen.counts.pieces + i) (begun seen.counts.pieces h))

points_counted : (l : Points) (seen last : Seen) → Passes seen (points_leaves l) last
    → 0 < seen.counts.pieces → point_count l + seen.counts.pieces ≤ last.counts.pieces
points_counted (last_point b) seen last p h =
    let a = bound_counted b seen last p h in omega (arith, a)
points_counted (more_points b l) seen last p h =
    let both = passes_both (bound_leaves b) _ seen last p in
    let a = bound_counted b seen both.0 both.1 h in
    let rest = both.2 in
    let more = points_counted l
    (seen_after rest.0 both.0 d.Points (sign s.Comma)) last rest.3 (omega (arith, a)) in
    omega (arith, a, more)

abbrev pub CutIsFew : CutForm → Type 0
CutIsFew (at_points l) = point_count l ≤ 63
CutIsFew c = Unit {0}

cut_few : (c : CutForm) (seen last : Seen) → Passes seen (cut_leaves c) last
    → IsWithin seen → CutIsFew c
cut_few in_four seen last p w = tt
cut_few (pieces n) seen last p w = tt
cut_few (at_points l) seen last p w =
    let next = seen_after p.0 seen d.SplitCut (sign s.In) in
    let q = p.3 in
    let opened = seen_after q.0 next d.Cut (sign s.OpenParen) in
    let both = passes_both (points_leaves l) _ opened last q.3 in
    let count = points_counted l opened both.0 both.1 (omega arith) in
    let a = all_within (at d.SplitCut (sign s.In) ∷ (at d.Cut (sign s.OpenParen) ∷ [])) seen opened
    (p.0, p.1, p.2, (q.0, q.1, q.2, refl)) w in
    let b = all_within (points_leaves l) opened both.0 both.1 a in
    let c = b.pieces in
    omega (arith, count, c)

abbrev pub HintIsFew : Hint → Type 0
HintIsFew (split n c) = CutIsFew c
HintIsFew h = Unit {0}

hint_few : (h : Hint) (seen last : Seen) → Passes seen (hint_leaves h) last
    → IsWithin seen → HintIsFew h
hint_few (rewrite a b n) seen last p w = tt
hint_few (like a b) seen last p w = tt
hint_few (split n c) seen last p w =
    let next = seen_after p.0 seen d.Hints (sign s.Dollar) in
    let both = passes_both (name_leaves d.SplitName n) _ next last p.3 in
    let a = all_within (at d.Hints (sign s.Dollar) ∷ name_leaves d.SplitName n) seen both.0
    (p.0, p.1, p.2, both.1) w in
    cut_few c both.0 last both.2 a
hint_few (halving h) seen last p w = tt

abbrev pub AreFew : Hints → Type 0
AreFew no_hint = Unit {0}
AreFew (hint h l) = HintIsFew h × AreFew l

pub hints_few : (h : Hints) (seen last : Seen) → Passes seen (hints_leaves h) last
    → IsWithin seen → AreFew h
hints_few no_hint seen last p w = tt
hints_few (hint h l) seen last p w =
    let both = passes_both (hint_leaves h) _ seen last p in
    let mid = both.0 in
    let rest = both.2 in
    let next = seen_after rest.0 mid d.Semicolon (sign s.Semicolon) in
    let a = all_within (hint_leaves h) seen mid both.1 w in
    let b = all_within (at d.Semicolon (sign s.Semicolon) ∷ []) mid next
    (rest.0, rest.1, rest.2, refl) a in
    (hint_few h seen mid both.1 w, hints_few l next last rest.3 b)
