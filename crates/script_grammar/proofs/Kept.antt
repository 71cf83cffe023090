-- What the judge keeps: the limits of nodes and of cases, and that names of operators are defined.
use Rattle.std.proofs.Common.{◌≡◌, ℕ, ◌*◌, ◌≤◌, nat_lt, List, length, Option, Some, None, Bool}
use Rattle.std.proofs.Common.{true}
use Rattle.std.proofs.Common.{false, not, ◌&&◌, ◌||◌, sym, ap, ◌∙◌}
use Rattle.std.specs.Str.{bytes_eq}
use Rattle.std.proofs.lemmas.Bool.{ltb-false, or_right, or_parts}
use Rattle.script_words.specs.Words.{Word}
use Rattle.script_shape.specs.declared.due.Due.{Due}
use Rattle.script_shape.specs.declared.due.Due.TheVariants as d
use Rattle.script_shape.specs.Roles.{Leaf}
use Rattle.script_nodes.specs.Known.{number_of}
use Rattle.script_judge.specs.declared.counts.Counts.{Counts}
use Rattle.script_judge.specs.Names.{Name, is_among, is_some_among, is_used, defines, with_some}
use Rattle.script_judge.specs.Names.{ended, split_name}
use Rattle.script_judge.specs.Bounds.{is_bad_bound}
use Rattle.script_judge.specs.Said.{Said}
use Rattle.script_judge.specs.Splits.{lacks_range, is_rangeless, is_bad_point}
use Rattle.script_judge.specs.Numbers.{Notes, has_no_pieces, is_past_lsb, is_past_pieces}
use Rattle.script_judge.specs.Judge.{Seen, seen_after, is_on_wrong_side, form_kind, form_refusal}
use Rattle.script_judge.specs.Judge.{limit_kind, limit_refusal, refusal_at}
use Rattle.script_judge.proofs.JudgeLaws.{fails, both_none}
use Rattle.script_judge.specs.Sides.{has_arrow}

-- ---- names that were seen

abbrev pub Among : List Name → Name → Type 0
Among names text = is_among names text ≡ true

-- names with more before them
abbrev pub IsMore : List Name → List Name → Type 0
IsMore old new = (text : Name) → Among old text → Among new text

pub more_some : (o : Option Name) (names : List Name) → IsMore names (with_some o names)
more_some None names text h = h
more_some (Some n) names text h = or_right (bytes_eq n text) _ h

-- ---- what the judge keeps

pub record IsKept (ops : List Name) (seen : Seen) : Type 0 where
  pub operators : IsMore ops seen.names.defined
  pub cases : seen.counts.cases * seen.counts.conjunctions ≤ 64
  pub nodes : seen.counts.nodes ≤ 512

within_limits : (opened halved : ℕ) (c : Counts) (lsb pieces : Bool)
    → limit_kind opened halved c lsb pieces ≡ None
    → (c.nodes ≤ 512) × (c.cases * c.conjunctions ≤ 64)
within_limits opened halved c lsb pieces h =
    let nesting = fails (nat_lt 64 opened) _ _ h in
    let definitions = fails (nat_lt 256 c.definitions) _ _ nesting.1 in
    let propositions = fails (nat_lt 128 c.propositions) _ _ definitions.1 in
    let hints = fails (nat_lt 64 c.hints) _ _ propositions.1 in
    let nodes = fails (nat_lt 512 c.nodes) _ _ hints.1 in
    let low = fails lsb _ _ nodes.1 in
    let splits = fails (nat_lt 4 c.splits || nat_lt 4 halved) _ _ low.1 in
    let cut = fails (nat_lt 64 c.pieces || pieces) _ _ splits.1 in
    let many = c.cases * c.conjunctions in
    (ltb-false 512 c.nodes nodes.0, ltb-false 64 many (fails (nat_lt 64 many) _ _ cut.1).0)

pub kept_after : (ops : List Name) (v : Notes) (seen : Seen) (r : Due)
    (w : Word) (behind : List Leaf) → refusal_at v seen r w behind ≡ None → IsKept ops seen
    → IsKept ops (seen_after v seen r w)
kept_after ops v seen r w behind e k =
    let after = seen_after v seen r w in
    let limits = both_none (form_refusal v seen r w (has_arrow behind) behind)
    (limit_refusal after r w) e in
    let within = within_limits (length after.opened)
    (length after.names.halved) after.counts (is_past_lsb r w) (is_past_pieces r w) limits.1 in
    record {
      operators = λ text h. more_some
          (ended r seen.names.pending) seen.names.defined text (k.operators text h);
      cases = within.1;
      nodes = within.0;
    }

-- ---- split variables

lacks_none : (defined lacks : Bool) → defined ≡ false
    → (not defined && lacks) ≡ false → lacks ≡ false
lacks_none true lacks h e = absurd (cc h)
lacks_none false lacks h e = e

split_tests : (side used bad rangeless defined none point past : Bool)
    → form_kind side used bad rangeless defined none point past ≡ None
    → (rangeless ≡ false) × (defined ≡ false)
split_tests side used bad rangeless defined none point past e =
    let a = fails side _ _ e in
    let b = fails used _ _ a.1 in
    let c = fails bad _ _ b.1 in
    let d = fails rangeless _ _ c.1 in
    let f = fails (defined || none || point) _ _ d.1 in
    let g = or_parts (defined || none) point f.0 in
    let h = or_parts defined none g.0 in
    (d.0, h.0)

-- A split variable that isn't refused, behind a formula that says this: it isn't defined, and
-- lacks no range.
pub split_passed : (v : Notes) (seen : Seen) (w : Word) (behind : List Leaf) (text : Name)
    (f : Said) → refusal_at v seen d.SplitName w behind ≡ None
    → split_name d.SplitName w ≡ Some text → seen.said ≡ Some f
    → (is_among seen.names.defined text ≡ false)
    × (lacks_range f.parts (number_of f.known text) ≡ false)
split_passed v seen w behind text f e n a =
    let named = split_name d.SplitName w in
    let form = both_none (form_refusal v seen d.SplitName w (has_arrow behind) behind)
    (limit_refusal (seen_after v seen d.SplitName w) d.SplitName w) e in
    let tests = split_tests (is_on_wrong_side d.SplitName w (has_arrow behind) behind)
    (is_used seen.names (defines d.SplitName w) behind) (is_bad_bound seen.bounds v.number)
    (is_rangeless seen.said (is_some_among seen.names.defined named) named)
    (is_some_among seen.names.defined named) (has_no_pieces d.SplitName w)
    (is_bad_point seen.splits (nat_lt 0 seen.counts.pieces) v.number) v.past form.0 in
    let plain : is_some_among seen.names.defined (Some text) ≡ false =
    ap (is_some_among seen.names.defined) (sym n) ∙ tests.1 in
    let ranged : is_rangeless (Some f)
    (is_some_among seen.names.defined (Some text)) (Some text) ≡ false =
    ap (λ o. is_rangeless (Some f) (is_some_among seen.names.defined o) o) (sym n)
    ∙ ap (λ o. is_rangeless o (is_some_among seen.names.defined named) named) (sym a)
    ∙ tests.0 in
    (plain, lacks_none (is_among seen.names.defined text) _ plain ranged)
