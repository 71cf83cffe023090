-- The refusals that are judged on the words before the reading ends, token by token.
use Rattle.std.specs.Prelude.{◌≡◌, ℕ, ◌+◌, ◌*◌, ◌&&◌, ◌||◌, not, nat_lt, List, [], ◌∷◌, length}
use Rattle.std.specs.Prelude.{Option, Some, None, Bool, true, false, if◌then◌else◌}
use Rattle.script_words.specs.declared.class.Symbol.TheVariants as s
use Rattle.script_words.specs.Words.{Word, sign}
use Rattle.script_shape.specs.declared.due.Due.{Due}
use Rattle.script_shape.specs.declared.due.Due.TheVariants as d
use Rattle.script_shape.specs.Roles.{Leaf}
use Rattle.script_judge.specs.declared.refusal.RefusalKind.{RefusalKind}
use Rattle.script_judge.specs.declared.refusal.RefusalKind.TheVariants as kind
use Rattle.script_judge.specs.declared.refusal.LimitKind.TheVariants as limit
use Rattle.script_judge.specs.declared.counts.Counts.{Counts}
use Rattle.script_judge.specs.declared.counts.ScriptPart.TheVariants as place
use Rattle.script_judge.specs.declared.nesting.Open.{Open}
use Rattle.script_judge.specs.declared.fault.Fault.{Fault}
use Rattle.script_judge.specs.Counts.{one_if, counts_after}
use Rattle.script_judge.specs.Nesting.{opened_after}
use Rattle.script_judge.specs.Bounds.{BoundsSeen, no_bounds, bounds_after, is_bad_bound}
use Rattle.script_judge.specs.Sides.{is_arrow, is_or, has_arrow, begins_bound}
use Rattle.script_judge.specs.Said.{Said}
use Rattle.script_judge.specs.Splits.{SplitsSeen, no_splits, splits_after, is_rangeless}
use Rattle.script_judge.specs.Splits.{is_bad_point}
use Rattle.script_judge.specs.Numbers.{Notes, Tells, has_no_pieces, is_past_lsb, is_past_pieces}
use Rattle.script_judge.specs.Names.{NamesSeen, no_names, names_after, is_new, is_used}
use Rattle.script_judge.specs.Names.{is_some_among, defines, split_name}

-- what stands before a token: its words' names, what is open, what is counted, its bounds and the
-- split variable; and what the text's formula says
pub record Seen : Type 0 where
  pub names : NamesSeen
  pub opened : List Open
  pub counts : Counts
  pub bounds : BoundsSeen
  pub said : Option Said
  pub splits : SplitsSeen

-- before the first token of a text whose formula says this
abbrev pub nothing_seen : Option Said → Seen
nothing_seen said = record {
  names = no_names;
  opened = [];
  counts = record {
    place = place.Definitions;
    rounds = false;
    halves = false;
    definitions = 0;
    propositions = 0;
    hints = 0;
    nodes = 0;
    splits = 0;
    pieces = 0;
    cases = 1;
    conjunctions = 1;
  };
  bounds = no_bounds;
  said = said;
  splits = no_splits;
}

-- what stands before the next token
abbrev pub seen_after : Notes → Seen → Due → Word → Seen
seen_after v seen r w = record {
  names = names_after seen.names seen.counts.halves r w;
  opened = opened_after seen.opened r w;
  counts = counts_after seen.counts (is_new seen.names r w) r w;
  bounds = bounds_after seen.bounds v.number r w;
  said = seen.said;
  splits = splits_after seen.splits seen.said (split_name r w) v.number r;
}

-- ---- `?` in a hypothesis; `@FIX`, `\/` and `not` in a goal: propositions with a `->` of the

-- how many of them are
abbrev pub arrow_count : List Leaf → ℕ
arrow_count [] = 0
arrow_count (l ∷ ls) = one_if (is_arrow l.role l.word) + arrow_count ls

-- the sign `?`
abbrev pub is_ask : Word → Bool
is_ask (sign s.Ask) = true
is_ask w = false

-- no token is left
abbrev pub is_empty : List Leaf → Bool
is_empty [] = true
is_empty (l ∷ ls) = false

-- An `@` behind which the reading ends is no `@FIX`. A `not` stands before a bound alone.
abbrev pub is_on_wrong_side : Due → Word → Bool → List Leaf → Bool
is_on_wrong_side d.Range w arrow_behind behind = is_ask w && arrow_behind
is_on_wrong_side d.Prop w arrow_behind behind = not arrow_behind && not (is_empty behind)
is_on_wrong_side d.Connective w arrow_behind behind = is_or w && not arrow_behind
is_on_wrong_side d.Claim w arrow_behind behind = not arrow_behind || not (begins_bound behind)
is_on_wrong_side r w arrow_behind behind = false

-- ---- one token: the kinds in the order of their numbers

-- the first kind whose test is true
abbrev pub first_kind : List (Bool × RefusalKind) → Option RefusalKind
first_kind [] = None
first_kind (p ∷ ps) = if p.0 then Some p.1 else first_kind ps

-- what is refused whatever is counted
abbrev pub form_kind : Bool → Bool → Bool → Bool → Bool → Bool → Bool → Bool → Option RefusalKind
form_kind wrong_side used bad_bound rangeless defined_split no_pieces bad_point past = first_kind (
    (wrong_side, kind.FormulaForm)
    ∷ ((used, kind.NameUsed)
    ∷ ((bad_bound, kind.BadBound)
    ∷ ((rangeless, kind.SplitRange)
    ∷ ((
      defined_split || no_pieces || bad_point,
      kind.BadSplit,
    ) ∷ ((past, kind.LiteralLimit) ∷ []))))))

-- the tests of one token, with whether a `->` of the formula stands behind it
abbrev pub form_refusal : Notes → Seen → Due → Word → Bool → List Leaf → Option RefusalKind
form_refusal v seen r w arrow_behind behind =
    form_kind (is_on_wrong_side r w arrow_behind behind)
    (is_used seen.names (defines r w) behind) (is_bad_bound seen.bounds v.number)
    (is_rangeless seen.said (is_some_among seen.names.defined (split_name r w)) (split_name r w))
    (is_some_among seen.names.defined (split_name r w)) (has_no_pieces r w)
    (is_bad_point seen.splits (nat_lt 0 seen.counts.pieces) v.number) v.past

-- the limits that are passed with a token
abbrev pub limit_kind : ℕ → ℕ → Counts → Bool → Bool → Option RefusalKind
limit_kind opened halved counts past_lsb past_pieces = first_kind (
    (nat_lt 64 opened, kind.Limit limit.Nesting)
    ∷ ((nat_lt 256 counts.definitions, kind.Limit limit.Definitions)
    ∷ ((nat_lt 128 counts.propositions, kind.Limit limit.Propositions)
    ∷ ((nat_lt 64 counts.hints, kind.Limit limit.Hints)
    ∷ ((nat_lt 512 counts.nodes, kind.Limit limit.Nodes)
    ∷ ((past_lsb, kind.Limit limit.Lsb)
    ∷ ((nat_lt 4 counts.splits || nat_lt 4 halved, kind.Limit limit.Splits)
    ∷ ((nat_lt 64 counts.pieces || past_pieces, kind.Limit limit.Pieces)
    ∷ ((nat_lt 64 (counts.cases * counts.conjunctions), kind.Limit limit.Cases) ∷ [])))))))))

-- the limits that are passed with one token, which is among those that stand before
abbrev pub limit_refusal : Seen → Due → Word → Option RefusalKind
limit_refusal after r w =
    limit_kind (length after.opened) (length after.names.halved) after.counts
    (is_past_lsb r w) (is_past_pieces r w)

-- the first that there is
abbrev pub or_else : Option RefusalKind → Option RefusalKind → Option RefusalKind
or_else (Some k) other = Some k
or_else None other = other

-- why a token is refused: by its form, or by a limit
abbrev pub refusal_at : Notes → Seen → Due → Word → List Leaf → Option RefusalKind
refusal_at v seen r w behind =
    or_else (form_refusal v seen r w (has_arrow behind) behind)
    (limit_refusal (seen_after v seen r w) r w)

-- ---- all tokens

-- The first refused word, counted from i on, or none.
pub data Judged : ℕ → Seen → List Leaf → Option Fault → Type 0 where
  none_refused : {i : ℕ} {seen : Seen} → Judged i seen [] None
  refused : {i : ℕ} {seen : Seen} {l : Leaf} {ls : List Leaf} {v : Notes} {k : RefusalKind}
      → Tells v l.role l.word ls → refusal_at v seen l.role l.word ls ≡ Some k
      → Judged i seen (l ∷ ls) (Some (record { kind = k; word = i }))
  passed : {i : ℕ} {seen : Seen} {l : Leaf} {ls : List Leaf} {v : Notes} {found : Option Fault}
      → Tells v l.role l.word ls → refusal_at v seen l.role l.word ls ≡ None
      → Judged (i + 1) (seen_after v seen l.role l.word) ls found → Judged i seen (l ∷ ls) found
