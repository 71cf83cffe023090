-- The printed lines, as bytes. Each ends with a line feed.
use Rattle.std.specs.Prelude.{ℕ, ◌++◌, codes, List, slice_range}
use Rattle.std.specs.List.{join_by}
use Rattle.std.specs.Fmt.{decimal}
use Rattle.dyadic.specs.Texts.{end_text}
use Rattle.interval.specs.declared.interval.Interval.{Interval}
use Rattle.script_words.specs.declared.lex.Token.{Token}
use Rattle.script_judge.specs.declared.refusal.LimitKind.{LimitKind}
use Rattle.script_judge.specs.declared.refusal.LimitKind.TheVariants as limit
use Rattle.script_judge.specs.declared.refusal.RefusalKind.{RefusalKind}
use Rattle.script_judge.specs.declared.refusal.RefusalKind.TheVariants as kind
use Rattle.script_judge.specs.declared.refusal.Refusal.{Refusal}

-- Text as it is read or printed, byte by byte.
abbrev pub Bytes : Type 0
Bytes = List ℕ

-- ---- answers

-- the token's part of the text
abbrev pub token_text : Bytes → Token → Bytes
token_text text t = slice_range text t.start t.end

-- the tokens' texts, one space between two
abbrev pub joined : Bytes → List Token → Bytes
joined text tokens = join_by (token_text text) (codes " ") tokens

-- An interval as answers print it: its two ends in brackets, with a comma between.
abbrev pub interval_text : Interval → Bytes
interval_text i = codes "[" ++ end_text i.lo ++ codes ", " ++ end_text i.hi ++ codes "]"

-- ---- refusals

-- the name of what there is too much of
abbrev pub limit_text : LimitKind → Bytes
limit_text limit.Bytes = codes "Bytes"
limit_text limit.Nesting = codes "Nesting"
limit_text limit.Definitions = codes "Definitions"
limit_text limit.Propositions = codes "Propositions"
limit_text limit.Hints = codes "Hints"
limit_text limit.Nodes = codes "Nodes"
limit_text limit.Lsb = codes "Lsb"
limit_text limit.Splits = codes "Splits"
limit_text limit.Pieces = codes "Pieces"
limit_text limit.Cases = codes "Cases"

-- the kind's name; a limit's has in parentheses what there is too much of
abbrev pub kind_text : RefusalKind → Bytes
kind_text kind.NotText = codes "NotText"
kind_text kind.BadToken = codes "BadToken"
kind_text kind.Unexpected = codes "Unexpected"
kind_text kind.FormulaForm = codes "FormulaForm"
kind_text kind.UnsupportedOperator = codes "UnsupportedOperator"
kind_text kind.NameUsed = codes "NameUsed"
kind_text kind.BadBound = codes "BadBound"
kind_text kind.SplitRange = codes "SplitRange"
kind_text kind.BadSplit = codes "BadSplit"
kind_text kind.LiteralLimit = codes "LiteralLimit"
kind_text (kind.Limit k) = codes "Limit(" ++ limit_text k ++ codes ")"

-- What is printed of a script that is refused: the kind of its fault, and at which byte, counted
-- from 0.
abbrev pub refusal_line : Refusal → Bytes
refusal_line r = codes "script: " ++ kind_text r.kind ++ codes " at " ++ decimal r.at ++ codes "\n"

-- ---- other lines

-- of a script that needs more expressions than a universe may have
abbrev pub expressions_text : Bytes
expressions_text = codes "limit: more than 1024 expressions\n"

-- of a script with more boxes than are allowed
abbrev pub boxes_text : ℕ → Bytes
boxes_text most = codes "limit: more than " ++ decimal most ++ codes " boxes\n"
