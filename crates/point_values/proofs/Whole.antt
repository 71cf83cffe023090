-- From the values that were found to those of the definition.
use Rattle.std.specs.Prelude.{◌≡◌, List, length, map, Option, None}
use Rattle.std.proofs.Common.{sym, ap, ◌∙◌, subst}
use Rattle.fx_model.specs.Expression.{value}
use Rattle.fx_model.specs.declared.Node.{Node}
use Rattle.exact_fractions.specs.declared.exact.Exact.{Exact}
use Rattle.exact_fractions.specs.Exact.{value_of}
use Rattle.facts.specs.declared.hint.HintMark.{HintMark}
use Rattle.script_claims.specs.declared.claim.Claim.{Claim}
use Rattle.script_hints.specs.declared.hint.Hint.{Hint}
use Rattle.point_values.specs.Known.{values_of}
use Rattle.point_values.specs.Rows.{Row, assignment_of}
use Rattle.point_values.specs.Numbers.{entry_numbers, node_numbers, wide_from, or_else}
use Rattle.point_values.specs.Walk.{AreKnown}
use Rattle.point_values.specs.Evaluation.{pairs, lines_with, wide_with, subject_of, evaluation_of}
use Rattle.point_values.specs.Evaluation.{wide_place}
use Rattle.point_values.specs.Among.{AreAmong}
use Rattle.point_values.specs.Within.{AreWithin}
use Rattle.point_values.specs.declared.place.Place.TheVariants as place
use Rattle.point_values.proofs.Agreeing.{lines_same, wide_same}

known_at : (nodes : List Node) (rows : List Row) (es fs : List Exact) (vs us : List (Option Exact))
    → fs ≡ es → us ≡ vs → map value_of es ≡ assignment_of rows
    → AreKnown nodes (map value_of fs) vs (length nodes)
    → AreKnown nodes (assignment_of rows) us (length nodes)
known_at nodes rows es fs vs us e f v k =
    subst (λ us. AreKnown nodes (assignment_of rows) us (length nodes)) (sym f)
    (subst (λ a. AreKnown nodes a vs (length nodes)) (ap (map value_of) e ∙ v) k)

pub lines_are : (nodes : List Node) (cs : List Claim) (cases : List (List Claim)) (gs : List Claim)
    (hs : List Hint) (ms : List HintMark) (rows : List Row) (es fs : List Exact) (vs us :
    List (Option Exact)) → fs ≡ es → us ≡ vs → map value_of es ≡ assignment_of rows
    → AreKnown nodes (map value_of fs) vs (length nodes) → AreWithin (length nodes) cs gs hs
    → AreAmong cs cases → lines_with (values_of us) cs cases gs (pairs hs ms)
    ≡ evaluation_of (subject_of nodes cs cases gs hs ms) (assignment_of rows)
lines_are nodes cs cases gs hs ms rows es fs vs us e f v k w m =
    lines_same (values_of us) (value nodes (assignment_of rows)) (length nodes)
    (known_at nodes rows es fs vs us e f v k) cs cases gs hs ms w m

pub places_are : (nodes : List Node) (cs : List Claim) (cases : List (List Claim)) (gs : List Claim)
    (hs : List Hint) (ms : List HintMark) (rows : List Row) (es fs : List Exact) (vs us :
    List (Option Exact)) → fs ≡ es → us ≡ vs → map value_of es ≡ assignment_of rows
    → AreKnown nodes (map value_of fs) vs (length nodes) → AreWithin (length nodes) cs gs hs
    → wide_from place.Entry entry_numbers 0 rows ≡ None
    → wide_from place.Node (node_numbers (value nodes (map value_of fs))) 0 nodes ≡ None
    → wide_with (values_of us) cs gs (pairs hs ms) ≡ wide_place (subject_of nodes cs cases gs hs ms)
    rows
places_are nodes cs cases gs hs ms rows es fs vs us e f v k w n m =
    wide_same (values_of us) (value nodes (assignment_of rows)) (length nodes)
    (known_at nodes rows es fs vs us e f v k) cs gs hs ms w
    ∙ sym (ap
    (λ o. or_else o
    (or_else (wide_from place.Node (node_numbers (value nodes (assignment_of rows))) 0 nodes)
    (wide_with (value nodes (assignment_of rows)) cs gs (pairs hs ms)))) n
    ∙ ap (λ o. or_else o (wide_with (value nodes (assignment_of rows)) cs gs (pairs hs ms)))
    (subst (λ a. wide_from place.Node (node_numbers (value nodes a)) 0 nodes ≡ None)
    (ap (map value_of) e ∙ v) m))
