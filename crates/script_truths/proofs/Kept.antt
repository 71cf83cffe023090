-- Nodes keep their values where more nodes follow, and with them what is said.
use Rattle.std.specs.Prelude.{List, length, map}
use Rattle.std.proofs.Common.{ap, ◌∙◌, subst}
use Rattle.fx_model.specs.declared.Node.{Node}
use Rattle.fx_model.specs.Expression.{IsOrdered, value}
use Rattle.expr_dag.specs.Extended.{ValuesStay}
use Rattle.pair_closure.specs.Closure.{difference_of}
use Rattle.script_truths.specs.Kept.{OfExtended, ValuesAreKept, FactsAreKept, LinesAreKept}
use Rattle.script_truths.specs.Kept.{ClaimsAreKept, RowsAreKept}
use Rattle.script_truths.specs.Truths.{UniversesExtend}
use Rattle.script_truths.proofs.Alike.{either_way, fact_alike, line_alike, claim_alike, row_alike}

module _ (stay : ValuesStay) where
  pub values_kept : OfExtended ValuesAreKept
  values_kept nodes all a is x l =
      ap (λ (list : List Node). value list a x) is.list
      ∙ stay nodes is.more a is.before (subst IsOrdered is.list is.after) x l

  pub facts_kept : OfExtended FactsAreKept
  facts_kept nodes all a is f l =
      either_way _ _ (fact_alike all nodes a (length nodes) (values_kept nodes all a is) f l)

  pub lines_kept : OfExtended LinesAreKept
  lines_kept nodes all a is t l known =
      either_way _ _ (line_alike all nodes a (length nodes) (values_kept nodes all a is) t l known)

  pub claims_kept : OfExtended ClaimsAreKept
  claims_kept nodes all a is c l =
      either_way _ _ (claim_alike all nodes a (length nodes) (values_kept nodes all a is) c l)

  pub rows_kept : OfExtended RowsAreKept
  rows_kept nodes all a is row known =
      either_way _ _ (row_alike all nodes a (length nodes) (values_kept nodes all a is) row known)

-- the differences stand behind the script's nodes
pub universes_extend : UniversesExtend
universes_extend s claims u is =
    let behind = is.universe.closure.order in
    record {
      more = map difference_of behind.differences;
      list = behind.list;
      before = is.ordered;
      after = is.nodes;
    }
