use Rattle.std.proofs.Common.{◌∙◌, ap}
use Rattle.facts.specs.declared.instance.Instance.{Instance}
use Rattle.derivation.proofs.Parts.{some_same}
use Rattle.std.specs.Prelude.{slice_get}
use Rattle.box_trace.proofs.writing.source_of.Goals as goal

pub returns : goal.returns
returns c = λ i there.
    let same = some_same c.instance_at-instance.result.now i
    (slice_get c.args.uni.now.instances c.args.k) c.instance_at-instance.ensures there in
    record {
      rule = ap (λ (j : Instance). j.rule) same;
      arg = ap (λ (j : Instance). j.arg) same;
      premises = c.from_vec.ensures ∙ c.in_ok-premises.ensures i there;
    }
