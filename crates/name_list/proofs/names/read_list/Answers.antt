use Rattle.std.proofs.Common.{◌≡◌, ℕ, List, Some, length, string_bytes, sym, ap, ◌∙◌, arith}
use Rattle.std.proofs.lemmas.List.{length-map}
use Rattle.name_list.specs.declared.fault.ListFault.{ListFault}
use Rattle.name_list.specs.declared.fault.ListKind.TheVariants as kind
use Rattle.name_list.specs.Order.{earlier}
use Rattle.name_list.specs.Lists.{lines_of, fault}
use Rattle.name_list.proofs.First.{few_names}
use Rattle.name_list.proofs.names.read_list.Goals as goal

pub returns-in_ok-names_of-in-None-clause-few : goal.returns-in_ok-names_of-in-None-clause-few
returns-in_ok-names_of-in-None-clause-few c =
    let names = c.in_ok-names_of-in-None.field-0 in
    let few = few_names c.args.text.now (sym c.in-None.is ∙ c.plain_fault-fault.ensures) in
    let all = ap (λ (ls : List (List ℕ)). length ls)
    (c.in_ok-names_of-in-None.ensures ∙ ap lines_of c.in-Ok.ensures.cases.0) in
    let as_many = length-map names.items string_bytes in
    let n = names.ok.0 in
    let a = few.0 in
    let b = few.1 in
    (omega (arith, n, all, as_many, a), omega (arith, n, all, as_many, b))

pub returns-in-Some-earlier-clause-fault : goal.returns-in-Some-earlier-clause-fault
returns-in-Some-earlier-clause-fault c = λ f e.
    let same : c.in-Some-earlier.fault ≡ f = cc in
    let at = ap (λ n. earlier (Some (fault kind.NotText n)) c.plain_fault-fault.result)
    c.valid_up_to.ensures in (
      Some _,
      c.in-Err.ensures.cases.1,
      ap (λ (x : ListFault). Some x) (sym same) ∙ sym c.in-Some-earlier.is ∙ c.earlier.ensures
          ∙ at ∙ ap (earlier (Some (fault kind.NotText _))) c.plain_fault-fault.ensures,
    )
