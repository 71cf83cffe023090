use Rattle.std.proofs.Common.{◌≡◌, ◌<◌, ◌++◌, ◌∙◌, [], ◌∷◌, ap, arith, length, map, rules}
use Rattle.std.proofs.Common.{string_bytes, subst, sym, take}
use Rattle.fx_edge.proofs.OnlyReads.{only_reads_on}
use Rattle.fx_edge.specs.Outside.{Rose}
use Rattle.fx_edge.proofs.OutsideLaws.{rose_later}
use Rattle.command_runs.specs.Statuses.{read_fault_line}
use Rattle.script_texts.specs.Texts.{IsScriptText}
use Rattle.batch_command.specs.Told.{AreRead}
use Rattle.batch_command.proofs.Taken.{is_in, one_more, take_more}
use Rattle.batch_command.proofs.read.read_scripts.Goals as goal

pub returns-in-Err-Fault-clause-texts : goal.returns-in-Err-Fault-clause-texts
returns-in-Err-Fault-clause-texts g c =
    let all = c.args.names.now in
    let i = c.loop-name.name-index in
    let name = c.name-item.result in
    let faults = g.F.Folder.read_faults in
    let same : c.deref-in-Err-Fault.result.now ≡ string_bytes name = search rules in
    let h : i < length all = omega arith in
    let rose : Rose (faults c.loop-name.folder) (faults c.read_script.new.folder) =
    c.read_script.ensures.only_reads.cause (search rules) in (
      string_bytes name,
      is_in all i name h c.name-item.is,
      rose_later (faults c.args.folder.now) (faults c.loop-name.folder)
          (faults c.read_script.new.folder) c.loop-name.invariant.only_reads.later rose,
      c.in_ok-read_fault_line-in-Err-Fault.ensures ∙ ap read_fault_line same,
    )

pub loop-name-preserved : goal.loop-name-preserved
loop-name-preserved g c =
    let told = g.F.Folder.told c.args.folder.now in
    let all = c.args.names.now in
    let i = c.loop-name.name-index in
    let name = c.name-item.result in
    let inv = c.loop-name.invariant in
    let same : c.deref.result.now ≡ string_bytes name = search rules in
    let h : i < length all = omega arith in
    let is : IsScriptText (told (string_bytes name)) c.in-Ok.text.items =
    subst (λ k. IsScriptText k c.in-Ok.text.items)
    (inv.only_reads.told c.deref.result.now ∙ ap told same) c.in-Ok.ensures.text in
    record {
      only_reads = only_reads_on inv.only_reads c.read_script.ensures.only_reads;
      read =
          subst (λ names. AreRead told names c.push.new.self.items)
          (sym (take_more all i name h c.name-item.is))
          (subst (AreRead told (take i (map string_bytes all) ++ string_bytes name ∷ []))
          (sym c.in_ok-push-in-Ok.ensures.items)
          (one_more told (take i (map string_bytes all)) c.loop-name.texts.items (string_bytes name)
          c.in-Ok.text inv.read is));
    }
