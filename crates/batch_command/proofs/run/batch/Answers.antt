use Rattle.std.proofs.Common.{◌≡◌, None, Some, arith, inl, map, refl, rules, string_bytes}
use Rattle.fx_edge.specs.Outside.{Rose}
use Rattle.command_line.specs.Batch.{batch_of}
use Rattle.name_list.specs.Lists.{IsFaultOf, lines_of}
use Rattle.whole_texts.specs.Texts.{IsText}
use Rattle.batch_command.proofs.Listed.{short_text, fault_printed, scripts_printed}
use Rattle.batch_command.proofs.run.batch.Goals as goal

pub returns-in-Err-Fault-clause-prints : goal.returns-in-Err-Fault-clause-prints
returns-in-Err-Fault-clause-prints g c =
    let faults = g.F.Folder.read_faults in
    let rose : Rose (faults c.args.folder.now) (faults c.read_text.new.folder) =
    c.read_text.ensures.only_reads.cause (search rules) in
    (c.args.request.list.now, inl refl, rose, c.in_ok-read_fault_line-in-Err-Fault.ensures)

pub read_list-requires : goal.read_list-requires
read_list-requires g c =
    let is : IsText 65540 (g.F.Folder.told c.args.folder.now c.args.request.list.now)
    c.deref.result.now = search rules in
    let short = short_text (g.F.Folder.told c.args.folder.now c.args.request.list.now)
    c.deref.result.now is in
    omega (arith, short)

pub prove_scripts-requires-clause-allowed : goal.prove_scripts-requires-clause-allowed
prove_scripts-requires-clause-allowed g c κs within =
    let few = c.requires.boxes.1 in
    record {
      rounds = c.requires.rounds;
      depth = c.requires.depth;
      boxes = (c.requires.boxes.0, omega (arith, few));
      workers = c.requires.workers;
    }

pub returns-in-Ok-read_list-clause-prints : goal.returns-in-Ok-read_list-clause-prints
returns-in-Ok-read_list-clause-prints g c =
    let told = g.F.Folder.told c.args.folder.now in
    let faults = g.F.Folder.read_faults in
    let is : IsText 65540 (told c.args.request.list.now) c.deref.result.now = search rules in
    let none : IsFaultOf c.deref.result.now None = search rules in
    let names : map string_bytes c.deref-in-Ok-read_list.result.now ≡ lines_of c.deref.result.now =
    search rules in
    scripts_printed (batch_of c.args.request) told c.deref.result.now is
    c.fronts_decide.ensures.whole none (map string_bytes c.deref-in-Ok-read_list.result.now) names
    (g.F.Folder.told c.read_text.new.folder) c.read_text.ensures.only_reads.told
    (faults c.args.folder.now) (faults c.read_text.new.folder) _
    c.read_text.ensures.only_reads.later
    _ refl c.prove_scripts.result c.prove_scripts.ensures.prints

pub returns-in-Err-Fault-read_list-clause-prints :
    goal.returns-in-Err-Fault-read_list-clause-prints
returns-in-Err-Fault-read_list-clause-prints g c =
    let told = g.F.Folder.told c.args.folder.now in
    let f = c.in-Err-Fault-read_list.fault in
    let is : IsText 65540 (told c.args.request.list.now) c.deref.result.now = search rules in
    let h : IsFaultOf c.deref.result.now (Some f) = search rules in
    let faults = g.F.Folder.read_faults in
    fault_printed (Rose (faults c.args.folder.now) (faults c.read_text.new.folder))
    (batch_of c.args.request) told c.deref.result.now is c.fronts_decide.ensures.fault f _ h
    c.in_ok-list_fault_line-in-Err-Fault-read_list.ensures
