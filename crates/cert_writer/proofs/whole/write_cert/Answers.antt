use Rattle.std.specs.Prelude.{refl}
use Rattle.std.specs.Io.KnownBytes.{Appends}
use Rattle.std.proofs.Common.{◌∙◌, subst, arith}
use Rattle.script_grammar.specs.Cases.{cases_of}
use Rattle.settler.proofs.CasesLaws.{as_many}
use Rattle.whole_texts.specs.Pieces.{AppendsFront}
use Rattle.cert_writer.proofs.Files.{on_err}
use Rattle.cert_writer.specs.Cases.{bare, task}
use Rattle.cert_writer.proofs.CasesLaws.{subject_in}
use Rattle.cert_writer.specs.Written.{OfProved, HoldsFront}
use Rattle.cert_writer.proofs.Start.{is_subject, as_planned, start, head_of}
use Rattle.cert_writer.proofs.Held.{head_spelled, not_fresh, not_headed, half_headed, broken_off}
use Rattle.cert_writer.proofs.Held.{not_ended, completed}
use Rattle.cert_writer.proofs.whole.write_cert.Goals as goal

pub returns-in_err-fresh-clause-err : goal.returns-in_err-fresh-clause-err
returns-in_err-fresh-clause-err g c =
    let s = c.args.job.now.script.now in
    let u = c.args.job.now.universe in
    let t = subject_in s u c.args.marks.now in
    let made = c.requires.job.universe in
    let is = is_subject s made.0 u c.args.marks.now made.1 c.requires.marks in
    let old = g.F.Folder.told c.args.folder.now c.args.name.now in
    let new = g.F.Folder.told c.fresh.new.self c.args.name.now in
    on_err c.from_residual.result
    (OfProved s c.args.job.now.options.rounds c.args.job.now.options.depth
    (λ lines. HoldsFront s lines old new))
    (λ boxes lines few proved.
    let w = task s (bare u) c.args.job.now.options.rounds c.args.job.now.options.depth t lines in
    let st = start c.writing_goes_on.ensures c.scripts_have_roots.ensures.roots
    c.subjects_are_written.ensures.few c.universes_are_small.ensures s u t
    c.args.job.now.options.rounds
    c.args.job.now.options.depth c.script_has_room.ensures.cases is c.requires.job.allowed.rounds.1
    c.requires.job.allowed.depth boxes
    lines few proved in
    not_fresh c.writing_goes_on.ensures s w is st old new
    c.in_err-fresh.ensures.err)

pub returns-in_err-spell_head-clause-err : goal.returns-in_err-spell_head-clause-err
returns-in_err-spell_head-clause-err g c =
    let s = c.args.job.now.script.now in
    let u = c.args.job.now.universe in
    let t = subject_in s u c.args.marks.now in
    let made = c.requires.job.universe in
    let is = is_subject s made.0 u c.args.marks.now made.1 c.requires.marks in
    let old = g.F.Folder.told c.args.folder.now c.args.name.now in
    let new = g.F.Folder.told c.fresh.new.self c.args.name.now in
    on_err c.from_residual-in_err-spell_head.result
    (OfProved s c.args.job.now.options.rounds c.args.job.now.options.depth
    (λ lines. HoldsFront s lines old new))
    (λ boxes lines few proved.
    let w = task s (bare u) c.args.job.now.options.rounds c.args.job.now.options.depth t lines in
    let st = start c.writing_goes_on.ensures c.scripts_have_roots.ensures.roots
    c.subjects_are_written.ensures.few c.universes_are_small.ensures s u t
    c.args.job.now.options.rounds
    c.args.job.now.options.depth c.script_has_room.ensures.cases is c.requires.job.allowed.rounds.1
    c.requires.job.allowed.depth boxes
    lines few proved in
    not_headed c.writing_goes_on.ensures s w is st old new c.in_ok-fresh.ensures.ok)

pub spell_head-requires-clause-few : goal.spell_head-requires-clause-few
spell_head-requires-clause-few g c =
    let count = c.requires.marks.count in
    let few = c.laws.ensures.few.rewrites in
    omega (arith, count, few)

pub spell_head-requires-clause-cases : goal.spell_head-requires-clause-cases
spell_head-requires-clause-cases g c =
    let s = c.args.job.now.script.now in
    let many = as_many s c.args.job.now.options.depth (cases_of s) c.args.job.now.cases.items
    c.requires.job.cases in
    let few = c.script_has_room.ensures.cases.few in
    let count = c.len.ensures in
    let long = c.args.job.now.cases.ok.0 in
    omega (arith, many, few, count, long)

pub returns-in_err-append_all-clause-err : goal.returns-in_err-append_all-clause-err
returns-in_err-append_all-clause-err g c =
    let s = c.args.job.now.script.now in
    let u = c.args.job.now.universe in
    let t = subject_in s u c.args.marks.now in
    let made = c.requires.job.universe in
    let is = is_subject s made.0 u c.args.marks.now made.1 c.requires.marks in
    let old = g.F.Folder.told c.args.folder.now c.args.name.now in
    let fresh = g.F.Folder.told c.fresh.new.self c.args.name.now in
    let new = g.F.Folder.told c.append_all.new.folder c.args.name.now in
    on_err c.from_residual-in_err-append_all.result
    (OfProved s c.args.job.now.options.rounds c.args.job.now.options.depth
    (λ lines. HoldsFront s lines old new))
    (λ boxes lines few proved.
    let w = task s (bare u) c.args.job.now.options.rounds c.args.job.now.options.depth t lines in
    let st = start c.writing_goes_on.ensures c.scripts_have_roots.ensures.roots
    c.subjects_are_written.ensures.few c.universes_are_small.ensures s u t
    c.args.job.now.options.rounds
    c.args.job.now.options.depth c.script_has_room.ensures.cases is c.requires.job.allowed.rounds.1
    c.requires.job.allowed.depth boxes
    lines few proved in
    let bytes = head_spelled w c.dag.result.now c.args.marks.now c.len.result
    c.new-bytes.result.items c.spell_head.new.out.items c.new-bytes.ensures.items c.dag.ensures
    refl (c.len.ensures ∙ (c.args.job.now.cases.ok.0 ∙ as_planned s c.args.job.now.options.depth
    c.args.job.now.cases.items u c.args.marks.now c.requires.job.cases))
    c.in_ok-spell_head.ensures in
    half_headed c.writing_goes_on.ensures s w is st old fresh new
    c.in_ok-fresh.ensures.ok
    (subst (λ bs. AppendsFront fresh new bs) (c.deref.ensures.value ∙ bytes)
    c.in_err-append_all.ensures.err))

pub write_cases-requires-clause-stands : goal.write_cases-requires-clause-stands
write_cases-requires-clause-stands g c =
    let s = c.args.job.now.script.now in
    let u = c.args.job.now.universe in
    let t = subject_in s u c.args.marks.now in
    let made = c.requires.job.universe in
    let is = is_subject s made.0 u c.args.marks.now made.1 c.requires.marks in
    let p = c.requires.proved in
    let w = task s (bare u) c.args.job.now.options.rounds c.args.job.now.options.depth t p.1 in
    let st = start c.writing_goes_on.ensures c.scripts_have_roots.ensures.roots
    c.subjects_are_written.ensures.few c.universes_are_small.ensures s u t
    c.args.job.now.options.rounds
    c.args.job.now.options.depth c.script_has_room.ensures.cases is c.requires.job.allowed.rounds.1
    c.requires.job.allowed.depth p.0 p.1 p.2 p.3 in
    (t, p.1, head_of w, st)

pub returns-in_err-seen-clause-err : goal.returns-in_err-seen-clause-err
returns-in_err-seen-clause-err g c =
    let s = c.args.job.now.script.now in
    let u = c.args.job.now.universe in
    let t = subject_in s u c.args.marks.now in
    let made = c.requires.job.universe in
    let is = is_subject s made.0 u c.args.marks.now made.1 c.requires.marks in
    let old = g.F.Folder.told c.args.folder.now c.args.name.now in
    let fresh = g.F.Folder.told c.fresh.new.self c.args.name.now in
    let mid = g.F.Folder.told c.append_all.new.folder c.args.name.now in
    let new = g.F.Folder.told c.write_cases.new.folder c.args.name.now in
    on_err c.from_residual-in_err-seen.result
    (OfProved s c.args.job.now.options.rounds c.args.job.now.options.depth
    (λ lines. HoldsFront s lines old new))
    (λ boxes lines few proved.
    let w = task s (bare u) c.args.job.now.options.rounds c.args.job.now.options.depth t lines in
    let st = start c.writing_goes_on.ensures c.scripts_have_roots.ensures.roots
    c.subjects_are_written.ensures.few c.universes_are_small.ensures s u t
    c.args.job.now.options.rounds
    c.args.job.now.options.depth c.script_has_room.ensures.cases is c.requires.job.allowed.rounds.1
    c.requires.job.allowed.depth boxes
    lines few proved in
    let bytes = head_spelled w c.dag.result.now c.args.marks.now c.len.result
    c.new-bytes.result.items c.spell_head.new.out.items c.new-bytes.ensures.items c.dag.ensures
    refl (c.len.ensures ∙ (c.args.job.now.cases.ok.0 ∙ as_planned s c.args.job.now.options.depth
    c.args.job.now.cases.items u c.args.marks.now c.requires.job.cases))
    c.in_ok-spell_head.ensures in
    broken_off c.writing_goes_on.ensures s w is st old fresh mid new
    c.in_ok-fresh.ensures.ok
    (subst (λ bs. Appends fresh mid bs) (c.deref.ensures.value ∙ bytes)
    c.in_ok-append_all.ensures.ok)
    (c.in_err-seen.ensures.err t lines (head_of w) st))

pub returns-in_err-write_end-clause-err : goal.returns-in_err-write_end-clause-err
returns-in_err-write_end-clause-err g c =
    let s = c.args.job.now.script.now in
    let u = c.args.job.now.universe in
    let t = subject_in s u c.args.marks.now in
    let made = c.requires.job.universe in
    let is = is_subject s made.0 u c.args.marks.now made.1 c.requires.marks in
    let old = g.F.Folder.told c.args.folder.now c.args.name.now in
    let fresh = g.F.Folder.told c.fresh.new.self c.args.name.now in
    let mid = g.F.Folder.told c.append_all.new.folder c.args.name.now in
    let all = g.F.Folder.told c.write_cases.new.folder c.args.name.now in
    let new = g.F.Folder.told c.write_end.new.folder c.args.name.now in
    on_err c.from_residual-in_err-write_end.result
    (OfProved s c.args.job.now.options.rounds c.args.job.now.options.depth
    (λ lines. HoldsFront s lines old new))
    (λ boxes lines few proved.
    let w = task s (bare u) c.args.job.now.options.rounds c.args.job.now.options.depth t lines in
    let st = start c.writing_goes_on.ensures c.scripts_have_roots.ensures.roots
    c.subjects_are_written.ensures.few c.universes_are_small.ensures s u t
    c.args.job.now.options.rounds
    c.args.job.now.options.depth c.script_has_room.ensures.cases is c.requires.job.allowed.rounds.1
    c.requires.job.allowed.depth boxes
    lines few proved in
    let bytes = head_spelled w c.dag.result.now c.args.marks.now c.len.result
    c.new-bytes.result.items c.spell_head.new.out.items c.new-bytes.ensures.items c.dag.ensures
    refl (c.len.ensures ∙ (c.args.job.now.cases.ok.0 ∙ as_planned s c.args.job.now.options.depth
    c.args.job.now.cases.items u c.args.marks.now c.requires.job.cases))
    c.in_ok-spell_head.ensures in
    not_ended c.writing_goes_on.ensures s w is st old fresh mid all new
    c.in_ok-seen.seen c.in_ok-fresh.ensures.ok
    (subst (λ bs. Appends fresh mid bs) (c.deref.ensures.value ∙ bytes)
    c.in_ok-append_all.ensures.ok)
    (c.in_ok-seen.ensures.ok t lines (head_of w) st) c.in_err-write_end.ensures.err)

pub returns-clause-ok : goal.returns-clause-ok
returns-clause-ok g c = λ boxes lines few proved.
    let s = c.args.job.now.script.now in
    let u = c.args.job.now.universe in
    let t = subject_in s u c.args.marks.now in
    let made = c.requires.job.universe in
    let is = is_subject s made.0 u c.args.marks.now made.1 c.requires.marks in
    let old = g.F.Folder.told c.args.folder.now c.args.name.now in
    let fresh = g.F.Folder.told c.fresh.new.self c.args.name.now in
    let mid = g.F.Folder.told c.append_all.new.folder c.args.name.now in
    let all = g.F.Folder.told c.write_cases.new.folder c.args.name.now in
    let new = g.F.Folder.told c.write_end.new.folder c.args.name.now in
    let w = task s (bare u) c.args.job.now.options.rounds c.args.job.now.options.depth t lines in
    let st = start c.writing_goes_on.ensures c.scripts_have_roots.ensures.roots
    c.subjects_are_written.ensures.few c.universes_are_small.ensures s u t
    c.args.job.now.options.rounds
    c.args.job.now.options.depth c.script_has_room.ensures.cases is c.requires.job.allowed.rounds.1
    c.requires.job.allowed.depth boxes
    lines few proved in
    let bytes = head_spelled w c.dag.result.now c.args.marks.now c.len.result
    c.new-bytes.result.items c.spell_head.new.out.items c.new-bytes.ensures.items c.dag.ensures
    refl (c.len.ensures ∙ (c.args.job.now.cases.ok.0 ∙ as_planned s c.args.job.now.options.depth
    c.args.job.now.cases.items u c.args.marks.now c.requires.job.cases))
    c.in_ok-spell_head.ensures in
    completed c.writing_goes_on.ensures s w is st old fresh mid all new
    c.in_ok-seen.seen c.in_ok-fresh.ensures.ok
    (subst (λ bs. Appends fresh mid bs) (c.deref.ensures.value ∙ bytes)
    c.in_ok-append_all.ensures.ok)
    (c.in_ok-seen.ensures.ok t lines (head_of w) st) c.in_ok-write_end.ensures.ok
