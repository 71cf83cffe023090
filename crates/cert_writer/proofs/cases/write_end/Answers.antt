use Rattle.std.specs.Prelude.{[], ◌++◌}
use Rattle.std.specs.Io.KnownBytes.{Appends}
use Rattle.std.proofs.Common.{◌∙◌, ap, subst, refl}
use Rattle.cert_bytes.specs.declared.item.Item.TheVariants as item
use Rattle.cert_bytes.specs.Spelling.{spelling_of}
use Rattle.whole_texts.specs.Pieces.{AppendsFront}
use Rattle.cert_writer.proofs.Files.{on_err}
use Rattle.cert_writer.proofs.Turn.{appends_none}
use Rattle.cert_writer.proofs.cases.write_end.Goals as goal

pub returns-in_err-write_item2-clause-err : goal.returns-in_err-write_item2-clause-err
returns-in_err-write_item2-clause-err g c =
    let told = g.F.Folder.told c.args.folder.now c.args.name.now in
    let bytes = spelling_of c.args.seen item.End in
    on_err c.from_residual.result (AppendsFront told told bytes)
    ([], (bytes, refl), appends_none told told refl)

pub returns-in_err-append_all-clause-err : goal.returns-in_err-append_all-clause-err
returns-in_err-append_all-clause-err g c =
    let old = g.F.Folder.told c.args.folder.now c.args.name.now in
    let new = g.F.Folder.told c.append_all.new.folder c.args.name.now in
    let bytes = spelling_of c.args.seen item.End in
    on_err c.from_residual-in_err-append_all.result (AppendsFront old new bytes)
    (subst (λ bs. AppendsFront old new bs) (c.deref.ensures.value ∙ c.in_ok-write_item2.ensures.ok
    ∙ ap (λ bs. bs ++ bytes) c.new-bytes.ensures.items) c.in_err-append_all.ensures.err)

pub returns-clause-ok : goal.returns-clause-ok
returns-clause-ok g c =
    let old = g.F.Folder.told c.args.folder.now c.args.name.now in
    let new = g.F.Folder.told c.append_all.new.folder c.args.name.now in
    let bytes = spelling_of c.args.seen item.End in
    subst (λ bs. Appends old new bs) (c.deref.ensures.value ∙ c.in_ok-write_item2.ensures.ok
    ∙ ap (λ bs. bs ++ bytes) c.new-bytes.ensures.items) c.in_ok-append_all.ensures.ok
