use Rattle.std.proofs.Common.{IfOk}
use Rattle.cert_bytes.specs.declared.order.DueItem.TheVariants.{Head}
use Rattle.cert_bytes.specs.Certificates.{SpellsCertificate}
use Rattle.cert_bytes.specs.ReadOut.{AreBytes, AreRead}
use Rattle.cert_checker.specs.Keeping.{lines_of}
use Rattle.script_checker.specs.Checking.{ChecksFor}
use Rattle.trim_command.proofs.Trimmable.{from_first, led_by_some, trimmable}
use Rattle.trim_command.proofs.answer.items_of.Goals as goal

pub returns-clause-checks : goal.returns-clause-checks
returns-clause-checks g c =
    let told = g.F.Folder.told c.args.folder.now in
    from_first told c.args.name.now c.in_ok-reader.reader c.in_ok-reader.ensures.begins
    (λ all p. ChecksFor c.args.script.now p (lines_of c.script_items.result))
    (λ all h. (c.script_items.ensures.of_told all h).checks)

pub returns-clause-trimmable : goal.returns-clause-trimmable
returns-clause-trimmable g c =
    let told = g.F.Folder.told c.args.folder.now in
    let result = c.script_items.result in
    let s = c.args.script.now in
    let at = from_first told c.args.name.now c.in_ok-reader.reader c.in_ok-reader.ensures.begins in
    trimmable c.trimmed_are_accepted.ensures.used c.trimmed_are_accepted.ensures.left s
    (told c.args.name.now) result
    (at (λ all p. ChecksFor s p (lines_of result))
    (λ all h. (c.script_items.ensures.of_told all h).checks))
    (at (λ all p. IfOk result (λ a. AreRead Head p a.items.items))
    (λ all h. (c.script_items.ensures.of_told all h).read))
    (at (λ all p. AreBytes all → IfOk result (λ a. SpellsCertificate all a.items.items))
    (λ all h. (c.script_items.ensures.of_told all h).spells))
    c.script_items.ensures.accepts

pub returns-clause-led : goal.returns-clause-led
returns-clause-led g c =
    led_by_some c.args.script.now c.script_items.result c.script_items.ensures.accepts
