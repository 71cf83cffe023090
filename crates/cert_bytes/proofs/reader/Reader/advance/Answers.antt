use Rattle.std.proofs.Common.{◌≤◌, ◌*◌, Ok, Err, sym, ap, ◌∙◌, rules}
use Rattle.cert_bytes.specs.declared.fault.Stop.TheVariants.{Fault, Failed, OutOfMemory}
use Rattle.cert_bytes.specs.declared.style.Style.{Style}
use Rattle.cert_bytes.specs.Due.{open_sections}
use Rattle.cert_bytes.specs.Styles.{style_after, IsFew}
use Rattle.cert_bytes.specs.Readers.{Progress}
use Rattle.cert_bytes.proofs.Paced.{paced_on, few_on}
use Rattle.cert_bytes.proofs.Restyled.{item_read, item_fault, fault_given, kept_at, stands_at}
use Rattle.cert_bytes.proofs.Restyled.{stands_back}
use Rattle.cert_bytes.proofs.reader.Reader.advance.Goals as goal

pub invariant_of-self : goal.invariant_of-self
invariant_of-self g c =
    let mid = c.entry-read.new.self in
    let source = c.self.inside.source in
    let style = c.after-behind.ensures
    ∙ ap (λ (s : Style). style_after s c.in-Ok.item) c.style.ensures in
    kept_at (λ style at. (open_sections c.due_behind-self-inside.result ≤ 64 * at)
    × IsFew style at) mid c.restyle.new.self c.after-behind.result
    (style_after mid.style c.in-Ok.item) c.restyle.ensures style (
      paced_on c.in-Ok.item (open_sections c.self.inside.due)
          (open_sections c.due_behind-self-inside.result) source.at mid.at c.self.invariant.0
          c.in-Ok.ensures.reads_on.grows c.in-Ok.ensures.reads c.due_behind-self-inside.ensures.few
          c.due_behind-self-inside.ensures.quiet,
      few_on c.self.inside.due c.in-Ok.item source.style mid.style source.at mid.at
          c.self.invariant.1 c.in-Ok.ensures.style c.in-Ok.ensures.reads
          c.in-Ok.ensures.reads_on.grows,
    )

pub returns-in-Ok-clause-gives : goal.returns-in-Ok-clause-gives
returns-in-Ok-clause-gives g c = λ all h.
    let ahead = ap (λ (p : Progress). p.ahead) (sym c.self.view_is) in
    let due = ap (λ (p : Progress). p.due) (sym c.self.view_is) in
    let style = c.after-behind.ensures
    ∙ ap (λ (s : Style). style_after s c.in-Ok.item) c.style.ensures in
    item_read all c.args.self.now.due c.self.inside.due c.args.self.now.ahead c.self.inside.source
    c.entry-read.new.self c.restyle.new.self c.after-behind.result c.in-Ok.item ahead due
    (c.in-Ok.ensures.gives all (ap (λ (p : Progress).
    g.F.Folder.told c.args.folder.now p.ahead.name) c.self.view_is ∙ h)) style c.restyle.ensures

pub returns-in-Ok-clause-stands : goal.returns-in-Ok-clause-stands
returns-in-Ok-clause-stands g c =
    let ahead = ap (λ (p : Progress). p.ahead) (sym c.self.view_is) in
    stands_at (g.F.Folder.told c.entry-read.new.folder) c.args.self.now _ c.self.inside.source
    c.entry-read.new.self c.after-behind.result (Ok c.in-Ok.item) ahead
    c.in-Ok.ensures.reads_on (λ e. cc) c.in-Ok.ensures.reads
    c.bounded.ensures.within c.bounded.ensures.few c.restyle.ensures

pub returns-in-Err-Fault-clause-gives : goal.returns-in-Err-Fault-clause-gives
returns-in-Err-Fault-clause-gives g c = λ all h f q.
    let ahead = ap (λ (p : Progress). p.ahead) (sym c.self.view_is) in
    let due = ap (λ (p : Progress). p.due) (sym c.self.view_is) in
    item_fault all c.args.self.now.due c.self.inside.due c.args.self.now.ahead
    c.self.inside.source f ahead due
    (fault_given all c.self.inside.due c.self.inside.source c.entry-read.new.self
    c.entry-read.result c.in-Err-Fault.field-0 f c.in-Err-Fault.is
    (c.entry-read.ensures.gives all (ap (λ (p : Progress).
    g.F.Folder.told c.args.folder.now p.ahead.name) c.self.view_is ∙ h)) (search (rules, q)))

pub returns-in-Err-Fault-clause-stands : goal.returns-in-Err-Fault-clause-stands
returns-in-Err-Fault-clause-stands g c =
    let ahead = ap (λ (p : Progress). p.ahead) (sym c.self.view_is) in
    stands_at (g.F.Folder.told c.entry-read.new.folder) c.args.self.now _ c.self.inside.source
    c.entry-read.new.self c.style-style.result (Err (Fault c.in-Err-Fault.fault)) ahead
    c.entry-read.ensures.reads_on (λ _. c.style-style.ensures) tt
    c.bounded.ensures.within c.bounded.ensures.few c.restyle-in-Err-Fault.ensures

pub returns-in-Err-Failed-clause-stands : goal.returns-in-Err-Failed-clause-stands
returns-in-Err-Failed-clause-stands g c =
    let ahead = ap (λ (p : Progress). p.ahead) (sym c.self.view_is) in
    stands_back (g.F.Folder.told c.args.folder.now) (g.F.Folder.told c.entry-read.new.folder)
    c.args.self.now _ c.self.inside.source c.entry-read.new.self c.style-style.result
    c.at-start.result Failed ahead
    c.requires.agrees c.entry-read.ensures.only_reads.told c.entry-read.ensures.reads_on
    c.style-style.ensures c.at-start.ensures c.bounded.ensures.within c.back.ensures

pub returns-in-Err-OutOfMemory-clause-stands : goal.returns-in-Err-OutOfMemory-clause-stands
returns-in-Err-OutOfMemory-clause-stands g c =
    let ahead = ap (λ (p : Progress). p.ahead) (sym c.self.view_is) in
    stands_back (g.F.Folder.told c.args.folder.now) (g.F.Folder.told c.entry-read.new.folder)
    c.args.self.now _ c.self.inside.source c.entry-read.new.self c.style-style.result
    c.at-start.result OutOfMemory ahead
    c.requires.agrees c.entry-read.ensures.only_reads.told c.entry-read.ensures.reads_on
    c.style-style.ensures c.at-start.ensures c.bounded.ensures.within
    c.back-in-Err-OutOfMemory.ensures
