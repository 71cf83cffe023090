use Rattle.std.proofs.Common.{rules, ◌≡◌, ◌++◌, [], List, None, sym, ap, subst, true, false}
use Rattle.std.proofs.Common.{append-nil}
use Rattle.std.proofs.lemmas.Result.{err_from_is_err_and}
use Rattle.fx_edge.proofs.OnlyReads.{only_reads_none, only_reads_on, only_reads_then, told_of}
use Rattle.cert_bytes.specs.declared.item.Item.{Item}
use Rattle.cert_bytes.specs.declared.order.DueItem.TheVariants.{Head}
use Rattle.cert_bytes.specs.Certificates.{AreCertificate}
use Rattle.cert_bytes.specs.Pieces.{cursor_of}
use Rattle.cert_bytes.specs.ReadOut.{AreRead}
use Rattle.cert_bytes.proofs.Calls.{reads_on_then}
use Rattle.cert_checker.specs.declared.lines.Lines.{Lines}
use Rattle.cert_checker.specs.declared.subject.Subject.{Subject}
use Rattle.cert_checker.specs.Contexts.{Context, first}
use Rattle.cert_checker.specs.Faults.{JudgesItem}
use Rattle.cert_checker.specs.After.{after}
use Rattle.cert_checker.specs.Standing.{Standing}
use Rattle.cert_checker.specs.Accepted.{LeadsTo}
use Rattle.cert_checker.proofs.Turns.{has_room, steady_on, reaches_on, stops, shows, failed_so}
use Rattle.cert_checker.proofs.Turns.{fewer_turns}
use Rattle.cert_checker.specs.declared.keep.Accepted.{Accepted}
use Rattle.cert_checker.proofs.Keeping.{taken, led_more, whole_more, all_accepted, read_more}
use Rattle.cert_checker.proofs.keep.keep_items.Goals as goal

pub loop-chain-smaller : goal.loop-chain-smaller
loop-chain-smaller g c =
    let still : c.loop-chain.chain.context.ended ≡ false = search rules in
    let t = c.in_ok-item.ensures in
    let told = g.F.Folder.told c.loop-chain.folder c.loop-chain.reader.ahead.name in
    fewer_turns told c.loop-chain.chain c.next_item.new.chain c.loop-chain.reader
    c.next_item.new.reader still (taken told c.loop-chain.chain c.next_item.new.chain
    c.loop-chain.reader c.next_item.new.reader c.in_ok-item.item t.took) t.within

pub loop-chain-preserved : goal.loop-chain-preserved
loop-chain-preserved g c =
    let i = c.loop-chain.invariant in
    let t = c.in_ok-item.ensures in
    let item = c.in_ok-item.item in
    let s = c.args.subject in
    let still : c.loop-chain.chain.context.ended ≡ false = search rules in
    let told = g.F.Folder.told c.loop-chain.folder c.loop-chain.reader.ahead.name in
    let next = taken told c.loop-chain.chain c.next_item.new.chain c.loop-chain.reader
    c.next_item.new.reader item t.took in
    let judged : JudgesItem s c.loop-chain.chain.context item None = subst (λ (x : Subject).
    JudgesItem x c.loop-chain.chain.context item None) i.steady.subject t.took.judged in
    let context = ap (λ (x : Standing). x.context) t.took.taken in
    let longer = sym c.in-Ok.ensures.items in
    record {
      steady = steady_on s told c.loop-chain.chain c.next_item.new.chain c.loop-chain.reader
          c.next_item.new.reader i.steady.subject next still i.steady;
      within = t.within;
      reaches = λ all h.
          reaches_on s told c.loop-chain.chain c.next_item.new.chain c.loop-chain.reader
          c.next_item.new.reader i.steady.subject next all c.args.reader.now
          (told_of i.only_reads i.reads_on.kept h) still i.steady (i.reaches all h);
      read = λ all h later rest.
          subst (λ (xs : List Item).
          AreRead Head (cursor_of all c.args.reader.now.ahead) (xs ++ later)) longer
          (read_more (cursor_of all c.args.reader.now.ahead)
          (cursor_of all c.loop-chain.reader.ahead) c.loop-chain.reader.due
          c.next_item.new.reader.due (cursor_of all c.next_item.new.reader.ahead)
          c.loop-chain.items.items later item (i.read all h)
          (t.took.read all (told_of i.only_reads i.reads_on.kept h)) (i.steady.going still)
          t.took.due rest);
      led = subst (λ (x : Context). LeadsTo s (first s) c.push.new.self.items x) (sym context)
          (subst (λ (xs : List Item).
          LeadsTo s (first s) xs (after c.loop-chain.chain.context item)) longer (led_more s
          (first s) c.loop-chain.chain.context c.loop-chain.items.items item i.led judged));
      whole = λ later rest.
          subst (λ (xs : List Item). AreCertificate (xs ++ later)) longer
          (whole_more c.loop-chain.reader.due c.next_item.new.reader.due
          c.loop-chain.items.items later item i.whole (i.steady.going still) t.took.order
          t.took.due (t.took.spelled, t.took.fits) rest);
      reads_on = reads_on_then i.reads_on t.reads_on;
      only_reads = only_reads_on i.only_reads t.only_reads;
    }

pub returns-in_err-item-clause-checks : goal.returns-in_err-item-clause-checks
returns-in_err-item-clause-checks g c = λ all h.
    let p = err_from_is_err_and c.from_residual-in_err-item.result
    c.from_residual-in_err-item.ensures.1 in
    let i = c.loop-chain.invariant in
    let known = told_of i.only_reads i.reads_on.kept h in
    let t = c.in_err-item.ensures.turns in
    rw (p.1, p.2) (stops c.args.subject all c.args.reader.now c.loop-chain.chain c.loop-chain.reader
    _ i.steady.subject (i.reaches all h) (λ f e. t.0 f e all known) (λ f e. t.1 f e all known))

pub returns-in_err-item-clause-reads_on : goal.returns-in_err-item-clause-reads_on
returns-in_err-item-clause-reads_on g c =
    reads_on_then c.loop-chain.invariant.reads_on c.in_err-item.ensures.reads_on

pub returns-in_err-item-clause-only_reads : goal.returns-in_err-item-clause-only_reads
returns-in_err-item-clause-only_reads g c =
    let p = err_from_is_err_and c.from_residual-in_err-item.result
    c.from_residual-in_err-item.ensures.1 in
    rw (p.1, p.2) (only_reads_then c.loop-chain.invariant.only_reads
    c.in_err-item.ensures.only_reads (failed_so {X = Item} {Y = Accepted} _))

pub returns-clause-checks : goal.returns-clause-checks
returns-clause-checks g c = λ all h.
    let i = c.loop-chain.invariant in
    let done : c.loop-chain.chain.context.ended ≡ true = search rules in
    shows c.args.subject c.loop-chain.chain c.loop-chain.reader done i.steady c.into_lines.result
    c.into_lines.ensures all c.args.reader.now (i.reaches all h)

pub returns-clause-read : goal.returns-clause-read
returns-clause-read g c = λ all h.
    let i = c.loop-chain.invariant in
    let done : c.loop-chain.chain.context.ended ≡ true = search rules in
    subst (AreRead Head (cursor_of all c.args.reader.now.ahead))
    (append-nil c.loop-chain.items.items) (i.read all h [] (i.steady.ended done))

pub next_item-requires-clause-can_turn : goal.next_item-requires-clause-can_turn
next_item-requires-clause-can_turn g c =
    let i = c.loop-chain.invariant in
    let still : c.loop-chain.chain.context.ended ≡ false = search rules in
    record {
      room = has_room c.args.subject c.loop-chain.chain c.loop-chain.reader still i.steady i.within;
      sound = i.steady.sound;
      reads = i.steady.reads;
    }

pub returns-clause-accepts : goal.returns-clause-accepts
returns-clause-accepts g c =
    let i = c.loop-chain.invariant in
    let done : c.loop-chain.chain.context.ended ≡ true = search rules in
    all_accepted c.each_case_has_its_root.ensures c.args.subject c.loop-chain.items.items
    c.loop-chain.reader.due c.loop-chain.chain.context c.into_lines.result.rows i.whole
    (i.steady.ended done) i.led (ap (λ (x : Lines). x.rows) c.into_lines.ensures)

pub returns-in_default-clause-only_reads : goal.returns-in_default-clause-only_reads
returns-in_default-clause-only_reads g c =
    only_reads_then c.loop-chain.invariant.only_reads c.in_ok-item.ensures.only_reads
    (λ h. absurd (let none : ⊥ = cc in none))

pub returns-clause-only_reads : goal.returns-clause-only_reads
returns-clause-only_reads g c =
    only_reads_then c.loop-chain.invariant.only_reads only_reads_none
    (λ h. let none : ⊥ = cc in none)
