use Rattle.std.proofs.Common.{rules, ◌≡◌, true, false}
use Rattle.std.proofs.lemmas.Result.{err_from_is_err_and}
use Rattle.fx_edge.proofs.OnlyReads.{only_reads_on, only_reads_then, told_of}
use Rattle.cert_bytes.proofs.Calls.{reads_on_then}
use Rattle.cert_checker.specs.declared.lines.Lines.{Lines}
use Rattle.cert_checker.proofs.Turns.{has_room, steady_on, reaches_on, stops, shows, shown_holds}
use Rattle.cert_checker.proofs.Turns.{counts, marks_are, failed_so}
use Rattle.cert_checker.proofs.check.check_items.Goals as goal

pub loop-chain-preserved : goal.loop-chain-preserved
loop-chain-preserved g c =
    let i = c.loop-chain.invariant in
    let t = c.in_ok-turn.ensures in
    let still : c.loop-chain.chain.context.ended ≡ false = search rules in
    let told = g.F.Folder.told c.loop-chain.folder c.loop-chain.reader.ahead.name in
    record {
      steady = steady_on c.args.subject told c.loop-chain.chain c.turn.new.chain c.loop-chain.reader
          c.turn.new.reader i.steady.subject t.turns still i.steady;
      within = t.within;
      reaches = λ all h.
          reaches_on c.args.subject told c.loop-chain.chain c.turn.new.chain c.loop-chain.reader
          c.turn.new.reader i.steady.subject t.turns all c.args.reader.now
          (told_of i.only_reads i.reads_on.kept h) still i.steady (i.reaches all h);
      reads_on = reads_on_then i.reads_on t.reads_on;
      only_reads = only_reads_on i.only_reads t.only_reads;
    }

pub returns-in_err-turn-clause-checks : goal.returns-in_err-turn-clause-checks
returns-in_err-turn-clause-checks g c = λ all h.
    let p = err_from_is_err_and c.from_residual-in_err-turn.result
    c.from_residual-in_err-turn.ensures.1 in
    let i = c.loop-chain.invariant in
    let known = told_of i.only_reads i.reads_on.kept h in
    let t = c.in_err-turn.ensures.turns in
    rw (p.1, p.2) (stops c.args.subject all c.args.reader.now c.loop-chain.chain c.loop-chain.reader
    _ i.steady.subject (i.reaches all h) (λ f e. t.0 f e all known) (λ f e. t.1 f e all known))

pub returns-in_err-turn-clause-reads_on : goal.returns-in_err-turn-clause-reads_on
returns-in_err-turn-clause-reads_on g c =
    reads_on_then c.loop-chain.invariant.reads_on c.in_err-turn.ensures.reads_on

pub returns-in_err-turn-clause-only_reads : goal.returns-in_err-turn-clause-only_reads
returns-in_err-turn-clause-only_reads g c =
    let p = err_from_is_err_and c.from_residual-in_err-turn.result
    c.from_residual-in_err-turn.ensures.1 in
    rw (p.1, p.2) (only_reads_then c.loop-chain.invariant.only_reads
    c.in_err-turn.ensures.only_reads (failed_so {X = Unit {0}} {Y = Lines} _))

pub returns-clause-checks : goal.returns-clause-checks
returns-clause-checks g c = λ all h.
    let i = c.loop-chain.invariant in
    let done : c.loop-chain.chain.context.ended ≡ true = search rules in
    shows c.args.subject c.loop-chain.chain c.loop-chain.reader done i.steady c.into_lines.result
    c.into_lines.ensures all c.args.reader.now (i.reaches all h)

pub returns-clause-holds : goal.returns-clause-holds
returns-clause-holds g c = λ ordered names a meets.
    let i = c.loop-chain.invariant in
    let done : c.loop-chain.chain.context.ended ≡ true = search rules in
    shown_holds c.args.subject
    c.loop-chain.chain c.loop-chain.reader done i.steady c.into_lines.result c.into_lines.ensures
    c.accepted_lines_hold.ensures.order ordered names a meets

pub returns-clause-lines : goal.returns-clause-lines
returns-clause-lines g c =
    let i = c.loop-chain.invariant in
    let done : c.loop-chain.chain.context.ended ≡ true = search rules in
    record {
      count = counts c.args.subject c.loop-chain.chain c.loop-chain.reader done i.steady
          c.into_lines.result c.into_lines.ensures;
      marks = marks_are c.args.subject c.loop-chain.chain c.loop-chain.reader done i.steady
          c.into_lines.result c.into_lines.ensures;
    }

pub turn-requires-clause-can_turn : goal.turn-requires-clause-can_turn
turn-requires-clause-can_turn g c =
    let i = c.loop-chain.invariant in
    let still : c.loop-chain.chain.context.ended ≡ false = search rules in
    record {
      room = has_room c.args.subject c.loop-chain.chain c.loop-chain.reader still i.steady i.within;
      sound = i.steady.sound;
      reads = i.steady.reads;
    }
