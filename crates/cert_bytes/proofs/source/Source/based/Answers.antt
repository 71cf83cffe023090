use Rattle.std.proofs.Common.{refl, sym, ap, ◌∙◌, arith}
use Rattle.cert_bytes.specs.Pieces.{cursor_of}
use Rattle.cert_bytes.proofs.Told.{name_in, style_in, agrees_for, agrees_told}
use Rattle.cert_bytes.proofs.Filled.{next_is}
use Rattle.cert_bytes.proofs.Ahead.{low_is, low_number}
use Rattle.cert_bytes.proofs.source.Source.based.Goals as goal

pub returns-then-has_low-clause-gives : goal.returns-then-has_low-clause-gives
returns-then-has_low-clause-gives g c = λ all h.
    let room = c.if-has_low.ensures.room refl in
    let old = c.args.self.now in
    let read = next_is all old.style old.at old c.advance.new.self c.advance.result
    (agrees_for _ old c.requires.agrees all h) refl (λ l. omega (arith, l, room))
    c.advance.ensures.byte c.advance.ensures.at (ap style_in c.advance.ensures.kept) in
    let many = c.requires.limit.many in
    rw c.from.ensures (low_number (cursor_of all old)
    (cursor_of all c.advance.new.self) c.args.bytes c.args.most c.advance.result
    (omega (arith, many)) c.requires.low read.0 (low_is old.ahead c.advance.new.self.ahead
    c.advance.result (c.if-has_low.ensures.low refl) c.advance.ensures.byte))

pub returns-then-has_low-clause-reads_on : goal.returns-then-has_low-clause-reads_on
returns-then-has_low-clause-reads_on g c =
    let room = c.if-has_low.ensures.room refl in
    let old = c.args.self.now in
    let a = c.advance.ensures in
    record {
      kept = a.kept;
      grows = let x = a.at in omega (arith, x);
      agrees = agrees_told _ c.advance.new.self (λ all h.
          let known = ap (g.F.Folder.told c.args.folder.now) (sym (ap name_in a.kept)) ∙ h in
          (next_is all old.style old.at old c.advance.new.self c.advance.result
          (agrees_for _ old c.requires.agrees all known) refl (λ l. omega (arith, l, room)) a.byte
          a.at (ap style_in a.kept)).1);
    }
