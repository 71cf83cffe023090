use Rattle.std.proofs.Common.{sym, ap, ◌∙◌, arith}
use Rattle.cert_bytes.proofs.Told.{name_in, agrees_for, agrees_told}
use Rattle.cert_bytes.proofs.source.Source.digits.Goals as goal

pub returns-then-has-clause-reads_on : goal.returns-then-has-clause-reads_on
returns-then-has-clause-reads_on g c =
    let a = c.number_ahead.ensures in
    record {
      kept = a.kept;
      grows = let x = a.at in omega (arith, x);
      agrees = agrees_told _ c.number_ahead.new.self (λ all h.
          a.agrees all (agrees_for _ c.args.self.now c.requires.agrees all
          (ap (g.F.Folder.told c.args.folder.now) (sym (ap name_in a.kept)) ∙ h)));
    }
