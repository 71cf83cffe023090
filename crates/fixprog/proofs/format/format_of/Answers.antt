use Rattle.std.proofs.Common.{◌≡◌, length, sym, arith}
use Rattle.fixprog.proofs.FormatTexts.{no_text}
use Rattle.fixprog.proofs.format.format_of.Goals as goal

pub returns-in-empty-clause-format : goal.returns-in-empty-clause-format
returns-in-empty-clause-format c = let none : length c.args.text.now ≡ 0 = omega arith in
    sym (no_text c.args.text.now none)
