use Rattle.std.proofs.Common.{length}
use Rattle.report.proofs.proved.+put_hint_lines.Given as goal

abbrev pub decreases-put_hint_lines : goal.decreases-put_hint_lines
decreases-put_hint_lines l = length l.marks.now
