use Rattle.std.proofs.Common.{◌≡◌, ◌+◌, drop, false}
use Rattle.script_words.specs.Lex as spec
use Rattle.script_words.proofs.lex.blank_len.Given as goal

abbrev pub invariant-loop-i : goal.invariant-loop-i
invariant-loop-i l = l.i + spec.blank_len l.inside (drop l.i l.text) ≡ spec.blank_len false l.text
