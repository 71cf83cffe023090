use Rattle.std.proofs.Common.{◌≡◌, ℕ, List}
use Rattle.std.specs.BTreeMap.{get_by_text}
use Rattle.fx_edge.specs.Files.{last_file}
use Rattle.fx_edge.proofs.files.Files.new.Given as goal

abbrev pub invariant-loop-name : goal.invariant-loop-name
invariant-loop-name l = (q : List ℕ) → get_by_text l.by_name q ≡ last_file l.room l.yielded q
