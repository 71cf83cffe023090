-- The line of a certificate that is written anew, as bytes. It ends with a line feed.
use Rattle.std.specs.Prelude.{◌++◌, ℕ, codes}
use Rattle.std.specs.Fmt.{decimal}
use Rattle.command_runs.specs.Runs.{Bytes}

-- of a certificate without its unused steps: how many steps are left, and how many there were
abbrev pub trimmed_line : ℕ → ℕ → Bytes
trimmed_line kept all =
    codes "trimmed: " ++ decimal kept ++ codes " of " ++ decimal all ++ codes " steps\n"
