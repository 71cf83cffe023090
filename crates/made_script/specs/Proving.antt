-- How the made script is proved.
use Rattle.proof_options.specs.declared.options.Options.{Options}

-- The options with which the made script is proved, whatever its degree: no box is halved.
abbrev pub stated_options : Options
stated_options = record { rounds = 64; depth = 0; boxes = 4096; workers = 4 }
