use Rattle.joined_runs.proofs.Programs.{programs_are_sound}
use Rattle.joined_runs.proofs.laws.fixed_programs_are_sound.Goals as goal

pub returns : goal.returns
returns c = programs_are_sound c.no_run_wraps.ensures.lie
