use Rattle.script_bounds.proofs.Readings.{within_limits, past_limits}
use Rattle.script_bounds.proofs.numbers.read_number.Goals as goal

pub returns-in-Ok-clause-value : goal.returns-in-Ok-clause-value
returns-in-Ok-clause-value c = within_limits c.args.negative c.args.text.now c.in-Ok.ensures.one
    c.in-Ok.literal c.in-Ok.ensures.reading

pub returns-in-Err-clause-value : goal.returns-in-Err-clause-value
returns-in-Err-clause-value c = past_limits c.args.negative c.args.text.now c.in-Err.ensures.one
    c.in-Err.field-0 c.in-Err.ensures.bad c.in-Err.ensures.past
