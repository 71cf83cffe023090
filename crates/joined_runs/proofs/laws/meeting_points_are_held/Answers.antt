use Rattle.joined_runs.proofs.Points.{points_are_held}
use Rattle.joined_runs.proofs.laws.meeting_points_are_held.Goals as goal

pub returns : goal.returns
returns c = points_are_held c.script_or_refusal.ensures.once c.meeting_points_meet.ensures
