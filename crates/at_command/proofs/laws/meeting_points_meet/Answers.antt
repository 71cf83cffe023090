use Rattle.at_command.proofs.Meeting.{meeting_is_met}
use Rattle.at_command.proofs.laws.meeting_points_meet.Goals as goal

pub returns : goal.returns
returns c = meeting_is_met c.meeting_is_told.ensures
