use Rattle.hx_link.proofs.MeetingLaws.{meets-at_one}
use Rattle.hx_link.proofs.meetings.meeting_of.Goals as goal

pub returns-in-None : goal.returns-in-None
returns-in-None c = meets-at_one _ _ _ c.in-None.ensures c.meeting_at-in-None.ensures
