use Rattle.hx_link.proofs.MeetingLaws.{no_meeting}
use Rattle.hx_link.proofs.meetings.met_of.Goals as goal

pub returns-in_default-meeting_of : goal.returns-in_default-meeting_of
returns-in_default-meeting_of c =
    no_meeting _ _ _ c.in-Some.first c.in-Some-full_at.second c.in-Some.ensures.there c.in-Some-full_at.ensures.there
    c.in_default-meeting_of.ensures
