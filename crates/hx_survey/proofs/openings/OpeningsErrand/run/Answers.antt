use Rattle.hx_survey.proofs.openings.OpeningsErrand.run.Goals as goal

pub go_through_both-end-requires-clause-share : goal.go_through_both-end-requires-clause-share
go_through_both-end-requires-clause-share g c = rw c.job_of-job.ensures.worker c.share-share.ensures
