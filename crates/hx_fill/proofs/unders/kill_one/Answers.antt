use Rattle.hx_fill.proofs.ComingLaws.{killed_one, killed_not}
use Rattle.hx_fill.proofs.unders.kill_one.Goals as goal

pub returns-in-None : goal.returns-in-None
returns-in-None c = λ cells left before here so_far.
    killed_not c.args.both.now.position c.args.both.now.mover c.args.better cells left c.args.worse c.args.killed before _ so_far
    c.in-None.ensures

pub returns-in-Some : goal.returns-in-Some
returns-in-Some c = λ cells left before here so_far. rw c.with.ensures.set
    (killed_one c.args.both.now.position c.args.both.now.mover c.args.better cells left c.args.worse c.args.killed before _
    so_far c.in-Some.kill _ here c.in-Some.ensures
    c.put.ensures.put c.put.ensures.others)
