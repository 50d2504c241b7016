use Rattle.std.proofs.Common.{length, arith}
use Rattle.std.proofs.lemmas.Slice.{between_to_end}
use Rattle.hx_linkset.proofs.MarkLaws.{found-none, found-first}
use Rattle.hx_linkset.proofs.marks.first_from.Goals as goal

pub returns-in_default : goal.returns-in_default
returns-in_default c =
    found-none c.args.marks.now _ c.args.bound
    (between_to_end c.args.marks.now c.args.bound (length c.args.marks.now) (omega arith)) c.in_default.ensures

pub returns : goal.returns
returns c = found-first c.args.marks.now _ c.args.bound
    (between_to_end c.args.marks.now c.args.bound (length c.args.marks.now)
    (omega arith)) c.in-Some.further c.in-Some.ensures.0 c.in-Some.ensures.1
