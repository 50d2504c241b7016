use Rattle.hx_book.proofs.AloneLaws.{black-alone, white-alone}
use Rattle.hx_book.proofs.buckets.alone.Goals as goal

pub placed-requires : goal.placed-requires
placed-requires c =
    black-alone c.args.position.now c.stones-stones.ensures.valid c.args.player c.size-size.result c.stones-stones.result c.empty.result
    c.size-size.ensures.value c.stones-stones.ensures.value c.empty.ensures c.in-Black.is

pub placed-requires-in-White : goal.placed-requires-in-White
placed-requires-in-White c =
    white-alone c.args.position.now c.stones-stones.ensures.valid c.args.player c.size-size.result c.stones-stones.result
    c.empty-in-White.result
    c.size-size.ensures.value c.stones-stones.ensures.value c.empty-in-White.ensures c.in-White.is
