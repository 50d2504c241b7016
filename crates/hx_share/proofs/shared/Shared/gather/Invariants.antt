use Rattle.std.proofs.Common.{◌≡◌, ◌++◌, [], List, map}
use Rattle.std.specs.Prelude.{All}
use Rattle.hx_share.specs.OneList.{view}
use Rattle.hx_share.specs.Readers.{Reader, part_of}
use Rattle.hx_share.proofs.shared.Shared.gather.Given as goal

abbrev pub invariant-loop-other : goal.invariant-loop-other
invariant-loop-other l = record {
  table : l.seat.table_id ≡ l.self.made.table;
  left : All (λ s. s.made ≡ l.self.made) l.seats.items;
  parts : (done : List Reader) × (l.fn.seats.items ≡ l.seats.items ++ done) × (l.seat.me ≡ (view (map part_of done), []));
}

abbrev pub decreases-loop-other : goal.decreases-loop-other
decreases-loop-other l = goal.left-loop-other l
