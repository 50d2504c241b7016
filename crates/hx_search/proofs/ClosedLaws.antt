-- A set is closed where Bases, Ands and Ors are all settled.
use Rattle.std.proofs.Common.{length}
use Rattle.hx_linkset.specs.States.{Standing, IsRight}
use Rattle.hx_search.specs.Closed.{IsClosed}
use Rattle.hx_search.specs.Progress.{AreBasesBelow, AreRowsSettled, AreForksBelow}
use Rattle.hx_search.proofs.BaseLaws.{bases-all}
use Rattle.hx_search.proofs.SwappedAnds.{all-stones, all-cells}
use Rattle.hx_search.proofs.OrLaws.{forks-all}

pub closed-by : (set : Standing) → IsRight set.player set.present → AreBasesBelow set 123
    → AreRowsSettled set (length set.present.links) → AreForksBelow set 123 → IsClosed set
closed-by set right bases rows forks = record {
  bases = λ a b. bases-all set right.is_board.0 bases a b;
  and_stones = λ left right' link h. all-stones set rows left right' link h;
  and_cells = λ left right' link h. all-cells set rows left right' link h;
  ors = λ a b f. forks-all set right forks a b f;
}
