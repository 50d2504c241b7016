use Rattle.std.specs.List.{All}
use Rattle.hx_fill.specs.Musts.{IsSharedByAll}
use Rattle.hx_ordering.specs.Choices.{IsChildOf}
use Rattle.hx_ordering.proofs.TryLaws.{AreGathered}
use Rattle.hx_ordering.proofs.moves.Moves.of.Given as goal

abbrev pub invariant-loop-cell : goal.invariant-loop-cell
invariant-loop-cell l = record {
  each : All (IsChildOf l.fn.situation) l.children.items;
  among : All (λ child. IsSharedByAll l.fn.others child.cell) l.children.items;
  gathered : AreGathered l.fn.situation.filled l.tried l.cell-items l.cell-index l.children.items;
}
