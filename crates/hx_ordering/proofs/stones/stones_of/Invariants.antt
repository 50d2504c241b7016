use Rattle.std.proofs.Common.{◌≡◌, ◌++◌, take}
use Rattle.hx_ordering.specs.Stones.{stones_of_move, stones_of_fills}
use Rattle.hx_ordering.proofs.stones.stones_of.Given as goal

abbrev pub invariant-loop-fill : goal.invariant-loop-fill
invariant-loop-fill l =
    l.stones.items
    ≡ stones_of_move l.fn.start.moved l.fn.start.to_move ++ stones_of_fills (take l.fill-index l.fn.filled.steps.items)
