use Rattle.std.proofs.Common.{◌≤◌}
use Rattle.hx_parse.proofs.OrWords.{PartsTaken}
use Rattle.hx_parse.proofs.step_lines.read_or.Given as goal

-- the words that were taken are those of the items, of which there is one for each round; eight of them take no memory
abbrev pub invariant-loop : goal.invariant-loop
invariant-loop l = PartsTaken l.fn.words l.words l.items.items l.counter × (8 ≤ l.items.capacity)
