use Rattle.std.proofs.Common.{◌≡◌, ◌∙◌, ℕ, List}
use Rattle.std.specs.Result.{IfOk}
use Rattle.std.proofs.lemmas.Result.{IfOk-weaker}
use Rattle.hx_board.specs.declared.colours.Colour.{Colour}
use Rattle.hx_board.specs.Positions.{Board}
use Rattle.hx_board.specs.Sets.{difference}
use Rattle.hx_tree.specs.declared.nodes.Line.{Line}
use Rattle.hx_fill.specs.Unders.{AreUnder, LeaveNoneDominated, AreByOrder, AreLinesFor, IsSifted}
use Rattle.hx_fill.proofs.ComingLaws.{sifted_begins}
use Rattle.hx_fill.proofs.UnderLaws.{sifted-under, sifted-none_dominated, sifted-by_order, sifted-given}
use Rattle.hx_fill.proofs.unders.under_lines.Goals.{After-go_on, After-lines}
use Rattle.hx_fill.proofs.unders.under_lines.Goals as goal

pub go_by_order-requires-clause-sifted : goal.go_by_order-requires-clause-sifted
go_by_order-requires-clause-sifted c =
    rw (c.of-sieve.ensures.cells, c.of-sieve.ensures.without_line, c.of-sieve.ensures.waiting, c.of-sieve.ensures.betters)
    (sifted_begins c.of-both.result.position c.of-both.result.mover c.args.cells c.args.order.now c.of-sieve.result.choices)

-- the sieve at its end
sifted : (c : After-go_on)
    → IsSifted c.of-both.result.position c.of-both.result.mover c.go_on.new.self.cells c.args.order.now c.go_on.new.self.choices
    c.go_on.new.self.without_line c.go_on.new.self.waiting c.go_on.new.self.betters
sifted c = c.go_on.ensures.sifted c.args.order.now c.go_by_order.ensures.none_waits c.go_by_order.ensures.sifted

-- what holds of all lines for the cells of the sieve at its end holds of those that are given back, for the cells
told : (c : After-lines) (Holds : Board → Colour → ℕ → List Line → Type 0)
    → ((lines : List Line)
    → AreLinesFor c.go_on.new.self.choices (difference c.go_on.new.self.cells c.go_on.new.self.without_line) 0 lines
    → Holds c.of-both.result.position c.of-both.result.mover c.go_on.new.self.cells lines)
    → IfOk c.lines.result (Holds c.args.position.now c.args.mover c.args.cells)
told c Holds are =
    let cells_are : c.go_on.new.self.cells ≡ c.args.cells =
    c.go_on.ensures.cells ∙ c.go_by_order.ensures.cells ∙ c.of-sieve.ensures.cells in
    rw (← c.of-both.ensures.position, ← c.of-both.ensures.mover, ← cells_are) (IfOk-weaker c.lines.result _ _ are c.lines.ensures)

pub lines-requires-clause-given : goal.lines-requires-clause-given
lines-requires-clause-given c = sifted-given _ _ _ _ _ _ _ _ (sifted (goal.at.lines-requires-clause-given c).After-go_on)

pub returns-clause-under : goal.returns-clause-under
returns-clause-under c =
    told (goal.at.returns-clause-under c).After-lines AreUnder
    (λ lines are. sifted-under _ _ _ _ _ _ _ _ lines (sifted (goal.at.returns-clause-under c).After-go_on) c.go_on.ensures.none_waits are)

pub returns-clause-none_dominated : goal.returns-clause-none_dominated
returns-clause-none_dominated c =
    told (goal.at.returns-clause-none_dominated c).After-lines LeaveNoneDominated
    (λ lines are.
    sifted-none_dominated _ _ _ _ _ _ _ _ lines (sifted (goal.at.returns-clause-none_dominated c).After-go_on) c.go_on.ensures.none_waits are)

pub returns-clause-order : goal.returns-clause-order
returns-clause-order c =
    told (goal.at.returns-clause-order c).After-lines (λ board mover cells lines. AreByOrder board mover cells c.args.order.now lines)
    (λ lines are. sifted-by_order _ _ _ _ _ _ _ _ lines (sifted (goal.at.returns-clause-order c).After-go_on) c.go_on.ensures.none_waits are)
