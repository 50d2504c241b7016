use Rattle.std.proofs.Common.{◌∙◌, ap, ℕ}
use Rattle.hx_board.specs.Sets.{insert}
use Rattle.hx_link.proofs.MeetingLaws.{no_cell, cell-made, cell-middle}
use Rattle.hx_link.proofs.ands.and_cell.Goals as goal

pub returns-in_default : goal.returns-in_default
returns-in_default c = λ board colour allowed link g. no_cell _ _ _ _ _ link c.in_default.ensures g.rule g.link_ok

pub returns-in_default-middle_cell : goal.returns-in_default-middle_cell
returns-in_default-middle_cell c = λ board colour allowed link g. let w = cell-middle _ _ _ _ _ link c.in-Some.met c.in-Some.ensures g.rule g.link_ok in
    c.in_default-middle_cell.ensures board colour allowed w.0 w.1

pub returns : goal.returns
returns c = λ board colour allowed. cell-made _ _ _ _ _ c.in-Some.met c.in-Some-middle_cell.cell _ _
    (c.with-carrier.ensures.set
    ∙ ap (λ (n : ℕ). insert n c.in-Some-middle_cell.cell) c.union.ensures.set) c.in-Some.ensures (c.in-Some-middle_cell.ensures board colour allowed)
    (c.made.ensures board colour allowed)
