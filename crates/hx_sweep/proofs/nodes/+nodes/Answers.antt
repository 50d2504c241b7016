use Rattle.std.proofs.Common.{rules, ◌≡◌, ◌<◌, List, [], ◌∷◌, ◌++◌, ap, refl, ◌∙◌, sym, arith, length, length-append}
use Rattle.std.proofs.lemmas.Bool.{false≢true}
use Rattle.hx_board.specs.Cells.{IsLeastOn}
use Rattle.hx_board.specs.Colours.{other_of}
use Rattle.hx_board.specs.Counts.{empty_count}
use Rattle.hx_board.specs.Positions.{Board}
use Rattle.hx_board.proofs.StoneLaws.{held-put}
use Rattle.hx_board.proofs.EmptyCells.{empty_count-put, empties-count, sweep_size-positive}
use Rattle.hx_board.proofs.ColourLaws.{other-other}
use Rattle.hx_cells.proofs.StillLeft.{cells-left}
use Rattle.hx_tree.specs.declared.nodes.Node.{Node}
use Rattle.hx_tree.specs.declared.nodes.Line.{Line}
use Rattle.hx_tree.specs.declared.nodes.Line.TheVariants.{Child}
use Rattle.hx_tree.specs.Headings.{heading_of}
use Rattle.hx_sweep.proofs.WinCases.{answers_all, not_all_refuted}
use Rattle.hx_sweep.proofs.NodeGrowth.{grown_none, grown_less, grown_on, move_room, moves_room, begun_after, grown_after, proved_leads}
use Rattle.hx_sweep.proofs.NodeGrowth.{proved_by}
use Rattle.hx_tree.proofs.LinesInOrder.{none_answered, all_answered, fewer_answered, right_by_lines}
use Rattle.hx_sweep.proofs.AnswerOrder.{answered_on, child_lines}
use Rattle.hx_sweep.proofs.nodes.+nodes.Goals as goal

pub after-prove-child-requires : goal.after-prove-child-requires
after-prove-child-requires t c =
    let fewer = empty_count-put c.args.position.now c.args.stone c.args.cell c.requires.valid c.requires.empty in
    let same = ap empty_count c.play.ensures in
    (omega arith, rw (c.other.ensures, c.play.ensures) (c.requires.wins, c.requires.begun))

pub after-lift-requires : goal.after-lift-requires
after-lift-requires t c = rw (c.prove-child.ensures.kept, c.play.ensures) (held-put c.args.position.now c.args.stone c.args.cell)

pub answers-loop-cell-init : goal.answers-loop-cell-init
answers-loop-cell-init t c = record {
  kept = refl;
  answered = rw (c.into_iter-cell-iterator.ensures.into_iter_gives, c.each_cell-cell-items.ensures.left, c.new-lines.ensures.items)
      (none_answered _ _ _ c.empties.ensures (empties-count _ _ c.requires.begun.valid c.empties.ensures));
  grown = grown_none _ _ _ c.requires.begun;
}

pub answers-after-requires : goal.answers-after-requires
answers-after-requires t c =
    let board : Board = c.args.position.now in
    let kept : c.loop-cell.position ≡ board = c.loop-cell.invariant.kept in
    let same = ap empty_count kept in
    let before = c.loop-cell.invariant.answered in
    let left = cells-left c.size-size.result _ c.loop-cell.yielded
    (c.into_iter-cell-iterator.ensures.into_iter_gives ∙ c.each_cell-cell-items.ensures.left) c.loop-cell.yielded_by in
    let least : IsLeastOn board.size c.loop-cell.cell-iterator.cells c.in-Some.cell =
    rw (left.size, c.size-size.ensures.value) at c.in-Some.ensures.steps.least in
    let empty = before.inside c.in-Some.cell least.member in
    let wins = (answers_all board c.args.winner _ refl c.requires.no_chain c.requires.wins).all c.in-Some.cell empty in
    let room = moves_room (empty_count board) _ (fewer_answered _ _ _ _ _ c.requires.begun.valid before least) in
    let begun = begun_after board (other_of c.args.winner) c.in-Some.cell _ _ _ c.requires.begun c.loop-cell.invariant.grown empty
    (omega arith) in
    (omega arith, rw (kept, c.other.ensures, other-other c.args.winner) (c.requires.begun.valid, (empty, (wins, begun))))

pub answers-loop-cell-preserved : goal.answers-loop-cell-preserved
answers-loop-cell-preserved t c =
    let board : Board = c.args.position.now in
    let before = c.loop-cell.invariant.answered in
    let left = cells-left c.size-size.result _ c.loop-cell.yielded
    (c.into_iter-cell-iterator.ensures.into_iter_gives ∙ c.each_cell-cell-items.ensures.left) c.loop-cell.yielded_by in
    let least : IsLeastOn board.size c.loop-cell.cell-iterator.cells c.in-Some.cell =
    rw (left.size, c.size-size.ensures.value) at c.in-Some.ensures.steps.least in
    let empty = before.inside c.in-Some.cell least.member in
    let proved = rw (c.loop-cell.invariant.kept, c.other.ensures, other-other c.args.winner) at c.in_ok-child.ensures.proved in
    let line : Line = Child c.in-Some.cell c.in_ok-child.child in
    let pushed : c.extend_from_slice.new.self.items ≡ c.loop-cell.lines.items ++ line ∷ [] = search rules in
    let lines : List Line = c.loop-cell.lines.items in
    record {
      kept = c.after.ensures.kept ∙ c.loop-cell.invariant.kept;
      answered = rw (pushed, c.in-Some.ensures.steps.cells)
          (answered_on board c.args.winner _ _ _ _ _ _ c.requires.begun.valid before least proved);
      grown =
          rw pushed
          (grown_on board.size _ _ _ _ _ _ c.loop-cell.invariant.grown
          (grown_after board (other_of c.args.winner) c.args.winner c.args.winner c.in-Some.cell _ _ _ c.requires.begun.valid empty proved)
          (rw (length-append lines (line ∷ [])) (omega arith)));
    }

pub answers-returns-clause-grown : goal.answers-returns-clause-grown
answers-returns-clause-grown t c =
    grown_less _ _ _ _ _ c.loop-cell.invariant.grown
    (moves_room (empty_count c.args.position.now) _ (omega (arith, c.loop-cell.invariant.answered.count)))

pub answers-returns-clause-right : goal.answers-returns-clause-right
answers-returns-clause-right t c =
    let answered = answers_all c.args.position.now c.args.winner _ refl c.requires.no_chain c.requires.wins in
    let left = cells-left c.size-size.result _ c.loop-cell.yielded
    (c.into_iter-cell-iterator.ensures.into_iter_gives ∙ c.each_cell-cell-items.ensures.left) c.loop-cell.yielded_by in
    right_by_lines _ _ _ answered.some refl answered.some_empty
    (all_answered _ _ _ _ c.loop-cell.invariant.answered
    (rw (left.size, c.size-size.ensures.value) at c.in-None.ensures.steps.none)) c.loop-cell.invariant.answered.lines_right

pub answers-returns-clause-children : goal.answers-returns-clause-children
answers-returns-clause-children t c =
    child_lines _ (heading_of c.args.position.now (other_of c.args.winner) c.args.winner) _ c.loop-cell.invariant.answered.lines_right

pub prove-overflow_cast-number : goal.prove-overflow_cast-number
prove-overflow_cast-number t c =
    let grown = c.in_ok-rule.ensures.grown in
    let count : c.len-number.result ≡ length c.rule.new.nodes.items = search rules in
    let some = sweep_size-positive (empty_count c.args.position.now) in
    omega (arith, ap length grown.same, length-append c.args.nodes.now.items grown.more, grown.few)

pub prove-returns-clause-proved : goal.prove-returns-clause-proved
prove-returns-clause-proved t c =
    let node : Node = record { heading = heading_of c.args.position.now c.args.to_move c.args.winner; rule = c.in_ok-rule.rule } in
    let same : c.push.new.self.items ≡ c.rule.new.nodes.items ++ node ∷ [] = search rules in
    proved_by c.args.position.now c.args.to_move c.args.winner c.in_ok-rule.rule c.args.nodes.now.items c.rule.new.nodes.items
    c.push.new.self.items c.len-number.result
    c.requires.begun.valid c.in_ok-rule.ensures.grown c.in_ok-rule.ensures.right c.in_ok-rule.ensures.by_moves same (search rules)

pub rule-after-requires : goal.rule-after-requires
rule-after-requires t c =
    let kept = c.in-Some.ensures.kept in
    let same = ap empty_count kept in
    let best = c.in-Some.ensures.first in
    let room = move_room c.args.position.now c.in-Some.cell c.requires.begun.valid best.empty in
    let none = grown_none c.args.position.now c.args.nodes.now.items 0 c.requires.begun in
    let begun = begun_after c.args.position.now c.args.winner c.in-Some.cell 0 _ _ c.requires.begun none best.empty (omega arith) in
    (omega arith, rw kept (c.requires.begun.valid, (best.empty, (best.wins, begun))))

pub rule-unreachable-requires : goal.rule-unreachable-requires
rule-unreachable-requires t c =
    not_all_refuted c.args.position.now c.args.winner c.args.to_move (search rules) c.requires.begun.valid
    (λ chain. false≢true (sym c.if-chain.false ∙ c.chain.ensures.1 chain)) c.requires.wins c.in-None.ensures.first

pub rule-returns-clause-grown : goal.rule-returns-clause-grown
rule-returns-clause-grown t c =
    let kept = c.in-Some.ensures.kept in
    let empty = c.in-Some.ensures.first.empty in
    grown_less _ _ _ _ _ (grown_after c.args.position.now c.args.winner
    (other_of c.args.winner) c.args.winner c.in-Some.cell _ _ _ c.requires.begun.valid empty
    (rw kept at c.in_ok-child-in-Some.ensures.proved))
    (move_room c.args.position.now c.in-Some.cell c.requires.begun.valid empty)

pub rule-returns-clause-right : goal.rule-returns-clause-right
rule-returns-clause-right t c = record {
  mover = search rules;
  empty = c.in-Some.ensures.first.empty;
  leads = proved_leads _ _ _ _ _ _ (rw c.in-Some.ensures.kept at c.in_ok-child-in-Some.ensures.proved);
}
