use Rattle.std.proofs.Common.{rules, ◌≡◌, ℕ, ◌<◌, false, ap, ◌∙◌, sym, subst, arith, ⊎_elim}
use Rattle.std.proofs.lemmas.Bool.{false≢true}
use Rattle.hx_board.specs.Counts.{empty_count}
use Rattle.hx_board.specs.Cells.{Extent, OnBoard}
use Rattle.hx_board.specs.Positions.{Board, put}
use Rattle.hx_sweep.specs.Tries.{IsRefuted}
use Rattle.hx_board.specs.Game.{By_chain}
use Rattle.hx_board.proofs.StoneLaws.{held-put}
use Rattle.hx_board.proofs.EmptyCells.{empty_count-put}
use Rattle.hx_board.proofs.SetLaws.{has-remove_before, removed_cases}
use Rattle.hx_cells.proofs.StillLeft.{cells-left}
use Rattle.hx_sweep.proofs.WinCases.{refuted_all, move_wins}
use Rattle.hx_sweep.proofs.winners.+winners.Goals as goal

pub winner-returns-then-chain-clause-wins : goal.winner-returns-then-chain-clause-wins
winner-returns-then-chain-clause-wins t c = By_chain _ _ (c.chain.ensures.0 c.if-chain.true)

pub winner-returns-then-chain-2-clause-wins : goal.winner-returns-then-chain-2-clause-wins
winner-returns-then-chain-2-clause-wins t c = By_chain _ _ (c.chain-2.ensures.0 c.if-chain-2.true)

pub winner-returns-in-Some-clause-wins : goal.winner-returns-in-Some-clause-wins
winner-returns-in-Some-clause-wins t c = move_wins _ _ _ c.in-Some.ensures.first

pub winner-returns-in-None-clause-wins : goal.winner-returns-in-None-clause-wins
winner-returns-in-None-clause-wins t c =
    rw c.other.ensures
    (refuted_all c.args.position.now c.args.to_move c.size-size.ensures.valid
    (λ chain. false≢true (sym c.if-chain.false ∙ c.chain.ensures.1 chain))
    (λ chain. false≢true (sym c.if-chain-2.false ∙ c.chain-2.ensures.1 chain)) c.in-None.ensures.first)

pub winning_move-winner-found-requires : goal.winning_move-winner-found-requires
winning_move-winner-found-requires t c =
    let fewer = empty_count-put c.args.position.now c.args.to_move c.in-Some.cell c.size-size.ensures.valid
    (c.loop-cell.invariant.inside c.in-Some.cell c.in-Some.ensures.steps.least.member) in
    let same : empty_count c.play.new.self ≡ empty_count (put c.args.position.now c.args.to_move c.in-Some.cell) =
    ap empty_count (c.play.ensures ∙ ap (λ (board : Board). put board c.args.to_move c.in-Some.cell) c.loop-cell.invariant.kept) in
    (omega arith, tt)

pub winning_move-lift-requires : goal.winning_move-lift-requires
winning_move-lift-requires t c =
    rw (c.winner-found.ensures.kept, c.play.ensures) (held-put c.loop-cell.position c.args.to_move c.in-Some.cell)

pub winning_move-loop-cell-preserved : goal.winning_move-loop-cell-preserved
winning_move-loop-cell-preserved t c =
    let now = c.loop-cell.invariant in
    let first = c.in-Some.ensures.steps in
    let here : IsRefuted c.args.position.now c.args.to_move c.in-Some.cell = search rules in
    record {
      kept = search rules;
      inside = λ n h. now.inside n (has-remove_before _ c.in-Some.cell n (rw first.cells at h));
      refuted = λ n empty out. ⊎_elim
          (λ (same : n ≡ c.in-Some.cell). rw same here)
          (λ before. now.refuted n empty before)
          (removed_cases _ c.in-Some.cell n (rw first.cells at out));
    }

pub winning_move-returns-then-eq-clause-first : goal.winning_move-returns-then-eq-clause-first
winning_move-returns-then-eq-clause-first t c =
    let now = c.loop-cell.invariant in
    let first = c.in-Some.ensures.steps in
    let left = cells-left c.size-size.result _ c.loop-cell.yielded
    (c.into_iter-cell-iterator.ensures.into_iter_gives ∙ c.each_cell-cell-items.ensures.left) c.loop-cell.yielded_by in
    record {
      empty = now.inside c.in-Some.cell first.least.member;
      wins = search rules;
      first = λ earlier less empty. now.refuted earlier empty
          (first.least.first earlier less (rw (left.size, c.size-size.ensures.value) empty.on_board));
    }

pub winning_move-returns-clause-first : goal.winning_move-returns-clause-first
winning_move-returns-clause-first t c =
    let left = cells-left c.size-size.result _ c.loop-cell.yielded
    (c.into_iter-cell-iterator.ensures.into_iter_gives ∙ c.each_cell-cell-items.ensures.left) c.loop-cell.yielded_by in
    λ cell empty. c.loop-cell.invariant.refuted cell empty
    (c.in-None.ensures.steps.none cell (rw (left.size, c.size-size.ensures.value) empty.on_board))
