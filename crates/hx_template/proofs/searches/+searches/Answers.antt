use Rattle.std.proofs.Common.{rules, ◌≡◌, ℕ, ◌<◌, true, false, not, refl, sym, ap, ◌∙◌, arith, ⊎_elim}
use Rattle.std.proofs.lemmas.Bool.{false≢true}
use Rattle.hx_board.specs.Sets.{has, ShareOne}
use Rattle.hx_board.specs.Counts.{empty_count}
use Rattle.hx_board.specs.Positions.{put}
use Rattle.hx_board.specs.Colours.{other_of}
use Rattle.hx_board.proofs.EmptyCells.{empty_count-put}
use Rattle.hx_board.proofs.SetLaws.{has-remove_before, removed_cases}
use Rattle.hx_cells.proofs.StillLeft.{cells-left}
use Rattle.hx_law.specs.Play.{IsFree, By_goal}
use Rattle.hx_proof.specs.Local.{IsJoined}
use Rattle.hx_template.specs.Entries.{SecuredIn, IsSo}
use Rattle.hx_template.proofs.FillingLaws.{filling-put}
use Rattle.hx_template.proofs.LocalCases.{none_free, found, not_found}
use Rattle.hx_template.proofs.EntryLaws.{number_small, place, entry_more}
use Rattle.hx_template.proofs.searches.+searches.Goals as goal

pub decided-returns-then-joins-clause-answer : goal.decided-returns-then-joins-clause-answer
decided-returns-then-joins-clause-answer t c =
    ((λ _. By_goal c.args.position.now c.args.to_move (c.joins.ensures.0 c.if-joins.true)), (λ _. refl))

pub decided-returns-then-not-meets-clause-answer : goal.decided-returns-then-not-meets-clause-answer
decided-returns-then-not-meets-clause-answer t c =
    let game = c.args.game.now in
    let apart : IsJoined game.player game.a game.b c.args.position.now → ⊥ =
    λ join. false≢true (sym c.if-joins.false ∙ c.joins.ensures.1 join) in
    let apart_cells : c.meets.result ≡ false = c.if-not-meets.true in
    let none : (cell : ℕ) → ¬ IsFree (has game.carrier) c.args.position.now cell =
    λ cell free. false≢true (sym (c.meets.ensures.none.0 apart_cells cell free.inside) ∙ (c.empties.ensures cell).1 free.empty) in (
      (λ e. absurd (false≢true e)),
      (λ win. absurd
          (none_free game.player game.carrier game.a game.b c.args.position.now apart c.args.to_move none win)),
    )

pub decided-returns-then-some_move-clause-answer : goal.decided-returns-then-some_move-clause-answer
decided-returns-then-some_move-clause-answer t c =
    let game = c.args.game.now in
    let apart : IsJoined game.player game.a game.b c.args.position.now → ⊥ =
    λ join. false≢true (sym c.if-joins.false ∙ c.joins.ensures.1 join) in
    let move = c.some_move.ensures.some c.if-some_move.true in
    found game.player game.carrier game.a game.b c.args.position.now apart c.args.to_move c.is_player-wanted.result
    c.is_player-wanted.ensures move.0 move.1 move.2

pub decided-returns-else-some_move-clause-answer : goal.decided-returns-else-some_move-clause-answer
decided-returns-else-some_move-clause-answer t c =
    let game = c.args.game.now in
    let apart : IsJoined game.player game.a game.b c.args.position.now → ⊥ =
    λ join. false≢true (sym c.if-joins.false ∙ c.joins.ensures.1 join) in
    let meet : c.meets.result ≡ true = c.if-not-meets.false in
    let one : ShareOne game.carrier c.empties.result = c.meets.ensures.one.0 meet in
    let free : IsFree (has game.carrier) c.args.position.now one.shared =
    record { inside = one.in_set; empty = (c.empties.ensures one.shared).0 one.in_other } in
    not_found game.player game.carrier game.a game.b c.args.position.now apart c.args.to_move c.is_player-wanted.result
    c.is_player-wanted.ensures one.shared free
    (c.some_move.ensures.none c.if-some_move.false)

pub secures-offset_bounds-table-number : goal.secures-offset_bounds-table-number
secures-offset_bounds-table-number t c = let small = number_small c.args.game.now c.args.position.now in
    omega (arith, c.requires.number, small)

pub secures-bounds : goal.secures-bounds
secures-bounds t c = rw c.requires.number (place c.args.game.now c.args.table.now c.requires.table c.args.position.now)

pub secures-offset_bounds-table-number-2 : goal.secures-offset_bounds-table-number-2
secures-offset_bounds-table-number-2 t c = let small = number_small c.args.game.now c.args.position.now in
    omega (arith, c.requires.number, small)

pub secures-bounds-table-number-2 : goal.secures-bounds-table-number-2
secures-bounds-table-number-2 t c = rw c.requires.number
    (place c.args.game.now c.decided-secures.new.table c.decided-secures.ensures.table c.args.position.now)

pub secures-returns-clause-table : goal.secures-returns-clause-table
secures-returns-clause-table t c =
    let game = c.args.game.now in
    rw c.requires.number
    (entry_more game c.decided-secures.new.table c.decided-secures.ensures.table game.inside
    (record { to_move = c.args.to_move; secures = c.decided-secures.result }) c.args.position.now c.requires.filling
    c.decided-secures.ensures.answer)

pub some_move-secures-requires : goal.some_move-secures-requires
some_move-secures-requires t c =
    let game = c.args.game.now in
    let free = c.loop-cell.invariant.free c.in-Some.cell c.in-Some.ensures.steps.least.member in
    let fewer = empty_count-put c.args.position.now c.args.to_move c.in-Some.cell c.requires.filling.valid free.empty in
    let same : empty_count c.with-next.result ≡ empty_count (put c.args.position.now c.args.to_move c.in-Some.cell) =
    ap empty_count c.with-next.ensures in
    let filling = filling-put game.start game.carrier c.args.position.now c.args.to_move c.in-Some.cell c.requires.filling free.inside
    free.empty in (
      omega arith,
      (
        c.requires.vertices,
        (
          rw c.with-next.ensures filling,
          (rw c.with-next.ensures c.number_after-later.ensures, c.loop-cell.invariant.table),
        ),
      ),
    )

pub some_move-loop-cell-preserved : goal.some_move-loop-cell-preserved
some_move-loop-cell-preserved t c =
    let now = c.loop-cell.invariant in
    let first = c.in-Some.ensures.steps in
    let here : IsSo (not c.args.wanted) (SecuredIn c.args.game.now (put c.args.position.now c.args.to_move c.in-Some.cell)
    (other_of c.args.to_move)) = search rules in
    record {
      table = search rules;
      free = λ n h. now.free n (has-remove_before _ c.in-Some.cell n (rw first.cells at h));
      tried = λ n free out. ⊎_elim
          (λ (same : n ≡ c.in-Some.cell). rw same here)
          (λ before. now.tried n free before)
          (removed_cases _ c.in-Some.cell n (rw first.cells at out));
    }

pub some_move-returns-clause-none : goal.some_move-returns-clause-none
some_move-returns-clause-none t c =
    let left = cells-left c.size-size.result _ c.loop-cell.yielded
    (c.into_iter-cell-iterator.ensures.into_iter_gives ∙ c.each_cell-cell-items.ensures.left) c.loop-cell.yielded_by in
    λ no cell free. c.loop-cell.invariant.tried cell free
    (c.in-None.ensures.steps.none cell (rw (left.size, c.size-size.ensures.value) free.empty.on_board))
