use Rattle.std.proofs.Common.{◌≡◌, ap, rules}
use Rattle.std.proofs.lemmas.Result.{err_from_is_err_and}
use Rattle.hx_lex.specs.Words.{spaced}
use Rattle.hx_text.specs.PositionTexts.{move_line, position_lines}
use Rattle.hx_parse.specs.TextLines.{Unread, StandsBehind}
use Rattle.hx_parse.proofs.PositionFaults.{no_board, no_mover, sixth_line}
use Rattle.hx_parse.proofs.UnreadLines.{stands_on, stands_whole, refuses}
use Rattle.hx_parse.proofs.positions.read_lines.Goals as goal

pub returns-in_err-position-clause-fault : goal.returns-in_err-position-clause-fault
unfolding spaced
returns-in_err-position-clause-fault c =
    let p = err_from_is_err_and c.from_residual.result c.from_residual.ensures.1 in
    let text : c.of-lines.result.rest ≡ c.args.bytes.now = ap (λ (u : Unread). u.rest) c.of-lines.ensures in
    rw (p.1, p.2) (no_board c.args.bytes.now _ (rw text at c.in_err-position.ensures.fault))

pub returns-in_err-to_move-clause-fault : goal.returns-in_err-to_move-clause-fault
unfolding spaced
returns-in_err-to_move-clause-fault c =
    let p = err_from_is_err_and c.from_residual-in_err-to_move.result c.from_residual-in_err-to_move.ensures.1 in
    let text : c.of-lines.result.rest ≡ c.args.bytes.now = ap (λ (u : Unread). u.rest) c.of-lines.ensures in
    let board = rw text at c.in_ok-position.ensures.read in
    rw (p.1, p.2) (no_mover c.in_ok-position.position board.0 board.1 (refuses c.in_err-to_move.ensures.fault _ (λ given met. search rules)))

pub returns-in_err-end-clause-fault : goal.returns-in_err-end-clause-fault
unfolding spaced
returns-in_err-end-clause-fault c =
    let p = err_from_is_err_and c.from_residual-in_err-end.result c.from_residual-in_err-end.ensures.1 in
    let text : c.of-lines.result.rest ≡ c.args.bytes.now = ap (λ (u : Unread). u.rest) c.of-lines.ensures in
    let board = rw text at c.in_ok-position.ensures.read in
    let whole : StandsBehind c.args.bytes.now (position_lines c.in_ok-position.position c.in_ok-to_move.to_move) c.next.new.self =
    stands_on board.1 c.in_ok-to_move.ensures.read (move_line c.in_ok-to_move.to_move) (λ given met. search rules) in
    rw (p.1, p.2) (sixth_line c.in_ok-position.position board.0 c.in_ok-to_move.to_move whole c.in_err-end.ensures.0 c.in_err-end.ensures.1)

pub returns-clause-read : goal.returns-clause-read
unfolding spaced
returns-clause-read c =
    let text : c.of-lines.result.rest ≡ c.args.bytes.now = ap (λ (u : Unread). u.rest) c.of-lines.ensures in
    let board = rw text at c.in_ok-position.ensures.read in
    let whole : StandsBehind c.args.bytes.now (position_lines c.in_ok-position.position c.in_ok-to_move.to_move) c.next.new.self =
    stands_on board.1 c.in_ok-to_move.ensures.read (move_line c.in_ok-to_move.to_move) (λ given met. search rules) in
    (board.0, stands_whole whole c.in_ok-end.ensures)
