use Rattle.std.proofs.Common.{◌≡◌, ℕ, List, Bor, rules}
use Rattle.std.proofs.lemmas.Result.{err_from_is_err_and, IfOk-weaker, IfErr-weaker}
use Rattle.hx_board.specs.declared.colours.Colour.TheVariants.{Black, White}
use Rattle.hx_board.specs.Cells.{IsExtent}
use Rattle.hx_board.specs.Positions.{IsBoard, IsPosition}
use Rattle.hx_text.specs.PositionTexts.{size_line, stones_line}
use Rattle.hx_parse.proofs.BoardFaults.{no_title, no_size, no_black_stones, no_white_stones}
use Rattle.hx_parse.proofs.UnreadLines.{stands_first, stands_on, refuses}
use Rattle.hx_parse.proofs.boards.read_board.Goals as goal

pub returns-in_err-next-clause-fault : goal.returns-in_err-next-clause-fault
returns-in_err-next-clause-fault c =
    let p = err_from_is_err_and c.from_residual.result c.from_residual.ensures.1 in
    rw (p.1, p.2) (no_title c.args.title.now c.requires.line (stands_first c.args.lines.now c.requires.first)
    (refuses c.in_err-next.ensures.fault _ (λ given met. search rules)))

pub returns-in_err-size-clause-fault : goal.returns-in_err-size-clause-fault
returns-in_err-size-clause-fault c =
    let p = err_from_is_err_and c.from_residual-in_err-size.result c.from_residual-in_err-size.ensures.1 in
    let first = stands_first c.args.lines.now c.requires.first in
    let title = stands_on first c.in_ok-next.ensures.read c.args.title.now (λ given met. search rules) in
    rw (p.1, p.2) (no_size c.args.title.now c.requires.line title (refuses c.in_err-size.ensures.fault _ (λ given met. search rules)))

pub returns-in_err-black-clause-fault : goal.returns-in_err-black-clause-fault
returns-in_err-black-clause-fault c =
    let p = err_from_is_err_and c.from_residual-in_err-black.result c.from_residual-in_err-black.ensures.1 in
    let size = c.in_ok-size.size in
    let extent : IsExtent size.rows size.cols = search rules in
    let first = stands_first c.args.lines.now c.requires.first in
    let title = stands_on first c.in_ok-next.ensures.read c.args.title.now (λ given met. search rules) in
    let sized = stands_on title c.in_ok-size.ensures.read (size_line size) (λ given met. search rules) in
    rw (p.1, p.2) (no_black_stones c.args.title.now c.requires.line size extent sized
    (refuses c.in_err-black.ensures.fault _ (λ given met. search rules)))

pub returns-clause-fault : goal.returns-clause-fault
returns-clause-fault c =
    let size = c.in_ok-size.size in
    let black = c.in_ok-black.black in
    let extent : IsExtent size.rows size.cols = search rules in
    let fits : IsPosition size black 0 = search rules in
    let first = stands_first c.args.lines.now c.requires.first in
    let title = stands_on first c.in_ok-next.ensures.read c.args.title.now (λ given met. search rules) in
    let sized = stands_on title c.in_ok-size.ensures.read (size_line size) (λ given met. search rules) in
    let stones = stands_on sized c.in_ok-black.ensures.read (stones_line Black black) (λ given met. search rules) in
    IfErr-weaker c.next-4.result _ _ (λ fault lacks. no_white_stones c.args.title.now c.requires.line size black extent fits stones
    (refuses lacks _ (λ given met. search rules))) c.next-4.ensures.fault

pub returns-clause-read : goal.returns-clause-read
returns-clause-read c =
    let size = c.in_ok-size.size in
    let black = c.in_ok-black.black in
    let first = stands_first c.args.lines.now c.requires.first in
    let title = stands_on first c.in_ok-next.ensures.read c.args.title.now (λ given met. search rules) in
    let sized = stands_on title c.in_ok-size.ensures.read (size_line size) (λ given met. search rules) in
    let stones = stands_on sized c.in_ok-black.ensures.read (stones_line Black black) (λ given met. search rules) in
    IfOk-weaker c.next-4.result _ _ (λ position takes.
    let Found = λ (given : Bor (List ℕ)).
    IsBoard position × (position.size ≡ size) × (position.black ≡ black) × (given.now ≡ stones_line White position.white) in
    let found : Found takes.holds.0 = search rules in
    let board = stands_on stones takes (stones_line White position.white) (λ given met. let is : Found given = search rules in is.3) in
    (found.0, rw (found.1, found.2) board)) c.next-4.ensures.read
