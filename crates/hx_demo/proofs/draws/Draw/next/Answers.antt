use Rattle.std.proofs.Common.{◌≡◌, ◌∙◌, ap, sym}
use Rattle.hx_board.specs.Positions.{Board}
use Rattle.hx_board.specs.Sets.{count_below}
use Rattle.hx_board.specs.Counts.{empty_count}
use Rattle.hx_demo.specs.Generators.{words_later}
use Rattle.hx_demo.proofs.DrawnBoards.{with_stones, black_cells, white_cells, two_parts, found-some, drawn_position-parts, drawn-black}
use Rattle.hx_demo.proofs.DrawnBoards.{drawn-white, drawn-empty, cells-left}
use Rattle.hx_demo.proofs.WordLaws.{words_later-add}
use Rattle.hx_demo.proofs.draws.Draw.next.Goals as goal

pub stones-white-requires : goal.stones-white-requires
stones-white-requires c = cells-left _ _ _ c.cells_in_order-left.ensures c.stones-black.ensures.rest

pub unwrap-requires : goal.unwrap-requires
unwrap-requires c =
    let board : Board = record { size = c.board_size.result; black = c.stones-black.result; white = c.stones-white.result } in
    found-some c.from_masks.result board c.args.self.now
    (two_parts _ _ board _ _ c.board_size.ensures c.cells_in_order-left.ensures c.stones-black.ensures.cells c.stones-black.ensures.rest
    c.stones-black.ensures.further c.stones-white.ensures.cells)
    c.from_masks.ensures

found : (c : goal.After-unwrap) → c.unwrap.result ≡ with_stones (black_cells c.args.self.now) (white_cells c.args.self.now)
found c =
    let board : Board = record { size = c.board_size.result; black = c.stones-black.result; white = c.stones-white.result } in
    let answer = rw c.unwrap.ensures at c.from_masks.ensures in
    answer.1
    ∙ two_parts _ _ board _ _ c.board_size.ensures c.cells_in_order-left.ensures c.stones-black.ensures.cells c.stones-black.ensures.rest
    c.stones-black.ensures.further c.stones-white.ensures.cells

pub returns-clause-drawn : goal.returns-clause-drawn
returns-clause-drawn c = found c ∙ sym (drawn_position-parts c.args.self.now)

pub returns-clause-black : goal.returns-clause-black
returns-clause-black c = ap (λ (b : Board). count_below 128 b.black) (found c) ∙ drawn-black c.args.self.now

pub returns-clause-white : goal.returns-clause-white
returns-clause-white c = ap (λ (b : Board). count_below 128 b.white) (found c) ∙ drawn-white c.args.self.now

pub returns-clause-empty : goal.returns-clause-empty
returns-clause-empty c = ap empty_count (found c) ∙ drawn-empty c.args.self.now

pub returns-clause-further : goal.returns-clause-further
returns-clause-further c = c.stones-white.ensures.further ∙ ap (words_later 8) c.stones-black.ensures.further
    ∙ sym (words_later-add 8 8 c.args.self.now)
