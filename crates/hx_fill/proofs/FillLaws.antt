-- Steps that are right for their own players: those of two lists one after the other, the board that they lead to, and
-- how many cells they leave empty.
use Rattle.std.proofs.Common.{◌≡◌, ◌+◌, ◌<◌, ◌≤◌, List, [], ◌∷◌, ◌++◌, length, sym, ap, subst, arith}
use Rattle.hx_board.specs.declared.colours.Colour.{Colour}
use Rattle.hx_board.specs.Colours.{other_of}
use Rattle.hx_board.specs.Positions.{Board, IsBoard, put}
use Rattle.hx_board.specs.Counts.{empty_count}
use Rattle.hx_inferior.specs.declared.fills.FillStep.{FillStep}
use Rattle.hx_inferior.specs.declared.fills.FillStep.TheVariants.{Other, Dead, Pair}
use Rattle.hx_inferior.specs.Inferior.{MayFill, filled}
use Rattle.hx_tree.proofs.FilledBoards.{board-filled, empty_count-filled}
use Rattle.hx_fill.specs.declared.fills.Fill.{Fill}
use Rattle.hx_fill.specs.Fills.{FillsTo}
use Rattle.hx_fill.specs.Rounds.{HasNoStoneLess}
use Rattle.hx_fill.proofs.GrowthLaws.{grown-trans, grown-put}

pub grown-filled : (board : Board) (player : Colour) (step : FillStep) → HasNoStoneLess board (filled board player step)
grown-filled board player (Other cell) = grown-put board (other_of player) cell
grown-filled board player (Dead cell) = grown-put board player cell
grown-filled board player (Pair a b) = grown-trans _ _ _ (grown-put board player a) (grown-put (put board player a) player b)

pub fills_to-append : (first second : List Fill) (board mid final : Board) → FillsTo board first mid → FillsTo mid second final
    → FillsTo board (first ++ second) final
fills_to-append [] second board mid final one two = let P : Board → Type 0 = λ b. FillsTo b second final in subst P (sym one) two
fills_to-append (fill ∷ rest) second board mid final one two =
    (one.0, fills_to-append rest second (filled board fill.colour fill.step) mid final one.1 two)

pub fills_to-one : (board final : Board) (player : Colour) (step : FillStep) → MayFill board player step → final ≡ filled board player step
    → FillsTo board (record { colour = player; step = step } ∷ []) final
fills_to-one board final player step may is = (may, sym is)

-- steps leave fewer empty cells, if there are any
count-fills_to : (fills : List Fill) (board final : Board) → IsBoard board → FillsTo board fills final
    → empty_count final + length fills ≤ empty_count board
count-fills_to [] board final is to = let same = ap empty_count to in omega arith
count-fills_to (fill ∷ rest) board final is to =
    let one = empty_count-filled board fill.colour is fill.step to.0 in
    let more = count-fills_to rest (filled board fill.colour fill.step) final (board-filled board fill.colour is fill.step to.0) to.1 in
    omega arith

pub fewer_empty : (fills : List Fill) (board final : Board) → IsBoard board → FillsTo board fills final → 0 < length fills
    → empty_count final < empty_count board
fewer_empty fills board final is to some = let all = count-fills_to fills board final is to in omega arith
