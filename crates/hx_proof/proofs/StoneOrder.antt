-- Two stones may be put in either order, since the sets of stones come out the same.
use Rattle.std.proofs.Common.{◌≡◌, ℕ, refl, ap, ◌∙◌}
use Rattle.hx_board.specs.declared.colours.Colour.{Colour}
use Rattle.hx_board.specs.declared.colours.Colour.TheVariants.{Black, White}
use Rattle.hx_board.specs.Positions.{Board, put}
use Rattle.hx_board.proofs.SetLaws.{insert-swap}

pub put-swap : (board : Board) (who whom : Colour) (a b : ℕ) → put (put board who a) whom b ≡ put (put board whom b) who a
put-swap board Black Black a b = ap (λ (set : ℕ). record board { black = set }) (insert-swap board.black a b)
put-swap board Black White a b = refl
put-swap board White Black a b = refl
put-swap board White White a b = ap (λ (set : ℕ). record board { white = set }) (insert-swap board.white a b)

-- a stone put after two others may be put before them
pub put-before_two : (board : Board) (who whom : Colour) (a b n : ℕ)
    → put (put (put board who a) who b) whom n ≡ put (put (put board whom n) who a) who b
put-before_two board who whom a b n = put-swap (put board who a) who whom b n
    ∙ ap (λ (z : Board). put z who b) (put-swap board who whom a n)
