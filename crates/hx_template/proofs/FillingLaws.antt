-- Two fillings of one number are one board, and a stone on a free cell makes another filling.
use Rattle.std.proofs.Common.{◌≡◌, ℕ, ◌<◌, Bool, true, false, refl, sym, ◌∙◌, ap, inr}
use Rattle.std.proofs.lemmas.Bool.{false≢true}
use Rattle.hx_board.specs.declared.colours.Colour.{Colour}
use Rattle.hx_board.specs.declared.colours.Colour.TheVariants.{Black, White}
use Rattle.hx_board.specs.Colours.{other_of}
use Rattle.hx_board.specs.Positions.{Board, IsBoard, IsEmpty, put}
use Rattle.hx_board.specs.Sets.{has}
use Rattle.hx_board.proofs.SetLaws.{same_set}
use Rattle.hx_board.proofs.PositionLaws.{same_board}
use Rattle.hx_board.proofs.StoneLaws.{size-put, board-put, stones-put}
use Rattle.hx_template.specs.Fillings.{IsFilling, number_of}
use Rattle.hx_template.proofs.Numbers.{AreSameAt, number_tells, stones-elsewhere}

pub filling-start : (start : Board) (carrier : ℕ) → IsBoard start → IsFilling start carrier start
filling-start start carrier is = record { valid = is; size = refl; keeps = λ player n h. h; outside = λ player n out. refl }

pub filling-put : (start : Board) (carrier : ℕ) (board : Board) (who : Colour) (cell : ℕ) → IsFilling start carrier board
    → has carrier cell ≡ true → IsEmpty board cell
    → IsFilling start carrier (put board who cell)
filling-put start carrier board who cell filling inside empty = record {
  valid = board-put board who cell filling.valid empty;
  size = size-put board who cell ∙ filling.size;
  keeps = λ player n h. (stones-put board who player cell n).1 (inr (filling.keeps player n h));
  outside = λ player n out. stones-elsewhere board who player cell n (λ e. false≢true (sym out ∙ (ap (has carrier) e ∙ inside)))
      ∙ filling.outside player n out;
}

black_same : (player : Colour) (n : ℕ) (one other : Board) → AreSameAt player n one other → has one.black n ≡ has other.black n
black_same Black n one other same = same.0
black_same White n one other same = same.1

white_same : (player : Colour) (n : ℕ) (one other : Board) → AreSameAt player n one other → has one.white n ≡ has other.white n
white_same Black n one other same = same.1
white_same White n one other same = same.0

pub same_filling : (start : Board) (carrier : ℕ) → ((n : ℕ) → has carrier n ≡ true → n < 121) → (player : Colour) (one other : Board)
    → IsFilling start carrier one → IsFilling start carrier other → number_of player carrier one ≡ number_of player carrier other
    → one ≡ other
same_filling start carrier small player one other filling filling_too same =
    same_board one other (filling.size ∙ sym filling_too.size)
    (same_set _ _ (λ n. black_same player n one other (each n (has carrier n) refl)))
    (same_set _ _ (λ n. white_same player n one other (each n (has carrier n) refl)))
  where
    each : (n : ℕ) (b : Bool) → has carrier n ≡ b → AreSameAt player n one other
    each n true inside = number_tells player carrier one other filling.valid filling_too.valid 121 same n (small n inside) inside
    each n false out = (
      filling.outside player n out ∙ sym (filling_too.outside player n out),
      filling.outside (other_of player) n out ∙ sym (filling_too.outside (other_of player) n out),
    )
