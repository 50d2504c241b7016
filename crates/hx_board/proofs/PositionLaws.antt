-- The laws of positions.
use Rattle.std.proofs.Common.{◌≡◌, ◌≢◌, ℕ, if◌then◌else◌, ◌^◌, ◌<◌, Bool, true, false, refl, sym, ap, ◌∙◌, subst, ⊎_elim, arith, ◌↔◌}
use Rattle.std.specs.declared.option.Option.TheVariants.{None, Some}
use Rattle.std.specs.Prelude.{is_some}
use Rattle.std.proofs.lemmas.Bool.{false≢true, false_from_ne_true}
use Rattle.hx_board.specs.Sets.{has, insert, remove, union, difference, IsSubset, ShareNone}
use Rattle.hx_board.specs.Cells.{Extent, OnBoard}
use Rattle.hx_board.specs.declared.colours.Colour.{Colour}
use Rattle.hx_board.specs.declared.colours.Colour.TheVariants.{Black, White}
use Rattle.hx_board.specs.Colours.{other_of}
use Rattle.hx_board.specs.Positions.{Board, IsBoard, IsPosition, IsEmpty, put, stones_of, lifted, stone_at}
use Rattle.hx_board.proofs.SetLaws.{has-empty, has-insert_cases, has-union_left, has-union_right, has-union_cases, has-difference_left}
use Rattle.hx_board.proofs.SetLaws.{has-difference_right, has-difference_both, set-small, remove-absent, remove-insert}
use Rattle.hx_board.proofs.CellLaws.{on_board-small}

pub empty-is_position : (size : Extent) → IsPosition size 0 0
empty-is_position size = record {
  apart = λ n _. has-empty n;
  black_inside = λ n h. absurd (false≢true (sym (has-empty n) ∙ h));
  white_inside = λ n h. absurd (false≢true (sym (has-empty n) ∙ h));
}

-- a player's stones are none of the opponent's
pub own-not_others : (board : Board) → IsBoard board → (player : Colour) (n : ℕ) → has (stones_of board player) n ≡ true
    → has (stones_of board (other_of player)) n ≡ false
own-not_others board is Black n own = is.1.apart n own
own-not_others board is White n own = false_from_ne_true _ (λ black. false≢true (sym (is.1.apart n black) ∙ own))

-- the stones of one player alone
pub black-alone-is_position : {size : Extent} {black white : ℕ} → IsPosition size black white → IsPosition size black 0
black-alone-is_position {size} {black} {white} is = record {
  apart = λ n _. has-empty n;
  black_inside = is.black_inside;
  white_inside = λ n h. absurd (false≢true (sym (has-empty n) ∙ h));
}

pub white-alone-is_position : {size : Extent} {black white : ℕ} → IsPosition size black white → IsPosition size 0 white
white-alone-is_position {size} {black} {white} is = record {
  apart = λ n h. absurd (false≢true (sym (has-empty n) ∙ h));
  black_inside = λ n h. absurd (false≢true (sym (has-empty n) ∙ h));
  white_inside = is.white_inside;
}

inserted_inside : (size : Extent) (set cell : ℕ) → OnBoard size cell → ((n : ℕ) → has set n ≡ true → OnBoard size n) → (n : ℕ)
    → has (insert set cell) n ≡ true → OnBoard size n
inserted_inside size set cell here before n h =
    ⊎_elim (λ e. let P : ℕ → Type 0 = λ x. OnBoard size x in subst P (sym e) here) (λ k. before n k) (has-insert_cases set cell n h)

lacks_inserted : (set cell n : ℕ) → has set n ≡ false → n ≢ cell → has (insert set cell) n ≡ false
lacks_inserted set cell n lacks other =
    false_from_ne_true _ (λ h. ⊎_elim other (λ k. false≢true (sym lacks ∙ k)) (has-insert_cases set cell n h))

pub black-is_position : (board : Board) (cell : ℕ) → IsPosition board.size board.black board.white → IsEmpty board cell
    → IsPosition board.size (insert board.black cell) board.white
black-is_position board cell p e = record {
  apart = λ n h. ⊎_elim (λ same. ap (has board.white) same ∙ e.no_white) (p.apart n) (has-insert_cases board.black cell n h);
  black_inside = inserted_inside board.size board.black cell e.on_board p.black_inside;
  white_inside = p.white_inside;
}

pub white-is_position : (board : Board) (cell : ℕ) → IsPosition board.size board.black board.white → IsEmpty board cell
    → IsPosition board.size board.black (insert board.white cell)
white-is_position board cell p e = record {
  apart = λ n h. lacks_inserted board.white cell n (p.apart n h) (λ same. false≢true (sym (ap (has board.black) same ∙ e.no_black) ∙ h));
  black_inside = p.black_inside;
  white_inside = inserted_inside board.size board.white cell e.on_board p.white_inside;
}

-- what is on the board and in neither set
pub has-empties : (board : Board) (all : ℕ) → ((n : ℕ) → (has all n ≡ true) ↔ OnBoard board.size n)
    → (n : ℕ) → (has (difference all (union board.black board.white)) n ≡ true) ↔ IsEmpty board n
has-empties board all is_all n =
    let held : ℕ = union board.black board.white in (
      (λ h. record {
        on_board = (is_all n).0 (has-difference_left all held n h);
        no_black = false_from_ne_true _
            (λ k. false≢true (sym (has-difference_right all held n h) ∙ has-union_left board.black board.white n k));
        no_white = false_from_ne_true _
            (λ k. false≢true (sym (has-difference_right all held n h) ∙ has-union_right board.black board.white n k));
      }),
      (λ e. has-difference_both all held n ((is_all n).1 e.on_board)
          (false_from_ne_true _
          (λ k. ⊎_elim (λ b. false≢true (sym e.no_black ∙ b)) (λ w. false≢true (sym e.no_white ∙ w))
          (has-union_cases board.black board.white n k)))),
    )

pub tested-is_position : (size : Extent) (black white all : ℕ) → ((n : ℕ) → (has all n ≡ true) ↔ OnBoard size n)
    → ShareNone black white → IsSubset (union black white) all → IsPosition size black white
tested-is_position size black white all is_all apart inside = record {
  apart = apart;
  black_inside = λ n h. (is_all n).0 (inside n (has-union_left black white n h));
  white_inside = λ n h. (is_all n).0 (inside n (has-union_right black white n h));
}

pub position-inside : (size : Extent) (black white all : ℕ) → ((n : ℕ) → (has all n ≡ true) ↔ OnBoard size n) → IsPosition size black white
    → IsSubset (union black white) all
position-inside size black white all is_all p n h =
    (is_all n).1 (⊎_elim (p.black_inside n) (p.white_inside n) (has-union_cases black white n h))

-- boards of one size with the same stones are one
pub same_board : (one other : Board) → one.size ≡ other.size → one.black ≡ other.black → one.white ≡ other.white → one ≡ other
same_board one other size black white =
    ap (λ (e : Extent). record one { size = e }) size
    ∙ ap (λ (b : ℕ). record other { black = b; white = one.white }) black
    ∙ ap (λ (w : ℕ). record other { white = w }) white

-- lifting the stone that was put on an empty cell gives the board back
pub lifted-put : (board : Board) (colour : Colour) (cell : ℕ) → IsEmpty board cell → lifted (put board colour cell) cell ≡ board
lifted-put board Black cell e =
    ap (λ (b : ℕ). record board { black = b; white = remove board.white cell }) (remove-insert board.black cell e.no_black)
    ∙ ap (λ (w : ℕ). record board { white = w }) (remove-absent board.white cell e.no_white)
lifted-put board White cell e =
    ap (λ (b : ℕ). record board { black = b; white = remove (insert board.white cell) cell }) (remove-absent board.black cell e.no_black)
    ∙ ap (λ (w : ℕ). record board { white = w }) (remove-insert board.white cell e.no_white)

-- the same of a board that is equal to the one with the stone, the form in which the prover finds it for `lift`
pub lifted_back : (old before : Board) (colour : Colour) (cell : ℕ) → IsEmpty before cell → old ≡ put before colour cell
    → lifted old cell ≡ before
lifted_back old before colour cell e same = ap (λ (board : Board). lifted board cell) same ∙ lifted-put before colour cell e

-- the sets of a position have only cells of a board, whose indexes are below 121
pub board-small : (board : Board) → IsBoard board → (board.black < 2 ^ 128) × (board.white < 2 ^ 128)
board-small board is = (
  set-small board.black (λ n h. within n (is.1.black_inside n h)),
  set-small board.white (λ n h. within n (is.1.white_inside n h)),
)
  where
    within : (n : ℕ) → OnBoard board.size n → n < 128
    within n on = let small : n < 121 = on_board-small board.size n is.0 on in omega arith

-- ---- a cell without a stone

without : (b w : Bool) → is_some (if b then Some Black else (if w then Some White else None)) ≡ false → (b ≡ false) × (w ≡ false)
without true w h = absurd (false≢true (sym h))
without false true h = absurd (false≢true (sym h))
without false false h = (refl, refl)

pub empty-without_stone : (board : Board) (cell : ℕ) → OnBoard board.size cell → is_some (stone_at board cell) ≡ false → IsEmpty board cell
empty-without_stone board cell on_board none =
    let both = without (has board.black cell) (has board.white cell) none in
    record { on_board = on_board; no_black = both.0; no_white = both.1 }

pub without_stone-empty : (board : Board) (cell : ℕ) → IsEmpty board cell → is_some (stone_at board cell) ≡ false
without_stone-empty board cell empty = rw (empty.no_black, empty.no_white) refl
