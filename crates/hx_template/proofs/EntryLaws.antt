-- One entry more in the table. Two fillings of one number are one board, so of any other filling the table says what it
-- said before.
use Rattle.std.proofs.Common.{◌≡◌, ℕ, ◌<◌, true, sym, ◌∙◌, subst, List, length, set}
use Rattle.std.proofs.Common.{length-set, ⊎_elim, ◌↔◌, arith, Option, None, Some}
use Rattle.std.proofs.lemmas.List.{get_or-set_same, get_or-set_other}
use Rattle.std.proofs.lemmas.Bool.{cases_eq}
use Rattle.hx_board.specs.Positions.{Board}
use Rattle.hx_board.specs.Sets.{has}
use Rattle.hx_template.specs.declared.games.LocalGame.{LocalGame}
use Rattle.hx_template.specs.declared.searches.Entry.{Entry}
use Rattle.hx_template.specs.Fillings.{IsFilling, number_of}
use Rattle.hx_template.specs.Entries.{SecuredIn, AreRight}
use Rattle.hx_template.proofs.Numbers.{number_below-small, power_small}
use Rattle.hx_template.proofs.FillingLaws.{same_filling}

some_same : {A : Type 0} (x y : A) → Some x ≡ Some y → x ≡ y
some_same x y e = cc

pub number_small : (game : LocalGame) (board : Board) → number_of game.player game.carrier board < 531441
number_small game board = omega (
  arith,
  number_below-small 121 game.player game.carrier board,
  power_small game.carrier 121 game.few (omega arith),
)

module _ (game : LocalGame) (table : List (Option Entry)) (right : AreRight game table) where
  -- each filling has its place
  pub place : (board : Board) → number_of game.player game.carrier board < length table
  place board = omega (arith, number_below-small 121 game.player game.carrier board, right.room)

  module _ (small : (n : ℕ) → has game.carrier n ≡ true → n < 121) (found : Entry) (board : Board)
      (filling : IsFilling game.start game.carrier board)
      (so : (found.secures ≡ true) ↔ SecuredIn game board found.to_move) where
    abbrev number : ℕ
    number = number_of game.player game.carrier board

    abbrev Says : Board → Entry → Type 0
    Says b f = (f.secures ≡ true) ↔ SecuredIn game b f.to_move

    pub entry_more : AreRight game (set table number (Some found))
    entry_more = record {
      room = rw (length-set table number (Some found)) right.room;
      right = λ one other filling_too there. ⊎_elim
          (λ (same : number_of game.player game.carrier other ≡ number).
          let board_same : board ≡ other = same_filling game.start game.carrier small game.player board other filling filling_too
          (sym same) in
          let found_same : found ≡ one = some_same found one
          (sym (get_or-set_same table number (Some found) None (place board)) ∙ (rw same at there)) in
          subst (λ b. Says b one) board_same (subst (λ f. Says board f) found_same so))
          (λ differ. right.right one other filling_too (sym
          (get_or-set_other table number (number_of game.player game.carrier other) (Some found) None differ) ∙ there))
          (cases_eq (number_of game.player game.carrier other) number);
    }
