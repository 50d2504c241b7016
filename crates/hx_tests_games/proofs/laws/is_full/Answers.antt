-- The set of the empty cells is empty exactly where no cell is empty.
use Rattle.std.proofs.Common.{◌≡◌, ℕ, true, sym, ◌∙◌, ◌↔◌}
use Rattle.std.proofs.lemmas.Bool.{false≢true, false_from_ne_true}
use Rattle.hx_board.specs.Sets.{has}
use Rattle.hx_board.specs.Positions.{Board, IsEmpty, IsFull}
use Rattle.hx_board.proofs.SetLaws.{has-empty, same_set}
use Rattle.hx_tests_games.proofs.laws.is_full.Goals as goal

full_where_empty : (board : Board) (empties : ℕ) → ((cell : ℕ) → (has empties cell ≡ true) ↔ IsEmpty board cell)
    → (empties ≡ 0) ↔ IsFull board
full_where_empty board empties cells = (
  (λ none cell empty. false≢true (sym (has-empty cell) ∙ rw none at ((cells cell).1 empty))),
  (λ full. same_set empties 0
      (λ cell. false_from_ne_true (has empties cell) (λ member. full cell ((cells cell).0 member))
      ∙ sym (has-empty cell))),
)

pub returns : goal.returns
returns c =
    let full = full_where_empty c.args.position.now c.empties.result c.empties.ensures in
    ((λ none. full.0 (c.is_empty.ensures.empty.0 none)), (λ all. c.is_empty.ensures.empty.1 (full.1 all)))
