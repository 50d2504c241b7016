-- The opponent's stones that a position lacks of a wider one come one after the other, on empty cells, and lead to the
-- wider one.
use Rattle.std.proofs.Common.{◌≡◌, ℕ, List, [], ◌∷◌, ◌++◌, Bool, true, false, ◌||◌, ◌&&◌, not, eqb, eqb-true, length, arith, refl, sym, ap}
use Rattle.std.proofs.Common.{◌∙◌, subst, ⊎_elim, ◌↔◌}
use Rattle.std.proofs.lemmas.Bool.{false≢true, false_from_ne_true, or_right, true_from_ne_false}
use Rattle.hx_board.specs.declared.colours.Colour.{Colour}
use Rattle.hx_board.specs.declared.colours.Colour.TheVariants.{Black, White}
use Rattle.hx_board.specs.Colours.{other_of}
use Rattle.hx_board.specs.Sets.{has, insert, remove, union, difference, IsSubset}
use Rattle.hx_board.specs.Cells.{Extent, OnBoard}
use Rattle.hx_board.specs.Positions.{Board, IsBoard, IsEmpty, put, stones_of}
use Rattle.hx_board.proofs.SetLaws.{has-union, has-insert, has-remove, has-empty, same_set, has-remove_before, has-union_cases}
use Rattle.hx_board.proofs.SetLaws.{has-union_left, has-union_right, has-difference_left, has-difference_right, has-difference_both}
use Rattle.hx_board.proofs.SetLaws.{by_member, removed, same_test, union-none}
use Rattle.hx_board.proofs.ColourLaws.{one_or_other}
use Rattle.hx_board.proofs.PositionLaws.{same_board, own-not_others}
use Rattle.hx_board.proofs.StoneLaws.{empty-put, empty-no_stone, no_stones-empty}
use Rattle.hx_inferior.specs.declared.fills.FillStep.{FillStep}
use Rattle.hx_inferior.specs.declared.fills.FillStep.TheVariants.{Other}
use Rattle.hx_inferior.specs.Inferior.{filled}
use Rattle.hx_tree.specs.Fills.{MayFillAll, filled_all, LeadTo}
use Rattle.hx_tree.proofs.FilledBoards.{size-filled_all}
use Rattle.hx_turn.proofs.TurnedBoards.{stone-on_board}
use Rattle.hx_tree.specs.declared.nodes.Node.{Node}
use Rattle.hx_book.specs.declared.wider.Wider.{Wider}
use Rattle.hx_book.specs.WiderEntry.{IsWiderFound}
use Rattle.hx_widen.specs.Inner.{put_set}

-- ---- stones on all cells of a set

union-moved : (set left cell : ℕ) → has left cell ≡ true → union (insert set cell) (remove left cell) ≡ union set left
union-moved set left cell member = same_set _ _ (λ n.
    has-union (insert set cell) (remove left cell) n
    ∙ rw (has-insert set cell n, has-remove left cell n)
    (moved (eqb n cell) (has set n) (has left n) (λ same. ap (λ (x : ℕ). has left x) (eqb-true n cell same) ∙ member))
    ∙ sym (has-union set left n))
  where
    moved : (same here there : Bool) → (same ≡ true → there ≡ true) → ((same || here) || (there && not same)) ≡ (here || there)
    moved true here there h = sym (or_right here there (h refl))
    moved false true there h = refl
    moved false false true h = refl
    moved false false false h = refl

put_set-moved : (board : Board) (who : Colour) (left cell : ℕ) → has left cell ≡ true
    → put_set (put board who cell) who (remove left cell) ≡ put_set board who left
put_set-moved board Black left cell member =
    ap (λ (black : ℕ). record { size = board.size; black = black; white = board.white }) (union-moved board.black left cell member)
put_set-moved board White left cell member =
    ap (λ (white : ℕ). record { size = board.size; black = board.black; white = white }) (union-moved board.white left cell member)

put_set-none : (board : Board) (who : Colour) → put_set board who 0 ≡ board
put_set-none board Black = ap (λ (black : ℕ). record { size = board.size; black = black; white = board.white }) (union-none board.black)
put_set-none board White = ap (λ (white : ℕ). record { size = board.size; black = board.black; white = white }) (union-none board.white)

-- ---- one step after the other

may_fill-push : (steps : List FillStep) (board : Board) (winner : Colour) (cell : ℕ) → MayFillAll board winner steps
    → IsEmpty (filled_all board winner steps) cell
    → MayFillAll board winner (steps ++ Other cell ∷ [])
may_fill-push [] board winner cell may empty = (empty, tt)
may_fill-push (step ∷ rest) board winner cell may empty = (may.0, may_fill-push rest (filled board winner step) winner cell may.1 empty)

filled-push : (steps : List FillStep) (board : Board) (winner : Colour) (cell : ℕ)
    → filled_all board winner (steps ++ Other cell ∷ []) ≡ put (filled_all board winner steps) (other_of winner) cell
filled-push [] board winner cell = refl
filled-push (step ∷ rest) board winner cell = filled-push rest (filled board winner step) winner cell

-- the steps may be done, and what is left comes on empty cells after them
pub record IsFilling (board : Board) (winner : Colour) (cells left : ℕ) (steps : List FillStep) : Type 0 where
  pub right : MayFillAll board winner steps
  pub empty : (cell : ℕ) → has left cell ≡ true → IsEmpty (filled_all board winner steps) cell
  pub same : put_set (filled_all board winner steps) (other_of winner) left ≡ put_set board (other_of winner) cells

module _ (board : Board) (winner : Colour) (cells : ℕ) where
  pub none_yet : ((cell : ℕ) → has cells cell ≡ true → IsEmpty board cell) → IsFilling board winner cells cells []
  none_yet empties = record { right = tt; empty = empties; same = refl }

  pub one_more : (left cell : ℕ) (steps : List FillStep) → IsFilling board winner cells left steps → has left cell ≡ true
      → IsFilling board winner cells (remove left cell) (steps ++ Other cell ∷ [])
  one_more left cell steps is member =
      let mid : Board = filled_all board winner steps in
      record {
        right = may_fill-push steps board winner cell is.right (is.empty cell member);
        empty = λ n still. rw (filled-push steps board winner cell)
            ((empty-put mid (other_of winner) cell n).1 (
              is.empty n (has-remove_before left cell n still),
              λ same. false≢true (sym (removed left cell) ∙ ap (λ (x : ℕ). has (remove left cell) x) (sym same) ∙ still),
            ));
        same = rw (filled-push steps board winner cell) (put_set-moved mid (other_of winner) left cell member ∙ is.same);
      }

  pub none_left : (left : ℕ) (steps : List FillStep) → IsFilling board winner cells left steps
      → ((n : ℕ) → OnBoard board.size n → has left n ≡ false)
      → LeadTo board winner steps (put_set board (other_of winner) cells)
  none_left left steps is none =
      let mid : Board = filled_all board winner steps in
      let on_board : (n : ℕ) → has left n ≡ true → OnBoard board.size n =
      λ n member. subst (λ (size : Extent). OnBoard size n) (size-filled_all board winner steps) (is.empty n member).on_board in
      let zero : left ≡ 0 =
      same_set left 0 (λ n. false_from_ne_true _ (λ member. false≢true (sym (none n (on_board n member)) ∙ member))
      ∙ sym (has-empty n)) in
      record {
        right = is.right;
        same = sym (put_set-none mid (other_of winner)) ∙ ap (put_set mid (other_of winner)) (sym zero) ∙ is.same;
      }

-- ---- the missing stones

put_set-size : (board : Board) (who : Colour) (cells : ℕ) → (put_set board who cells).size ≡ board.size
put_set-size board Black cells = refl
put_set-size board White cells = refl

put_set-own : (board : Board) (winner : Colour) (cells : ℕ)
    → stones_of (put_set board (other_of winner) cells) winner ≡ stones_of board winner
put_set-own board Black cells = refl
put_set-own board White cells = refl

put_set-others : (board : Board) (who : Colour) (cells : ℕ) → stones_of (put_set board who cells) who ≡ union (stones_of board who) cells
put_set-others board Black cells = refl
put_set-others board White cells = refl

module _ (board there : Board) (winner : Colour) (is : IsBoard there) (size : there.size ≡ board.size)
    (own : stones_of there winner ≡ stones_of board winner)
    (inside : IsSubset (stones_of board (other_of winner)) (stones_of there (other_of winner)))
    (here_empties there_empties : ℕ) (here : (n : ℕ) → (has here_empties n ≡ true) ↔ IsEmpty board n)
    (after : (n : ℕ) → (has there_empties n ≡ true) ↔ IsEmpty there n) where
  pub missing_empty : (n : ℕ) → has (difference here_empties there_empties) n ≡ true → IsEmpty board n
  missing_empty n member = (here n).0 (has-difference_left here_empties there_empties n member)

  was_missing : (n : ℕ) → has (difference here_empties there_empties) n ≡ true → has (stones_of there (other_of winner)) n ≡ true
  was_missing n member =
      let empty : IsEmpty board n = missing_empty n member in
      let on : OnBoard there.size n = subst (λ (s : Extent). OnBoard s n) (sym size) empty.on_board in
      let not_own : has (stones_of there winner) n ≡ false = ap (λ (s : ℕ). has s n) own ∙ empty-no_stone board winner n empty in
      true_from_ne_false _ (λ none.
      false≢true (sym (has-difference_right here_empties there_empties n member)
      ∙ (after n).1 (no_stones-empty there winner n on not_own none)))

  is_missing : (n : ℕ) → has (stones_of there (other_of winner)) n ≡ true → has (stones_of board (other_of winner)) n ≡ false
      → has (difference here_empties there_empties) n ≡ true
  is_missing n stone lacks =
      let on : OnBoard board.size n = subst (λ (s : Extent). OnBoard s n) size (stone-on_board there is (other_of winner) n stone) in
      let not_own : has (stones_of board winner) n ≡ false =
      false_from_ne_true _ (λ mine. false≢true (sym (own-not_others there is winner n (ap (λ (s : ℕ). has s n) own ∙ mine)) ∙ stone)) in
      has-difference_both here_empties there_empties n ((here n).1 (no_stones-empty board winner n on not_own lacks))
      (false_from_ne_true _ (λ member. false≢true (sym (empty-no_stone there (other_of winner) n ((after n).0 member)) ∙ stone)))

  others : union (stones_of board (other_of winner)) (difference here_empties there_empties) ≡ stones_of there (other_of winner)
  others = same_set _ _ (λ n. same_test _ _
      (λ member. ⊎_elim (inside n) (was_missing n)
      (has-union_cases (stones_of board (other_of winner)) (difference here_empties there_empties) n member))
      (λ stone. by_member (stones_of board (other_of winner)) n
      (λ member. has-union_left (stones_of board (other_of winner)) (difference here_empties there_empties) n member)
      (λ lacks. has-union_right (stones_of board (other_of winner)) (difference here_empties there_empties) n (is_missing n stone lacks))))

  pub put_missing : put_set board (other_of winner) (difference here_empties there_empties) ≡ there
  put_missing = same_board _ _ (put_set-size board (other_of winner) (difference here_empties there_empties) ∙ sym size) (stones Black)
      (stones White)
    where
      P : Colour → Type 0
      P who = stones_of (put_set board (other_of winner) (difference here_empties there_empties)) who ≡ stones_of there who

      stones : (player : Colour) → P player
      stones player = ⊎_elim
          (λ same. subst P (sym same) (put_set-own board winner (difference here_empties there_empties) ∙ sym own))
          (λ same. subst P (sym same) (put_set-others board (other_of winner) (difference here_empties there_empties) ∙ others))
          (one_or_other player winner)

-- what was found of a board is what its missing stones lead to
pub wider_missing : (list : List Node) (board : Board) (mover : Colour) (wider : Wider)
    → IsWiderFound false list board mover wider.found.winner wider → IsBoard wider.position
    → (here_empties there_empties : ℕ) → ((n : ℕ) → (has here_empties n ≡ true) ↔ IsEmpty board n)
    → ((n : ℕ) → (has there_empties n ≡ true) ↔ IsEmpty wider.position n)
    → put_set board (other_of wider.found.winner) (difference here_empties there_empties) ≡ wider.position
wider_missing list board mover wider found is here_empties there_empties here after =
    let winner : Colour = wider.found.winner in
    put_missing board wider.position winner is
    (ap (λ (b : Board). b.size) found.same_position ∙ found.entry.is_wider.same_size)
    (ap (λ (b : Board). stones_of b winner) found.same_position ∙ found.entry.is_wider.same_stones)
    (subst (λ (b : Board). IsSubset (stones_of board (other_of winner)) (stones_of b (other_of winner)))
    (sym found.same_position) found.entry.is_wider.has_opponents)
    here_empties there_empties here after

-- no step leads nowhere else
pub no_step : (board : Board) (winner : Colour) (steps : List FillStep) (final : Board) → LeadTo board winner steps final → length steps ≡ 0
    → board ≡ final
no_step board winner [] final lead none = lead.same
no_step board winner (step ∷ rest) final lead none = absurd (omega arith)
