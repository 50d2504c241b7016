-- An entry by which the opponent wins after a move serves the position after each move to a cell that the entry does
-- not need: one that was empty before the move, and is not in the entry's position. The mover's stone is there, since
-- no stone of the winner's came.
use Rattle.std.proofs.Common.{◌≡◌, ℕ, Bool, true, false, List, refl, sym, ap, ◌∙◌, subst, inr, ⊎_elim, ◌↔◌}
use Rattle.std.proofs.lemmas.Bool.{false≢true, true_from_ne_false}
use Rattle.hx_board.specs.declared.colours.Colour.{Colour}
use Rattle.hx_board.specs.declared.colours.Colour.TheVariants.{Black, White}
use Rattle.hx_board.specs.Colours.{other_of}
use Rattle.hx_board.specs.Cells.{Extent, OnBoard}
use Rattle.hx_board.specs.Sets.{has, difference, IsSubset}
use Rattle.hx_board.specs.Positions.{Board, IsEmpty, put, stones_of}
use Rattle.hx_board.proofs.SetLaws.{has-difference_left, has-difference_right}
use Rattle.hx_board.proofs.ColourLaws.{other-other}
use Rattle.hx_board.proofs.StoneLaws.{size-put, stones-put, empty-no_stone, no_stones-empty}
use Rattle.hx_tree.specs.declared.nodes.Heading.{Heading}
use Rattle.hx_tree.specs.declared.nodes.Node.{Node}
use Rattle.hx_tree.specs.Headings.{IsHeading}
use Rattle.hx_tree.specs.declared.entries.Found.{Found}
use Rattle.hx_tree.specs.Entries.{IsFirstFound}
use Rattle.hx_book.specs.declared.wider.Wider.{Wider}
use Rattle.hx_book.specs.WiderEntry.{IsWider, IsWiderEntry, IsWiderFound, Serves}
use Rattle.hx_worker.specs.Forms.{HasWin}

others-put : (board : Board) (who : Colour) (cell : ℕ) → stones_of (put board who cell) (other_of who) ≡ stones_of board (other_of who)
others-put board Black cell = refl
others-put board White cell = refl

-- a cell that was empty and is not holds the mover's stone, where the winner's stones are those from before
filled-by_mover : (board there : Board) (mover : Colour) (cell : ℕ) → IsEmpty board cell → (IsEmpty there cell → ⊥) → there.size ≡ board.size
    → stones_of there (other_of mover) ≡ stones_of board (other_of mover) → has (stones_of there mover) cell ≡ true
filled-by_mover board there mover cell empty held size same =
    let on : OnBoard there.size cell = subst (λ (s : Extent). OnBoard s cell) (sym size) empty.on_board in
    let no_others : has (stones_of there (other_of mover)) cell ≡ false =
    ap (λ (s : ℕ). has s cell) same ∙ empty-no_stone board (other_of mover) cell empty in
    true_from_ne_false _ (λ none. held (no_stones-empty there mover cell on none no_others))

module _ (board : Board) (mover : Colour) (cell other : ℕ) (empty : IsEmpty board other) where
  abbrev winner : Colour
  winner = other_of mover

  serves_plain : (heading : Heading) → IsHeading (put board mover cell) winner winner heading → (IsEmpty heading.position other → ⊥)
      → IsHeading (put board mover other) winner winner heading
  serves_plain heading is held =
      let there : Board = heading.position in
      let size : there.size ≡ board.size = ap (λ (b : Board). b.size) is.same_position ∙ size-put board mover cell in
      let own : stones_of there winner ≡ stones_of board winner = ap (λ (b : Board). stones_of b winner) is.same_position ∙ others-put board mover cell in
      let stone : has (stones_of (put board mover cell) mover) other ≡ true =
      subst (λ (b : Board). has (stones_of b mover) other ≡ true) is.same_position (filled-by_mover board there mover other empty held size own) in
      let same : other ≡ cell =
      ⊎_elim (λ w. w.1) (λ was. absurd (false≢true (sym (empty-no_stone board mover other empty) ∙ was))) ((stones-put board mover mover cell other).0 stone) in
      rw same is

  serves_wider : (heading : Heading) → IsWider heading (put board mover cell) winner winner → (IsEmpty heading.position other → ⊥)
      → IsWider heading (put board mover other) winner winner
  serves_wider heading is held =
      let there : Board = heading.position in
      let size : there.size ≡ board.size = is.same_size ∙ size-put board mover cell in
      let own : stones_of there winner ≡ stones_of board winner = is.same_stones ∙ others-put board mover cell in
      let stone : has (stones_of there mover) other ≡ true = filled-by_mover board there mover other empty held size own in
      let inside : IsSubset (stones_of (put board mover cell) mover) (stones_of there mover) =
      subst (λ (who : Colour). IsSubset (stones_of (put board mover cell) who) (stones_of there who)) (other-other mover) is.has_opponents in
      record {
        same_size = size ∙ sym (size-put board mover other);
        same_mover = is.same_mover;
        same_winner = is.same_winner;
        same_stones = own ∙ sym (others-put board mover other);
        has_opponents = subst (λ (who : Colour). IsSubset (stones_of (put board mover other) who) (stones_of there who)) (sym (other-other mover))
            (λ n member. ⊎_elim (λ w. subst (λ (m : ℕ). has (stones_of there mover) m ≡ true) (sym w.1) stone)
            (λ was. inside n ((stones-put board mover mover cell n).1 (inr was)))
            ((stones-put board mover mover other n).0 member));
      }

  serves_other : (plain : Bool) (heading : Heading) → Serves plain heading (put board mover cell) winner winner
      → (IsEmpty heading.position other → ⊥) → Serves plain heading (put board mover other) winner winner
  serves_other true heading is held = serves_plain heading is held
  serves_other false heading is held = serves_wider heading is held

-- what was found after a move serves the position after a move to each cell that its position has no more
pub found-serves_others : (plain : Bool) (list : List Node) (board : Board) (mover : Colour) (cell : ℕ) (wider : Wider)
    → IsWiderFound plain list (put board mover cell) (other_of mover) (other_of mover) wider → (here_empties there_empties : ℕ)
    → ((n : ℕ) → (has here_empties n ≡ true) ↔ IsEmpty board n) → ((n : ℕ) → (has there_empties n ≡ true) ↔ IsEmpty wider.position n)
    → (other : ℕ) → has (difference here_empties there_empties) other ≡ true
    → IsWiderEntry plain list (put board mover other) (other_of mover) (other_of mover) wider.found.index
found-serves_others plain list board mover cell wider found here_empties there_empties here after other member = record {
  node = found.entry.node;
  there = found.entry.there;
  is_wider = serves_other board mover cell other ((here other).0 (has-difference_left here_empties there_empties other member)) plain
      found.entry.node.heading found.entry.is_wider
      (λ empty. false≢true (sym (has-difference_right here_empties there_empties other member)
      ∙ (after other).1 (subst (λ (b : Board). IsEmpty b other) (sym found.same_position) empty)));
}

-- ---- in a plain list

-- what was found first has its winner
pub first-wins : (list : List Node) (board : Board) (mover who : Colour) (found : Found) → IsFirstFound list board mover found
    → found.winner ≡ who → HasWin list board mover who
first-wins list board mover who found is wins = record {
  place = found.index;
  entry = is.first.entry;
  wins = sym is.same_winner ∙ wins;
}
