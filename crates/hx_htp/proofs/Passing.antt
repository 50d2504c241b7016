-- Passing the moves of a player, one after the other. Either the other player was told to win after each of them, and
-- then he wins the position; or one was left open, and as all positions after one move have as many empty cells, each
-- is as large.
use Rattle.std.proofs.Common.{◌≡◌, ◌⊎◌, inl, inr, ℕ, ◌≤◌, Bool, true, false, ◌&&◌, not, eqb, refl, sym, ap, ◌∙◌, subst, arith}
use Rattle.std.proofs.lemmas.Bool.{eqb-true, true≢false}
use Rattle.hx_board.specs.declared.colours.Colour.{Colour}
use Rattle.hx_board.specs.Colours.{other_of}
use Rattle.hx_board.specs.Sets.{has}
use Rattle.hx_board.specs.Positions.{Board, IsBoard, IsEmpty, put}
use Rattle.hx_board.specs.Counts.{IsSmall, empty_count, sweep_size}
use Rattle.hx_board.specs.Game.{Wins}
use Rattle.hx_board.specs.Game.Wins.{By_answers}
use Rattle.hx_board.proofs.ColourLaws.{other-other}
use Rattle.hx_board.proofs.EmptyCells.{empty_count-put}
use Rattle.hx_law.proofs.OneWinner.{not_both_win}
use Rattle.hx_htp.specs.declared.answerers.Told.{Told}
use Rattle.hx_htp.specs.declared.answerers.Told.TheVariants.{Winner}
use Rattle.hx_htp.specs.Accounts.{Account, Continues, SomeRose, LeavesOpen, MayTell}
use Rattle.hx_htp.specs.Answers.{IsFirstEmpty, MayPlay}
use Rattle.hx_htp.specs.Answers.MayPlay.{Of_no_win, Left_open}
use Rattle.hx_htp.specs.Parts.{IsPassed}
use Rattle.hx_htp.specs.Parts.IsPassed.{Lost, Unknown}
use Rattle.hx_io.proofs.CauseLaws.{rose_from_earlier, rose_up_to_later}

pub continues_here : (account : Account) → Continues account account
continues_here account = record { budget = refl; slots = refl; budgets = omega arith; proofs = omega arith }

pub continues_then : (a b c : Account) → Continues a b → Continues b c → Continues a c
continues_then a b c first second = record {
  budget = second.budget ∙ first.budget;
  slots = second.slots ∙ first.slots;
  budgets = omega (arith, first.budgets, second.budgets);
  proofs = omega (arith, first.proofs, second.proofs);
}

-- what was left open is so from an earlier account on, and up to a later one
pub open_from : (start mid now : Account) (board : Board) → Continues start mid → LeavesOpen mid now board → LeavesOpen start now board
open_from start mid now board earlier left = record {
  rose = rose left.rose;
  large = λ small. left.large (let P : ℕ → Type 0 = IsSmall board in subst P (sym earlier.budget) small);
}
  where
    rose : SomeRose mid now → SomeRose start now
    rose (inl b) = inl (rose_from_earlier start.budgets mid.budgets now.budgets earlier.budgets b)
    rose (inr p) = inr (rose_from_earlier start.proofs mid.proofs now.proofs earlier.proofs p)

pub open_up_to : (start mid now : Account) (board : Board) → LeavesOpen start mid board → Continues mid now → LeavesOpen start now board
open_up_to start mid now board left later = record { rose = rose left.rose; large = left.large }
  where
    rose : SomeRose start mid → SomeRose start now
    rose (inl b) = inl (rose_up_to_later start.budgets mid.budgets now.budgets b later.budgets)
    rose (inr p) = inr (rose_up_to_later start.proofs mid.proofs now.proofs p later.proofs)

-- after one move as many cells are empty as after another
pub counts_moved : (board : Board) (player : Colour) (a b : ℕ) → IsBoard board → IsEmpty board a → IsEmpty board b
    → empty_count (put board player a) ≡ empty_count (put board player b)
counts_moved board player a b is at_a at_b =
    let first = empty_count-put board player a is at_a in
    let second = empty_count-put board player b is at_b in
    omega (arith, first, second)

pub open_moved : (before after : Account) (board : Board) (player : Colour) (a b : ℕ) → IsBoard board → IsEmpty board a → IsEmpty board b
    → LeavesOpen before after (put board player a) → LeavesOpen before after (put board player b)
open_moved before after board player a b is at_a at_b left = record {
  rose = left.rose;
  large = λ small. left.large (record {
    few = (let P : ℕ → Type 0 = λ n. n ≤ 9 in subst P (sym (counts_moved board player a b is at_a at_b)) small.few);
    within = (let P : ℕ → Type 0 = λ n. sweep_size n ≤ before.budget in
        subst P (sym (counts_moved board player a b is at_a at_b)) small.within);
  });
}

-- where the other player wins after each move, the player does not win
pub no_win : (board : Board) (player : Colour) (some : ℕ) → IsBoard board → IsEmpty board some
    → ((cell : ℕ) → IsEmpty board cell → Wins (other_of player) (put board player cell) (other_of player)) → Wins player board player → ⊥
no_win board player some is empty lost wins =
    not_both_win board is player player wins
    (By_answers board player some (sym (other-other player)) empty
    (λ cell at_cell. let P : Colour → Type 0 = λ mover. Wins (other_of player) (put board mover cell) (other_of player) in
    subst P (sym (other-other player)) (lost cell at_cell)))

-- where the other player is told to win, the first empty cell may be played
pub named_other : (before after : Account) (board : Board) (player other : Colour) (told : Told) (first : ℕ) → IsBoard board
    → IsFirstEmpty board first
    → told ≡ Winner other → other ≡ other_of player → MayTell before after board player told → MayPlay before after board player first
named_other before after board player other told first is here named opponent tells =
    let theirs : Wins other board player = subst (MayTell before after board player) named tells in
    let P : Colour → Type 0 = λ who. Wins who board player in
    Of_no_win here (λ wins. not_both_win board is player player wins (subst P opponent theirs))

-- the other player wins after each move to an empty cell outside a set
abbrev pub AllLost : Board → Colour → ℕ → Type 0
AllLost board player left = (cell : ℕ) → IsEmpty board cell → has left cell ≡ false
    → Wins (other_of player) (put board player cell) (other_of player)

lost_here : (board : Board) (player : Colour) (cell : ℕ) (left next : ℕ) → ((n : ℕ) → has next n ≡ (has left n && not (eqb n cell)))
    → AllLost board player left → Wins (other_of player) (put board player cell) (other_of player) → AllLost board player next
lost_here board player cell left next members lost here = λ n at_n gone.
    go n at_n (has left n) refl (eqb n cell) refl (sym (members n) ∙ gone)
  where
    go : (n : ℕ) → IsEmpty board n → (l : Bool) → has left n ≡ l → (e : Bool) → eqb n cell ≡ e → (has left n && not (eqb n cell)) ≡ false
        → Wins (other_of player) (put board player n) (other_of player)
    go n at_n false l e _ gone = lost n at_n l
    go n at_n true l true e gone =
        (let P : ℕ → Type 0 = λ m. Wins (other_of player) (put board player m) (other_of player) in subst P (sym (eqb-true n cell e)) here)
    go n at_n true l false e gone = absurd (true≢false (sym (ap (λ b. b && not (eqb n cell)) l ∙ ap (λ b. true && not b) e) ∙ gone))

pub passed_on : (start mid now : Account) (board : Board) (player : Colour) (first cell left next : ℕ) → IsBoard board → IsEmpty board first
    → IsEmpty board cell
    → Continues start mid → Continues mid now → ((n : ℕ) → has next n ≡ (has left n && not (eqb n cell)))
    → AllLost board player left ⊎ LeavesOpen start mid (put board player first) → IsPassed mid now board player cell
    → AllLost board player next ⊎ LeavesOpen start now (put board player first)
passed_on start mid now board player first cell left next is at_first at_cell earlier later members (inr left_open) passed =
    inr (open_up_to start mid now (put board player first) left_open later)
passed_on start mid now board player first cell left next is at_first at_cell earlier later members (inl lost) (Lost here) =
    inl (lost_here board player cell left next members lost here)
passed_on start mid now board player first cell left next is at_first at_cell earlier later members (inl lost) (Unknown left_open) =
    inr (open_moved start now board player cell first is at_cell at_first
    (open_from start mid now (put board player cell) earlier left_open))

-- all moves were passed
pub passed_all : (before after : Account) (board : Board) (player : Colour) (first left : ℕ) → IsBoard board → IsFirstEmpty board first
    → ((n : ℕ) → IsEmpty board n → has left n ≡ false) → AllLost board player left ⊎ LeavesOpen before after (put board player first)
    → MayPlay before after board player first
passed_all before after board player first left is here none (inl lost) =
    Of_no_win here (no_win board player first is here.empty (λ cell at_cell. lost cell at_cell (none cell at_cell)))
passed_all before after board player first left is here none (inr left_open) = Left_open here left_open
