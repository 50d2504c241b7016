-- The plays that stand. A play and its taking back cancel, and a link more does not change what was before a play; so
-- what the fields keep they keep after each call, and contracts see of them what they should.
use Rattle.std.proofs.lemmas.List.{reverse-append, length-reverse, take_all, take-append-le}
use Rattle.std.proofs.Common.{◌≡◌, ℕ, suc, ◌≤◌, ◌<◌, ◌+◌, List, [], ◌∷◌, ◌++◌, length, take, reverse, refl, sym, ap}
use Rattle.std.proofs.Common.{◌∙◌, subst, arith, length-append}
use Rattle.hx_board.specs.declared.colours.Colour.{Colour}
use Rattle.hx_board.specs.Positions.{Board, IsBoard}
use Rattle.hx_board.specs.Counts.{empty_count}
use Rattle.hx_board.proofs.EmptyCells.{empty_count-small}
use Rattle.hx_link.specs.declared.links.Link.{Link}
use Rattle.hx_link.specs.declared.steps.Step.{Step}
use Rattle.hx_linkset.specs.declared.plays.Stage.{Stage}
use Rattle.hx_linkset.specs.declared.limits.TheConstants.{MOST_LINKS}
use Rattle.hx_linkset.specs.States.{State, Standing, IsRight, GivesFromLive, added}
use Rattle.hx_linkset.specs.Plays.{undone, past_of, Stands, HasRoom, Keeps, standing}
use Rattle.hx_linkset.proofs.RightLaws.{right-added}

states : (board board' : Board) (links links' : List Link) (steps steps' : List Step) → board ≡ board' → links ≡ links' → steps ≡ steps'
    → (let x : State = record { board = board; links = links; steps = steps } in x)
    ≡ record { board = board'; links = links'; steps = steps' }
states board board' links links' steps steps' e f g = cc

-- how a state stands
abbrev stage_at : State → ℕ → Stage
stage_at state logged = record { position = state.board; count = length state.links; logged = logged }

-- the state on another board
abbrev moved : State → Board → State
moved state after = record state { board = after }

module _ (player : Colour) (state : State) where
  -- a play and its taking back
  undone-played : (after : Board) (logged : ℕ) → length state.steps ≡ length state.links
      → undone (moved state after) (stage_at state logged) ≡ state
  undone-played after logged same = states _ _ _ _ _ _ refl (take_all (length state.links) state.links (omega arith))
      (ap (λ n. take n state.steps) (sym same) ∙ take_all (length state.steps) state.steps (omega arith))

  -- a link more does not change what is before a play
  undone-added : (link : Link) (step : Step) (play : Stage) → play.count ≤ length state.links
      → length state.steps ≡ length state.links → undone (added state link step) play ≡ undone state play
  undone-added link step play le same =
      let le' : play.count ≤ length state.steps = omega arith in
      states _ _ _ _ _ _ refl (rw take-append-le refl) (rw take-append-le refl)

  stands-right : (plays : List Stage) → Stands player state plays → IsRight player state
  stands-right [] s = s
  stands-right (p ∷ ps) s = s.0

  stands-played : (after : Board) (logged : ℕ) (plays : List Stage) → IsRight player (moved state after)
      → Stands player state plays → Stands player (moved state after) (stage_at state logged ∷ plays)
  stands-played after logged plays right s =
      let r : IsRight player state = stands-right plays s in
      (right, (omega arith, let P : State → Type 0 = λ x. Stands player x plays in subst P (sym (undone-played after logged r.steps_of)) s))

  past-played : (after : Board) (logged : ℕ) (plays : List Stage) → length state.steps ≡ length state.links
      → past_of (moved state after) (stage_at state logged ∷ plays) ≡ state ∷ past_of state plays
  past-played after logged plays same = ap (λ (x : State). x ∷ past_of x plays) (undone-played after logged same)

  stands-added : (link : Link) (step : Step) (plays : List Stage) → GivesFromLive state.board player state.links step link
      → Stands player state plays → Stands player (added state link step) plays
  stands-added link step [] g s = right-added player state step link s g
  stands-added link step (p ∷ ps) g s = (
    right-added player state step link s.0 g,
    (
      simp length-append (omega (arith, s.1.0)),
      let P : State → Type 0 = λ x. Stands player x ps in subst P (sym (undone-added link step p s.1.0 s.0.steps_of)) s.1.1,
    ),
  )

  past-added : (link : Link) (step : Step) (plays : List Stage) → Stands player state plays
      → past_of (added state link step) plays ≡ past_of state plays
  past-added link step [] s = refl
  past-added link step (p ∷ ps) s = ap (λ (x : State). x ∷ past_of x ps) (undone-added link step p s.1.0 s.0.steps_of)

pub reverse-push : (plays : List Stage) (play : Stage) → reverse (plays ++ play ∷ []) ≡ play ∷ reverse plays
reverse-push plays play = simp reverse-append

length-past : (state : State) (plays : List Stage) → length (past_of state plays) ≡ length plays
length-past state [] = refl
length-past state (p ∷ ps) = ap suc (length-past (undone state p) ps)

room-first : (board : Board) (plays : List Stage) → HasRoom board plays → length plays + empty_count board ≤ 121
room-first board [] h = omega (arith, h)
room-first board (p ∷ ps) h = omega (arith, h.0)

module _ (player : Colour) (state : State) (plays : List Stage) where
  pub keeps-right : Keeps player state plays → IsRight player state
  keeps-right k = stands-right player state (reverse plays) k.stands

  pub length-standing : length (standing player state plays).past ≡ length plays
  length-standing = length-past state (reverse plays) ∙ length-reverse plays

  pub plays-few : Keeps player state plays → length plays ≤ 121
  plays-few k = omega (arith, room-first state.board (reverse plays) k.room, length-reverse plays)

  module _ (after : Board) (logged : ℕ) (right : IsRight player (moved state after))
      (filled : suc (empty_count after) ≤ empty_count state.board) (k : Keeps player state plays) where
    pub room-play : length plays < 121
    room-play = omega (arith, room-first state.board (reverse plays) k.room, filled, length-reverse plays)

    pub keeps-played : Keeps player (moved state after) (plays ++ stage_at state logged ∷ [])
    keeps-played = record {
      stands = rw reverse-push (stands-played player state after logged (reverse plays) right k.stands);
      room = rw reverse-push (omega (arith, room-first state.board (reverse plays) k.room, filled), k.room);
      few = k.few;
    }

    pub standing-played : standing player (moved state after) (plays ++ stage_at state logged ∷ [])
        ≡ record { player = player; present = moved state after; past = state ∷ past_of state (reverse plays) }
    standing-played = ap (λ (ss : List State). let s : Standing = record { player = player; present = moved state after; past = ss } in s)
        (ap (λ (ps : List Stage). past_of (moved state after) ps) (reverse-push plays (stage_at state logged))
        ∙ past-played player state after logged (reverse plays) (keeps-right k).steps_of)

  module _ (link : Link) (step : Step) (g : GivesFromLive state.board player state.links step link) (k : Keeps player state plays) where
    pub keeps-added : length state.links < MOST_LINKS → Keeps player (added state link step) plays
    keeps-added less = record {
      stands = stands-added player state link step (reverse plays) g k.stands;
      room = k.room;
      few = simp length-append (omega arith);
    }

    pub standing-added : standing player (added state link step) plays
        ≡ record { player = player; present = added state link step; past = past_of state (reverse plays) }
    standing-added = ap (λ (ss : List State). let s : Standing =
        record { player = player; present = added state link step; past = ss } in s)
        (past-added player state link step (reverse plays) k.stands)

pub keeps-none : (player : Colour) (board : Board) → IsBoard board → Keeps player (record { board = board; links = []; steps = [] }) []
keeps-none player board is_board = record {
  stands = record { is_board = is_board; steps_of = refl; given = λ place l s there. cc };
  room = empty_count-small board;
  few = omega arith;
}
