-- How a game goes on: whose turn it is behind an opening and behind a line, and that a run with one line more is a run.
use Rattle.std.proofs.Common.{rules, ◌≡◌, inl, inr, ℕ, Bool, true, false, List, [], ◌∷◌, ◌++◌, refl, sym, ap, ◌∙◌, subst, append-nil, append_assoc}
use Rattle.std.proofs.lemmas.Bool.{false≢true}
use Rattle.std.specs.Prelude.{◌↔◌, MatchOption, Option, Some, None, IsNone, IfSome, IfNone}
use Rattle.hx_board.specs.declared.colours.Colour.{Colour}
use Rattle.hx_board.specs.declared.colours.Colour.TheVariants.{Black, White}
use Rattle.hx_board.specs.Colours.{other_of}
use Rattle.hx_board.specs.Positions.{Board, put}
use Rattle.hx_lines.specs.Services.{StepsOn}
use Rattle.hx_play.specs.Games.{Game, PlaysMove, NeedsNoMove}
use Rattle.hx_play.specs.GameTexts.{AnswersLine, EndsByChain, IsOwnMove, NamesEmpty, Opens, chain_text, move_line, play_line}
use Rattle.hx_play.specs.GameTexts.AnswersLine.{Plays, IsIllegal}
use Rattle.hx_play.specs.GameTexts.Opens.{HasWon, Waits, Moves}
use Rattle.hx_play.specs.GameTexts.GameRun.{Then}
use Rattle.hx_play.specs.Serving.{IsWaiting, game_answers}

-- ---- the opening

other_or_same : (a b : Colour) → (a ≡ other_of b → ⊥) → a ≡ b
other_or_same Black Black differs = refl
other_or_same Black White differs = absurd (differs refl)
other_or_same White Black differs = absurd (differs refl)
other_or_same White White differs = refl

-- behind the winner's own move
own_move : (winner : Colour) (before : Board) (text : List ℕ) (after : Game) (ended : Bool) (cell : ℕ)
    → PlaysMove winner before after cell → EndsByChain after ended → text ≡ move_line cell ++ chain_text ended
    → IsOwnMove winner before text after ended
own_move winner before text after ended cell plays ends spelled = record { cell = cell; plays = plays; ends = ends; spelled = spelled }

opens_still : (start : Game) (text : List ℕ) (ended : Bool) → NeedsNoMove start → EndsByChain start ended
    → text ≡ play_line start.winner ++ chain_text ended → Opens start text start ended
opens_still start text true needs ends spelled = HasWon (ends.0 refl) spelled refl refl
opens_still start text false (inl others) ends spelled =
    Waits (λ chain. absurd (false≢true (ends.1 chain))) others (spelled ∙ append-nil (play_line start.winner)) refl refl
opens_still start text false (inr chain) ends spelled = absurd (false≢true (ends.1 chain))

-- the text behind the first line, as the player moved or not
pub with_move : (first : Option ℕ) (cell : ℕ) (front line : List ℕ) → first ≡ Some cell → front ≡ line ++ move_line cell
    → MatchOption first (front ≡ line) (λ cell. front ≡ line ++ move_line cell)
with_move first cell front line is fronts = rw is fronts

pub without_move : (first : Option ℕ) (front line : List ℕ) → first ≡ None → front ≡ line
    → MatchOption first (front ≡ line) (λ cell. front ≡ line ++ move_line cell)
without_move first front line is fronts = rw is fronts

-- the player was asked for its first move, and made one or not; then it was looked whether it has a chain
pub opens : (start now : Game) (first : Option ℕ) (front text : List ℕ) (ended : Bool) → (IsNone first ↔ NeedsNoMove start)
    → IfNone first (now ≡ start) → IfSome first (PlaysMove start.winner start.position now) → EndsByChain now ended
    → MatchOption first (front ≡ play_line start.winner) (λ cell. front ≡ play_line start.winner ++ move_line cell)
    → text ≡ front ++ chain_text ended → Opens start text now ended
opens start now None front text ended none same plays ends fronts spelled =
    let is : now ≡ start = same in
    subst (λ (game : Game). Opens start text game ended) (sym is)
    (opens_still start text ended (none.0 (search rules)) (subst (λ (game : Game). EndsByChain game ended) is ends)
    (spelled ∙ ap (λ bytes. bytes ++ chain_text ended) fronts))
opens start now (Some cell) front text ended none same plays ends fronts spelled =
    let needs_one : NeedsNoMove start → ⊥ = λ needs. absurd (search (rules, none.1 needs)) in
    Moves (λ chain. needs_one (inr chain))
    (other_or_same start.to_move start.winner (λ others. needs_one (inl others)))
    (move_line cell ++ chain_text ended)
    (spelled ∙ ap (λ bytes. bytes ++ chain_text ended) fronts ∙ append_assoc (play_line start.winner) (move_line cell) (chain_text ended))
    (own_move start.winner start.position (move_line cell ++ chain_text ended) now ended cell plays ends refl)

-- behind an own move that made no chain it is the opponent's turn
waits_after_move : (winner : Colour) (before : Board) (text : List ℕ) (after : Game) → IsOwnMove winner before text after false
    → IsWaiting after
waits_after_move winner before text after own =
    let moved = own.plays.moved in
    record {
      going = λ chain. absurd (false≢true (own.ends.1 chain));
      turn = ap (λ (game : Game). game.to_move) moved ∙ sym (ap (λ (game : Game). other_of game.winner) moved);
    }

pub waits_after_opening : (start : Game) (text : List ℕ) (now : Game) → Opens start text now false → IsWaiting now
waits_after_opening start text now (HasWon chain spelled same ended) = absurd (false≢true ended)
waits_after_opening start text now (Waits going turn spelled same ended) =
    subst IsWaiting (sym same) (record { going = going; turn = turn })
waits_after_opening start text now (Moves going turn own spelled move) = waits_after_move start.winner start.position own now move

-- ---- a line

pub plays_line : (old now : Game) (line text : List ℕ) (ended : Bool) (cell answer : ℕ) → NamesEmpty old.position line cell
    → PlaysMove old.winner (put old.position (other_of old.winner) cell) now answer → EndsByChain now ended
    → text ≡ move_line answer ++ chain_text ended → AnswersLine old line text now ended
plays_line old now line text ended cell answer names plays ends spelled =
    Plays cell names (own_move old.winner (put old.position (other_of old.winner) cell) text now ended answer plays ends spelled)

pub waits_after_line : (old : Game) (line text : List ℕ) (now : Game) → IsWaiting old → AnswersLine old line text now false
    → IsWaiting now
waits_after_line old line text now waits (Plays cell names own) =
    waits_after_move old.winner (put old.position (other_of old.winner) cell) text now own
waits_after_line old line text now waits (IsIllegal none spelled same ended) = subst IsWaiting (sym same) waits

-- ---- a game as a service

pub steps_on : (start old now : Game) (line reply : List ℕ) (ended : Bool) → AnswersLine old line reply now ended
    → StepsOn (game_answers start old) line reply ended (game_answers start now)
steps_on start old now line reply ended answers = λ lines text run.
    Then (lines ++ line ∷ []) (text ++ reply) now ended lines line text reply old refl refl run answers
