-- The text of a game: what is written before the first line of the opponent's, and what answers each line.
use Rattle.std.specs.Prelude.{◌≡◌, ◌↔◌, ℕ, Bool, true, false, List, [], ◌∷◌, ◌++◌, codes, IsTrue}
use Rattle.hx_board.specs.declared.colours.Colour.{Colour}
use Rattle.hx_board.specs.Colours.{other_of}
use Rattle.hx_board.specs.Positions.{Board, IsEmpty, put}
use Rattle.hx_board.specs.Graph.{HasChain}
use Rattle.hx_lex.specs.Words.{cell_word, colour_word}
use Rattle.hx_play.specs.Games.{Game, PlaysMove}

-- the first line, which names the player that the tree names
abbrev pub play_line : Colour → List ℕ
play_line winner = codes "play " ++ (colour_word winner ++ 10 ∷ [])

-- the line of a move
abbrev pub move_line : ℕ → List ℕ
move_line cell = cell_word cell ++ 10 ∷ []

-- the last line where the winner has a chain, and no line where the game goes on
abbrev pub chain_text : Bool → List ℕ
chain_text true = codes "chain\n"
chain_text false = []

-- the answer to a line that is no move
abbrev pub illegal_line : List ℕ
illegal_line = codes "? illegal\n"

-- the last line where the lines end before the game does
abbrev pub unfinished_line : List ℕ
unfinished_line = codes "unfinished\n"

-- the game has ended exactly where the winner has a chain
abbrev pub EndsByChain : Game → Bool → Type 0
EndsByChain game ended = IsTrue ended ↔ HasChain game.position game.winner

-- On this board the winner makes a move of its own, after which it wins, and the text tells which, and whether it has a
-- chain then.
pub record IsOwnMove (winner : Colour) (before : Board) (text : List ℕ) (after : Game) (ended : Bool) : Type 0 where
  pub cell : ℕ
  pub plays : PlaysMove winner before after cell
  pub ends : EndsByChain after ended
  pub spelled : text ≡ move_line cell ++ chain_text ended

-- before the first line: the player is named, and makes a move where it is to move and has no chain
pub data Opens (start : Game) (text : List ℕ) (now : Game) (ended : Bool) : Type 0 where
  HasWon : HasChain start.position start.winner → text ≡ play_line start.winner ++ chain_text true → now ≡ start
      → ended ≡ true → Opens start text now ended
  Waits : ¬ HasChain start.position start.winner → start.to_move ≡ other_of start.winner
      → text ≡ play_line start.winner → now ≡ start → ended ≡ false → Opens start text now ended
  Moves : ¬ HasChain start.position start.winner → start.to_move ≡ start.winner → (own : List ℕ)
      → text ≡ play_line start.winner ++ own → IsOwnMove start.winner start.position own now ended
      → Opens start text now ended

-- the line is the word of an empty cell
pub record NamesEmpty (board : Board) (line : List ℕ) (cell : ℕ) : Type 0 where
  pub empty : IsEmpty board cell
  pub spelled : line ≡ cell_word cell

-- A line that is the word of an empty cell puts the opponent's stone there, and a move of the winner's follows. Any
-- other line changes nothing.
pub data AnswersLine (old : Game) (line text : List ℕ) (new : Game) (ended : Bool) : Type 0 where
  Plays : (cell : ℕ) → NamesEmpty old.position line cell
      → IsOwnMove old.winner (put old.position (other_of old.winner) cell) text new ended
      → AnswersLine old line text new ended
  IsIllegal : ((cell : ℕ) → NamesEmpty old.position line cell → ⊥) → text ≡ illegal_line → new ≡ old → ended ≡ false
      → AnswersLine old line text new ended

-- A game: an opening, and then lines one after the other as long as it has not ended. It leads from the start to where
-- the game is now.
pub data GameRun (start : Game) : List (List ℕ) → List ℕ → Game → Bool → Type 0 where
  Opened : (lines : List (List ℕ)) (text : List ℕ) (now : Game) (ended : Bool) → lines ≡ []
      → Opens start text now ended → GameRun start lines text now ended
  Then : (lines : List (List ℕ)) (text : List ℕ) (now : Game) (ended : Bool) (earlier : List (List ℕ))
      (line front reply : List ℕ) (mid : Game) → lines ≡ earlier ++ line ∷ [] → text ≡ front ++ reply
      → GameRun start earlier front mid false → AnswersLine mid line reply now ended
      → GameRun start lines text now ended
