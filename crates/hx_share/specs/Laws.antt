-- What the laws of seats and shared books say.
use Rattle.std.specs.Prelude.{◌≡◌, ℕ, List, Result, Ok, Err, Option, IsSomeAnd}
use Rattle.hx_board.specs.declared.colours.Colour.{Colour}
use Rattle.hx_board.specs.Positions.{Board}
use Rattle.hx_tree.specs.declared.nodes.Node.{Node}
use Rattle.hx_tree.specs.declared.entries.Found.{Found}
use Rattle.hx_tree.specs.Rules.{IsRightNode}
use Rattle.hx_tree.specs.Trees.{headings_of, AreRight}
use Rattle.hx_tree.specs.Entries.{IsEntry, Extends, FindsFirst}
use Rattle.hx_book.specs.Puts.{Refusal, Puts, PutsLater}
use Rattle.hx_core.specs.declared.events.Reply.{Reply}
use Rattle.hx_core.specs.declared.events.Reply.TheVariants.{Looked, Stored, NoSlot}
use Rattle.hx_core.specs.BookMachine.{BookState, with_all_seen, LookStep, StoreStep}

-- a node was stored, or an entry of its position and mover was there before: each look in a list that begins with
-- what was seen then finds the entry at the answered index
abbrev pub StoredIsFound : Type 0
StoredIsFound =
    (slots : ℕ) (seen stored later : List Node) (node : Node) (place : ℕ) (result : Option Found)
    → PutsLater slots seen node (Ok place) stored → Extends stored later
    → FindsFirst later node.heading.position node.heading.to_move result
    → IsSomeAnd result (λ found. found.index ≡ place)

-- what is found names the winner that the node named which was stored
abbrev pub StoredWinnerIsFound : Type 0
StoredWinnerIsFound =
    (slots : ℕ) (seen stored later : List Node) (node : Node) (place : ℕ) (result : Option Found)
    → AreRight seen → IsRightNode (headings_of seen) node
    → AreRight later → PutsLater slots seen node (Ok place) stored
    → Extends stored later → FindsFirst later node.heading.position node.heading.to_move result
    → IsSomeAnd result (λ found. found.winner ≡ node.heading.winner)

-- what begins with a later list begins with an earlier one
abbrev pub ExtendsOn : Type 0
ExtendsOn = (old between new : List Node) → Extends old between → Extends between new → Extends old new

-- entries of one position and mover in these lists name one winner
abbrev pub Agree : List Node → List Node → Type 0
Agree nodes others =
    (board : Board) (mover : Colour) (place other_place : ℕ)
    (one : IsEntry nodes board mover place) (other : IsEntry others board mover other_place)
    → one.node.heading.winner ≡ other.node.heading.winner

-- ---- the book machine

-- what the machine replies to a store
abbrev pub reply_of : Result ℕ Refusal → Reply
reply_of (Ok place) = Stored place
reply_of (Err refusal) = NoSlot refusal.held

-- a look answers as the machine, whose list is the one that was seen
abbrev pub LooksAsTheMachine : Type 0
LooksAsTheMachine =
    (book : BookState) (worker : ℕ) (board : Board) (mover : Colour) (result : Option Found)
    → FindsFirst book.nodes board mover result
    → LookStep book worker board mover (Looked result) (with_all_seen book book.nodes worker)

-- a store answers as the machine, whose list grows to the one that was seen
abbrev pub StoresAsTheMachine : Type 0
StoresAsTheMachine =
    (book : BookState) (worker : ℕ) (node : Node) (result : Result ℕ Refusal) (nodes : List Node)
    → Puts book.slots book.nodes node result nodes
    → StoreStep book worker node (reply_of result) (with_all_seen book nodes worker)
