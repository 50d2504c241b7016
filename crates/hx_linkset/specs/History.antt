-- Rings and a log that can be taken back, play by play. These words are for the functions inside the crate alone.
use Rattle.std.specs.Prelude.{◌≡◌, ℕ, zero, suc, ◌-◌, ◌≤◌, List, [], ◌∷◌, length, take, drop, reverse}
use Rattle.hx_board.specs.declared.colours.Colour.{Colour}
use Rattle.hx_board.specs.declared.cells.TheConstants.{CELLS}
use Rattle.hx_board.specs.Positions.{Board}
use Rattle.hx_board.specs.Graph.{Grouped}
use Rattle.hx_link.specs.declared.links.Allowed.{Allowed}
use Rattle.hx_link.specs.declared.links.Link.{Link}
use Rattle.hx_link.specs.Steps.{IsAllowed}
use Rattle.hx_linkset.specs.declared.fulls.FullLink.{FullLink}
use Rattle.hx_linkset.specs.declared.plays.Stage.{Stage}
use Rattle.hx_linkset.specs.States.{State, IsLive}
use Rattle.hx_linkset.specs.Plays.{Keeps}
use Rattle.hx_linkset.specs.Rings.{Rings, cut, IsInside}
use Rattle.hx_linkset.specs.Held.{RingsHold, LogHolds, IsLiveThere, CanRelink, relinked_all, AreAllDropped, AreLiveOrLogged}
use Rattle.hx_linkset.specs.Fulls.{AreFullLists}

-- the last nodes cut off, as many as that
abbrev pub cut_times : ℕ → Rings → Rings
cut_times zero rings = rings
cut_times (suc n) rings = cut_times n (cut rings)

-- the rings before a play: the links that came since are cut off, and then those that it dropped are put back
abbrev pub rings_before : Rings → List Link → List ℕ → Stage → Rings
rings_before rings links log play =
    relinked_all (cut_times (length links - play.count) rings) (reverse (drop play.logged log))

-- the rings hold the live links, and the log names those that are not live
pub record HoldsLive (player : Colour) (board : Board) (links : List Link) (rings : Rings) (log : List ℕ) : Type 0 where
  pub hold : RingsHold links (IsLiveThere board player) rings
  pub log_ok : LogHolds links (IsLiveThere board player) log
  pub others_live : AreLiveOrLogged board player links log

-- the last nodes can be cut off, as many as that
abbrev pub CanCut : ℕ → Rings → Type 0
CanCut zero rings = Unit {0}
CanCut (suc n) rings = IsInside rings (length rings.next - 1) × CanCut n (cut rings)

-- the play can be taken back: the links since can be cut off, and those that it dropped can be put back
pub record CanUndo (links : List Link) (rings : Rings) (log : List ℕ) (play : Stage) : Type 0 where
  pub fits : play.logged ≤ length log
  pub cuts : CanCut (length links - play.count) rings
  pub relinks : CanRelink (cut_times (length links - play.count) rings) (reverse (drop play.logged log))

-- no link is live after a play that was not live before it, and these are those that it dropped
pub record HasDropped (player : Colour) (links : List Link) (before after : Board)
    (dropped : List ℕ) : Type 0 where
  pub fewer : (link : Link) → IsLive after player link → IsLive before player link
  pub all_dropped : AreAllDropped links before after player (length links) dropped

-- the rings and the log hold now what they should, and did so before each play that stands
abbrev pub HasHistory : Colour → Board → List Link → Rings → List ℕ → List Stage → Type 0
HasHistory player board links rings log [] = HoldsLive player board links rings log
HasHistory player board links rings log (play ∷ plays) =
    HoldsLive player board links rings log
    × (CanUndo links rings log play
    × (HasDropped player (take play.count links) play.position board (drop play.logged log)
    × HasHistory player play.position (take play.count links) (rings_before rings links log play)
    (take play.logged log) plays))

-- what the fields of a set keep
pub record FieldsKeep (player : Colour) (state : State) (plays : List Stage) (groups : Grouped)
    (allowed : Allowed) (rings : Rings) (fulls : List (List FullLink)) (log : List ℕ)
    (plays_capacity : ℕ) : Type 0 where
  pub keeps : Keeps player state plays
  pub history : HasHistory player state.board state.links rings log (reverse plays)
  pub groups_are : groups ≡ record { board = state.board; player = player }
  pub allowed_is : IsAllowed allowed state.board player
  pub fulls_are : AreFullLists state.links fulls
  pub plays_room : CELLS ≤ plays_capacity
