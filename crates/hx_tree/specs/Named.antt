-- What is asked of a line once some moves are known to lose. These words are for the functions inside the crate alone.
use Rattle.std.specs.Prelude.{◌≡◌, ℕ, List, true}
use Rattle.hx_board.specs.Sets.{has}
use Rattle.hx_board.specs.Colours.{other_of}
use Rattle.hx_inferior.specs.Inferior.{IsDominated}
use Rattle.hx_tree.specs.declared.nodes.Heading.{Heading}
use Rattle.hx_tree.specs.declared.nodes.Line.{Line}
use Rattle.hx_tree.specs.declared.nodes.Line.TheVariants.{Child, Under}
use Rattle.hx_tree.specs.Answers.{IsRightChild}

-- a line is right, given that the opponent's moves to the cells of this set lose
abbrev pub IsRightGiven : List Heading → Heading → ℕ → Line → Type 0
IsRightGiven before heading lost (Child cell child) = IsRightChild before heading cell child
IsRightGiven before heading lost (Under cell better kill) =
    (has lost better ≡ true) × IsDominated heading.position (other_of heading.winner) better cell kill
