-- What a rule leads to, and which rules are kept without further memory.
use Rattle.std.specs.Prelude.{ℕ, List, [], None}
use Rattle.std.specs.declared.option.Option.{Option}
use Rattle.std.specs.declared.option.Option.TheVariants.{Some}
use Rattle.hx_tree.specs.declared.nodes.Line.{Line}
use Rattle.hx_tree.specs.declared.nodes.Rule.{Rule}
use Rattle.hx_tree.specs.declared.nodes.Rule.TheVariants.{Chain, Links, Move, All, Fill, Turned}

-- the one child that a rule names outside of lines
abbrev pub child_of : Rule → Option ℕ
child_of Chain = None
child_of (Links steps) = None
child_of (Move cell child) = Some child
child_of (All steps threats lines) = None
child_of (Fill steps child) = Some child
child_of (Turned child) = Some child

-- the lines of a rule
abbrev pub lines_of : Rule → List Line
lines_of Chain = []
lines_of (Links steps) = []
lines_of (Move cell child) = []
lines_of (All steps threats lines) = lines
lines_of (Fill steps child) = []
lines_of (Turned child) = []

-- a rule that no links are made for
abbrev pub HasNoLinks : Rule → Type 0
HasNoLinks Chain = Unit {0}
HasNoLinks (Links steps) = ⊥
HasNoLinks (Move cell child) = Unit {0}
HasNoLinks (All steps threats lines) = ⊥
HasNoLinks (Fill steps child) = Unit {0}
HasNoLinks (Turned child) = Unit {0}
