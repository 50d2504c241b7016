-- Which steps are kept, given the parts of all Ors. These words are for the functions inside the crate alone.
use Rattle.std.specs.Prelude.{◌+◌, ◌≤◌, ℕ, List, map, take, drop}
use Rattle.std.specs.List.{All}
use Rattle.hx_link.specs.declared.steps.Step.{Step}
use Rattle.hx_link.specs.declared.steps.Step.TheVariants.{Base, AndStone, AndCell, Or}
use Rattle.hx_packed.specs.declared.steps.KeptStep.{KeptStep}
use Rattle.hx_packed.specs.declared.steps.KeptStep.TheVariants.{Base as KeptBase, AndStone as KeptAndStone}
use Rattle.hx_packed.specs.declared.steps.KeptStep.TheVariants.{AndCell as KeptAndCell, Or as KeptOr}

-- the step that is kept, given the parts of all Ors
abbrev pub step_of : List ℕ → KeptStep → Step
step_of parts (KeptBase a b) = Base a b
step_of parts (KeptAndStone left right) = AndStone left right
step_of parts (KeptAndCell left right) = AndCell left right
step_of parts (KeptOr from count) = Or (take count (drop from parts))

-- the steps that are kept
abbrev pub steps_of : List ℕ → List KeptStep → List Step
steps_of parts steps = map (step_of parts) steps

-- so many parts are enough for the step
abbrev pub HasParts : ℕ → KeptStep → Type 0
HasParts many (KeptBase a b) = Unit {0}
HasParts many (KeptAndStone left right) = Unit {0}
HasParts many (KeptAndCell left right) = Unit {0}
HasParts many (KeptOr from count) = from + count ≤ many

-- they are enough for each step
abbrev pub HaveParts : ℕ → List KeptStep → Type 0
HaveParts many steps = All (HasParts many) steps
