-- What stands in the way of a game, and when.
use Rattle.std.specs.Prelude.{◌⊎◌, ℕ, List, codes, Option, IfSome}
use Rattle.hx_answers.specs.Texts.{counted_text}
use Rattle.hx_cmd_check.specs.declared.faults.Fault.{Fault}
use Rattle.hx_cmd_check.specs.declared.faults.Fault.TheVariants.{NoText, NoNode, ReadFault, OutOfMemory, TooLong}
use Rattle.hx_cmd_check.specs.Judgements.{IsFaultDue, IsLong, fault_text, status_of_fault}
use Rattle.hx_cmd_play.specs.declared.refusals.Refusal.{Refusal}
use Rattle.hx_cmd_play.specs.declared.refusals.Refusal.TheVariants.{NoPlain, NoTree}
use Rattle.hx_cmd_play.specs.Trees.{ArePlayable, IsNoPlain, IsTooLarge}

-- the line that names a node that is not plain
abbrev pub no_plain_line : ℕ → List ℕ
no_plain_line node = counted_text (codes "no plain ") node

-- what is written for each refusal
abbrev pub refusal_text : Refusal → List ℕ
refusal_text (NoPlain node) = no_plain_line node
refusal_text (NoTree fault) = fault_text fault

-- the exit status that tells each refusal, where it was written whole
abbrev pub status_of_refusal : Refusal → ℕ
status_of_refusal (NoPlain node) = 1
status_of_refusal (NoTree fault) = status_of_fault fault

-- When a fault of the text comes: as `check` says, where the nodes before it are plain too and the lines have no more
-- bytes than a text may have; and the text is too long, too, where it has more.
abbrev pub IsTreeFaultDue : Option (List ℕ) → Option (List ℕ) → Type 0 → Fault → Type 0
IsTreeFaultDue before after rose (NoText line) = IsFaultDue ArePlayable before after rose (NoText line)
IsTreeFaultDue before after rose (NoNode node) = IsFaultDue ArePlayable before after rose (NoNode node)
IsTreeFaultDue before after rose ReadFault = IsFaultDue ArePlayable before after rose ReadFault
IsTreeFaultDue before after rose OutOfMemory = Unit {0}
IsTreeFaultDue before after rose TooLong = IfSome before (λ input. IsLong ArePlayable input ⊎ IsTooLarge input)

-- when each refusal comes: what the source had left before and has left, and whether its faults rose
abbrev pub IsDue : Option (List ℕ) → Option (List ℕ) → Type 0 → Refusal → Type 0
IsDue before after rose (NoPlain node) = IfSome before (λ input. IsNoPlain input node)
IsDue before after rose (NoTree fault) = IsTreeFaultDue before after rose fault
