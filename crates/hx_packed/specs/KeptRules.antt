-- Which rule is kept, and which of its steps are so in little room. These words are for the functions inside the crate
-- alone.
use Rattle.std.specs.Prelude.{List, None}
use Rattle.std.specs.declared.option.Option.{Option}
use Rattle.std.specs.declared.option.Option.TheVariants.{Some}
use Rattle.hx_link.specs.declared.steps.Step.{Step}
use Rattle.hx_tree.specs.declared.nodes.Rule.{Rule}
use Rattle.hx_tree.specs.declared.nodes.Rule.TheVariants.{Chain, Links, Move, All, Fill, Turned}
use Rattle.hx_packed.specs.declared.rules.KeptRule.{KeptRule}
use Rattle.hx_packed.specs.declared.rules.KeptRule.TheVariants.{Chain as KeptChain, Links as KeptLinks, Move as KeptMove}
use Rattle.hx_packed.specs.declared.rules.KeptRule.TheVariants.{All as KeptAll, Fill as KeptFill, Turned as KeptTurned}
use Rattle.hx_packed.specs.declared.rules.KeptRule.TheVariants.{Whole}

abbrev pub rule_of : KeptRule → Rule
rule_of KeptChain = Chain
rule_of (KeptMove cell child) = Move cell child
rule_of (KeptTurned child) = Turned child
rule_of (KeptFill child steps) = Fill steps child
rule_of (KeptLinks steps) = Links steps.value
rule_of (KeptAll answers) = All answers.value.steps answers.value.threats answers.value.lines
rule_of (Whole rule) = rule.value

-- the steps that the rule keeps in little room
abbrev pub kept_steps : KeptRule → Option (List Step)
kept_steps KeptChain = None
kept_steps (KeptMove cell child) = None
kept_steps (KeptTurned child) = None
kept_steps (KeptFill child steps) = None
kept_steps (KeptLinks steps) = Some steps.value
kept_steps (KeptAll answers) = Some answers.value.steps
kept_steps (Whole rule) = None
