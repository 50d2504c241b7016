-- What a run of `template` is good for: each input gets its answer, and each status tells what is so.
use Rattle.std.specs.Prelude.{◌≡◌, ℕ, ◌<◌, ◌≤◌, List, length, Option, IfSome}
use Rattle.hx_io.specs.Sources.{Reading, SomeReadFailed}
use Rattle.hx_io.specs.Sinks.{Writing, SomeWriteFailed}
use Rattle.hx_template.specs.Limits.{most_cells}
use Rattle.hx_text.specs.Grammars.{IsFaultyLine}
use Rattle.hx_template_text.specs.declared.templates.Template.{Template}
use Rattle.hx_template_text.specs.Templates.{AreTemplateLines}
use Rattle.hx_answers.specs.Texts.{too_long_line}
use Rattle.hx_answers.specs.Endings.{IsReadToEnd, IsUnlessStopped, AnswersUnlessStopped}
use Rattle.hx_cmd_template.specs.Answers.{yes_line, no_line, unknown_carrier_line, bad_template_line, IsTemplateStatus}
use Rattle.hx_cmd_template.specs.Claims.{most_bytes, cells_of, Holds, IsTextOf}

-- the input is the text of a template of which this is so
abbrev pub IsTextOfSome : (Template → Type 0) → List ℕ → Type 0
IsTextOfSome says input = (template : Template) × IsTextOf input template × says template

-- this is so of the template that the input is the text of
abbrev pub OfTemplates : Option (List ℕ) → (Template → Type 0) → Type 0
OfTemplates left says =
    IfSome left (λ input. (template : Template) → length input ≤ most_bytes → IsTextOf input template → says template)

-- the input is the text of no template
abbrev pub IsNoTemplate : List ℕ → Type 0
IsNoTemplate input = (template : Template) → IsTextOf input template → ⊥

-- The promises of `template`, by how far its source was read before and is now, how far was written to its sink, and
-- the exit status. What is said of an input is said of sources that tell what they have left.
pub record KeepsPromises (source source_now : Reading) (sink sink_now : Writing) (status : ℕ) : Type 0 where
  -- a template whose carrier has no more cells than are tried is told whether it holds
  pub holds : OfTemplates source.left (λ template. cells_of template ≤ most_cells → Holds template
      → AnswersUnlessStopped yes_line 0 sink.taken sink_now.taken status)
  pub fails : OfTemplates source.left (λ template. cells_of template ≤ most_cells → ¬ Holds template
      → AnswersUnlessStopped no_line 1 sink.taken sink_now.taken status)
  -- one whose carrier has more is told how many
  pub many : OfTemplates source.left (λ template. most_cells < cells_of template
      → AnswersUnlessStopped (unknown_carrier_line (cells_of template)) 3 sink.taken sink_now.taken status)
  -- what is the text of no template is told so, and the line that is named is the first that is wrong
  pub no_template : IfSome source.left (λ input. length input ≤ most_bytes → IsNoTemplate input → IsUnlessStopped status 4)
  pub template_line : IfSome source.left (λ input. (line : ℕ) → length input ≤ most_bytes
      → IsFaultyLine AreTemplateLines input line
      → AnswersUnlessStopped (bad_template_line line) 4 sink.taken sink_now.taken status)
  pub long : IfSome source.left (λ input. most_bytes < length input
      → AnswersUnlessStopped too_long_line 8 sink.taken sink_now.taken status)
  -- each status tells what is so
  pub yes : status ≡ 0 → IfSome source.left (IsTextOfSome Holds)
  pub no : status ≡ 1 → IfSome source.left (IsTextOfSome (λ template. ¬ Holds template))
  pub unknown : status ≡ 3 → IfSome source.left (IsTextOfSome (λ template. most_cells < cells_of template))
  pub bad_template : status ≡ 4 → IfSome source.left IsNoTemplate
  pub too_long : status ≡ 8 → IfSome source.left (λ input. most_bytes < length input)
  -- where it holds or fails the input was read to its end
  pub read_to_end : status ≤ 1 → IsReadToEnd source.left source_now.left
  -- each fault has its cause, and no other status comes
  pub read_fault : status ≡ 5 → SomeReadFailed source source_now
  pub write_fault : status ≡ 6 → SomeWriteFailed sink sink_now
  pub none_else : IsTemplateStatus status
