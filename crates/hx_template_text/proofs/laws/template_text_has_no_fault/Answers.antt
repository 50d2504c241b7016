use Rattle.std.proofs.Common.{refl}
use Rattle.hx_text.proofs.LineGrammars.{text_not_faulty}
use Rattle.hx_template_text.specs.Templates.{AreTemplateLines, template_lines, template_text}
use Rattle.hx_template_text.proofs.LineWords.{AllLack-template}
use Rattle.hx_template_text.proofs.laws.template_text_has_no_fault.Goals as goal

pub returns : goal.returns
returns c = λ claim line is.
    text_not_faulty AreTemplateLines AllLack-template (template_lines claim) (template_text claim) line
    (record { claim = claim; is_template = is; same = refl }) refl
