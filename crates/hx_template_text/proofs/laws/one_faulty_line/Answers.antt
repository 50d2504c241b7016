use Rattle.hx_text.proofs.OneFault.{one_fault}
use Rattle.hx_template_text.specs.Templates.{AreTemplateLines}
use Rattle.hx_template_text.proofs.LineWords.{AllLack-template}
use Rattle.hx_template_text.proofs.laws.one_faulty_line.Goals as goal

pub returns : goal.returns
returns c = one_fault AreTemplateLines AllLack-template
