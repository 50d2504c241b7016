use Rattle.hx_template_text.proofs.ToldTemplates.{text_tells_template}
use Rattle.hx_template_text.proofs.laws.text_tells_template.Goals as goal

pub returns : goal.returns
returns c = text_tells_template
