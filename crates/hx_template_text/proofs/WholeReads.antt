-- The text of a template has no faulty line, so what is spelled is read.
use Rattle.std.proofs.Common.{◌≡◌, ℕ, List, refl, sym, ap, ◌∙◌}
use Rattle.std.specs.Result.{IfOk, IfErr}
use Rattle.std.specs.declared.result.Result.{Result}
use Rattle.std.specs.declared.result.Result.TheVariants.{Ok, Err}
use Rattle.hx_parse.specs.declared.text_lines.TextFault.{TextFault}
use Rattle.hx_text.specs.Grammars.{IsFaultyLine}
use Rattle.hx_text.proofs.LineGrammars.{text_not_faulty}
use Rattle.hx_template_text.specs.declared.templates.Template.{Template}
use Rattle.hx_template_text.specs.Templates.{template_lines, template_text, IsTemplate, AreTemplateLines}
use Rattle.hx_template_text.proofs.LineWords.{AllLack-template}
use Rattle.hx_template_text.proofs.ToldTemplates.{text_tells_template}

-- what is spelled so is read
pub spelled_is_read : (bytes : List ℕ) (read : Result Template TextFault)
    → IfOk read (λ claim. IsTemplate claim × (bytes ≡ template_text claim))
    → IfErr read (λ fault. IsFaultyLine AreTemplateLines bytes fault.line) → (claim : Template) → IsTemplate claim
    → bytes ≡ template_text claim → read ≡ Ok claim
spelled_is_read bytes (Ok found) is bad claim fits e =
    ap (λ (c : Template). Ok c) (text_tells_template found claim is.0 fits (sym is.1 ∙ e))
spelled_is_read bytes (Err fault) is bad claim fits e =
    let are : AreTemplateLines (template_lines claim) = record { claim = claim; is_template = fits; same = refl } in
    absurd (text_not_faulty AreTemplateLines AllLack-template (template_lines claim) bytes fault.line are e bad)
