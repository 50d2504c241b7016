-- An input has one answer, besides those that come in the place of any other: a text tells its template and has no
-- faulty line, and bytes have one faulty line at the most. These three are laws of hx_template_text, and stand here as
-- what is given.
use Rattle.std.proofs.Common.{◌≡◌, ◌⊎◌, ℕ, ◌<◌, ◌≤◌, inl, inr, List, length, refl, sym, ap, ◌∙◌, subst, arith}
use Rattle.std.specs.Prelude.{Option, Some}
use Rattle.hx_template.specs.Limits.{most_cells}
use Rattle.hx_text.specs.Grammars.{IsFaultyLine}
use Rattle.hx_template_text.specs.declared.templates.Template.{Template}
use Rattle.hx_template_text.specs.Templates.{IsTemplate, AreTemplateLines, template_text}
use Rattle.hx_cmd_template.specs.declared.answers.Answer.{Answer}
use Rattle.hx_cmd_template.specs.declared.answers.Answer.TheVariants.{Yes, No, UnknownCarrier, BadTemplate}
use Rattle.hx_cmd_template.specs.declared.answers.Answer.TheVariants.{ReadFault, OutOfMemory, TooLong}
use Rattle.hx_cmd_template.specs.Claims.{most_bytes, cells_of, Holds, IsTextOf, Decides, IsDecided, IsDue}

abbrev pub TextTellsTemplate : Type 0
TextTellsTemplate = (a b : Template) → IsTemplate a → IsTemplate b → template_text a ≡ template_text b → a ≡ b

abbrev pub TextHasNoFault : Type 0
TextHasNoFault =
    (template : Template) (line : ℕ) → IsTemplate template → IsFaultyLine AreTemplateLines (template_text template) line → ⊥

abbrev pub HasOneFaultyLine : Type 0
HasOneFaultyLine =
    (bytes : List ℕ) (a b : ℕ) → IsFaultyLine AreTemplateLines bytes a → IsFaultyLine AreTemplateLines bytes b → a ≡ b

-- this answer, or what stood in the way of finding it
abbrev pub IsOrStopped : Answer → Answer → Type 0
IsOrStopped answer other = (other ≡ answer) ⊎ ((other ≡ ReadFault) ⊎ (other ≡ OutOfMemory))

module _ (input : List ℕ) where
  -- the text of a template is not faulty
  pub text_not_faulty : TextHasNoFault → (template : Template) → IsTextOf input template → (line : ℕ)
      → IsFaultyLine AreTemplateLines input line → ⊥
  text_not_faulty no_fault template text line fault =
      no_fault template line text.is_template (subst (λ (bytes : List ℕ). IsFaultyLine AreTemplateLines bytes line) text.same fault)

  module _ (after : Option (List ℕ)) (rose : Type 0) where
    module _ (tells : TextTellsTemplate) (no_fault : TextHasNoFault) (template : Template) (text : IsTextOf input template)
        (short : length input ≤ most_bytes) where
      -- what is decided of the input is decided of this template
      decides : (answer : Answer) → IsDecided input answer → Decides template answer
      decides answer is =
          subst (λ (t : Template). Decides t answer)
          (tells is.template template is.text.is_template text.is_template (sym is.text.same ∙ text.same)) is.decides

      pub yes_alone : cells_of template ≤ most_cells → Holds template → (other : Answer) → IsDue (Some input) after rose other
          → IsOrStopped Yes other
      yes_alone few holds Yes due = inl refl
      yes_alone few holds No due = absurd ((decides No due.found.1).1 holds)
      yes_alone few holds (UnknownCarrier cells) due =
          let many = decides (UnknownCarrier cells) due.found.1 in absurd (omega (arith, many.0, many.1, few))
      yes_alone few holds (BadTemplate line) due = absurd (text_not_faulty no_fault template text line due.found.1)
      yes_alone few holds ReadFault due = inr (inl refl)
      yes_alone few holds OutOfMemory due = inr (inr refl)
      yes_alone few holds TooLong due = absurd (omega (arith, due, short))

      pub no_alone : cells_of template ≤ most_cells → ¬ Holds template → (other : Answer) → IsDue (Some input) after rose other
          → IsOrStopped No other
      no_alone few fails Yes due = absurd (fails (decides Yes due.found.1).1)
      no_alone few fails No due = inl refl
      no_alone few fails (UnknownCarrier cells) due =
          let many = decides (UnknownCarrier cells) due.found.1 in absurd (omega (arith, many.0, many.1, few))
      no_alone few fails (BadTemplate line) due = absurd (text_not_faulty no_fault template text line due.found.1)
      no_alone few fails ReadFault due = inr (inl refl)
      no_alone few fails OutOfMemory due = inr (inr refl)
      no_alone few fails TooLong due = absurd (omega (arith, due, short))

      pub many_alone : most_cells < cells_of template → (other : Answer) → IsDue (Some input) after rose other
          → IsOrStopped (UnknownCarrier (cells_of template)) other
      many_alone many Yes due = let few = decides Yes due.found.1 in absurd (omega (arith, few.0, many))
      many_alone many No due = let few = decides No due.found.1 in absurd (omega (arith, few.0, many))
      many_alone many (UnknownCarrier cells) due =
          inl (ap (λ (n : ℕ). UnknownCarrier n) (decides (UnknownCarrier cells) due.found.1).0)
      many_alone many (BadTemplate line) due = absurd (text_not_faulty no_fault template text line due.found.1)
      many_alone many ReadFault due = inr (inl refl)
      many_alone many OutOfMemory due = inr (inr refl)
      many_alone many TooLong due = absurd (omega (arith, due, short))

    pub line_alone : TextHasNoFault → HasOneFaultyLine → (line : ℕ) → length input ≤ most_bytes
        → IsFaultyLine AreTemplateLines input line → (other : Answer) → IsDue (Some input) after rose other
        → IsOrStopped (BadTemplate line) other
    line_alone no_fault one_fault line short fault Yes due =
        let is : IsDecided input Yes = due.found.1 in absurd (text_not_faulty no_fault is.template is.text line fault)
    line_alone no_fault one_fault line short fault No due =
        let is : IsDecided input No = due.found.1 in absurd (text_not_faulty no_fault is.template is.text line fault)
    line_alone no_fault one_fault line short fault (UnknownCarrier cells) due =
        let is : IsDecided input (UnknownCarrier cells) = due.found.1 in
        absurd (text_not_faulty no_fault is.template is.text line fault)
    line_alone no_fault one_fault line short fault (BadTemplate other) due =
        inl (ap (λ (n : ℕ). BadTemplate n) (one_fault input other line due.found.1 fault))
    line_alone no_fault one_fault line short fault ReadFault due = inr (inl refl)
    line_alone no_fault one_fault line short fault OutOfMemory due = inr (inr refl)
    line_alone no_fault one_fault line short fault TooLong due = absurd (omega (arith, due, short))

    pub long_alone : most_bytes < length input → (other : Answer) → IsDue (Some input) after rose other → IsOrStopped TooLong other
    long_alone long Yes due = absurd (omega (arith, due.found.0, long))
    long_alone long No due = absurd (omega (arith, due.found.0, long))
    long_alone long (UnknownCarrier cells) due = absurd (omega (arith, due.found.0, long))
    long_alone long (BadTemplate line) due = absurd (omega (arith, due.found.0, long))
    long_alone long ReadFault due = inr (inl refl)
    long_alone long OutOfMemory due = inr (inr refl)
    long_alone long TooLong due = inl refl
