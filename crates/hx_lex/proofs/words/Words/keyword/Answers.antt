use Rattle.std.proofs.Common.{◌≡◌, ℕ, List, ◌∷◌, ◌++◌, sym, ap, ◌∙◌}
use Rattle.hx_lex.proofs.Keywords.{prefix_parts, no_prefix, prefix_alone, prefix_then, prefix_goes_on, words_left-some_more}
use Rattle.hx_lex.proofs.words.Words.keyword.Goals as goal

pub returns-in_err-after-clause-takes : goal.returns-in_err-after-clause-takes
returns-in_err-after-clause-takes c =
    rw c.from_residual.ensures
    (λ u words v e. no_prefix 32 c.self.inside.rest.now c.args.expected.now words c.in_err-after.ensures.cases
    (sym (words_left-some_more _ _ c.if-not-self.false) ∙ c.self.view_is ∙ e))

pub returns-then-mark-ne32-clause-takes : goal.returns-then-mark-ne32-clause-takes
returns-then-mark-ne32-clause-takes c = λ u words v e.
    let found = c.in_ok-after.ensures.cases in
    let parts : c.self.inside.rest.now ≡ c.args.expected.now ++ c.in_ok-after.after.now = prefix_parts _ _ _ found.0 found.1 in
    prefix_goes_on 32 c.in-Some.mark.now c.self.inside.rest.now c.args.expected.now c.in-Some.later.now words c.if-mark-ne32.true
    (parts ∙ ap (λ (t : List ℕ). c.args.expected.now ++ t) c.in-Some.ensures.cases.0)
    (sym (words_left-some_more _ _ c.if-not-self.false) ∙ c.self.view_is ∙ e)

pub returns-in-None-clause-takes : goal.returns-in-None-clause-takes
returns-in-None-clause-takes c =
    let found = c.in_ok-after.ensures.cases in (
      tt,
      sym c.self.view_is ∙ words_left-some_more _ _ c.if-not-self.false
          ∙ prefix_alone 32 c.self.inside.rest.now c.args.expected.now c.in_ok-after.after.now c.requires
          (prefix_parts _ _ _ found.0 found.1) c.in-None.ensures.cases,
    )

pub returns-else-mark-ne32-clause-takes : goal.returns-else-mark-ne32-clause-takes
returns-else-mark-ne32-clause-takes c =
    let found = c.in_ok-after.ensures.cases in
    let parts : c.self.inside.rest.now ≡ c.args.expected.now ++ c.in_ok-after.after.now = prefix_parts _ _ _ found.0 found.1 in
    let next : c.in_ok-after.after.now ≡ 32 ∷ c.in-Some.later.now =
    c.in-Some.ensures.cases.0 ∙ ap (λ (mark : ℕ). mark ∷ c.in-Some.later.now) c.if-mark-ne32.false in (
      tt,
      sym c.self.view_is ∙ words_left-some_more _ _ c.if-not-self.false
          ∙ prefix_then 32 c.self.inside.rest.now c.args.expected.now c.in-Some.later.now c.requires
          (parts ∙ ap (λ (t : List ℕ). c.args.expected.now ++ t) next)
          ∙ ap (λ (words : List (List ℕ)). c.args.expected.now ∷ words)
          (sym (words_left-some_more _ c.in-Some.later.now c.if-not-self.false)),
    )
