use Rattle.std.proofs.Common.{ap, ◌∙◌, ◌++◌, ◌∷◌, [], List, ℕ}
use Rattle.hx_parse.proofs.Steps.{title_wrong}
use Rattle.hx_parse.proofs.advances.at_title.Goals as goal

pub returns-in-Some : goal.returns-in-Some
returns-in-Some c =
    λ nodes lines stands. (
      (λ e. cc),
      (
        stands.0,
        ap (λ (ls : List (List ℕ)). ls ++ c.args.line.now ∷ []) stands.1 ∙ ap (λ (l : List ℕ). l ∷ []) c.in-Some.ensures.1,
      ),
    )

pub returns-in-None : goal.returns-in-None
returns-in-None c = λ nodes lines stands. title_wrong nodes lines _ stands.1 (λ version e. c.in-None.ensures version tt e)
