use Rattle.std.proofs.Common.{◌≡◌, List, ℕ, ◌∷◌, ◌∙◌}
use Rattle.hx_board.specs.declared.colours.Colour.{Colour}
use Rattle.hx_board.specs.declared.colours.Colour.TheVariants.{Black, White}
use Rattle.hx_lex.specs.Words.{colour_word}
use Rattle.hx_lex.proofs.words.Words.colour.Goals as goal

-- a word that is neither is no colour's
neither : (words : List (List ℕ)) → ((rest : List (List ℕ)) → words ≡ colour_word Black ∷ rest → ⊥)
    → ((rest : List (List ℕ)) → words ≡ colour_word White ∷ rest → ⊥) → (colour : Colour) (rest : List (List ℕ))
    → words ≡ colour_word colour ∷ rest → ⊥
neither words black white Black rest e = black rest e
neither words black white White rest e = white rest e

pub returns-in-None-keyword : goal.returns-in-None-keyword
returns-in-None-keyword c = λ colour rest u e.
    neither c.args.self.now (λ words same. c.in-None.ensures.takes tt words tt same)
    (λ words same. c.in-None-keyword.ensures.takes tt words tt (c.in-None.ensures.same ∙ same)) colour rest e
