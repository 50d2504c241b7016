-- A mask that comes first stands in the first 32 bytes.
use Rattle.std.proofs.Common.{◌≡◌, ℕ, List, ◌∷◌, Bool, take, arith, sym, ap, ◌∙◌}
use Rattle.hx_lex.specs.Words.{hex, words_left}
use Rattle.hx_lex.proofs.HighBytes.{Lacks-high, IsHigh-hex}
use Rattle.hx_lex.proofs.Masks.{length-hex}
use Rattle.hx_lex.proofs.Keywords.{front_is_first, first_fits}
use Rattle.hx_lex.proofs.words.Words.mask.Goals as goal

front : (more : Bool) (bytes word : List ℕ) (value : ℕ) (words : List (List ℕ)) → word ≡ take 32 bytes
    → words_left more bytes ≡ hex 32 value ∷ words
    → word ≡ hex 32 value
front more bytes word value words is e =
    is ∙ ap (λ (k : ℕ). take k bytes) (sym (length-hex 32 value)) ∙ front_is_first more bytes (hex 32 value) words e

pub returns-in_default : goal.returns-in_default
returns-in_default c = λ value words small e.
    absurd (omega (
      arith,
      c.in_default.ensures.cases,
      length-hex 32 value,
      first_fits c.self.inside.more c.self.inside.rest.now (hex 32 value) words (c.self.view_is ∙ e),
    ))

pub returns-in_default-mask : goal.returns-in_default-mask
returns-in_default-mask c = λ value words small e.
    c.in_default-mask.ensures value small
    (front c.self.inside.more c.self.inside.rest.now c.in-Some.word.now value words c.in-Some.ensures.cases.1 (c.self.view_is ∙ e))

pub keyword-requires : goal.keyword-requires
keyword-requires c = rw c.in-Some-mask.ensures.1
    (Lacks-high 32 (hex 32 c.in-Some-mask.mask) (omega arith) (IsHigh-hex 32 c.in-Some-mask.mask))

pub returns-in-None : goal.returns-in-None
returns-in-None c = λ value words small e.
    c.in-None.ensures.takes tt words tt
    (e ∙ ap (λ (word : List ℕ). word ∷ words)
    (sym (front c.self.inside.more c.self.inside.rest.now c.in-Some.word.now value words c.in-Some.ensures.cases.1 (c.self.view_is ∙ e))))
