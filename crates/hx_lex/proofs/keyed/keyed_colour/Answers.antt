use Rattle.hx_lex.specs.Words.{colour_word}
use Rattle.hx_lex.proofs.HighBytes.{IsHigh-colour_word}
use Rattle.hx_lex.proofs.KeyedLines.{keyword-missing, keyed-read}
use Rattle.hx_lex.proofs.keyed.keyed_colour.Goals as goal

pub returns-in_err-keyword : goal.returns-in_err-keyword
returns-in_err-keyword c =
    rw c.from_residual.ensures (keyword-missing colour_word (λ _. Unit {0}) IsHigh-colour_word c.requires c.of-words.ensures c.in_err-keyword.ensures.takes)

pub returns : goal.returns
returns c =
    keyed-read colour_word (λ _. Unit {0}) IsHigh-colour_word c.args.line.now c.colour-player.result c.whole.result c.requires c.of-words.ensures c.in_ok-keyword.ensures.takes.1
    c.colour-player.ensures c.whole.ensures.ended c.whole.ensures.left
