use Rattle.hx_lex.specs.Words.{mask_word, IsSet}
use Rattle.hx_lex.proofs.HighBytes.{IsHigh-hex}
use Rattle.hx_lex.proofs.KeyedLines.{keyword-missing, keyed-read}
use Rattle.hx_lex.proofs.keyed.keyed_mask.Goals as goal

pub returns-in_err-keyword : goal.returns-in_err-keyword
returns-in_err-keyword c =
    rw c.from_residual.ensures (keyword-missing mask_word IsSet (IsHigh-hex 32) c.requires c.of-words.ensures c.in_err-keyword.ensures.takes)

pub returns : goal.returns
returns c =
    keyed-read mask_word IsSet (IsHigh-hex 32) c.args.line.now c.mask-set.result c.whole.result c.requires c.of-words.ensures c.in_ok-keyword.ensures.takes.1
    c.mask-set.ensures c.whole.ensures.ended c.whole.ensures.left
