use Rattle.std.proofs.Common.{◌≡◌, ◌*◌, ◌-◌, ◌/◌, ◌^◌, ◌++◌}
use Rattle.hx_lex.specs.Words.{hex}
use Rattle.hx_lex.proofs.texts.Text.put_mask.Given as goal

abbrev pub invariant-loop-place : goal.invariant-loop-place
invariant-loop-place l = l.self ≡ l.initial.self ++ hex (32 - l.place) (l.bits / 2 ^ (4 * l.place))
