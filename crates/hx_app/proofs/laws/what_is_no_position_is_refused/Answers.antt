use Rattle.hx_app.proofs.Refusals.{no_position_refused}
use Rattle.hx_app.proofs.laws.what_is_no_position_is_refused.Goals as goal

pub returns : goal.returns
returns c = λ settings plain_tree source source_now sink sink_now finish kept.
    no_position_refused settings plain_tree source.left sink.taken sink_now.taken finish kept.answers kept.none_else
