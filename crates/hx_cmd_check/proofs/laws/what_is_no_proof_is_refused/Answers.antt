use Rattle.hx_cmd_check.proofs.Refusals.{no_proof_refused}
use Rattle.hx_cmd_check.proofs.laws.what_is_no_proof_is_refused.Goals as goal

pub returns : goal.returns
returns c = λ source source_now sink sink_now status kept.
    no_proof_refused source.left sink.taken sink_now.taken status kept.answers kept.none_else
