use Rattle.std.proofs.Common.{rules}
use Rattle.std.proofs.lemmas.Result.{MatchResult-from_err}
use Rattle.hx_text.proofs.Pieces.{IsOut-end}
use Rattle.hx_text.proofs.Spelled.{node_spelled}
use Rattle.hx_text.proofs.writer.write_node.Goals as goal

pub returns-in_err-write_rule : goal.returns-in_err-write_rule
returns-in_err-write_rule g c = record {
  bytes =
      rw (← node_spelled _ _ c.args.node.now c.new-text.ensures c.put_head.ensures)
      (MatchResult-from_err _ _ _ c.from_residual.ensures.0 (λ _. c.in_err-write_rule.ensures.bytes));
  cause = search rules;
}

pub returns : goal.returns
returns g c = record {
  bytes =
      rw (← node_spelled _ _ c.args.node.now c.new-text.ensures c.put_head.ensures)
      (IsOut-end _ _ _ _ _ _ c.in_ok-write_rule.ensures.bytes (rw (← c.bytes.ensures) c.write_all.ensures.bytes));
  cause = search rules;
}
