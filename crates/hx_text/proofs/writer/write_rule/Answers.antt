use Rattle.std.proofs.Common.{rules}
use Rattle.hx_text.proofs.Spelled.{step_lines_spelled, fill_lines_spelled}
use Rattle.hx_text.proofs.writer.write_rule.Goals as goal

pub returns-in-Links : goal.returns-in-Links
returns-in-Links g c = record {
  bytes = rw (c.in-Links.is, step_lines_spelled, ← c.items.ensures) c.write_each.ensures.bytes;
  cause = search rules;
}

pub returns-in-Fill : goal.returns-in-Fill
returns-in-Fill g c = record {
  bytes = rw (c.in-Fill.is, fill_lines_spelled, ← c.items-in-Fill.ensures) c.write_each-in-Fill.ensures.bytes;
  cause = search rules;
}
