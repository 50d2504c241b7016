use Rattle.std.proofs.Common.{rules}
use Rattle.hx_text.specs.StepTexts.{threat_line}
use Rattle.hx_text.specs.Entries.{answer_line}
use Rattle.hx_text.specs.Spelling.{each_line}
use Rattle.hx_text.proofs.Pieces.{first_cut_short, second_cut_short, three_spelled}
use Rattle.hx_text.proofs.Spelled.{entries_spelled}
use Rattle.hx_text.proofs.writer.write_entries.Goals as goal

pub returns-in_err-write_each : goal.returns-in_err-write_each
returns-in_err-write_each g c = record {
  bytes =
      rw entries_spelled
      (first_cut_short _ _ _ _ _ (each_line threat_line c.args.threats.now)
      (each_line answer_line c.args.lines.now) _ c.from_residual.ensures.0
      c.in_err-write_each.ensures.bytes);
  cause = search rules;
}

pub returns-in_err-write_threats : goal.returns-in_err-write_threats
returns-in_err-write_threats g c = record {
  bytes =
      rw entries_spelled
      (second_cut_short _ _ _ _ _ _ _ _ _ _ c.from_residual-in_err-write_threats.ensures.0 c.in_ok-write_each.ensures.bytes
      c.in_err-write_threats.ensures.bytes);
  cause = search rules;
}

pub returns : goal.returns
returns g c = record {
  bytes =
      rw entries_spelled
      (three_spelled _ _ _ _ _ _ _ _ _ _ _ _ c.in_ok-write_each.ensures.bytes c.in_ok-write_threats.ensures.bytes
      c.write_each-2.ensures.bytes);
  cause = search rules;
}
