use Rattle.std.proofs.Common.{rules, [], ◌∷◌}
use Rattle.std.specs.Prelude.{codes}
use Rattle.hx_text.specs.Spelling.{parts_text}
use Rattle.hx_text.proofs.Pieces.{first_cut_short, second_cut_short, three_spelled}
use Rattle.hx_text.proofs.Spelled.{or_spelled}
use Rattle.hx_text.proofs.writer.write_or.Goals as goal

pub returns-in_err-write_bytes : goal.returns-in_err-write_bytes
returns-in_err-write_bytes g c = record {
  bytes =
      rw or_spelled
      (first_cut_short _ _ _ _ (codes "or") (parts_text c.args.parts.now)
      (10 ∷ []) _ c.from_residual.ensures.0 c.in_err-write_bytes.ensures.bytes);
  cause = search rules;
}

pub returns-in_err-write_parts : goal.returns-in_err-write_parts
returns-in_err-write_parts g c = record {
  bytes =
      rw or_spelled
      (second_cut_short _ _ _ _ _ _ (codes "or") (parts_text c.args.parts.now) (10 ∷ []) _ c.from_residual-in_err-write_parts.ensures.0
      c.in_ok-write_bytes.ensures.bytes c.in_err-write_parts.ensures.bytes);
  cause = search rules;
}

pub returns : goal.returns
returns g c = record {
  bytes =
      rw or_spelled
      (three_spelled _ _ _ _ _ _ _ _ (codes "or") (parts_text c.args.parts.now) (10 ∷ []) _ c.in_ok-write_bytes.ensures.bytes
      c.in_ok-write_parts.ensures.bytes c.write_bytes-2.ensures.bytes);
  cause = search rules;
}
