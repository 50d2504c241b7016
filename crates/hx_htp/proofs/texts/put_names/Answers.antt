use Rattle.std.proofs.Common.{◌∷◌, [], arith}
use Rattle.hx_htp.specs.declared.names.Name.TheVariants.{ProtocolVersion}
use Rattle.hx_htp.proofs.NameLaws.{put_name}
use Rattle.hx_htp.proofs.TextLaws.{put_length}
use Rattle.hx_htp.proofs.texts.put_names.Goals as goal

pub loop-name-preserved : goal.loop-name-preserved
loop-name-preserved c = record {
  text = put_name _ _ _ _ _ ProtocolVersion _ _ _ c.loop-name.invariant.text c.put-in-loop-name.ensures c.put-in-loop-name-2.ensures
      c.loop-name-test.true
      c.word-in-loop-name.ensures.word;
  short = omega (
    arith,
    c.loop-name.invariant.short,
    put_length c.loop-name.text c.put-in-loop-name.new.self (10 ∷ []) c.put-in-loop-name.ensures,
    put_length c.put-in-loop-name.new.self c.put-in-loop-name-2.new.self c.word-in-loop-name.result.now c.put-in-loop-name-2.ensures,
    c.word-in-loop-name.ensures.short,
  );
}
