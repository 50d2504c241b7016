use Rattle.std.proofs.Common.{◌∙◌, ◌+◌, ◌++◌, ◌∷◌, [], ap, arith}
use Rattle.hx_htp.proofs.TextLaws.{front_begun, put_next, put_length}
use Rattle.hx_htp.proofs.texts.put_columns.Goals as goal

pub loop-col-init : goal.loop-col-init
loop-col-init c = record {
  text = c.put.ensures ∙ ap (λ xs. c.args.text.now ++ xs) (front_begun (32 ∷ []) (λ col. 32 ∷ (97 + col) ∷ []));
  short = omega (arith, put_length c.args.text.now c.put.new.self (32 ∷ []) c.put.ensures);
}

pub loop-col-preserved : goal.loop-col-preserved
loop-col-preserved c = record {
  text = put_next _ (32 ∷ []) _ _ _ (λ col. 32 ∷ (97 + col) ∷ []) c.loop-col.invariant.text c.put-in-loop-col.ensures;
  short = omega (
    arith,
    c.loop-col.invariant.short,
    put_length c.loop-col.text c.put-in-loop-col.new.self (32 ∷ (97 + c.loop-col.col) ∷ []) c.put-in-loop-col.ensures,
  );
}
