use Rattle.std.proofs.Common.{sym, ap, ◌∙◌, subst}
use Rattle.std.proofs.lemmas.Bool.{false≢true}
use Rattle.hx_board.specs.Positions.{Board, IsEmpty, put}
use Rattle.hx_linkset.proofs.StonesLaws.{next-empty, next-put, next-can}
use Rattle.hx_linkset.proofs.plays.can_put.Goals as goal

pub returns-then-not-is_empty : goal.returns-then-not-is_empty
returns-then-not-is_empty c = (
  λ no. absurd (false≢true no),
  λ can. let P : Board → Type 0 = λ b. IsEmpty b c.stone-item.result.1 in
      let e : IsEmpty c.loop-stone.so_far c.stone-item.result.1 =
      subst P (sym c.loop-stone.invariant.so_far_is)
      (next-empty c.args.position.now c.args.stones.now c.loop-stone.stone-index c.stone-item.result can c.loop-stone-test.true
      c.stone-item.is) in
      absurd (false≢true (sym c.if-not-is_empty.true ∙ (c.has-is_empty.ensures ∙ (c.empties.ensures c.stone-item.result.1).1 e))),
)

pub play-requires : goal.play-requires
play-requires c = (c.empties.ensures c.stone-item.result.1).0 (sym c.has-is_empty.ensures ∙ c.if-not-is_empty.false)

pub loop-stone-preserved : goal.loop-stone-preserved
loop-stone-preserved c =
    let P : Board → Type 0 = λ b. IsEmpty b c.stone-item.result.1 in
    let e : IsEmpty c.loop-stone.so_far c.stone-item.result.1 =
    (c.empties.ensures c.stone-item.result.1).0 (sym c.has-is_empty.ensures ∙ c.if-not-is_empty.false) in
    record {
      can = next-can c.args.position.now c.args.stones.now c.loop-stone.stone-index c.stone-item.result c.loop-stone-test.true
          c.stone-item.is c.loop-stone.invariant.can (subst P c.loop-stone.invariant.so_far_is e);
      so_far_is = c.play.ensures ∙ (ap (λ (b : Board). put b c.stone-item.result.0 c.stone-item.result.1) c.loop-stone.invariant.so_far_is
          ∙ sym (next-put c.args.position.now c.args.stones.now c.loop-stone.stone-index c.stone-item.result c.loop-stone-test.true
          c.stone-item.is));
    }
