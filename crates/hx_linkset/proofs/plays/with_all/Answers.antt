use Rattle.std.proofs.Common.{sym, ap, ◌∙◌, subst, arith}
use Rattle.std.proofs.lemmas.List.{take_all}
use Rattle.hx_board.specs.Positions.{Board, IsEmpty, put}
use Rattle.hx_linkset.specs.States.{put_all}
use Rattle.hx_linkset.proofs.StonesLaws.{next-empty, next-put}
use Rattle.hx_linkset.proofs.plays.with_all.Goals as goal

pub play-requires : goal.play-requires
play-requires c = let P : Board → Type 0 = λ b. IsEmpty b c.stone-item.result.1 in
    subst P (sym c.loop-stone.invariant)
    (next-empty c.args.position.now c.args.stones.now c.loop-stone.stone-index c.stone-item.result c.requires c.loop-stone-test.true
    c.stone-item.is)

pub loop-stone-preserved : goal.loop-stone-preserved
loop-stone-preserved c =
    c.play.ensures ∙ (ap (λ (b : Board). put b c.stone-item.result.0 c.stone-item.result.1) c.loop-stone.invariant
    ∙ sym (next-put c.args.position.now c.args.stones.now c.loop-stone.stone-index c.stone-item.result c.loop-stone-test.true
    c.stone-item.is))

pub returns : goal.returns
returns c = c.loop-stone.invariant ∙ ap (put_all c.args.position.now) (take_all c.loop-stone.stone-index c.args.stones.now (omega arith))
