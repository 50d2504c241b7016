use Rattle.std.proofs.Common.{◌≡◌, ◌<◌, ◌+◌, ◌-◌, ◌++◌, ◌∷◌, [], ℕ, List, length, take, ap, ◌∙◌, subst, arith}
use Rattle.hx_board.proofs.ListLaws.{take-read}
use Rattle.hx_link.specs.declared.links.Link.{Link}
use Rattle.hx_linkset.specs.Fulls.{AreFullLists}
use Rattle.hx_linkset.proofs.passes.cut_fulls.Goals as goal

pub loop-left-preserved : goal.loop-left-preserved
loop-left-preserved c =
    let place : ℕ = c.loop-left.left - 1 in
    let less : place < length c.args.links.now = omega (arith, c.loop-left.invariant.most) in
    let one : c.loop-left.left ≡ place + 1 = omega arith in
    let front : take c.loop-left.left c.args.links.now ≡ take place c.args.links.now ++ c.index-links-left.result ∷ [] =
    ap (λ n. take n c.args.links.now) one ∙ take-read c.args.links.now place c.index-links-left.result less c.index-links-left.is in
    let P : List Link → Type 0 = λ links. AreFullLists links c.loop-left.fulls in
    record {
      least = omega arith;
      most = omega (arith, c.loop-left.invariant.most);
      lists = c.cut.ensures (take place c.args.links.now) (subst P front c.loop-left.invariant.lists);
    }

pub returns : goal.returns
returns c =
    let here : c.loop-left.left ≡ c.args.kept = omega (arith, c.loop-left.invariant.least) in
    let P : ℕ → Type 0 = λ n. AreFullLists (take n c.args.links.now) c.loop-left.fulls in
    subst P here c.loop-left.invariant.lists
