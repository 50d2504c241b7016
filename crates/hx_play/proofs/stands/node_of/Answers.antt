use Rattle.std.proofs.Common.{◌≡◌, sym, subst}
use Rattle.hx_tree.specs.declared.nodes.Node.{Node}
use Rattle.hx_play.specs.Standings.{IsIn, FitsStage}
use Rattle.hx_play.proofs.StandLaws.{read-is}
use Rattle.hx_play.proofs.stands.node_of.Goals as goal

pub returns-clause-is_in : goal.returns-clause-is_in
returns-clause-is_in c =
    let same : c.index-nodes-stand.result ≡ c.requires.node =
    read-is c.args.nodes.now c.args.stand.now.node c.requires.node c.index-nodes-stand.result c.requires.is_in.there
    c.index-nodes-stand.is in
    let P : Node → Type 0 = λ n. IsIn c.args.nodes.now c.args.stand.now n in
    subst P (sym same) c.requires.is_in

pub returns-clause-stage : goal.returns-clause-stage
returns-clause-stage c =
    let same : c.index-nodes-stand.result ≡ c.requires.node =
    read-is c.args.nodes.now c.args.stand.now.node c.requires.node c.index-nodes-stand.result c.requires.is_in.there
    c.index-nodes-stand.is in
    let P : Node → Type 0 = λ n. FitsStage n c.args.stand.now c.args.stand.now.stage in
    subst P (sym same) c.requires.fits
