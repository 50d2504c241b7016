use Rattle.hx_board.specs.Positions.{IsEmpty}
use Rattle.hx_tree.specs.Trees.{headings_of}
use Rattle.hx_nodes.specs.Lines.{wins_next}
use Rattle.hx_linkset.proofs.LiveThreats.{threats-live}
use Rattle.hx_nodes.proofs.AllNodes.{all_right, gathered-children}
use Rattle.hx_nodes.proofs.answers.store_answers.Goals as goal

pub derivation-requires : goal.derivation-requires
derivation-requires g c = rw c.items-2.ensures (threats-live c.args.set.now c.args.found.threats c.requires.must.live)

pub store-requires-clause-right : goal.store-requires-clause-right
store-requires-clause-right g c =
    let derived = rw c.items-2.ensures at c.in_ok-steps.ensures in
    let empty : IsEmpty c.position.result.now c.in-Some._some = (c.empties.ensures c.in-Some._some).0 c.in-Some.ensures.member in
    let lines = rw c.in-Some-lines.is at c.in_ok-lines.ensures.lines in
    rw (c.other.ensures, c.new.ensures, c.position.ensures, c.colour-winner.ensures)
    (all_right c.args.set.now c.keeps.ensures.right _ _ _ c.requires.must _ _ derived
    (headings_of (g.P.Proofs.sight c.lines_for.new.proofs).list) c.in-Some-lines.lines
    c.in-Some._some (rw c.position.ensures at empty) c.keeps.ensures.few
    (rw (c.position.ensures, c.colour-winner.ensures, c.items.ensures) at lines))

pub store-requires-clause-plain : goal.store-requires-clause-plain
store-requires-clause-plain g c = λ plain.
    let lines = rw c.in-Some-lines.is at c.in_ok-lines.ensures.lines in
    gathered-children (headings_of (g.P.Proofs.sight c.lines_for.new.proofs).list) (wins_next c.position.result.now c.colour-winner.result)
    c.in-Some-lines.lines (rw (c.items.ensures, c.requires.no_lines plain) at lines.each)
