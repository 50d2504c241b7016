use Rattle.std.proofs.Common.{rules, ◌≡◌}
use Rattle.hx_board.specs.Colours.{other_of}
use Rattle.hx_board.specs.Positions.{put}
use Rattle.hx_tree.specs.Entries.{IsFirstFound}
use Rattle.hx_nodes.proofs.CellLines.{line_by_better, line_by_child}
use Rattle.hx_nodes.proofs.FoundEntries.{found-heading}
use Rattle.hx_nodes.proofs.lines.line_for.Goals as goal

pub returns-in-Some-clause-line : goal.returns-in-Some-clause-line
returns-in-Some-clause-line g c = line_by_better _ _ _ _ _ c.requires.under c.in-Some.ensures.0 c.in-Some.ensures.1

pub returns-clause-line : goal.returns-clause-line
returns-clause-line g c =
    let next : c.with-next.result ≡ put c.args.position.now (other_of c.args.winner) c.args.cell = search rules in
    let is : IsFirstFound (g.P.Proofs.sight c.look.new.self).list c.with-next.result c.args.winner c.in-Some-look.found =
    c.in-Some-look.ensures.found in
    let same : c.in-Some-look.found.winner ≡ c.args.winner = search rules in
    line_by_child _ _ _ _ _ (rw same at (found-heading _ _ _ _ (rw next at is)))
