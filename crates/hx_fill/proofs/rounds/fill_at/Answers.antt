use Rattle.std.proofs.Common.{refl, sym, ◌∙◌}
use Rattle.std.proofs.lemmas.Bool.{false≢true}
use Rattle.hx_inferior.proofs.PairLaws.{pair-b_empty, pair-differ}
use Rattle.hx_fill.specs.Rounds.{Leaves}
use Rattle.hx_fill.proofs.GrowthLaws.{empty_then, dead_grown, pair_grown}
use Rattle.hx_fill.proofs.RoundLaws.{empties-dead, empties-pair, fills_dead, fills_pair}
use Rattle.hx_fill.proofs.rounds.fill_at.Goals as goal

pub makers_of-makers-requires-clause-empty : goal.makers_of-makers-requires-clause-empty
makers_of-makers-requires-clause-empty c =
    empty_then c.args.view.now.board c.args.filled.now.position c.requires.grown c.args.cell
    ((c.requires.empties c.args.cell).0 c.requires.empty)

pub makers_of-makers-requires-clause-among : goal.makers_of-makers-requires-clause-among
makers_of-makers-requires-clause-among c = λ n h.
    empty_then c.args.view.now.board c.args.filled.now.position c.requires.grown n ((c.requires.empties n).0 h)

pub add-requires : goal.add-requires
add-requires c =
    let makers = rw c.requires.colour at c.makers_of-makers.ensures in
    let empty = (c.requires.empties c.args.cell).0 c.requires.empty in
    dead_grown c.args.view.now.board c.args.filled.now.position c.requires.grown c.args.colour c.args.cell empty
    (makers.dead.0 c.if-makers.true)

pub returns-then-makers-clause-looks : goal.returns-then-makers-clause-looks
returns-then-makers-clause-looks c =
    let makers = rw c.requires.colour at c.makers_of-makers.ensures in
    let empty = (c.requires.empties c.args.cell).0 c.requires.empty in
    let dead = dead_grown c.args.view.now.board c.args.filled.now.position c.requires.grown c.args.colour c.args.cell empty
    (makers.dead.0 c.if-makers.true) in
    fills_dead c.args.view.now.board c.args.filled.now.position _ c.args.colour c.args.cell _ _ dead c.in_ok-add.ensures

pub returns-then-makers-clause-empties : goal.returns-then-makers-clause-empties
returns-then-makers-clause-empties c =
    rw c.without.ensures.set
    (empties-dead c.args.filled.now.position _ c.args.colour c.args.cell c.args.empties _ _ c.requires.empties c.in_ok-add.ensures)

pub partner_of-requires-clause-empty : goal.partner_of-requires-clause-empty
partner_of-requires-clause-empty c =
    empty_then c.args.view.now.board c.args.filled.now.position c.requires.grown c.args.cell
    ((c.requires.empties c.args.cell).0 c.requires.empty)

pub add-requires-in-Some : goal.add-requires-in-Some
add-requires-in-Some c =
    let makers = rw c.requires.colour at c.makers_of-makers.ensures in
    let partner = rw c.requires.colour at c.in-Some.ensures in
    let empty = (c.requires.empties c.args.cell).0 c.requires.empty in
    let other_empty = (c.requires.empties c.in-Some.partner).0 ((makers.cells c.in-Some.partner).0 partner.0).0 in
    pair_grown c.args.view.now.board c.args.filled.now.position c.requires.grown c.args.colour c.args.cell c.in-Some.partner empty
    other_empty partner.1

pub returns-in_ok-add-in-Some-clause-looks : goal.returns-in_ok-add-in-Some-clause-looks
returns-in_ok-add-in-Some-clause-looks c =
    let makers = rw c.requires.colour at c.makers_of-makers.ensures in
    let partner = rw c.requires.colour at c.in-Some.ensures in
    let empty = (c.requires.empties c.args.cell).0 c.requires.empty in
    let other_empty = (c.requires.empties c.in-Some.partner).0 ((makers.cells c.in-Some.partner).0 partner.0).0 in
    let pair = pair_grown c.args.view.now.board c.args.filled.now.position c.requires.grown c.args.colour c.args.cell c.in-Some.partner
    empty other_empty partner.1 in
    fills_pair c.args.view.now.board c.args.filled.now.position _ c.args.colour c.args.cell c.in-Some.partner _ _ pair
    c.in_ok-add-in-Some.ensures

pub returns-in_ok-add-in-Some-clause-empties : goal.returns-in_ok-add-in-Some-clause-empties
returns-in_ok-add-in-Some-clause-empties c =
    rw (c.without-in-Some-2.ensures.set, c.without-in-Some.ensures.set)
    (empties-pair c.args.filled.now.position _ c.args.colour c.args.cell c.in-Some.partner c.args.empties _ _ c.requires.empties
    c.in_ok-add-in-Some.ensures)

pub returns-in-None-clause-looks : goal.returns-in-None-clause-looks
returns-in-None-clause-looks c =
    let makers = rw c.requires.colour at c.makers_of-makers.ensures in
    let none = rw c.requires.colour at c.in-None.ensures in
    Leaves refl refl (record {
      not_dead = λ dead. false≢true (sym c.if-makers.false ∙ makers.dead.1 dead);
      no_pair = λ other empty pair. none other (
        (makers.cells other).1 (
          (c.requires.empties other).1 empty,
          record {
            empty = pair-b_empty c.args.view.now.board c.args.colour c.args.cell other pair;
            differ = λ e. pair-differ c.args.view.now.board c.args.colour c.args.cell other pair (sym e);
            dead = pair.a_dead;
          },
        ),
        pair,
      );
    })
