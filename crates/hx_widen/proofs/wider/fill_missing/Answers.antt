use Rattle.std.proofs.Common.{rules, ◌≡◌, Bool, true, false, length, sym, ◌∙◌, subst}
use Rattle.hx_board.specs.Positions.{Board}
use Rattle.hx_tree.specs.Entries.{IsEntry}
use Rattle.hx_book.specs.WiderEntry.{IsWiderFound}
use Rattle.hx_widen.proofs.MissingStones.{wider_missing, no_step}
use Rattle.hx_book.proofs.OwnEntries.{own-entry}
use Rattle.hx_widen.proofs.KnownEntries.{wider-own_entry}
use Rattle.hx_widen.proofs.wider.fill_missing.Goals as goal

pub returns-then-plain-clause-stored : goal.returns-then-plain-clause-stored
returns-then-plain-clause-stored g c =
    let wider = c.args.wider.now in
    let plain : g.P.Proofs.is_plain ≡ true = sym c.plain.ensures ∙ c.if-plain.true in
    let found : IsWiderFound true (g.P.Proofs.sight c.args.proofs.now).list c.args.position.now c.args.to_move wider.found.winner wider =
    subst (λ (kind : Bool). IsWiderFound kind (g.P.Proofs.sight c.args.proofs.now).list c.args.position.now c.args.to_move
    wider.found.winner wider) plain c.requires in
    (wider.found.index, own-entry _ _ _ _ wider.found.index found.entry)

pub returns-then-is_empty-clause-stored : goal.returns-then-is_empty-clause-stored
returns-then-is_empty-clause-stored g c =
    let list = (g.P.Proofs.sight c.args.proofs.now).list in
    let board = c.args.position.now in
    let wider = c.args.wider.now in
    let ordinary : g.P.Proofs.is_plain ≡ false = sym c.plain.ensures ∙ c.if-plain.false in
    let found : IsWiderFound false list c.args.position.now c.args.to_move c.args.wider.now.found.winner c.args.wider.now =
    subst (λ (kind : Bool). IsWiderFound kind list c.args.position.now c.args.to_move c.args.wider.now.found.winner c.args.wider.now)
    ordinary c.requires in
    let whole = wider_missing list board c.args.to_move wider found c.size-size.ensures.valid _ _ c.empties.ensures
    c.empties-2.ensures in
    let lead = rw (c.minus-missing.ensures.set, whole) at c.in_ok-steps.ensures in
    let none : length c.in_ok-steps.steps.items ≡ 0 = search rules in (
      wider.found.index,
      subst (λ (b : Board). IsEntry list b c.args.to_move wider.found.index)
          (sym (no_step board wider.found.winner c.in_ok-steps.steps.items wider.position lead none))
          (wider-own_entry list board c.args.to_move wider found),
    )

pub unreachable-requires : goal.unreachable-requires
unreachable-requires g c =
    let list = (g.P.Proofs.sight c.args.proofs.now).list in
    let ordinary : g.P.Proofs.is_plain ≡ false = sym c.plain.ensures ∙ c.if-plain.false in
    let found : IsWiderFound false list c.args.position.now c.args.to_move c.args.wider.now.found.winner c.args.wider.now =
    subst (λ (kind : Bool). IsWiderFound kind list c.args.position.now c.args.to_move c.args.wider.now.found.winner c.args.wider.now)
    ordinary c.requires in
    let whole = wider_missing list c.args.position.now c.args.to_move c.args.wider.now found c.size-size.ensures.valid _ _
    c.empties.ensures c.empties-2.ensures in
    let lead = rw (c.minus-missing.ensures.set, whole) at c.in_ok-steps.ensures in
    (rw c.in-Missing.is at c.in_ok-fill_to.ensures.wrong ordinary) (rw c.new-steps.ensures lead)
