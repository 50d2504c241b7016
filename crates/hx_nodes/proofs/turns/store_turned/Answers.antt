use Rattle.std.proofs.Common.{rules, ◌≡◌, sym, ◌∙◌, subst, Bool, true}
use Rattle.hx_tree.proofs.EntryLaws.{seen-now}
use Rattle.hx_book.specs.EitherEntry.{WasMissed, FoundAs}
use Rattle.hx_nodes.specs.Stored.{LacksEither}
use Rattle.hx_nodes.proofs.TurnedNodes.{turned_right}
use Rattle.hx_nodes.proofs.turns.store_turned.Goals as goal

pub returns-in-None-clause-missing : goal.returns-in-None-clause-missing
returns-in-None-clause-missing g c =
    let old = (g.P.Proofs.sight c.args.proofs.now).list in
    let new = (g.P.Proofs.sight c.look.new.self).list in
    let plain : true ≡ g.P.Proofs.is_plain = sym c.if-plain.true ∙ c.plain.ensures in
    let missed : WasMissed old new c.args.position.now c.args.to_move =
    seen-now _ _ _ c.look.ensures.grew.seen c.in-None.ensures.found in
    subst (λ (p : Bool). LacksEither p old new c.args.position.now c.args.to_move) plain missed

pub store-requires-clause-right : goal.store-requires-clause-right
store-requires-clause-right g c =
    let old = (g.P.Proofs.sight c.args.proofs.now).list in
    let new = (g.P.Proofs.sight c.look_either.new.proofs).list in
    let either = c.in-Some-look_either.either in
    let turned : either.turned ≡ true = search rules in
    let found : FoundAs true old new c.args.position.now c.args.to_move either.found =
    rw turned at c.in-Some-look_either.ensures.found in
    turned_right old new c.args.position.now c.args.to_move either.found c.size-size.ensures.valid found
