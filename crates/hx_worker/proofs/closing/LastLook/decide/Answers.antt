use Rattle.hx_board.specs.declared.colours.Colour.TheVariants.{Black, White}
use Rattle.hx_board.specs.Positions.{Board}
use Rattle.hx_board.specs.Graph.{HasChain, HasNoChain}
use Rattle.hx_tree.proofs.EntryLaws.{extends-itself}
use Rattle.hx_book.proofs.SightLaws.{grows-on}
use Rattle.hx_worker.specs.Ends.{IsOpenSet, IsTried, WasUnlisted}
use Rattle.hx_worker.proofs.LookLaws.{looks-after, nothing-tells}
use Rattle.hx_worker.proofs.UnlistedLaws.{unlisted-wider}
use Rattle.hx_worker.proofs.closing.LastLook.decide.Goals as goal

no-chains : (board : Board) → (HasChain board Black → ⊥) → (HasChain board White → ⊥) → HasNoChain board
no-chains board black white Black = black
no-chains board black white White = white

pub returns-clause-tried : goal.returns-clause-tried
returns-clause-tried g c =
    let look = c.args.self.now in
    let tried : IsOpenSet c.by_closed-2.new.set look.to_move
    → IsTried look.position.now look.to_move c.by_closed.new.set c.by_closed-2.new.set = λ open_set. record {
      no_chain =
          no-chains _ (rw c.in_default-2.is at c.in_ok-found-2.ensures.no_chain) (rw c.in_default-3.is at c.in_ok-found-3.ensures.no_chain);
      black_open = rw c.in_default-4.is at c.in_ok-found-4.ensures.open_set;
      white_open = open_set;
    } in
    nothing-tells c.by_closed-2.result _ _ tried c.by_closed-2.ensures.open_set

pub returns-clause-looks : goal.returns-clause-looks
returns-clause-looks g c =
    let chains = grows-on _ _ _ (grows-on _ _ _ c.by_entry.ensures.looks.grew c.by_chain.ensures.looks.grew) c.by_chain-2.ensures.looks.grew in
    looks-after _ _ _ _ _ (grows-on _ _ _ chains c.by_closed.ensures.looks.grew) c.by_closed-2.ensures.looks

pub returns-clause-unlisted : goal.returns-clause-unlisted
returns-clause-unlisted g c =
    let look = c.args.self.now in
    let chains = grows-on _ _ _ c.by_chain.ensures.looks.grew c.by_chain-2.ensures.looks.grew in
    let closed = grows-on _ _ _ (grows-on _ _ _ chains c.by_closed.ensures.looks.grew) c.by_closed-2.ensures.looks.grew in
    let unlisted : IsOpenSet c.by_closed-2.new.set look.to_move
    → WasUnlisted g.P.Proofs.is_plain (g.P.Proofs.sight c.args.proofs.now).list (g.P.Proofs.sight c.by_closed-2.new.proofs).list
    look.position.now look.to_move = λ open_set.
    unlisted-wider _ _ _ _ _ _ _ (extends-itself _) closed.seen (rw c.in_default.is at c.in_ok-found.ensures.unlisted) in
    nothing-tells c.by_closed-2.result _ _ unlisted c.by_closed-2.ensures.open_set
