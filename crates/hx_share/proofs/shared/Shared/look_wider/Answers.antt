use Rattle.std.proofs.Common.{sym, subst, List, false}
use Rattle.hx_tree.specs.declared.nodes.Node.{Node}
use Rattle.hx_book.specs.WiderEntry.{FindsWider}
use Rattle.hx_share.specs.declared.views.Role.TheVariants.{Waiting}
use Rattle.hx_share.proofs.ReaderLaws.{alone-seen}
use Rattle.hx_share.proofs.shared.Shared.look_wider.Goals as goal

pub returns-clause-found : goal.returns-clause-found
returns-clause-found g c =
    subst (λ (l : List Node). FindsWider false l c.args.position.now c.args.to_move c.args.winner c.find_wider-wider.result)
    (sym (alone-seen c.args.self.now.made.slots Waiting c.take_book-book.result.nodes c.give_back.new.seat.me c.give_back.ensures.waits))
    c.find_wider-wider.ensures
