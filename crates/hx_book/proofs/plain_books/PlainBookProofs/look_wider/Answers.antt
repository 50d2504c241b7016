use Rattle.std.proofs.Common.{rules, ◌≡◌, ◌≢◌}
use Rattle.hx_book.proofs.OwnEntries.{own-none, own-other, own-found}
use Rattle.hx_book.proofs.plain_books.PlainBookProofs.look_wider.Goals as goal

pub returns-in_default-clause-found : goal.returns-in_default-clause-found
returns-in_default-clause-found g c = rw (← c.self.view_is)
    (own-none c.self.inside.book.nodes c.args.position.now c.args.to_move c.args.winner c.in_default.ensures)

pub returns-then-ne-clause-found : goal.returns-then-ne-clause-found
returns-then-ne-clause-found g c =
    let differs : c.in-Some.found.winner ≢ c.args.winner = search rules in
    rw (← c.self.view_is) (own-other c.self.inside.book.nodes c.args.position.now c.args.to_move c.args.winner c.in-Some.found
    c.keeps.ensures.book.distinct c.in-Some.ensures differs)

pub returns-clause-found : goal.returns-clause-found
returns-clause-found g c =
    let same : c.in-Some.found.winner ≡ c.args.winner = search rules in
    rw (← c.self.view_is)
    (own-found c.self.inside.book.nodes c.args.position.now c.args.to_move c.args.winner c.in-Some.found c.in-Some.ensures same)
