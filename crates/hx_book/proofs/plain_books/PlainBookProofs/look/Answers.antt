use Rattle.hx_book.proofs.plain_books.PlainBookProofs.look.Goals as goal

pub returns-clause-found : goal.returns-clause-found
returns-clause-found g c = rw (← c.self.view_is) c.find.ensures
