use Rattle.std.proofs.Common.{None, sym, ap, ◌∙◌, subst, List}
use Rattle.std.specs.Prelude.{IfOk, IfErr}
use Rattle.hx_tree.specs.declared.nodes.Node.{Node}
use Rattle.hx_tree.specs.Entries.{Extends, HasNoEntry, IsFirstEntry}
use Rattle.hx_share.specs.declared.views.Role.TheVariants.{Waiting}
use Rattle.hx_share.proofs.StoreLaws.{right-later, puts-extend, puts-first, puts-none, book-at}
use Rattle.hx_share.proofs.ReaderLaws.{alone-keeps, alone-seen, acting-seen}
use Rattle.hx_share.proofs.shared.Shared.store.Goals as goal

pub put-answer-requires : goal.put-answer-requires
put-answer-requires g c =
    right-later c.args.seat.now.seen c.take_book-book.result.nodes c.args.offer
    (subst (λ (l : List Node). Extends l c.take_book-book.result.nodes)
    (ap (λ r. r.seen) c.seat.view_is) c.take_book-book.ensures.seen) c.requires.node

pub give_back-requires-clause-more : goal.give_back-requires-clause-more
give_back-requires-clause-more g c =
    let nodes = c.put-answer.new.self.nodes in
    subst (λ (l : List Node). Extends l nodes)
    (sym (acting-seen c.args.self.now.made.slots c.take_book-book.result.nodes None c.take_book-book.new.seat.me
    c.take_book-book.ensures.acts))
    (puts-extend c.take_book-book.result.slots c.take_book-book.result.nodes c.args.offer nodes c.put-answer.result
    c.put-answer.ensures.nodes)

pub invariant_of-seat : goal.invariant_of-seat
invariant_of-seat g c =
    let b = c.put-answer.new.self in
    alone-keeps c.args.self.now.made.slots Waiting b.nodes c.held-seat-inside.result c.give_back.new.seat.me c.give_back.ensures.waits
    c.held-seat-inside.ensures
    (book-at b c.args.self.now.made.slots c.keeps.ensures.book (c.put-answer.ensures.slots ∙ c.take_book-book.ensures.slots))

pub returns-clause-first : goal.returns-clause-first
returns-clause-first g c =
    let b = c.put-answer.new.self in
    subst (λ (l : List Node).
    IfOk c.put-answer.result (λ place. IsFirstEntry l c.args.offer.heading.position c.args.offer.heading.to_move place))
    (sym (alone-seen c.args.self.now.made.slots Waiting b.nodes c.give_back.new.seat.me c.give_back.ensures.waits))
    (puts-first c.take_book-book.result.slots c.take_book-book.result.nodes c.args.offer b.nodes c.put-answer.result
    c.put-answer.ensures.nodes)

pub returns-clause-none : goal.returns-clause-none
returns-clause-none g c =
    let b = c.put-answer.new.self in
    subst (λ (l : List Node). IfErr c.put-answer.result (λ refusal. HasNoEntry l c.args.offer.heading.position c.args.offer.heading.to_move))
    (sym (alone-seen c.args.self.now.made.slots Waiting b.nodes c.give_back.new.seat.me c.give_back.ensures.waits))
    (puts-none c.take_book-book.result.slots c.take_book-book.result.nodes c.args.offer b.nodes c.put-answer.result
    c.put-answer.ensures.nodes)
