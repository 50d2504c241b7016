use Rattle.std.proofs.Common.{◌≡◌, refl, sym, ap, ◌∙◌, subst, List, get_or}
use Rattle.std.specs.Option.{IsSome}
use Rattle.hx_tree.specs.declared.nodes.Node.{Node}
use Rattle.hx_tree.specs.Entries.{Extends}
use Rattle.hx_book.specs.Entries.{contents}
use Rattle.hx_share.proofs.Closing.{ended}
use Rattle.hx_share.proofs.shared.Shared.close.Goals as goal

pub unwrap-book-requires : goal.unwrap-book-requires
unwrap-book-requires c =
    let o = c.self.invariant in
    let last = ended c.self.inside.table.shared.key c.gather-seat.result.id c.gather-seat.result.me c.args.seats.items _ _ c.take.result
    c.gather-seat.ensures.parts c.close_with-closed.ensures.values.2
    (c.requires.all ∙ (sym (ap (λ w. w.seats) c.self.view_is) ∙ sym (ap (λ l. l.seats) o.2))) c.take.ensures.value in
    subst IsSome (sym last.book) refl

pub returns-clause-seen : goal.returns-clause-seen
returns-clause-seen c =
    let o = c.self.invariant in
    let last = ended c.self.inside.table.shared.key c.gather-seat.result.id c.gather-seat.result.me c.args.seats.items _ _ c.take.result
    c.gather-seat.ensures.parts c.close_with-closed.ensures.values.2
    (c.requires.all ∙ (sym (ap (λ w. w.seats) c.self.view_is) ∙ sym (ap (λ l. l.seats) o.2))) c.take.ensures.value in
    let is : c.unwrap-book.result ≡ contents c.self.inside.table.shared.key.slots last.nodes = cc (c.unwrap-book.ensures, last.book) in
    λ k d near. subst (λ (l : List Node). Extends (get_or c.args.seats.items k d).seen l) (sym (ap (λ b. b.nodes) is)) (last.seen k d near)

pub returns-clause-slots : goal.returns-clause-slots
returns-clause-slots c =
    let o = c.self.invariant in
    let last = ended c.self.inside.table.shared.key c.gather-seat.result.id c.gather-seat.result.me c.args.seats.items _ _ c.take.result
    c.gather-seat.ensures.parts c.close_with-closed.ensures.values.2
    (c.requires.all ∙ (sym (ap (λ w. w.seats) c.self.view_is) ∙ sym (ap (λ l. l.seats) o.2))) c.take.ensures.value in
    let is : c.unwrap-book.result ≡ contents c.self.inside.table.shared.key.slots last.nodes = cc (c.unwrap-book.ensures, last.book) in
    ap (λ b. b.slots) is ∙ (ap (λ l. l.slots) o.2 ∙ ap (λ w. w.made.slots) c.self.view_is)
