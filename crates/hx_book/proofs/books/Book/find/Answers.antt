use Rattle.std.proofs.Common.{◌≡◌, ◌<◌, length, ◌∙◌, sym, arith}
use Rattle.std.proofs.lemmas.Bool.{false≢true}
use Rattle.hx_tree.specs.Entries.{IsOf}
use Rattle.hx_book.specs.Buckets.{bucket_of, position_key}
use Rattle.hx_book.proofs.ChainLaws.{reached-begun, reached-there, reached-more}
use Rattle.hx_book.proofs.FoundLaws.{entry-bucket, entry-first}
use Rattle.hx_book.proofs.books.Book.find.Goals as goal

pub loop-link-init : goal.loop-link-init
loop-link-init c =
    let below : c.bucket-number.result < length c.self.inside.by_position.heads =
    omega (arith, c.buckets.ensures, c.bucket-number.ensures.below) in
    let number : c.bucket-number.result ≡ bucket_of (length c.self.inside.by_position.heads) c.args.position.now c.args.to_move =
    rw c.buckets.ensures at c.bucket-number.ensures.value in
    reached-begun position_key c.self.inside.nodes.items c.self.inside.by_position.heads c.self.inside.by_position.next
    c.self.invariant.position_chains (IsOf c.args.position.now c.args.to_move) c.bucket-number.result
    (entry-bucket _ c.args.position.now c.args.to_move _ number) c.newest-link.result below c.newest-link.ensures

pub returns-then-is_of : goal.returns-then-is_of
returns-then-is_of c =
    let is = rw c.heading-heading.ensures at (c.is_of.ensures.0 c.if-is_of.true) in
    rw (← c.self.view_is, c.heading-heading.ensures)
    (entry-first c.self.inside.nodes.items c.args.position.now c.args.to_move _ c.index.result.now
    (reached-there (position_key (length c.self.inside.by_position.heads)) c.self.inside.nodes.items c.bucket-number.result
    (IsOf c.args.position.now c.args.to_move) c.loop-link.link c.loop-link-test.true c.loop-link.invariant c.index.result.now
    c.index.ensures) c.self.invariant.book.distinct
    (record { same_position = is.0; same_mover = is.1 }))

pub loop-link-preserved : goal.loop-link-preserved
loop-link-preserved c =
    let number : c.bucket-number.result ≡ bucket_of (length c.self.inside.by_position.heads) c.args.position.now c.args.to_move =
    rw c.buckets.ensures at c.bucket-number.ensures.value in
    reached-more position_key c.self.inside.nodes.items c.self.inside.by_position.heads c.self.inside.by_position.next
    c.self.invariant.position_chains (IsOf c.args.position.now c.args.to_move) c.bucket-number.result
    (entry-bucket _ c.args.position.now c.args.to_move _ number) c.loop-link.link c.loop-link-test.true c.loop-link.invariant
    c.index.result.now c.index.ensures
    (λ is. false≢true (sym c.if-is_of.false ∙ c.is_of.ensures.1
    (rw c.heading-heading.ensures (is.same_position, is.same_mover)))) c.older-link.result
    c.older-link.ensures
