use Rattle.std.proofs.Common.{◌≡◌, ◌<◌, length, ◌∙◌, sym, arith}
use Rattle.std.proofs.lemmas.Bool.{false≢true}
use Rattle.hx_book.specs.Buckets.{stones_bucket_of, stones_key}
use Rattle.hx_book.proofs.ChainLaws.{reached-begun, reached-there, reached-more}
use Rattle.hx_book.proofs.FoundLaws.{HasWider, wider-bucket, wider-found}
use Rattle.hx_book.proofs.books.Book.find_wider.Goals as goal

pub loop-link-init : goal.loop-link-init
loop-link-init c =
    let below : c.stones_bucket-number.result < length c.self.inside.by_stones.heads =
    omega (arith, c.buckets.ensures, c.stones_bucket-number.ensures.below) in
    let number : c.stones_bucket-number.result ≡ stones_bucket_of
    (length c.self.inside.by_stones.heads) c.args.position.now c.args.to_move c.args.winner =
    rw c.buckets.ensures at c.stones_bucket-number.ensures.value in
    reached-begun stones_key c.self.inside.nodes.items c.self.inside.by_stones.heads c.self.inside.by_stones.next
    c.self.invariant.stones_chains (HasWider c.args.position.now c.args.to_move c.args.winner) c.stones_bucket-number.result
    (wider-bucket _ c.args.position.now c.args.to_move c.args.winner _ number) c.newest-link.result below c.newest-link.ensures

pub returns-then-is_wider : goal.returns-then-is_wider
returns-then-is_wider c =
    rw (← c.self.view_is, c.heading-heading.ensures)
    (wider-found c.self.inside.nodes.items c.args.position.now c.args.to_move c.args.winner _ c.index.result.now
    (reached-there (stones_key (length c.self.inside.by_stones.heads)) c.self.inside.nodes.items c.stones_bucket-number.result
    (HasWider c.args.position.now c.args.to_move c.args.winner) c.loop-link.link c.loop-link-test.true c.loop-link.invariant
    c.index.result.now c.index.ensures) (rw c.heading-heading.ensures at (c.is_wider.ensures.0 c.if-is_wider.true)))

pub loop-link-preserved : goal.loop-link-preserved
loop-link-preserved c =
    let number : c.stones_bucket-number.result ≡ stones_bucket_of
    (length c.self.inside.by_stones.heads) c.args.position.now c.args.to_move c.args.winner =
    rw c.buckets.ensures at c.stones_bucket-number.ensures.value in
    reached-more stones_key c.self.inside.nodes.items c.self.inside.by_stones.heads c.self.inside.by_stones.next
    c.self.invariant.stones_chains (HasWider c.args.position.now c.args.to_move c.args.winner) c.stones_bucket-number.result
    (wider-bucket _ c.args.position.now c.args.to_move c.args.winner _ number) c.loop-link.link c.loop-link-test.true
    c.loop-link.invariant
    c.index.result.now c.index.ensures
    (λ is. false≢true (sym c.if-is_wider.false ∙ c.is_wider.ensures.1 (rw c.heading-heading.ensures is)))
    c.older-link.result c.older-link.ensures
