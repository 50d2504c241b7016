use Rattle.std.proofs.Common.{◌≡◌, ◌≢◌, ◌<◌, length, vec_capacity, arith, rules}
use Rattle.hx_book.specs.Buckets.{position_key, stones_key}
use Rattle.hx_book.proofs.GrowthLaws.{fields-more}
use Rattle.hx_book.proofs.books.Book.put.Goals as goal

pub invariant_of-self : goal.invariant_of-self
invariant_of-self c =
    let held : c.len-held.result ≡ length c.self.inside.nodes.items = omega (arith, c.len-held.ensures, c.self.inside.nodes.ok) in
    let room_left : length c.self.inside.nodes.items ≢ c.self.inside.slots = omega (arith, held, c.if-held-self.false) in
    let by_place : c.bucket-place.result ≡ position_key (length c.self.inside.by_position.heads) c.args.offer =
    rw (c.buckets.ensures, c.heading.ensures) at c.bucket-place.ensures.value in
    let by_stones : c.stones_bucket-stones.result ≡ stones_key (length c.self.inside.by_stones.heads) c.args.offer =
    rw (c.buckets-2.ensures, c.heading.ensures) at c.stones_bucket-stones.ensures.value in
    let place_below : c.bucket-place.result < length c.self.inside.by_position.heads =
    omega (arith, c.buckets.ensures, c.bucket-place.ensures.below) in
    let stones_below : c.stones_bucket-stones.result < length c.self.inside.by_stones.heads =
    omega (arith, c.buckets-2.ensures, c.stones_bucket-stones.ensures.below) in
    rw (c.push_reserved.ensures.items, c.push_reserved.ensures.capacity, c.into_entry.ensures)
    (fields-more c.self.inside.slots c.self.inside.nodes.items c.self.inside.by_position c.self.inside.by_stones
    (vec_capacity c.self.inside.nodes) c.args.offer c.self.invariant
    c.bucket-place.result c.stones_bucket-stones.result by_place by_stones place_below stones_below c.add.new.self c.add-2.new.self
    c.add.ensures c.add-2.ensures
    room_left (rw (← c.self.view_is) at c.requires) (rw (← c.self.view_is, c.heading.ensures) at c.in_default.ensures))

pub returns-then-held-self-clause-nodes : goal.returns-then-held-self-clause-nodes
returns-then-held-self-clause-nodes c = rw (← c.heading.ensures) (search rules)

pub returns-clause-nodes : goal.returns-clause-nodes
returns-clause-nodes c = rw (← c.heading.ensures) (search rules)
