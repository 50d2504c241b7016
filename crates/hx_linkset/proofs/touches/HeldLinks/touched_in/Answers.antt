use Rattle.std.proofs.Common.{◌≡◌, ◌+◌, ◌*◌, ◌<◌, ◌≤◌, List, length, refl, sym, subst, Some, arith}
use Rattle.std.specs.Prelude.{slice_get}
use Rattle.std.proofs.lemmas.Option.{slice_get_read, slice_get_within}
use Rattle.hx_link.specs.declared.links.Link.{Link}
use Rattle.hx_linkset.proofs.touches.HeldLinks.touched_in.Goals as goal

pub returns-then-block-len : goal.returns-then-block-len
returns-then-block-len c = λ number link small there touch.
    let P : List Link → Type 0 = λ links. slice_get links (64 * c.args.block + number) ≡ Some link in
    let here : slice_get c.self.inside.links.items (64 * c.args.block + number) ≡ Some link = subst P (sym c.self.view_is) there in
    let less : c.args.block < length c.self.inside.blocks.items = omega arith in
    let cell_small : touch.0 < 128 = omega (arith, touch.1.1.0) in
    c.links_of.ensures touch.0 number cell_small touch.1.0
    (c.self.invariant.rows c.args.block number touch.0 c.index.result.now link small
    (slice_get_read _ (length c.self.inside.blocks.items) _ _ refl less c.index.ensures) here touch.1.1)

pub returns-else-block-len : goal.returns-else-block-len
returns-else-block-len c = λ number link small there touch.
    let P : List Link → Type 0 = λ links. slice_get links (64 * c.args.block + number) ≡ Some link in
    let here : slice_get c.self.inside.links.items (64 * c.args.block + number) ≡ Some link = subst P (sym c.self.view_is) there in
    let past : length c.self.inside.blocks.items ≤ c.args.block = omega arith in
    absurd (omega (arith, past, c.self.invariant.enough, slice_get_within _ (64 * c.args.block + number) link here))
