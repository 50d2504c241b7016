use Rattle.std.proofs.Common.{◌≡◌, ◌/◌, ◌%◌, ◌<◌, ℕ, length, refl, arith, rules, ◌∙◌, ⊎_elim}
use Rattle.std.proofs.lemmas.Bool.{lt-ltb, and_from}
use Rattle.std.proofs.lemmas.Option.{slice_get_read}
use Rattle.std.proofs.lemmas.Nat.{div-add-mod'}
use Rattle.hx_board.proofs.SetLaws.{has-insert_same, has-insert_other}
use Rattle.hx_linkset.specs.Touches.{IsOf, RowHas}
use Rattle.hx_linkset.proofs.TouchLaws.{below-block, blocks-more}
use Rattle.hx_linkset.proofs.touches.HeldLinks.push.Goals as goal

pub invariant_of-self-2 : goal.invariant_of-self-2
invariant_of-self-2 c =
    let place : c.len-place.result ≡ length c.self.inside.links.items = search rules in
    let inside : c.len-place.result / 64 < length c.make_room.new.blocks.items = search rules in
    let entered : (cell : ℕ) → IsOf cell c.args.link → RowHas c.enter.new.self cell (c.len-place.result % 64) =
    λ cell of. c.enter.ensures.entered cell (omega (arith, of.0))
    (c.cells-cells.ensures cell ∙ and_from _ _ (rw (c.with-2.ensures.set, c.with.ensures.set)
    (⊎_elim
    (λ in_carrier. has-insert_other _ _ _ (has-insert_other _ _ _ (c.of_cells.ensures cell ∙ and_from _ _ in_carrier (lt-ltb cell 121 of.0))))
    (λ end. ⊎_elim
    (λ a. has-insert_other _ _ _ (rw a (has-insert_same _ _)))
    (λ b. rw b (has-insert_same _ _))
    end)
    of.1)) (lt-ltb cell 121 of.0)) in
    rw (c.push_reserved.ensures.items, c.reserve.ensures.items)
    (blocks-more c.self.inside.links.items c.make_room.new.blocks.items c.args.link (c.len-place.result / 64) (c.len-place.result % 64)
    c.index_mut.result.now c.enter.new.self
    (c.make_room.ensures.same c.self.inside.links.items (rw place refl) c.self.invariant)
    (omega (arith, place, div-add-mod' c.len-place.result 64)) (below-block c.len-place.result) inside
    (slice_get_read _ (length c.make_room.new.blocks.items) _ _ refl inside c.index_mut.ensures.value)
    c.enter.ensures.kept entered)
