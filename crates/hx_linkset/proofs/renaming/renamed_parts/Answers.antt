use Rattle.std.proofs.Common.{◌≡◌, ℕ, ◌++◌, ◌∷◌, [], get_or, rules}
use Rattle.std.specs.Prelude.{slice_index}
use Rattle.hx_linkset.proofs.MarkLaws.{stands-here}
use Rattle.hx_linkset.proofs.RenamingLaws.{names-more}
use Rattle.hx_linkset.proofs.renaming.renamed_parts.Goals as goal

pub bounds-names-place : goal.bounds-names-place
bounds-names-place c = c.requires _ (stands-here c.args.parts.now c.loop-place.place-index c.loop-place-test.true)

pub loop-place-preserved : goal.loop-place-preserved
loop-place-preserved c =
    let name : ℕ = slice_index c.args.names.now (get_or c.args.parts.now c.loop-place.place-index 0) in
    let pushed : c.push.new.self.items ≡ c.loop-place.items.items ++ name ∷ [] = search rules in
    names-more (λ (place : ℕ). slice_index c.args.names.now place) c.args.parts.now c.loop-place.place-index _ _ c.loop-place-test.true
    c.loop-place.invariant pushed
