use Rattle.std.proofs.Common.{◌∷◌, ◌++◌, [], refl, ◌∙◌, Some}
use Rattle.hx_share.proofs.Keeps.{opens}
use Rattle.hx_share.proofs.shared.Shared.start.Goals as goal

pub new-requires : goal.new-requires
new-requires c =
    opens (record { slots = c.args.slots; seats = c.args.seats }) (0 ∷ []) c.push_reserved.new.self.items
    (record { slots = c.requires.slots; seats = c.requires.seats.1 }) refl
    (c.push_reserved.ensures.items ∙ λ k. c.in-Ok.ensures.items k ++ Some (c.in_ok-book.ensures k) ∷ [])
