use Rattle.std.proofs.Common.{List, sym, subst}
use Rattle.hx_linkset.specs.declared.fulls.FullLink.{FullLink}
use Rattle.hx_linkset.specs.Fulls.{AreFullWithin}
use Rattle.hx_linkset.proofs.FullWithinLaws.{full-within}
use Rattle.hx_linkset.proofs.sets.LinkSet.full_at_within.Goals as goal

pub returns : goal.returns
returns c =
    let P : List FullLink → Type 0 = λ fulls. AreFullWithin c.args.self.now c.args.vertex c.args.cells c.args.to fulls in
    subst P (sym c.within.ensures) (full-within c.args.self.now c.args.vertex c.args.cells c.args.to c.full_at.result c.full_at.ensures)
