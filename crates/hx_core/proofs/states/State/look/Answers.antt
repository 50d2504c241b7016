use Rattle.std.proofs.Common.{◌≡◌, length, refl, arith}
use Rattle.hx_core.proofs.FieldLaws.{all-seen}
use Rattle.hx_core.proofs.states.State.look.Goals as goal

pub returns : goal.returns
returns c =
    let held : c.len.result ≡ length c.self.inside.nodes.items = omega (arith, c.len.ensures, c.self.inside.nodes.ok) in
    rw (← c.self.view_is) (
      (
        rw c.as_slice.ensures.value at c.find-found.ensures,
        all-seen c.self.inside.slots c.self.inside.nodes.items c.self.inside.seen.items c.args.worker c.len.result held,
      ),
      refl,
    )
