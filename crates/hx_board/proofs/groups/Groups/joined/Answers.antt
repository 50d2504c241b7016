use Rattle.std.proofs.Common.{◌<◌, length}
use Rattle.hx_board.proofs.GroupLaws.{read-is}
use Rattle.hx_board.proofs.groups.Groups.joined.Goals as goal

pub returns : goal.returns
returns c =
    let within : c.code.result < length c.self.inside.joined = rw c.self.told c.code.ensures.small in
    rw (
      c.has.ensures,
      read-is c.self.inside.joined c.code.result c.index-self-code.result within c.index-self-code.is,
      c.code.ensures.value,
      ← c.self.view_is,
    )
    ((c.self.invariant.joined c.args.a (rw (← c.self.view_is) at c.requires.a)).members c.args.b (rw (← c.self.view_is) at c.requires.b))
