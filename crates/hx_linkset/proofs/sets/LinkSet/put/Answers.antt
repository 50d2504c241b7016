use Rattle.std.proofs.Common.{arith}
use Rattle.hx_linkset.proofs.sets.LinkSet.put.Goals as goal

pub returns-in-Ok-clause-put : goal.returns-in-Ok-clause-put
returns-in-Ok-clause-put c =
    let few = c.keeps.ensures.few in
    let other = c.if-count-eq-MOST_LINKS.false in
    let count = c.count-count.ensures in
    record {
      link = c.args.link.now;
      gives = c.requires;
      place_is = c.in-Ok.ensures.appended.0;
      small = omega (arith, few, other, count, c.in-Ok.ensures.appended.0);
      grown = c.in-Ok.ensures.appended.1;
    }
