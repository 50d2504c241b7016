use Rattle.std.proofs.Common.{refl, rules}
use Rattle.std.proofs.lemmas.Option.{slice_get_read}
use Rattle.hx_ordering.proofs.choices.way_down.Goals as goal

pub returns-in_default : goal.returns-in_default
returns-in_default c = (c.args.place, c.index-child.result.now, c.requires.place, search rules, c.in_default.ensures)

pub returns : goal.returns
returns c = record {
  same_place = refl;
  there = slice_get_read _ _ _ _ refl c.requires.place c.index-child.ensures;
  empty = search rules;
  next = search rules;
  mover = search rules;
  moved = refl;
  limit = refl;
}
