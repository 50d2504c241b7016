-- What was seen only grew: in no step, and in one step after the other.
use Rattle.std.proofs.Common.{refl, ◌∙◌}
use Rattle.hx_book.proofs.SightLaws.{grows-itself, grows-on}
use Rattle.hx_known.specs.Views.{View, Goes}

pub goes-itself : (view : View) → Goes view view
goes-itself view = record { grew = grows-itself view.sight; same_behind = refl }

pub goes-on : (first second third : View) → Goes first second → Goes second third → Goes first third
goes-on first second third one two = record {
  grew = grows-on _ _ _ one.grew two.grew;
  same_behind = two.same_behind ∙ one.same_behind;
}
