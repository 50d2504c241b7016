-- A list of proofs grows from itself, and on from where it has grown to.
use Rattle.std.proofs.Common.{refl, ◌∙◌}
use Rattle.hx_tree.proofs.EntryLaws.{extends-itself, extends-on}
use Rattle.hx_book.specs.Sights.{Sight, Grows}

pub grows-itself : (sight : Sight) → Grows sight sight
grows-itself sight = record { slots = refl; over = refl; seen = extends-itself sight.list }

pub grows-on : (first second third : Sight) → Grows first second → Grows second third → Grows first third
grows-on first second third one two = record {
  slots = two.slots ∙ one.slots;
  over = two.over ∙ one.over;
  seen = extends-on first.list second.list third.list one.seen two.seen;
}

-- what a function needs that calls on a list of proofs more than once: name it in its `#[tactic(auto, using(..))]`
pub ruleset growth = (grows-itself, grows-on)
