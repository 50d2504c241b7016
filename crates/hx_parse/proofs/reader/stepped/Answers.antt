use Rattle.std.proofs.Common.{ℕ, List, refl, true, Err}
use Rattle.hx_tree.specs.declared.nodes.Node.{Node}
use Rattle.hx_parse.specs.declared.places.Place.{Place}
use Rattle.hx_parse.specs.declared.places.Place.TheVariants.{Failed}
use Rattle.hx_parse.specs.declared.places.Stop.{Stop}
use Rattle.hx_parse.specs.declared.places.Stop.TheVariants.{Wrong, TooMany, Memory}
use Rattle.hx_parse.specs.Places.{Follows, Told, fault_of_stop}
use Rattle.hx_parse.proofs.reader.stepped.Goals as goal

-- what the reader says of a line that was not taken
stopped : (old new : Place) (line : List ℕ) (number : ℕ) (nodes : List Node) (lines : List (List ℕ)) (stop : Stop)
    → Follows old nodes line lines (Err stop) → Told old line true number nodes lines new (Err (fault_of_stop stop number))
stopped old new line number nodes lines Wrong follows = (refl, λ ended. follows)
stopped old new line number nodes lines TooMany follows = (refl, refl, follows.0, follows.1)
stopped old new line number nodes lines Memory follows = (refl, follows)

pub returns-in-Err-clause-says : goal.returns-in-Err-clause-says
returns-in-Err-clause-says c = λ nodes lines stands.
    rw (c.failed.ensures, c.fault_of.ensures)
    (stopped c.args.place
    (Failed (fault_of_stop c.in-Err.stop c.args.number) c.version-version.result) c.args.line.now c.args.number nodes _ c.in-Err.stop
    (c.in-Err.ensures nodes lines stands))
