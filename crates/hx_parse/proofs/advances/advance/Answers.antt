use Rattle.std.proofs.Common.{◌≡◌, ℕ, List, [], ◌∷◌, ◌++◌, subst, Option, ◌⊎◌, inl, inr}
use Rattle.hx_tree.specs.declared.nodes.Node.{Node}
use Rattle.hx_text.specs.declared.versions.Version.{Version}
use Rattle.hx_text.specs.declared.versions.Preamble.{Preamble}
use Rattle.hx_text.specs.Grammars.{Begins}
use Rattle.hx_text.specs.TreeTexts.{AreTreeLines}
use Rattle.hx_parse.specs.declared.places.Place.{Place}
use Rattle.hx_parse.specs.declared.places.Place.TheVariants.{After, Failed}
use Rattle.hx_parse.specs.declared.places.TreeFault.{TreeFault}
use Rattle.hx_parse.specs.Places.{Stands}
use Rattle.hx_parse.proofs.Steps.{after_end_wrong}
use Rattle.hx_parse.proofs.advances.advance.Goals as goal

-- no line follows the last, and no lines stand at a fault
no_more_lines : (place : Place) (line : List ℕ)
    → ((preamble : Preamble) × (place ≡ After preamble))
    ⊎ ((fault : TreeFault) × (version : Option Version) × (place ≡ Failed fault version))
    → (nodes : List Node) (lines : List (List ℕ)) → Stands place nodes lines → Begins AreTreeLines (lines ++ line ∷ []) → ⊥
no_more_lines place line (inl end) nodes lines stands begins = after_end_wrong place end.0 line end.1 nodes lines stands begins
no_more_lines place line (inr failed) nodes lines stands begins =
    let none : Stands (Failed failed.0 failed.1) nodes lines = subst (λ (p : Place). Stands p nodes lines) failed.2 stands in
    none

pub returns-in-After : goal.returns-in-After
returns-in-After c = no_more_lines c.args.place c.args.line.now c.in-After.is

pub returns-in-Title : goal.returns-in-Title
returns-in-Title c = rw c.in-Title.is c.at_title.ensures

pub returns-in-Size : goal.returns-in-Size
returns-in-Size c = rw c.in-Size.is c.at_size.ensures

pub returns-in-Between : goal.returns-in-Between
returns-in-Between c = rw c.in-Between.is c.between.ensures

pub returns-in-Inside : goal.returns-in-Inside
returns-in-Inside c = rw c.in-Inside.is c.inside.ensures
