-- At each place of a tree's text the version that it keeps is that of the first line that was read.
use Rattle.std.proofs.Common.{ℕ, List, [], ◌∷◌, ◌++◌, map, ap, ◌∙◌}
use Rattle.std.specs.Prelude.{flat_map}
use Rattle.hx_tree.specs.declared.nodes.Node.{Node}
use Rattle.hx_parse.specs.declared.places.Place.{Place}
use Rattle.hx_parse.specs.declared.places.Place.TheVariants.{Title, Size, Between, Inside, After, Failed}
use Rattle.hx_text.specs.PositionTexts.{size_line}
use Rattle.hx_text.specs.Entries.{entry_line}
use Rattle.hx_text.specs.TreeTexts.{head_line, node_lines}
use Rattle.hx_parse.specs.Places.{Stands, entries_in, version_at}
use Rattle.hx_parse.specs.Reader.{IsVersionIn}

pub version_stands : (place : Place) (nodes : List Node) (lines : List (List ℕ)) → Stands place nodes lines
    → IsVersionIn (version_at place) lines
version_stands Title nodes lines stands = stands.1
version_stands (Size version) nodes lines stands = ([], stands.1)
version_stands (Between so_far) nodes lines stands = (size_line so_far.preamble.size ∷ flat_map node_lines nodes, stands.same)
version_stands (Inside begun) nodes lines stands =
    let so = stands.begun_so in
    let entries : List (List ℕ) = head_line begun.head ∷ map entry_line (entries_in begun) in (
      size_line begun.so_far.preamble.size ∷ (flat_map node_lines nodes ++ entries),
      so.same ∙ ap (λ (ls : List (List ℕ)). ls ++ entries) so.stands.same,
    )
version_stands (After preamble) nodes lines stands = (_, stands.1.same)
version_stands (Failed fault version) nodes lines stands = absurd stands
