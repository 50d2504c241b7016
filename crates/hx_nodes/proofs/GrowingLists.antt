-- The headings of a list of nodes that grew are those that it had, and more.
use Rattle.std.proofs.Common.{◌≡◌, List, ◌++◌, ap, ◌∙◌}
use Rattle.hx_tree.specs.declared.nodes.Node.{Node}
use Rattle.hx_tree.specs.declared.nodes.Heading.{Heading}
use Rattle.hx_tree.specs.Entries.{Extends}
use Rattle.hx_tree.specs.Trees.{headings_of}
use Rattle.hx_tree.proofs.TreeGrowth.{headings_of-append}

pub extends-headings : (new old : List Node) → Extends old new → (more : List Heading) × (headings_of new ≡ headings_of old ++ more)
extends-headings new old grown = (headings_of grown.0, ap headings_of grown.1 ∙ headings_of-append old grown.0)
