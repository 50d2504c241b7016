use Rattle.std.proofs.Common.{◌≡◌, length, refl, ap, sym, ◌∙◌, Some}
use Rattle.std.specs.Prelude.{slice_get}
use Rattle.std.proofs.lemmas.Option.{slice_get_read}
use Rattle.hx_naming.proofs.MoreLaws.{more-on, more-grown, root-plain, some-heading}
use Rattle.hx_naming.proofs.names.named.Goals as goal

pub returns-clause-grown : goal.returns-clause-grown
returns-clause-grown c =
    let there : slice_get c.args.nodes.now.items c.args.root ≡ Some c.in-Ok.node =
    slice_get_read _ (length c.args.nodes.now.items) _ _ refl c.requires.inside c.index.ensures ∙ ap Some (sym c.in-Ok.ensures) in
    more-grown (more-on c.add_all.ensures.more c.add.ensures.more)
    (λ plain. c.plain-must_be_plain.ensures.1 (root-plain _ _ _ there plain))

pub returns-clause-same_heading : goal.returns-clause-same_heading
returns-clause-same_heading c =
    let there : slice_get c.args.nodes.now.items c.args.root ≡ Some c.in-Ok.node =
    slice_get_read _ (length c.args.nodes.now.items) _ _ refl c.requires.inside c.index.ensures ∙ ap Some (sym c.in-Ok.ensures) in
    some-heading _ _ _ _ _ _ _ c.add.result there refl c.add.ensures.added
