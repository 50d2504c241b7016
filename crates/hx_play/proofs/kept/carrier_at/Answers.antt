use Rattle.std.proofs.Common.{◌≡◌, ◌∙◌, ap, Some, None}
use Rattle.hx_link.specs.declared.links.Link.{Link}
use Rattle.hx_play.proofs.kept.carrier_at.Goals as goal

none≢some : (l : Link) → None ≡ Some l → ⊥
none≢some l e = cc

same_some : (a b : Link) → Some a ≡ Some b → a ≡ b
same_some a b e = cc

pub unreachable-requires : goal.unreachable-requires
unreachable-requires c = none≢some c.requires.0 (c.in-None.ensures ∙ c.requires.1)

pub returns : goal.returns
returns c = λ link there. ap (λ (l : Link). l.carrier) (same_some _ link (c.in-Some.ensures ∙ there))
