use Rattle.std.proofs.Common.{◌≡◌, ◌+◌, ◌*◌, ◌≤◌, ◌++◌, drop, length}
use Rattle.hx_htp.specs.declared.names.Name.TheVariants.{ProtocolVersion}
use Rattle.hx_htp.specs.Commands.{names}
use Rattle.hx_htp.proofs.NameLaws.{text_of}
use Rattle.hx_htp.proofs.texts.put_names.Given as goal

abbrev pub invariant-loop-name : goal.invariant-loop-name
invariant-loop-name l = record {
  text : l.text ≡ l.fn.text ++ text_of ProtocolVersion (drop 1 names) l.name-index;
  short : length l.text ≤ length l.fn.text + 16 + 17 * l.name-index;
}
