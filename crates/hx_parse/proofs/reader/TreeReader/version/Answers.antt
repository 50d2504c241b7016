use Rattle.hx_parse.proofs.ReadVersions.{version_stands}
use Rattle.hx_parse.proofs.reader.TreeReader.version.Goals as goal

pub returns-clause-read : goal.returns-clause-read
returns-clause-read c = λ nodes lines read. rw c.version.ensures (version_stands c.args.self.now.place nodes lines read)
