use Rattle.hx_link.proofs.LinkLaws.{end-vertex}
use Rattle.hx_cmd_template.proofs.deciding.decided.Goals as goal

pub local-answer-requires-clause-empty : goal.local-answer-requires-clause-empty
local-answer-requires-clause-empty c = c.requires.carrier.free

pub local-answer-requires-clause-a_vertex : goal.local-answer-requires-clause-a_vertex
local-answer-requires-clause-a_vertex c =
    end-vertex c.args.template.now.position c.args.template.now.owner c.args.template.now.a c.requires.ends.a_end

pub local-answer-requires-clause-b_vertex : goal.local-answer-requires-clause-b_vertex
local-answer-requires-clause-b_vertex c =
    end-vertex c.args.template.now.position c.args.template.now.owner c.args.template.now.b c.requires.ends.b_end
