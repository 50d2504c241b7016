use Rattle.hx_fill.specs.Makers.{AreNarrowed}
use Rattle.hx_fill.proofs.makers.narrow_by.Given as goal

abbrev pub invariant-loop-vertex : goal.invariant-loop-vertex
invariant-loop-vertex l = AreNarrowed l.view.board l.view.player l.fn.around l.vertex-iterator l.initial.makers l.makers
