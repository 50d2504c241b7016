use Rattle.std.proofs.Common.{◌≡◌, ◌-◌, ◌≤◌, true, if◌then◌else◌, length}
use Rattle.hx_io.specs.Sources.{IsAtEnd}
use Rattle.hx_lines.specs.Cutters.{TellsAnswer, Stays}
use Rattle.hx_lines.proofs.cutters.LineCutter.next.Given as goal

abbrev pub invariant-loop-cut : goal.invariant-loop-cut
invariant-loop-cut g l = record {
  stays : Stays l.initial.self l.self (g.S.Source.reading l.initial.source).left (g.S.Source.reading l.source).left;
  met_end : l.self.met_end ≡ true → IsAtEnd (g.S.Source.reading l.source).left;
  later : (g.S.Source.reading l.initial.source).faults ≤ (g.S.Source.reading l.source).faults;
  reads : TellsAnswer l.initial.self → l.source ≡ l.initial.source;
  same : TellsAnswer l.initial.self → l.self ≡ l.initial.self;
}

abbrev pub decreases-loop-cut : goal.decreases-loop-cut
decreases-loop-cut g l = if l.self.met_end then 0 else 4098 - length l.self.held
