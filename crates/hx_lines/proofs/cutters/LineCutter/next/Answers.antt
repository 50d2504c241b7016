use Rattle.std.proofs.Common.{◌≡◌, ap, arith, subst, sym}
use Rattle.std.proofs.lemmas.Option.{same_Some}
use Rattle.std.specs.Prelude.{Ok}
use Rattle.hx_lines.specs.Cutters.{Cutter, IsOver, TellsAnswer, Stays}
use Rattle.hx_lines.specs.Cutters.TellsAnswer.{Met_end}
use Rattle.hx_lines.proofs.CutterLaws.{stays_then, is_cut_then}
use Rattle.hx_lines.proofs.cutters.LineCutter.next.Goals as goal

pub loop-cut-preserved : goal.loop-cut-preserved
loop-cut-preserved g c =
    let same : c.cut.new.self ≡ c.loop-cut.self = c.in_default.ensures.same in
    let going : ¬ TellsAnswer c.args.self.now = λ told.
    c.in_default.ensures.nothing_told (subst TellsAnswer (sym (c.loop-cut.invariant.same told)) told) in
    record {
      stays = stays_then c.args.self.now c.loop-cut.self c.refill.new.self _ _ _ c.loop-cut.invariant.stays
          (subst (λ (v : Cutter). Stays v c.refill.new.self (g.S.Source.reading c.loop-cut.source).left
          (g.S.Source.reading c.refill.new.source).left) same c.in_ok-refill.ensures.stays);
      met_end = c.in_ok-refill.ensures.met_end;
      later = omega (arith, c.in_ok-refill.ensures.cause.later, c.loop-cut.invariant.later);
      reads = λ told. absurd (going told);
      same = λ told. absurd (going told);
    }

pub returns-in-Some-clause-cut : goal.returns-in-Some-clause-cut
returns-in-Some-clause-cut g c =
    is_cut_then c.args.self.now c.loop-cut.self c.cut.new.self _ _ c.in-Some.cut c.loop-cut.invariant.stays
    (c.in-Some.ensures.cut _ c.loop-cut.invariant.met_end)

pub returns-in-Some-clause-over : goal.returns-in-Some-clause-over
returns-in-Some-clause-over g c = λ over.
    let same : c.loop-cut.self ≡ c.args.self.now = c.loop-cut.invariant.same (Met_end over.met_end) in
    ap Ok (same_Some _ _ (c.in-Some.ensures.over (subst IsOver (sym same) over)))
