use Rattle.std.proofs.Common.{◌≡◌, ◌+◌, ◌-◌, ◌∙◌, take, drop, refl, ap, sym, arith}
use Rattle.hx_io.proofs.SourceLaws.{prepend-nil}
use Rattle.hx_lines.specs.Cutters.{Cutter}
use Rattle.hx_lines.proofs.CutterLaws.{refilled, refill_failed, on_err}
use Rattle.hx_lines.proofs.cutters.LineCutter.refill.Goals as goal

pub returns-clause-stays : goal.returns-clause-stays
returns-clause-stays g c =
    refilled _ _ _ _ c.self.inside.buffer c.move_to_front.new.buffer c.read_behind.new.buffer
    c.self.inside.line_start c.self.inside.start c.self.inside.end c.self.inside.line_len c.in_ok-count.count
    (record {
      line_first = c.self.invariant.line_first;
      order = c.self.invariant.order;
      to_front = c.move_to_front.ensures;
      same = c.read_behind.ensures.front;
    })
    (ap (λ (v : Cutter). v.held) (sym c.self.view_is))
    (ap (λ (v : Cutter). v.line) (sym c.self.view_is))
    c.in_ok-count.ensures.reads.bytes
    refl
    refl

pub returns-in_err-count-clause-stays : goal.returns-in_err-count-clause-stays
returns-in_err-count-clause-stays g c =
    let none : c.self.inside.end - c.self.inside.line_start - (c.self.inside.start - c.self.inside.line_start)
    ≡ c.self.inside.end - c.self.inside.line_start + 0 - (c.self.inside.start - c.self.inside.line_start) = omega arith in
    refilled _ _ _ _ c.self.inside.buffer c.move_to_front.new.buffer c.read_behind.new.buffer
    c.self.inside.line_start c.self.inside.start c.self.inside.end c.self.inside.line_len 0
    (record {
      line_first = c.self.invariant.line_first;
      order = c.self.invariant.order;
      to_front = c.move_to_front.ensures;
      same = c.read_behind.ensures.front;
    })
    (ap (λ (v : Cutter). v.held) (sym c.self.view_is))
    (ap (λ (v : Cutter). v.line) (sym c.self.view_is))
    (sym c.in_err-count.ensures.reads.bytes ∙ sym (prepend-nil _))
    (ap (λ k. take k (drop (c.self.inside.start - c.self.inside.line_start) c.read_behind.new.buffer)) none)
    refl

pub returns-in_err-count-clause-err : goal.returns-in_err-count-clause-err
returns-in_err-count-clause-err g c =
    on_err c.from_residual.result _
    (refill_failed c.args.self.now _ c.self.inside.buffer c.move_to_front.new.buffer c.read_behind.new.buffer
    c.self.inside.line_start c.self.inside.start c.self.inside.end c.self.inside.line_len
    (record {
      line_first = c.self.invariant.line_first;
      order = c.self.invariant.order;
      to_front = c.move_to_front.ensures;
      same = c.read_behind.ensures.front;
    })
    (ap (λ (v : Cutter). v.held) (sym c.self.view_is))
    (ap (λ (v : Cutter). v.line) (sym c.self.view_is))
    refl refl (ap (λ (v : Cutter). v.met_end) c.self.view_is))
