use Rattle.std.proofs.Common.{ℕ, ◌+◌, ◌++◌, length, refl, ap, List, Bool, subst, arith}
use Rattle.std.specs.Prelude.{Ok}
use Rattle.hx_io.specs.Sources.{prepend, SomeReadFailed}
use Rattle.hx_text.specs.Grammars.{text_of}
use Rattle.hx_cmd_play.specs.declared.trees.TreeSoFar.{TreeSoFar}
use Rattle.hx_cmd_play.specs.Standings.{KeepsBrought}
use Rattle.hx_cmd_play.proofs.TreeLaws.{fault_due, keep_due, too_large, going_after, takes}
use Rattle.hx_cmd_play.proofs.trees.TreeSoFar.take_line.Goals as goal

pub returns-in-Err-clause-takes : goal.returns-in-Err-clause-takes
returns-in-Err-clause-takes g c = λ before so_far taken.
    fault_due before c.args.self.now so_far c.args.lines.now.held (g.S.Source.reading c.args.source.now).left taken _ _ c.in-Err.fault
    (c.in-Err.ensures.brings before c.args.self.now.nodes.items so_far taken.upto)

pub returns-in-Err-keep-clause-takes : goal.returns-in-Err-keep-clause-takes
returns-in-Err-keep-clause-takes g c = λ before so_far taken.
    let rose = SomeReadFailed (g.S.Source.reading c.args.source.now) (g.S.Source.reading c.next.new.source) in
    keep_due before c.args.self.now so_far c.args.lines.now.held (g.S.Source.reading c.args.source.now).left taken
    c.next.new.self c.next.new.cutter (g.S.Source.reading c.next.new.source).left rose _ c.keep.new.self c.in-Ok.brought
    c.in-Err-keep.refusal refl (c.in-Ok.ensures.brings before c.args.self.now.nodes.items so_far taken.upto)
    c.in-Err-keep.ensures.keeps

pub returns-then-self-gt-MOST_BYTES-clause-takes : goal.returns-then-self-gt-MOST_BYTES-clause-takes
returns-then-self-gt-MOST_BYTES-clause-takes g c = λ before so_far taken.
    let rose = SomeReadFailed (g.S.Source.reading c.args.source.now) (g.S.Source.reading c.next.new.source) in
    too_large before c.args.self.now so_far c.args.lines.now.held (g.S.Source.reading c.args.source.now).left taken
    c.next.new.self c.next.new.cutter (g.S.Source.reading c.next.new.source).left rose _ c.keep.new.self c.in-Ok.brought
    c.in-Ok-keep.ended refl refl
    (ap (λ (line : List ℕ). c.args.self.now.bytes + (length line + 1)) c.line.ensures.bytes)
    (c.in-Ok.ensures.brings before c.args.self.now.nodes.items so_far taken.upto) c.in-Ok-keep.ensures.keeps
    c.if-self-gt-MOST_BYTES.true

pub returns-else-self-gt-MOST_BYTES-clause-going : goal.returns-else-self-gt-MOST_BYTES-clause-going
returns-else-self-gt-MOST_BYTES-clause-going g c = λ is.
    let judged = c.requires.going.judged in
    let left = (g.S.Source.reading c.args.source.now).left in
    let before = prepend (text_of judged.lines ++ c.args.lines.now.held) left in
    let brings = c.in-Ok.ensures.brings before judged.nodes judged.lines (record { judged = judged.judged; parts = refl }) in
    let rose = SomeReadFailed (g.S.Source.reading c.args.source.now) (g.S.Source.reading c.next.new.source) in
    let mid : TreeSoFar = record {
      judge = c.next.new.self;
      nodes = c.args.self.now.nodes;
      bytes = c.args.self.now.bytes + (length c.line.result.now + 1);
    } in
    going_after before judged.nodes judged.lines c.next.new.self c.next.new.cutter (g.S.Source.reading c.next.new.source).left rose
    mid c.keep.new.self c.in-Ok.brought brings
    (subst (λ (e : Bool). KeepsBrought mid c.in-Ok.brought c.keep.new.self (Ok e)) is c.in-Ok-keep.ensures.keeps) refl
    (omega (arith, c.if-self-gt-MOST_BYTES.false))

pub returns-else-self-gt-MOST_BYTES-clause-takes : goal.returns-else-self-gt-MOST_BYTES-clause-takes
returns-else-self-gt-MOST_BYTES-clause-takes g c = λ before so_far taken.
    let rose = SomeReadFailed (g.S.Source.reading c.args.source.now) (g.S.Source.reading c.next.new.source) in
    takes before c.args.self.now so_far c.args.lines.now.held (g.S.Source.reading c.args.source.now).left taken
    c.next.new.self c.next.new.cutter (g.S.Source.reading c.next.new.source).left rose _ c.keep.new.self c.in-Ok.brought
    c.in-Ok-keep.ended refl refl
    (ap (λ (line : List ℕ). c.args.self.now.bytes + (length line + 1)) c.line.ensures.bytes)
    (c.in-Ok.ensures.brings before c.args.self.now.nodes.items so_far taken.upto) c.in-Ok-keep.ensures.keeps
    (omega (arith, c.if-self-gt-MOST_BYTES.false))
