use Rattle.std.proofs.Common.{◌≡◌, ◌<◌, ℕ, List, Some, length, ap, ◌∙◌, arith}
use Rattle.std.specs.Prelude.{slice_get, slice_index}
use Rattle.hx_tree.specs.declared.nodes.Line.{Line}
use Rattle.hx_book.specs.Trees.{renamed_line}
use Rattle.hx_book.proofs.RenamingLaws.{line-read, mapped-step, mapped-end}
use Rattle.hx_book.proofs.trees.renamed_lines.Goals as goal

pub renamed_line-requires : goal.renamed_line-requires
renamed_line-requires c = λ place has.
    let many : length c.into_inner-items.result.items ≡ length c.args.lines =
    ap (λ (ls : List Line). length ls) c.into_inner-items.ensures in
    let inside : c.loop-k.k < length c.args.lines =
    omega (arith, c.loop-k-test.true, c.len-k-end.ensures, c.into_inner-items.result.ok, many) in
    let there : slice_get c.args.lines c.loop-k.k ≡ Some c.index.result.now =
    line-read (renamed_line
    (λ (p : ℕ). slice_index c.args.names.now p)) c.args.lines c.loop-k.items.items c.loop-k.k c.index.result.now c.loop-k.invariant
    inside c.index.ensures in
    c.requires place (record { k = c.loop-k.k; line = c.index.result.now; there = there; names = has })

pub loop-k-preserved : goal.loop-k-preserved
loop-k-preserved c =
    let many : length c.into_inner-items.result.items ≡ length c.args.lines =
    ap (λ (ls : List Line). length ls) c.into_inner-items.ensures in
    let inside : c.loop-k.k < length c.args.lines =
    omega (arith, c.loop-k-test.true, c.len-k-end.ensures, c.into_inner-items.result.ok, many) in
    rw c.renamed_line.ensures
    (mapped-step (renamed_line
    (λ (p : ℕ). slice_index c.args.names.now p)) c.args.lines c.loop-k.items.items c.loop-k.k c.index.result.now c.loop-k.invariant
    inside c.index.ensures)

pub returns : goal.returns
returns c =
    let many : length c.into_inner-items.result.items ≡ length c.args.lines =
    ap (λ (ls : List Line). length ls) c.into_inner-items.ensures in
    let end : c.loop-k.k ≡ length c.args.lines =
    omega (arith, c.loop-k-test.false, c.loop-k.auto.k-end, c.len-k-end.ensures, c.into_inner-items.result.ok, many) in
    c.new.ensures ∙ mapped-end
    (renamed_line (λ (p : ℕ). slice_index c.args.names.now p)) c.args.lines c.loop-k.items.items c.loop-k.k c.loop-k.invariant end
