use Rattle.std.proofs.Common.{◌≡◌, ◌∷◌, ◌++◌, [], ap, sym, ◌∙◌, arith, append_assoc, Some}
use Rattle.std.proofs.lemmas.List.Elements.{All-pop}
use Rattle.hx_count.proofs.Keeps.{joins-keep}
use Rattle.hx_count.proofs.DealLaws.{joined-parts}
use Rattle.hx_count.proofs.counts.Counts.gather.Goals as goal

pub join_seat-requires : goal.join_seat-requires
join_seat-requires c =
    let i = c.loop-other.invariant in let table = ap (λ w. w.table) c.self.view_is in let other = c.in-Some-pop.other in let v =
    c.into_seat.ensures in
    let of : other.made ≡ c.args.self.now =
    (All-pop (λ s. s.made ≡ c.args.self.now) _ _ (Some other) c.in-Some-pop.ensures.items i.left).1 in (
      i.table ∙ sym table,
      v.table ∙ (ap (λ m. m.table) of ∙ sym table),
      ap (λ m. m.1) v.part,
      omega (arith, c.self.invariant.0),
      joins-keep c.self.inside.table.shared.key c.loop-other.seat.id c.loop-other.seat.me.0 c.into_seat.result.id c.into_seat.result.me.0,
    )

pub loop-other-preserved : goal.loop-other-preserved
loop-other-preserved c =
    let i = c.loop-other.invariant in let other = c.in-Some-pop.other in let t = i.parts in let e = c.in-Some-pop.ensures.items in record {
      table = c.join_seat.ensures.0 ∙ i.table;
      left = (All-pop (λ s. s.made ≡ c.args.self.now) _ _ (Some other) e i.left).0;
      parts = (
        other ∷ t.0,
        t.1 ∙ (ap (λ l. l ++ t.0) e ∙ append_assoc c.pop-in-loop-other.new.self.items (other ∷ []) t.0),
        joined-parts c.loop-other.seat.me c.into_seat.result.me c.join_seat.new.seat.me other t.0 t.2 c.into_seat.ensures.part
            c.join_seat.ensures.2,
      );
    }
