-- What the slot holds at the end, where one seat has the parts of all.
use Rattle.std.proofs.Common.{◌≡◌, ℕ, zero, suc, List, [], ◌∷◌, length, map, refl, sym, ◌∙◌, subst, arith, Option, Some}
use Rattle.std.specs.List.{sum_by, All}
use mathlib.Core.Option.{some, some-injective}
use lib.ListN.{get_elem?}
use Rattle.atomic_table.specs.Table.{Final, Seen}
use Rattle.hx_tree.specs.declared.nodes.Node.{Node}
use Rattle.hx_tree.specs.Entries.{Extends}
use Rattle.hx_book.specs.Entries.{Contents, contents}
use Rattle.hx_share.specs.declared.views.Limits.{Limits}
use Rattle.hx_share.specs.OneList.{view, seats_of, holders_of, AreCurrentParts, IsOneList, Seated, no_parts}
use Rattle.hx_share.specs.Readers.{Reader, part_of}
use Rattle.hx_share.proofs.Sums.{sum-whole}
use Rattle.hx_share.proofs.PartLaws.{seats-of_seats, holders-of_seats, holders-le}

-- the book that was in the slot begins with what each of the seats has seen
pub record IsLast (limits : Limits) (seats : List Reader) (held : Option Contents) : Type 0 where
  pub nodes : List Node
  pub book : held ≡ Some (contents limits.slots nodes)
  pub seen : All (λ (r : Reader). Extends r.seen nodes) seats

fronts : (limits : Limits) (nodes : List Node) (seats : List Reader) → AreCurrentParts limits nodes (map part_of seats)
    → All (λ (r : Reader). Extends r.seen nodes) seats
fronts limits nodes [] current k d less = absurd (omega arith)
fronts limits nodes (r ∷ seats) current zero d less = current.0.front
fronts limits nodes (r ∷ seats) current (suc k) d less = fronts limits nodes seats current.1 k d (omega arith)

closed : (limits : Limits) (id : ℕ) (seats : List Reader) (words : List ℕ) (slots : List (Option Contents)) (held : Option Contents)
    → Final (Seen (IsOneList limits) id (view (map part_of seats))) words slots → length seats ≡ limits.seats
    → get_elem? slots 0 ≡ some held → IsLast limits seats held
closed limits id seats words slots held final all at =
    let s = final.0 in let c = final.1.0 in let there = final.1.1 in let v = view (map part_of seats) in
    let whole : sum_by seats_of s.views ≡ seats_of v = c.seats ∙ (sym all ∙ sym (seats-of_seats seats)) in
    let nobody : sum_by holders_of s.views ≡ 0 = sum-whole holders_of seats_of holders-le s.views id v no_parts refl there whole
    ∙ holders-of_seats seats in record {
      nodes = c.nodes;
      book = some-injective held (Some (contents limits.slots c.nodes))
          (sym at ∙ final.4 0 (Some (contents limits.slots c.nodes)) (c.home nobody));
      seen = fronts limits c.nodes seats (c.current id v there);
    }

-- the gathered seat at the end
pub ended : (limits : Limits) (id : ℕ) (me : Seated) (seats : List Reader) (words : List ℕ) (slots : List (Option Contents))
    (held : Option Contents)
    → me ≡ (view (map part_of seats), []) → Final (Seen (IsOneList limits) id me.0) words slots → length seats ≡ limits.seats
    → get_elem? slots 0 ≡ some held
    → IsLast limits seats held
ended limits id me seats words slots held whole final all at =
    closed limits id seats words slots held (subst (λ (m : Seated). Final (Seen (IsOneList limits) id m.0) words slots) whole final) all at
