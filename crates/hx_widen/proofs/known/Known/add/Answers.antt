use Rattle.std.proofs.Common.{rules, ◌≡◌, ◌++◌, [], ◌∷◌, length}
use Rattle.hx_board.proofs.ListLaws.{get-push_last}
use Rattle.hx_widen.proofs.KnownEntries.{one_more_known}
use Rattle.hx_widen.proofs.known.Known.add.Goals as goal

pub returns-clause-known : goal.returns-clause-known
returns-clause-known g list = λ known there.
    let headings : g.push_reserved.new.self.items ≡ g.args.self.now.headings.items ++ g.args.heading ∷ [] = search rules in
    let places : g.push_reserved-2.new.self.items ≡ g.args.self.now.places.items ++ g.args.place ∷ [] = search rules in
    rw (headings, places) (one_more_known list _ _ g.args.heading g.args.place known there)

pub returns-clause-there : goal.returns-clause-there
returns-clause-there g =
    let headings : g.push_reserved.new.self.items ≡ g.args.self.now.headings.items ++ g.args.heading ∷ [] = search rules in
    let count : g.in-Ok.count ≡ length g.args.self.now.headings.items = search rules in
    rw (headings, count) (get-push_last g.args.self.now.headings.items g.args.heading)
