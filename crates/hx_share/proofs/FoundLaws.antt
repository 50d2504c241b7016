-- What was stored is found in each later list, and what right nodes say of one position agrees.
use Rattle.std.proofs.Common.{◌≡◌, ℕ, zero, suc, ◌<◌, ◌≤◌, List, [], ◌∷◌, ◌++◌, refl, sym, ◌∙◌, subst, ⊎_elim, arith, Option, Some, None}
use Rattle.std.proofs.Common.{Ok, Err}
use Rattle.std.specs.Prelude.{slice_get, IfSome, IsSomeAnd}
use Rattle.std.proofs.lemmas.Bool.{cases_lt}
use Rattle.std.proofs.lemmas.Option.{slice_get_within}
use Rattle.hx_board.specs.declared.colours.Colour.{Colour}
use Rattle.hx_board.specs.Colours.{other_of}
use Rattle.hx_board.specs.Positions.{Board}
use Rattle.hx_board.specs.Game.{Wins}
use Rattle.hx_board.proofs.ColourLaws.{one_or_other}
use Rattle.hx_board.proofs.ListLaws.{get-append, get-append_before}
use Rattle.hx_tree.specs.declared.nodes.Node.{Node}
use Rattle.hx_tree.specs.declared.entries.Found.{Found}
use Rattle.hx_tree.specs.Trees.{headings_of, AreRight}
use Rattle.hx_tree.specs.Entries.{IsEntry, IsFirstEntry, Extends, FindsFirst}
use Rattle.hx_tree.proofs.EntryLaws.{extends-on, first-stored}
use Rattle.hx_proof.specs.Winners.{HeadingWins, OnlyWinner, AllWin}
use Rattle.hx_proof.proofs.TreeSoundness.{node_wins, tree_wins}
use Rattle.hx_share.specs.Laws.{StoredIsFound, StoredWinnerIsFound, ExtendsOn, Agree, LooksAsTheMachine, StoresAsTheMachine}

-- ---- a longer list

module _ (board : Board) (mover : Colour) where
  first-append : (nodes more : List Node) (place : ℕ) → IsFirstEntry nodes board mover place
      → IsFirstEntry (nodes ++ more) board mover place
  first-append nodes more place is = record {
    entry = record { node = is.entry.node; there = get-append nodes more place is.entry.node is.entry.there; is_of = is.entry.is_of };
    first = λ earlier less entry. is.first earlier less (record {
      node = entry.node;
      there = sym (get-append_before nodes more earlier (omega (arith, less, slice_get_within nodes place is.entry.node is.entry.there)))
          ∙ entry.there;
      is_of = entry.is_of;
    });
  }

  first-later : (stored later : List Node) (place : ℕ) → Extends stored later → IsFirstEntry stored board mover place
      → IsFirstEntry later board mover place
  first-later stored later place more is =
      subst (λ (l : List Node). IsFirstEntry l board mover place) (sym more.1) (first-append stored more.0 place is)

  -- there is one first entry
  first-once : (nodes : List Node) (one other : ℕ) → IsFirstEntry nodes board mover one → IsFirstEntry nodes board mover other → one ≡ other
  first-once nodes one other is also = ⊎_elim
      (λ (less : one < other). absurd (also.first one less is.entry))
      (λ (from : other ≤ one). ⊎_elim
      (λ (less : other < one). absurd (is.first other less also.entry))
      (λ (to : one ≤ other). omega arith)
      (cases_lt other one))
      (cases_lt one other)

  found-first : (nodes : List Node) (place : ℕ) (result : Option Found) → IsFirstEntry nodes board mover place
      → FindsFirst nodes board mover result
      → IsSomeAnd result (λ found. found.index ≡ place)
  found-first nodes place None is none = absurd (none place is.entry)
  found-first nodes place (Some found) is finds = first-once nodes found.index place finds.first is

pub stored-found : StoredIsFound
stored-found slots seen stored later node place result puts more finds =
    let board = node.heading.position in let mover = node.heading.to_move in
    found-first board mover later place result
    (first-later board mover stored later place more (first-stored slots puts.before stored node place puts.puts)) finds

pub later-on : ExtendsOn
later-on = extends-on

-- ---- winners

pub all-win : (nodes : List Node) → AreRight nodes → AllWin nodes
all-win [] right k = tt
all-win (node ∷ nodes) right k = tree_wins (node ∷ nodes) (record { some = λ empty. cc; right = right }) k

headings-win : (nodes : List Node) → AllWin nodes → (k : ℕ) → IfSome (slice_get (headings_of nodes) k) HeadingWins
headings-win [] wins k = tt
headings-win (node ∷ nodes) wins zero = let first : OnlyWinner node.heading = wins 0 in first.wins
headings-win (node ∷ nodes) wins (suc k) = headings-win nodes (λ j. wins (suc j)) k

-- who wins is the only winner
one-winner : (board : Board) (mover one other : Colour) → Wins one board mover → ¬ Wins (other_of other) board mover → one ≡ other
one-winner board mover one other wins never = ⊎_elim
    (λ (same : one ≡ other). same)
    (λ (apart : one ≡ other_of other). absurd (never (subst (λ (c : Colour). Wins c board mover) apart wins)))
    (one_or_other one other)

entry-wins : (nodes : List Node) (board : Board) (mover : Colour) (place : ℕ) → AllWin nodes → (entry : IsEntry nodes board mover place)
    → OnlyWinner entry.node.heading
entry-wins nodes board mover place wins entry = subst (λ (o : Option Node). IfSome o (λ n. OnlyWinner n.heading)) entry.there (wins place)

pub agreed : (nodes others : List Node) → AllWin nodes → AllWin others → Agree nodes others
agreed nodes others wins also board mover place other_place one other =
    let mine = entry-wins nodes board mover place wins one in let theirs = entry-wins others board mover other_place also other in
    one-winner board mover one.node.heading.winner other.node.heading.winner
    (subst (λ (b : Board). Wins one.node.heading.winner b mover) one.is_of.same_position
    (subst (λ (m : Colour). Wins one.node.heading.winner one.node.heading.position m) one.is_of.same_mover mine.wins))
    (λ wins_too. theirs.other_does_not
    (subst (λ (b : Board). Wins (other_of other.node.heading.winner) b other.node.heading.to_move) (sym other.is_of.same_position)
    (subst (λ (m : Colour). Wins (other_of other.node.heading.winner) board m) (sym other.is_of.same_mover) wins_too)))

-- what is found names the winner who wins
found-winner : (nodes : List Node) (board : Board) (mover winner : Colour) (result : Option Found) → AllWin nodes → Wins winner board mover
    → FindsFirst nodes board mover result → IsSomeAnd result (λ found. Unit {0}) → IsSomeAnd result (λ found. found.winner ≡ winner)
found-winner nodes board mover winner None wins won finds some = absurd some
found-winner nodes board mover winner (Some found) wins won finds some =
    let entry = finds.first.entry in let theirs = entry-wins nodes board mover found.index wins entry in
    let same = one-winner board mover winner entry.node.heading.winner won (λ wins_too. theirs.other_does_not
    (subst (λ (b : Board). Wins (other_of entry.node.heading.winner) b entry.node.heading.to_move) (sym entry.is_of.same_position)
    (subst (λ (m : Colour). Wins (other_of entry.node.heading.winner) board m) (sym entry.is_of.same_mover) wins_too))) in
    finds.same_winner ∙ sym same

is-some : (result : Option Found) (place : ℕ) → IsSomeAnd result (λ found. found.index ≡ place) → IsSomeAnd result (λ found. Unit {0})
is-some None place is = absurd is
is-some (Some found) place is = tt

pub stored-winner : StoredWinnerIsFound
stored-winner slots seen stored later node place result seen_right right later_right puts more finds =
    let won : HeadingWins node.heading = node_wins (headings_of seen) node (headings-win seen (all-win seen seen_right)) right in
    found-winner later node.heading.position node.heading.to_move node.heading.winner result (all-win later later_right) won finds
    (is-some result place (stored-found slots seen stored later node place result puts more finds))

-- ---- the book machine

pub looks-machine : LooksAsTheMachine
looks-machine book worker board mover result finds = (finds, refl)

pub stores-machine : StoresAsTheMachine
stores-machine book worker node (Ok place) nodes puts = (puts, refl)
stores-machine book worker node (Err refusal) nodes puts = (puts.0, refl)
