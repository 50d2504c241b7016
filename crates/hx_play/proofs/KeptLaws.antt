-- What becomes of the kept links. A kept link is taken out and is due; what is due gives way to links inside it that
-- join its ends once they are joined, or to one of its parts; and a stone is put on the board.
use Rattle.std.proofs.Common.{◌≡◌, ◌≢◌, ℕ, Bool, false, List, refl, sym, ap, ◌∙◌, subst, Some, None, Option, ◌⊎◌, inl, inr, ⊎_elim}
use Rattle.std.specs.Prelude.{slice_get, IfSome}
use Rattle.std.proofs.lemmas.Bool.{false≢true, false_from_ne_true}
use Rattle.std.proofs.Math.Decide.{ℕ_discrete}
use Rattle.hx_board.specs.declared.colours.Colour.{Colour}
use Rattle.hx_board.specs.declared.vertices.Vertex.{Vertex}
use Rattle.hx_board.specs.Sets.{has, IsSubset, ShareNone}
use Rattle.hx_board.specs.Positions.{Board, put}
use Rattle.hx_board.specs.Graph.{Joined}
use Rattle.hx_board.proofs.StoneLaws.{size-put, stones-put, empty-put}
use Rattle.hx_board.proofs.Joins.{joined-sym}
use Rattle.hx_board.proofs.KeptStones.{KeepsStones}
use Rattle.hx_link.specs.declared.links.Kind.TheVariants.{Full}
use Rattle.hx_link.specs.declared.links.Link.{Link}
use Rattle.hx_link.specs.Steps.{HasEnds}
use Rattle.hx_play.specs.Kept.{HasStonesOf, AreLeft, IsMarked, IsKept, AreJoined, AreKept, touches}

same_some : {A : Type 0} {x y : A} → Some x ≡ Some y → x ≡ y
same_some e = cc

-- ---- stones

module _ (player : Colour) where
  pub stones-keep : (earlier later : Board) → HasStonesOf player earlier later → KeepsStones player earlier later
  stones-keep earlier later stones = record { same_size = stones.same_size; own = stones.own }

  pub stones-same : (board : Board) → HasStonesOf player board board
  stones-same board = record { same_size = refl; own = λ n h. h }

  pub stones-then : (one two three : Board) → HasStonesOf player one two → HasStonesOf player two three → HasStonesOf player one three
  stones-then one two three first second =
      record { same_size = second.same_size ∙ first.same_size; own = λ n h. second.own n (first.own n h) }

  pub stones-more : (board : Board) (who : Colour) (cell : ℕ) → HasStonesOf player board (put board who cell)
  stones-more board who cell = record { same_size = size-put board who cell; own = λ n h. (stones-put board who player cell n).1 (inr h) }

  -- ---- the ends of a link, in either order

  pub joined-between : (board : Board) (link : Link) (x y : Vertex) → HasEnds link x y → Joined board player link.a link.b
      → Joined board player x y
  joined-between board link x y (inl e) joined = rw (← e.0, ← e.1) joined
  joined-between board link x y (inr e) joined = rw (← e.0, ← e.1) (joined-sym board player link.a link.b joined)

  pub joined-ends : (board : Board) (link : Link) (x y : Vertex) → HasEnds link x y → Joined board player x y
      → Joined board player link.a link.b
  joined-ends board link x y (inl e) joined = rw (e.0, e.1) joined
  joined-ends board link x y (inr e) joined = rw (e.0, e.1) (joined-sym board player x y joined)

-- a set that the stone does not touch lacks its cell
pub untouched : (stone : Option ℕ) (set n : ℕ) → touches stone set ≡ false → stone ≡ Some n → has set n ≡ false
untouched None set n off on = absurd (cc on)
untouched (Some cell) set n off on = let same : cell ≡ n = cc on in rw same at off

-- ---- marks

-- the marks with one taken out
pub record IsWithout (marks : List Bool) (place : ℕ) (fewer : List Bool) : Type 0 where
  pub from : (p : ℕ) → IsMarked fewer p → IsMarked marks p × (p ≢ place)
  pub stays : (p : ℕ) → IsMarked marks p → p ≢ place → IsMarked fewer p

-- the marks with those at the new places
pub record IsWith (marks : List Bool) (New : ℕ → Type 0) (more : List Bool) : Type 0 where
  pub from : (p : ℕ) → IsMarked more p → IsMarked marks p ⊎ New p
  pub stays : (p : ℕ) → IsMarked marks p → IsMarked more p
  pub added : (p : ℕ) → New p → IsMarked more p

module _ (base : Board) (player : Colour) (links : List Link) where
  abbrev Kept : List Bool → Option Link → Option ℕ → Board → Type 0
  Kept marks due stone board = AreKept base player links marks due stone board

  same_link : (place : ℕ) (one other : Link) → slice_get links place ≡ Some one → slice_get links place ≡ Some other → one ≡ other
  same_link place one other first second = same_some (sym first ∙ second)

  -- a kept link is taken out, and is due
  pub take_out : (marks fewer : List Bool) (stone : Option ℕ) (board : Board) (place : ℕ) (link : Link) → Kept marks None stone board
      → IsKept links marks place link → IsWithout marks place fewer → Kept fewer (Some link) stone board
  take_out marks fewer stone board place link kept here without = record {
    stones = kept.stones;
    full = λ p l k. kept.full p l (was p l k);
    left = λ p l k. kept.left p l (was p l k);
    apart = λ one other first second k m. kept.apart one other first second (was one first k) (was other second m);
    due_left = kept.left place link here;
    due_apart = λ p l k. kept.apart place p link l here (was p l k) (λ same. (without.from p k.marked).1 (sym same));
    lead = λ later stones joined due. kept.lead later stones (λ p l k. each later joined due p l k (ℕ_discrete p place)) tt;
  }
    where
      was : (p : ℕ) (l : Link) → IsKept links fewer p l → IsKept links marks p l
      was p l k = record { there = k.there; marked = (without.from p k.marked).0 }

      each : (later : Board) → AreJoined player links fewer later → Joined later player link.a link.b → (p : ℕ) (l : Link)
          → IsKept links marks p l → Dec (p ≡ place)
          → Joined later player l.a l.b
      each later joined due p l k (yes same) =
          let Q : ℕ → Type 0 = λ n. slice_get links n ≡ Some l in
          let one : link ≡ l = same_link place link l here.there (subst Q same k.there) in
          let P : Link → Type 0 = λ x. Joined later player x.a x.b in
          subst P one due
      each later joined due p l k (no differ) = joined p l (record { there = k.there; marked = without.stays p k.marked differ })

  -- what is due gives way to links inside it
  module _ (marks more : List Bool) (whole : Link) (stone : Option ℕ) (board : Board) (New : ℕ → Type 0)
      (kept : Kept marks (Some whole) stone board) (adds : IsWith marks New more)
      (new_full : (p : ℕ) (l : Link) → New p → slice_get links p ≡ Some l → l.kind ≡ Full)
      (new_inside : (p : ℕ) (l : Link) → New p → slice_get links p ≡ Some l → IsSubset l.carrier whole.carrier)
      (new_apart : (p q : ℕ) (l m : Link) → New p → New q → p ≢ q → slice_get links p ≡ Some l → slice_get links q ≡ Some m
      → ShareNone l.carrier m.carrier)
      (rejoin : (later : Board) → HasStonesOf player board later
      → ((p : ℕ) (l : Link) → New p → slice_get links p ≡ Some l → Joined later player l.a l.b)
      → Joined later player whole.a whole.b) where
    old : (p : ℕ) (l : Link) → slice_get links p ≡ Some l → IsMarked marks p → IsKept links marks p l
    old p l there marked = record { there = there; marked = marked }

    apart_cases : (one other : ℕ) (first second : Link) → slice_get links one ≡ Some first → slice_get links other ≡ Some second
        → one ≢ other
        → IsMarked marks one ⊎ New one → IsMarked marks other ⊎ New other → ShareNone first.carrier second.carrier
    apart_cases one other first second here there differ (inl k) (inl m) n h =
        kept.apart one other first second (old one first here k) (old other second there m) differ n h
    apart_cases one other first second here there differ (inl k) (inr m) n h =
        false_from_ne_true (has second.carrier n)
        (λ shared. false≢true (sym (kept.due_apart one first (old one first here k) n (new_inside other second m there n shared)) ∙ h))
    apart_cases one other first second here there differ (inr k) (inl m) n h =
        kept.due_apart other second (old other second there m) n (new_inside one first k here n h)
    apart_cases one other first second here there differ (inr k) (inr m) n h = new_apart one other first second k m differ here there n h

    pub take_in : Kept more None stone board
    take_in = record {
      stones = kept.stones;
      full = λ p l k. ⊎_elim (λ m. kept.full p l (old p l k.there m)) (λ m. new_full p l m k.there) (adds.from p k.marked);
      left = λ p l k n h. ⊎_elim (λ m. kept.left p l (old p l k.there m) n h) (λ m. kept.due_left n (new_inside p l m k.there n h))
          (adds.from p k.marked);
      apart = λ one other first second k m differ. apart_cases one other first second k.there m.there differ (adds.from one k.marked)
          (adds.from other m.marked);
      due_left = tt;
      due_apart = tt;
      lead = λ later stones joined _. kept.lead later stones
          (λ p l k. joined p l (record { there = k.there; marked = adds.stays p k.marked }))
          (rejoin later stones (λ p l m there. joined p l (record { there = there; marked = adds.added p m })));
    }

  -- what is due gives way to one of its parts, which the stone leaves alone
  pub narrow : (marks : List Bool) (whole part : Link) (stone : Option ℕ) (board : Board) → Kept marks (Some whole) stone board
      → HasEnds part whole.a whole.b → IsSubset part.carrier whole.carrier → touches stone part.carrier ≡ false
      → ((p : ℕ) (l : Link) → IsKept links marks p l → touches stone l.carrier ≡ false) → Kept marks (Some part) None board
  narrow marks whole part stone board kept ends inside lacks others = record {
    stones = kept.stones;
    full = kept.full;
    left = λ p l k n h empty _. kept.left p l k n h empty (λ on. false≢true (sym (untouched stone l.carrier n (others p l k) on) ∙ h));
    apart = kept.apart;
    due_left = λ n h empty _. kept.due_left n (inside n h) empty (λ on. false≢true (sym (untouched stone part.carrier n lacks on) ∙ h));
    due_apart = λ p l k n h. kept.due_apart p l k n (inside n h);
    lead = λ later stones joined due. kept.lead later stones joined (joined-between player later part whole.a whole.b ends due);
  }

  -- a stone that touches no kept link needs no answer
  pub forget : (marks : List Bool) (stone : Option ℕ) (board : Board) → Kept marks None stone board
      → ((p : ℕ) (l : Link) → IsKept links marks p l → touches stone l.carrier ≡ false) → Kept marks None None board
  forget marks stone board kept others = record {
    stones = kept.stones;
    full = kept.full;
    left = λ p l k n h empty _. kept.left p l k n h empty (λ on. false≢true (sym (untouched stone l.carrier n (others p l k) on) ∙ h));
    apart = kept.apart;
    due_left = tt;
    due_apart = tt;
    lead = kept.lead;
  }

  -- a stone more
  pub stone_more : (marks : List Bool) (due : Option Link) (board : Board) (who : Colour) (cell : ℕ) → Kept marks due None board
      → Kept marks due (Some cell) (put board who cell)
  stone_more marks due board who cell kept = record {
    stones = stones-then player base board (put board who cell) kept.stones (stones-more player board who cell);
    full = kept.full;
    left = λ p l k. after l.carrier (kept.left p l k);
    apart = kept.apart;
    due_left = due_after due kept.due_left;
    due_apart = kept.due_apart;
    lead = λ later stones. kept.lead later (stones-then player board (put board who cell) later (stones-more player board who cell) stones);
  }
    where
      after : (set : ℕ) → AreLeft base board None set → AreLeft base (put board who cell) (Some cell) set
      after set left n h empty off = (empty-put board who cell n).1 (left n h empty (λ e. cc), λ same. off (ap Some (sym same)))

      due_after : (d : Option Link) → IfSome d (λ link. AreLeft base board None link.carrier)
          → IfSome d (λ link. AreLeft base (put board who cell) (Some cell) link.carrier)
      due_after None left = tt
      due_after (Some link) left = after link.carrier left
