-- A book with one node more. The node is right after the others, and of a position and mover that none of them is of;
-- its place becomes the head of its bucket's chain, in both sets of chains.
use Rattle.std.proofs.Common.{◌≡◌, ◌≢◌, ℕ, zero, suc, ◌+◌, ◌-◌, ◌<◌, ◌≤◌, List, [], ◌∷◌, ◌++◌, length, set, refl, sym, ap, ◌∙◌, subst, ◌⊎◌}
use Rattle.std.proofs.Common.{inl, inr, ⊎_elim, arith, length-append}
use Rattle.std.specs.Prelude.{slice_index}
use Rattle.std.proofs.lemmas.Bool.{cases_eq}
use Rattle.std.proofs.lemmas.List.{length-set, get_or-set_same, get_or-set_other}
use Rattle.std.proofs.lemmas.Option.{slice_get_within}
use Rattle.hx_board.proofs.ListLaws.{get-push, get-push_before, get-push_last}
use Rattle.hx_tree.specs.declared.nodes.Node.{Node}
use Rattle.hx_tree.specs.Rules.{IsRightNode}
use Rattle.hx_tree.specs.Trees.{headings_of}
use Rattle.hx_tree.proofs.TreeGrowth.{one_more_right}
use Rattle.hx_tree.specs.Entries.{HasNoEntry}
use Rattle.hx_tree.proofs.EntryLaws.{distinct-more}
use Rattle.hx_book.specs.Entries.{IsBook}
use Rattle.hx_book.specs.Chains.{Links, IsLinked, IsIn, IsNewestBelow, AreChains}
use Rattle.hx_book.specs.Buckets.{position_key, stones_key, FieldsKeep}

index-push_before : (xs : List ℕ) (x place : ℕ) → place < length xs → slice_index (xs ++ x ∷ []) place ≡ slice_index xs place
index-push_before [] x place less = absurd (omega arith)
index-push_before (y ∷ ys) x zero less = refl
index-push_before (y ∷ ys) x (suc place) less = index-push_before ys x place (omega arith)

index-push_last : (xs : List ℕ) (x : ℕ) → slice_index (xs ++ x ∷ []) (length xs) ≡ x
index-push_last [] x = refl
index-push_last (y ∷ ys) x = index-push_last ys x

-- ---- chains

module _ (key : Node → ℕ) (nodes : List Node) (node : Node) where
  in-before : (bucket place : ℕ) → IsIn key nodes bucket place → IsIn key (nodes ++ node ∷ []) bucket place
  in-before bucket place was =
      record { node = was.node; there = get-push_before nodes node place was.node was.there; same_bucket = was.same_bucket }

  in-last : IsIn key (nodes ++ node ∷ []) (key node) (length nodes)
  in-last = record { node = node; there = get-push_last nodes node; same_bucket = refl }

  in-cases : (bucket place : ℕ) → IsIn key (nodes ++ node ∷ []) bucket place
      → IsIn key nodes bucket place ⊎ ((place ≡ length nodes) × (key node ≡ bucket))
  in-cases bucket place is = ⊎_elim
      (λ was. inl (record { node = is.node; there = was; same_bucket = is.same_bucket }))
      (λ last. inr (last.0, ap key (sym last.1) ∙ is.same_bucket))
      (get-push nodes node is.node place is.there)

  -- below the end nothing changes
  newest-before : (bucket bound link : ℕ) → bound ≤ length nodes → IsNewestBelow key nodes bucket bound link
      → IsNewestBelow key (nodes ++ node ∷ []) bucket bound link
  newest-before bucket bound link small newest = record {
    within = newest.within;
    is_in = λ some. in-before bucket (link - 1) (newest.is_in some);
    newest = λ place from below is.
        ⊎_elim (λ was. newest.newest place from below was) (λ last. absurd (omega (arith, last.0))) (in-cases bucket place is);
  }

  -- the head of another bucket is as before
  newest-other : (bucket link : ℕ) → (key node ≡ bucket → ⊥) → IsNewestBelow key nodes bucket (length nodes) link
      → IsNewestBelow key (nodes ++ node ∷ []) bucket (length nodes + 1) link
  newest-other bucket link other newest = record {
    within = omega (arith, newest.within);
    is_in = λ some. in-before bucket (link - 1) (newest.is_in some);
    newest = λ place from below is. ⊎_elim
        (λ was. newest.newest place from (slice_get_within nodes place was.node was.there) was)
        (λ last. other last.1)
        (in-cases bucket place is);
  }

  -- the new node is the newest of its bucket
  newest-own : IsNewestBelow key (nodes ++ node ∷ []) (key node) (length nodes + 1) (length nodes + 1)
  newest-own = record {
    within = omega arith;
    is_in = λ some. let last : length nodes + 1 - 1 ≡ length nodes = omega arith in rw last in-last;
    newest = λ place from below is. absurd (omega (arith, from, below));
  }

module _ (key : ℕ → Node → ℕ) (nodes : List Node) (heads next : List ℕ) (node : Node) (chains : AreChains key nodes heads next)
    (bucket : ℕ) (is_bucket : bucket ≡ key (length heads) node) (below : bucket < length heads) where
  abbrev own : Node → ℕ
  own = key (length heads)

  abbrev more : List Node
  more = nodes ++ node ∷ []

  abbrev new_heads : List ℕ
  new_heads = set heads bucket (length nodes + 1)

  abbrev new_next : List ℕ
  new_next = next ++ slice_index heads bucket ∷ []

  head-more : (b : ℕ) → b < length heads → IsNewestBelow own more b (length nodes + 1) (slice_index new_heads b)
  head-more b inside = ⊎_elim
      (λ (same : b ≡ bucket).
      rw (same, get_or-set_same heads bucket (length nodes + 1) 0 below)
      (subst (λ (mine : ℕ). IsNewestBelow own more mine (length nodes + 1) (length nodes + 1)) (sym is_bucket)
      (newest-own own nodes node)))
      (λ (different : b ≡ bucket → ⊥). rw (get_or-set_other heads bucket b (length nodes + 1) 0 different)
      (newest-other own nodes node b (slice_index heads b) (λ same. different (sym same ∙ sym is_bucket)) (chains.heads_lead b inside)))
      (cases_eq b bucket)

  next-more_before : (b place : ℕ) → IsIn own nodes b place → IsNewestBelow own more b place (slice_index new_next place)
  next-more_before b place was =
      let less : place < length nodes = slice_get_within nodes place was.node was.there in
      let less_next : place < length next = omega (arith, less, chains.long) in
      let within : place ≤ length nodes = omega (arith, less) in
      let value : slice_index new_next place ≡ slice_index next place = index-push_before next (slice_index heads bucket) place less_next in
      rw value (newest-before own nodes node b place (slice_index next place) within (chains.next_lead b place was))

  next-more_last : (b place : ℕ) → place ≡ length nodes → b ≡ bucket → IsNewestBelow own more b place (slice_index new_next place)
  next-more_last b place at here =
      let last : place ≡ length next = at ∙ sym chains.long in
      let value : slice_index new_next place ≡ slice_index heads bucket = ap (λ (p : ℕ). slice_index new_next p) last
      ∙ index-push_last next (slice_index heads bucket) in
      let within : length nodes ≤ length nodes = omega arith in
      rw (value, here, at) (newest-before own nodes node bucket (length nodes) (slice_index heads bucket) within
      (chains.heads_lead bucket below))

  next-more : (b place : ℕ) → IsIn own more b place → IsNewestBelow own more b place (slice_index new_next place)
  next-more b place is = ⊎_elim
      (next-more_before b place)
      (λ last. next-more_last b place last.0 (sym last.1 ∙ sym is_bucket))
      (in-cases own nodes node b place is)

  pub chains-more : AreChains key more new_heads new_next
  chains-more =
      let same : length new_heads ≡ length heads = length-set heads bucket (length nodes + 1) in
      let longer : length more ≡ length nodes + 1 = omega (arith, length-append nodes (node ∷ [])) in
      record {
        long = omega (arith, longer, chains.long, length-append next (slice_index heads bucket ∷ []));
        some = omega (arith, same, chains.some);
        few = omega (arith, same, chains.few);
        heads_lead = rw (same, longer) head-more;
        next_lead = rw same next-more;
      }

  -- where the links after it are given by what was done to those before
  pub chains-added : (made_heads made_next : List ℕ) → made_heads ≡ set heads bucket (length next + 1) → made_next ≡ next
      ++ slice_index heads bucket ∷ []
      → AreChains key more made_heads made_next
  chains-added made_heads made_next heads_made next_made =
      let held : length next ≡ length nodes = chains.long in
      rw (heads_made, next_made, held) chains-more

-- ---- the book

module _ (slots : ℕ) (nodes : List Node) (node : Node) (book : IsBook (record { slots = slots; nodes = nodes })) where
  pub book-more : length nodes < slots → IsRightNode (headings_of nodes) node → HasNoEntry nodes node.heading.position node.heading.to_move
      → IsBook (record { slots = slots; nodes = nodes ++ node ∷ [] })
  book-more room right none = record {
    held = omega (arith, length-append nodes (node ∷ []));
    small = book.small;
    right = one_more_right nodes node book.right right;
    distinct = distinct-more nodes node book.distinct none;
  }

-- the fields before, the buckets of the node, and the links after it was linked in
module _ (slots : ℕ) (nodes : List Node) (by_position by_stones : Links) (room : ℕ) (node : Node)
    (fields : FieldsKeep slots nodes by_position by_stones room)
    (place stones : ℕ) (is_place : place ≡ position_key (length by_position.heads) node)
    (is_stones : stones ≡ stones_key (length by_stones.heads) node)
    (place_below : place < length by_position.heads) (stones_below : stones < length by_stones.heads)
    (new_position new_stones : Links) (position_added : IsLinked by_position place new_position)
    (stones_added : IsLinked by_stones stones new_stones) where
  pub fields-more : length nodes ≢ slots → IsRightNode (headings_of nodes) node
      → HasNoEntry nodes node.heading.position node.heading.to_move
      → FieldsKeep slots (nodes ++ node ∷ []) new_position new_stones room
  fields-more room_left right none = record {
    book = book-more slots nodes node fields.book (omega (arith, room_left, fields.book.held)) right none;
    position_chains = chains-added position_key nodes by_position.heads by_position.next node fields.position_chains place is_place
        place_below
        new_position.heads new_position.next position_added.heads_set position_added.next_pushed;
    stones_chains = chains-added stones_key nodes by_stones.heads by_stones.next node fields.stones_chains stones is_stones stones_below
        new_stones.heads new_stones.next stones_added.heads_set stones_added.next_pushed;
    node_room = fields.node_room;
    position_room = omega (arith, fields.position_room, position_added.same_room);
    stones_room = omega (arith, fields.stones_room, stones_added.same_room);
  }
