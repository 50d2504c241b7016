-- The nodes that are kept, from the first node up. A marked node has its children before it, all of them kept under new
-- numbers; so with these numbers it is right after what was kept. At the end the last one has the root's heading.
use Rattle.std.proofs.Common.{◌≡◌, ◌≢◌, ℕ, zero, suc, ◌+◌, ◌<◌, ◌≤◌, List, [], ◌∷◌, ◌++◌, length, take, set, refl, sym, ap, ◌∙◌, subst}
use Rattle.std.proofs.Common.{Option, Some, None, Bool, true, false, ⊎_elim, arith, length-append}
use Rattle.std.specs.Prelude.{slice_get, slice_index, slice_index_or, Result, Ok, Err, OnOk, is_err}
use Rattle.std.proofs.lemmas.Bool.{cases_eq, false≢true}
use Rattle.std.proofs.lemmas.List.{length-set, get_or-set_same, get_or-set_other, length-map}
use Rattle.std.proofs.lemmas.Option.{slice_get_within, same_Some}
use Rattle.hx_board.specs.Lists.{StandsIn}
use Rattle.hx_board.proofs.ListLaws.{get-push, get-push_before, get-push_last, get-map, get-there}
use Rattle.hx_tree.specs.declared.nodes.Heading.{Heading}
use Rattle.hx_tree.specs.declared.nodes.Node.{Node}
use Rattle.hx_tree.specs.Rules.{IsRightNode}
use Rattle.hx_tree.specs.Trees.{headings_of, AreRight}
use Rattle.hx_tree.proofs.TreeGrowth.{headings_of-append, one_more_right, valid_tree}
use Rattle.hx_book.specs.Trees.{Names, IsNeeded, IsTreeOf, renamed_node}
use Rattle.hx_book.specs.Renaming.{IsMarked, AreMarkedFrom, IsKept, IsRest, EndsInRoot, AreKeptBelow}
use Rattle.hx_book.proofs.ChildLaws.{take-heading, right-at, child-before, needed-size}
use Rattle.hx_book.proofs.RenamingLaws.{node-renamed, node-same}
use Rattle.hx_book.proofs.NeedLaws.{needed-marked}

-- ---- what is left

pub rest-node : (nodes : List Node) (place : ℕ) (rest : List Node) (node : Node) (later : List Node) → IsRest nodes place rest
    → rest ≡ node ∷ later → slice_get nodes place ≡ Some node
rest-node nodes place rest node later is same =
    let here : place ≡ place + 0 = omega arith in
    ap (λ (p : ℕ). slice_get nodes p) here ∙ is 0 ∙ ap (λ (ns : List Node). slice_get ns 0) same

pub rest-more : (nodes : List Node) (place : ℕ) (rest : List Node) (node : Node) (later : List Node) → IsRest nodes place rest
    → rest ≡ node ∷ later → IsRest nodes (place + 1) later
rest-more nodes place rest node later is same k =
    let next : place + 1 + k ≡ place + suc k = omega arith in
    ap (λ (p : ℕ). slice_get nodes p) next ∙ is (suc k) ∙ ap (λ (ns : List Node). slice_get ns (suc k)) same

past-none : (nodes : List Node) (place : ℕ) → slice_get nodes place ≡ None → length nodes ≤ place
past-none [] place e = omega arith
past-none (node ∷ nodes) zero e = cc
past-none (node ∷ nodes) (suc place) e = omega (arith, past-none nodes place e)

pub rest-end : (nodes : List Node) (place : ℕ) (rest : List Node) → IsRest nodes place rest → rest ≡ [] → length nodes ≤ place
rest-end nodes place rest is same =
    let none : slice_get nodes (place + 0) ≡ None = is 0 ∙ ap (λ (ns : List Node). slice_get ns 0) same in
    omega (arith, past-none nodes (place + 0) none)

-- what holds of a success holds where there is no error
pub on-ok : {T E : Type 0} → (result : Result T E) (P : Type 0) → is_err result ≡ false → OnOk result P → P
on-ok (Ok x) P none holds = holds
on-ok (Err e) P none holds = absurd (false≢true (sym none))

-- ---- headings

module _ (kept : List Node) (node : Node) where
  -- what stood at a place stands there still
  heading-before : (k : ℕ) (found : Option Heading) (heading : Heading) → slice_get (headings_of kept) k ≡ found → found ≡ Some heading
      → slice_get (headings_of (kept ++ node ∷ [])) k ≡ found
  heading-before k found heading at is =
      ap (λ (hs : List Heading). slice_get hs k) (headings_of-append kept (node ∷ []))
      ∙ get-push_before (headings_of kept) node.heading k heading (at ∙ is) ∙ sym is

  heading-last : slice_get (headings_of (kept ++ node ∷ [])) (length kept) ≡ Some node.heading
  heading-last =
      ap (λ (hs : List Heading). slice_get hs (length kept)) (headings_of-append kept (node ∷ []))
      ∙ ap (λ (k : ℕ). slice_get (headings_of kept ++ node.heading ∷ []) k) (sym (length-map kept (λ (n : Node). n.heading)))
      ∙ get-push_last (headings_of kept) node.heading

-- ---- what is kept

pub kept-none : (nodes : List Node) (root : ℕ) (marks : List Bool) (names : List ℕ) → length names ≡ length nodes
    → AreKeptBelow nodes root marks 0 [] names
kept-none nodes root marks names long = record {
  right = λ k. tt;
  few = omega arith;
  inside = omega arith;
  named = long;
  gives = λ place h less. absurd (omega (arith, less));
  places = [];
  needed = record {
    as_many = refl;
    needed = λ k place e. absurd (omega (arith, slice_get_within {A = ℕ} [] k place e));
    in_order = λ j k one other less e f. absurd (omega (arith, slice_get_within {A = ℕ} [] k other f));
    renamed = λ k place e. absurd (omega (arith, slice_get_within {A = ℕ} [] k place e));
    same_node = λ k place node e there. absurd (omega (arith, slice_get_within {A = ℕ} [] k place e));
  };
  each = λ place h less. absurd (omega (arith, less));
  below = λ k place e. absurd (omega (arith, slice_get_within {A = ℕ} [] k place e));
  last = λ less. absurd (omega (arith, less));
}

module _ (nodes : List Node) (right : AreRight nodes) (root : ℕ) (marks : List Bool) (marked : AreMarkedFrom nodes root 0 marks) (bound : ℕ)
    (kept : List Node) (names : List ℕ)
    (old : AreKeptBelow nodes root marks bound kept names) where
  pub kept-skip : bound < length nodes → (IsMarked marks bound → ⊥) → AreKeptBelow nodes root marks (bound + 1) kept names
  kept-skip within none = record {
    right = old.right;
    few = omega (arith, old.few);
    inside = omega (arith, within);
    named = old.named;
    gives = λ place h less. ⊎_elim
        (λ (same : place ≡ bound). absurd (none (subst (λ (p : ℕ). IsMarked marks p) same h)))
        (λ (different : place ≡ bound → ⊥). old.gives place h (omega (arith, less, different)))
        (cases_eq place bound);
    places = old.places;
    needed = old.needed;
    each = λ place h less. ⊎_elim
        (λ (same : place ≡ bound). absurd (none (subst (λ (p : ℕ). IsMarked marks p) same h)))
        (λ (different : place ≡ bound → ⊥). old.each place h (omega (arith, less, different)))
        (cases_eq place bound);
    below = λ k place e. omega (arith, old.below k place e);
    last = λ less. ⊎_elim
        (λ (same : root ≡ bound). absurd (none (subst (λ (p : ℕ). IsMarked marks p) same marked.root_marked)))
        (λ (different : root ≡ bound → ⊥). old.last (omega (arith, less, different)))
        (cases_eq root bound);
  }

  pub child-kept : (node : Node) → slice_get nodes bound ≡ Some node → (child : ℕ) → Names node.rule child → child < length names
  child-kept node there child names_it =
      omega (arith, child-before nodes right bound node there child names_it, slice_get_within nodes bound node there, old.named)

  module _ (node : Node) (there : slice_get nodes bound ≡ Some node) (here : IsMarked marks bound) where
    abbrev name : ℕ → ℕ
    name place = slice_index names place

    abbrev new : Node
    new = renamed_node name node

    abbrev more : List Node
    more = kept ++ new ∷ []

    abbrev new_names : List ℕ
    new_names = set names bound (length kept)

    within : bound < length nodes
    within = slice_get_within nodes bound node there

    own_heading : slice_get (headings_of nodes) bound ≡ Some node.heading
    own_heading = get-map (λ (n : Node). n.heading) nodes bound node there

    same-child : (child : ℕ) → Names node.rule child
        → slice_get (headings_of kept) (name child) ≡ slice_get (headings_of (take bound nodes)) child
    same-child child names_it =
        let less : child < bound = child-before nodes right bound node there child names_it in
        let child_marked : IsMarked marks child =
        marked.closed bound child (omega arith) here (record { node = node; there = there; names = names_it }) in
        old.gives child child_marked less ∙ sym (take-heading nodes bound child less)

    new-right : IsRightNode (headings_of kept) new
    new-right = node-renamed (headings_of (take bound nodes)) (headings_of kept) name node same-child
        (right-at nodes right bound node there)

    gives-own : slice_get (headings_of more) (slice_index new_names bound) ≡ slice_get (headings_of nodes) bound
    gives-own =
        let inside_names : bound < length names = omega (arith, within, old.named) in
        ap (λ (p : ℕ). slice_get (headings_of more) p) (get_or-set_same names bound (length kept) 0 inside_names) ∙ heading-last kept new
        ∙ sym own_heading

    gives-before : (place : ℕ) → IsMarked marks place → place < bound
        → slice_get (headings_of more) (slice_index new_names place) ≡ slice_get (headings_of nodes) place
    gives-before place h less =
        let different : place ≡ bound → ⊥ = λ (same : place ≡ bound). omega (arith, same, less) in
        let found = get-there (headings_of nodes) place (omega (arith, less, within, length-map nodes (λ (n : Node). n.heading))) in
        ap (λ (p : ℕ). slice_get (headings_of more) p) (get_or-set_other names bound place (length kept) 0 different)
        ∙ heading-before kept new (name place) (slice_get (headings_of nodes) place) found.0 (old.gives place h less) found.1

    gives-more : (place : ℕ) → IsMarked marks place → place < bound + 1
        → slice_get (headings_of more) (slice_index new_names place) ≡ slice_get (headings_of nodes) place
    gives-more place h less = ⊎_elim
        (λ (same : place ≡ bound). rw same gives-own)
        (λ (different : place ≡ bound → ⊥). gives-before place h (omega (arith, less, different)))
        (cases_eq place bound)

    abbrev new_places : List ℕ
    new_places = old.places ++ bound ∷ []

    needed-more : (k place : ℕ) → slice_get new_places k ≡ Some place → IsNeeded nodes root place
    needed-more k place e = ⊎_elim
        (λ was. old.needed.needed k place was)
        (λ last. subst (λ (p : ℕ). IsNeeded nodes root p) (sym last.1) (marked.needed bound here))
        (get-push old.places bound place k e)

    abbrev new_name : ℕ → ℕ
    new_name place = slice_index new_names place

    -- what stands before has the name that it had
    name-before : (place : ℕ) → place < bound → name place ≡ new_name place
    name-before place less = sym (get_or-set_other names bound place (length kept) 0 (λ (same : place ≡ bound). omega (arith, same, less)))

    renamed-more : (k place : ℕ) → slice_get new_places k ≡ Some place → new_name place ≡ k
    renamed-more k place e = ⊎_elim
        (λ was. sym (name-before place (old.below k place was)) ∙ old.needed.renamed k place was)
        (λ last. ap new_name last.1 ∙ get_or-set_same names bound (length kept) 0 (omega (arith, within, old.named))
        ∙ sym (last.0 ∙ old.needed.as_many))
        (get-push old.places bound place k e)

    -- a node that stands before is renamed as it was
    node-before : (place : ℕ) (at : Node) → place ≤ bound → slice_get nodes place ≡ Some at
        → renamed_node name at ≡ renamed_node new_name at
    node-before place at less there_at =
        node-same name new_name at (λ child names_it.
        name-before child (omega (arith, child-before nodes right place at there_at child names_it, less)))

    node-more : (k place : ℕ) (at : Node) → slice_get new_places k ≡ Some place → slice_get nodes place ≡ Some at
        → slice_get more k ≡ Some (renamed_node new_name at)
    node-more k place at e there_at = ⊎_elim
        (λ was. get-push_before kept new k (renamed_node name at) (old.needed.same_node k place at was there_at)
        ∙ ap Some (node-before place at (omega (arith, old.below k place was)) there_at))
        (λ last.
        let same : node ≡ at = same_Some node at (sym there ∙ ap (λ (p : ℕ). slice_get nodes p) (sym last.1) ∙ there_at) in
        ap (λ (j : ℕ). slice_get more j) (last.0 ∙ old.needed.as_many) ∙ get-push_last kept new
        ∙ ap Some (node-before bound node (omega arith) there ∙ ap (λ (n : Node). renamed_node new_name n) same))
        (get-push old.places bound place k e)

    each-more : (place : ℕ) → IsMarked marks place → place < bound + 1 → StandsIn new_places place
    each-more place h less = ⊎_elim
        (λ (same : place ≡ bound). (length old.places, get-push_last old.places bound ∙ ap Some (sym same)))
        (λ (different : place ≡ bound → ⊥). let was = old.each place h (omega (arith, less, different)) in
        (was.0, get-push_before old.places bound was.0 place was.1))
        (cases_eq place bound)

    order-more : (j k one other : ℕ) → j < k → slice_get new_places j ≡ Some one → slice_get new_places k ≡ Some other → one < other
    order-more j k one other less first second = ⊎_elim
        (λ a. ⊎_elim
        (λ b. old.needed.in_order j k one other less a b)
        (λ b. omega (arith, old.below j one a, b.1))
        (get-push old.places bound other k second))
        (λ a. absurd (⊎_elim
        (λ b. omega (arith, slice_get_within old.places k other b, a.0, less))
        (λ b. omega (arith, a.0, b.0, less))
        (get-push old.places bound other k second)))
        (get-push old.places bound one j first)

    below-more : (k place : ℕ) → slice_get new_places k ≡ Some place → place < bound + 1
    below-more k place e =
        ⊎_elim (λ was. omega (arith, old.below k place was)) (λ last. omega (arith, last.1)) (get-push old.places bound place k e)

    last-more : root < bound + 1 → EndsInRoot nodes root more
    last-more less =
        let same : root ≡ bound = omega (arith, less, marked.under bound here) in
        record { front = kept; last = new; same = refl; same_heading = ap (λ (p : ℕ). slice_get (headings_of nodes) p) same ∙ own_heading }

    pub kept-more : AreKeptBelow nodes root marks (bound + 1) more new_names
    kept-more = record {
      right = one_more_right kept new old.right new-right;
      few = omega (arith, length-append kept (new ∷ []), old.few);
      inside = omega (arith, within);
      named = length-set names bound (length kept) ∙ old.named;
      gives = gives-more;
      places = new_places;
      needed = record {
        as_many = omega (arith, length-append old.places (bound ∷ []), length-append kept (new ∷ []), old.needed.as_many);
        needed = needed-more;
        in_order = order-more;
        renamed = renamed-more;
        same_node = node-more;
      };
      each = each-more;
      below = below-more;
      last = last-more;
    }

  pub kept-next : (node : Node) → slice_get nodes bound ≡ Some node → (is_needed : Bool) → slice_index_or marks bound false ≡ is_needed
      → (new_kept : List Node) (new_names : List ℕ)
      → (is_needed ≡ true → IsKept kept names bound node new_kept new_names) → (is_needed ≡ false → (new_kept ≡ kept) × (new_names ≡ names))
      → AreKeptBelow nodes root marks (bound + 1) new_kept new_names
  kept-next node there true mark new_kept new_names needed dropped =
      let is : IsKept kept names bound node new_kept new_names = needed refl in
      rw (is.grown, is.named) (kept-more node there mark)
  kept-next node there false mark new_kept new_names needed dropped =
      let same : (new_kept ≡ kept) × (new_names ≡ names) = dropped refl in
      rw (same.0, same.1) (kept-skip (slice_get_within nodes bound node there) (λ h. false≢true (sym mark ∙ h)))

  module _ (past : length nodes ≤ bound) (inside : root < length nodes) where
    end : EndsInRoot nodes root kept
    end = old.last (omega (arith, past, inside))

    some : kept ≢ []
    some none =
        let empty : length (end.front ++ end.last ∷ []) ≡ 0 = ap (λ (ns : List Node). length ns) (sym end.same ∙ none) in
        absurd (omega (arith, length-append end.front (end.last ∷ []), empty))

    size-of : (k : ℕ) (node : Node) → slice_get kept k ≡ Some node → node.heading.position.size ≡ end.last.heading.position.size
    size-of k node e =
        let within : k < length kept = slice_get_within kept k node e in
        let found = get-there old.places k (omega (arith, within, old.needed.as_many)) in
        let below : found.0 < length nodes = omega (arith, old.below k found.0 found.1, old.inside) in
        let own = get-there nodes found.0 below in
        let same : renamed_node (λ (place : ℕ). slice_index names place) own.0 ≡ node =
        same_Some _ node (sym (old.needed.same_node k found.0 own.0 found.1 own.1) ∙ e) in
        let at : slice_get (headings_of nodes) found.0 ≡ Some node.heading =
        get-map (λ (n : Node). n.heading) nodes found.0 own.0 own.1 ∙ ap (λ (n : Node). Some n.heading) same in
        let path = old.needed.needed k found.0 found.1 in
        needed-size nodes right path.0 root found.0 end.last.heading node.heading path.1 end.same_heading at

    pub kept-all : IsTreeOf nodes root kept
    kept-all = record {
      valid = valid_tree kept some old.right;
      few = omega (arith, old.few, old.inside);
      root = end.last;
      is_root = record { front = end.front; same = end.same };
      same_heading = end.same_heading;
      places = old.places;
      name = λ place. slice_index names place;
      needed = old.needed;
      each = λ place need.
          let h : IsMarked marks place = needed-marked nodes root marks marked root place need.0 marked.root_marked need.1 in
          old.each place h (omega (arith, marked.under place h, inside, past));
      one_size = size-of;
    }
