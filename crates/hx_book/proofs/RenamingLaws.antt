-- A node with new numbers for its children is right after headings that hold those of its children at the new numbers.
use Rattle.std.proofs.Common.{◌≡◌, ℕ, zero, suc, add-one, ◌+◌, ◌<◌, List, [], ◌∷◌, map, length, get_or, set, refl, sym, ap, ◌∙◌, Option}
use Rattle.std.proofs.Common.{Some, None, inl, inr, ⊎_elim}
use Rattle.std.proofs.lemmas.Option.{get_or_from_slice_get, slice_get_read, slice_get_within}
use Rattle.std.specs.Prelude.{slice_get, IfSome, Contains}
use Rattle.hx_board.proofs.ListLaws.{get-map, get-map_none}
use Rattle.hx_link.specs.declared.links.Link.{Link}
use Rattle.hx_tree.specs.declared.nodes.Heading.{Heading}
use Rattle.hx_tree.specs.declared.nodes.Line.{Line}
use Rattle.hx_tree.specs.declared.nodes.Line.TheVariants.{Child, Under}
use Rattle.hx_tree.specs.declared.nodes.Node.{Node}
use Rattle.hx_tree.specs.declared.nodes.Rule.{Rule}
use Rattle.hx_tree.specs.declared.nodes.Rule.TheVariants.{Chain, Links, Move, All, Fill, Turned}
use Rattle.hx_tree.specs.Rules.{IsRightRule, IsRightNode}
use Rattle.hx_tree.specs.Answers.{IsRightLine, cell_of, cells_of}
use Rattle.hx_book.specs.Trees.{NamesChild, HasLine, Names, renamed_line, renamed_rule, renamed_node}

-- ---- lists of which the first were mapped

abbrev pub mapped : {A : Type 0} → (A → A) → ℕ → List A → List A
mapped f zero xs = xs
mapped f (suc n) [] = []
mapped f (suc n) (x ∷ xs) = f x ∷ mapped f n xs

pub length-mapped : {A : Type 0} → (f : A → A) (n : ℕ) (xs : List A) → length (mapped f n xs) ≡ length xs
length-mapped f zero xs = refl
length-mapped f (suc n) [] = refl
length-mapped f (suc n) (x ∷ xs) = ap suc (length-mapped f n xs)

pub mapped-next : {A : Type 0} → (f : A → A) (n : ℕ) (xs : List A) (d : A) → get_or (mapped f n xs) n d ≡ get_or xs n d
mapped-next f zero xs d = refl
mapped-next f (suc n) [] d = refl
mapped-next f (suc n) (x ∷ xs) d = mapped-next f n xs d

pub mapped-set : {A : Type 0} → (f : A → A) (n : ℕ) (xs : List A) (x : A) → slice_get xs n ≡ Some x
    → set (mapped f n xs) n (f x) ≡ mapped f (suc n) xs
mapped-set f zero [] x e = cc
mapped-set f zero (y ∷ ys) x e = cc
mapped-set f (suc n) [] x e = cc
mapped-set f (suc n) (y ∷ ys) x e = ap (λ (zs : List _). f y ∷ zs) (mapped-set f n ys x e)

pub mapped-all : {A : Type 0} → (f : A → A) (xs : List A) → mapped f (length xs) xs ≡ map f xs
mapped-all f [] = refl
mapped-all f (x ∷ xs) = ap (λ (zs : List _). f x ∷ zs) (mapped-all f xs)

-- ---- lines

cell-renamed : (name : ℕ → ℕ) (line : Line) → cell_of (renamed_line name line) ≡ cell_of line
cell-renamed name (Child cell child) = refl
cell-renamed name (Under cell better kill) = refl

cells-renamed : (name : ℕ → ℕ) (lines : List Line) → cells_of (map (renamed_line name) lines) ≡ cells_of lines
cells-renamed name [] = refl
cells-renamed name (line ∷ lines) = ap (λ (n : ℕ). n ∷ cells_of (map (renamed_line name) lines)) (cell-renamed name line)
    ∙ ap (λ (ns : List ℕ). cell_of line ∷ ns) (cells-renamed name lines)

contains-map : {A B : Type 0} → (f : A → B) (xs : List A) (x : A) → Contains xs x → Contains (map f xs) (f x)
contains-map f xs x has =
    let there : slice_get xs has.0 ≡ Some x = slice_get_read xs _ has.0 x refl has.1 (sym has.2) in
    let mapped_there : slice_get (map f xs) has.0 ≡ Some (f x) = get-map f xs has.0 x there in
    (has.0, slice_get_within (map f xs) has.0 (f x) mapped_there, get_or_from_slice_get (map f xs) has.0 (f x) (f x) mapped_there)

module _ (before after : List Heading) (heading : Heading) (links : List Link) (threats : List ℕ) (name : ℕ → ℕ) (lines : List Line) where
  line-renamed : (line : Line) → ((child : ℕ) → NamesChild line child → slice_get after (name child) ≡ slice_get before child)
      → IsRightLine before heading links threats lines line
      → IsRightLine after heading links threats (map (renamed_line name) lines) (renamed_line name line)
  line-renamed (Child cell child) same right = rw (same child refl) right
  line-renamed (Under cell better kill) same right = (
    right.0,
    ⊎_elim (λ has. inl (name has.0, contains-map (renamed_line name) lines (Child better has.0) has.1)) (λ outside. inr outside) right.1,
  )

  if-renamed : (k : ℕ) (found : Option Line) → slice_get lines k ≡ found
      → ((child : ℕ) → HasLine lines child → slice_get after (name child) ≡ slice_get before child)
      → IfSome found (IsRightLine before heading links threats lines)
      → IfSome (slice_get (map (renamed_line name) lines) k) (IsRightLine after heading links threats (map (renamed_line name) lines))
  if-renamed k None there same right = rw (get-map_none (renamed_line name) lines k there) tt
  if-renamed k (Some line) there same right =
      rw (get-map (renamed_line name) lines k line there)
      (line-renamed line (λ child has. same child (record { k = k; line = line; there = there; names = has })) right)

-- ---- rules

module _ (before after : List Heading) (heading : Heading) (name : ℕ → ℕ) where
  rule-renamed : (rule : Rule) → ((child : ℕ) → Names rule child → slice_get after (name child) ≡ slice_get before child)
      → IsRightRule before heading rule
      → IsRightRule after heading (renamed_rule name rule)
  rule-renamed Chain same right = right
  rule-renamed (Links steps) same right = right
  rule-renamed (Move cell child) same right = record { mover = right.mover; empty = right.empty; leads = rw (same child refl) right.leads }
  rule-renamed (All steps threats lines) same right = record {
    mover = right.mover;
    some = right.some;
    some_empty = right.some_empty;
    links = right.links;
    steps_right = right.steps_right;
    threats_right = right.threats_right;
    cells = rw (cells-renamed name lines) right.cells;
    lines_right = λ k. if-renamed before after heading right.links threats name lines k (slice_get lines k) refl same (right.lines_right k);
  }
  rule-renamed (Fill steps child) same right = record { some = right.some; right = right.right; leads = rw (same child refl) right.leads }
  rule-renamed (Turned child) same right = rw (same child refl) right

pub node-renamed : (before after : List Heading) (name : ℕ → ℕ) (node : Node)
    → ((child : ℕ) → Names node.rule child → slice_get after (name child) ≡ slice_get before child)
    → IsRightNode before node → IsRightNode after (renamed_node name node)
node-renamed before after name node same right =
    record { board = right.board; rule = rule-renamed before after node.heading name node.rule same right.rule }

-- ---- the same new numbers

module _ (one other : ℕ → ℕ) where
  line-same : (line : Line) → ((child : ℕ) → NamesChild line child → one child ≡ other child)
      → renamed_line one line ≡ renamed_line other line
  line-same (Child cell child) same = ap (λ (c : ℕ). Child cell c) (same child refl)
  line-same (Under cell better kill) same = refl

  lines-same : (lines : List Line) → ((child : ℕ) → HasLine lines child → one child ≡ other child)
      → map (renamed_line one) lines ≡ map (renamed_line other) lines
  lines-same [] same = refl
  lines-same (line ∷ lines) same =
      let first : renamed_line one line ≡ renamed_line other line =
      line-same line (λ child names. same child (record { k = 0; line = line; there = refl; names = names })) in
      let rest : map (renamed_line one) lines ≡ map (renamed_line other) lines =
      lines-same lines (λ child has. same child (record { k = suc has.k; line = has.line; there = has.there; names = has.names })) in
      ap (λ (l : Line). l ∷ map (renamed_line one) lines) first ∙ ap (λ (ls : List Line). renamed_line other line ∷ ls) rest

  rule-same : (rule : Rule) → ((child : ℕ) → Names rule child → one child ≡ other child) → renamed_rule one rule ≡ renamed_rule other rule
  rule-same Chain same = refl
  rule-same (Links steps) same = refl
  rule-same (Move cell child) same = ap (λ (c : ℕ). Move cell c) (same child refl)
  rule-same (All steps threats lines) same = ap (λ (ls : List Line). All steps threats ls) (lines-same lines same)
  rule-same (Fill steps child) same = ap (λ (c : ℕ). Fill steps c) (same child refl)
  rule-same (Turned child) same = ap (λ (c : ℕ). Turned c) (same child refl)

  -- a node is renamed alike by numbers that are the same for its children
  pub node-same : (node : Node) → ((child : ℕ) → Names node.rule child → one child ≡ other child)
      → renamed_node one node ≡ renamed_node other node
  node-same node same = ap (λ (r : Rule). record { heading = node.heading; rule = r }) (rule-same node.rule same)

-- ---- the loop over the lines

module _ {A : Type 0} (f : A → A) (old now : List A) (k : ℕ) (x : A) (is : now ≡ mapped f k old) (inside : k < length old)
    (read : x ≡ get_or now k x) where
  pub line-read : slice_get old k ≡ Some x
  line-read = slice_get_read old _ k x refl inside (read ∙ ap (λ (xs : List A). get_or xs k x) is ∙ mapped-next f k old x)

  pub mapped-step : set now k (f x) ≡ mapped f (k + 1) old
  mapped-step = ap (λ (xs : List A). set xs k (f x)) is ∙ mapped-set f k old x line-read ∙ ap (λ (n : ℕ). mapped f n old) (sym (add-one k))

pub mapped-end : {A : Type 0} → (f : A → A) (old now : List A) (k : ℕ) → now ≡ mapped f k old → k ≡ length old → now ≡ map f old
mapped-end f old now k is end = is ∙ ap (λ (n : ℕ). mapped f n old) end ∙ mapped-all f old
