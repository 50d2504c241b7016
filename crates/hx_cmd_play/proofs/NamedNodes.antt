-- A node that is named at fault is wrong or not plain, and nothing before it is at fault. What else may be said of the
-- same input asks that the nodes before it are right and plain, and where it is said further on, the named node would
-- be among them.
use Rattle.std.proofs.Common.{◌≡◌, ◌⊎◌, inl, inr, ℕ, ◌≤◌, List, [], ◌∷◌, ◌++◌, length, sym, ap, ◌∙◌, subst, arith, length-append}
use Rattle.std.proofs.lemmas.List.{append-nil}
use Rattle.std.proofs.lemmas.List.Elements.{All-head, All-tail}
use Rattle.hx_lex.proofs.Ends.{push_injective}
use Rattle.hx_tree.specs.declared.nodes.Node.{Node}
use Rattle.hx_tree.specs.Rules.{IsRightNode}
use Rattle.hx_tree.specs.Plain.{IsPlain, ArePlain}
use Rattle.hx_tree.specs.Trees.{AreRight, headings_of}
use Rattle.hx_text.specs.Grammars.{text_of, Begins}
use Rattle.hx_text.specs.TreeTexts.{AreTreeLines}
use Rattle.hx_text.proofs.Cuts.{Agree, Second_goes_on, First_goes_on, agree, text_of-append}
use Rattle.hx_text.proofs.TreeLacks.{AllLack-begun}
use Rattle.hx_cmd_check.specs.Judging.{EndedIn, IsNoText, IsNoNode}
use Rattle.hx_cmd_check.specs.Judgements.{IsLong}
use Rattle.hx_cmd_check.proofs.Demands.{AsksRight}
use Rattle.hx_cmd_check.proofs.EndedNodes.{begins_of}
use Rattle.hx_cmd_check.proofs.ManyNodes.{many_of}
use Rattle.hx_cmd_check.proofs.Readings.{GoOn, right_among}
use Rattle.hx_cmd_check.proofs.OneAnswer.{front_nodes}
use Rattle.hx_cmd_check.proofs.BeginningTexts.{within, nodes_within}
use Rattle.hx_cmd_check.proofs.FirstNodes.{front_of, first_before_line, first_before_long, first_of_many, either_first}
use Rattle.hx_cmd_play.specs.Trees.{ArePlayable, IsNoPlain, IsPlayable, IsTooLarge, most_bytes}

pub playable_asks : AsksRight ArePlayable
playable_asks lines nodes meets = meets.right

-- this node ends in lines with which the input begins, and what is asked of the lines and nodes before its last line is
-- met
pub record EndsNode (input : List ℕ) (earlier : List Node) (node : Node) : Type 0 where
  pub front : List (List ℕ)
  pub last : List ℕ
  pub rest : List ℕ
  pub parts : input ≡ text_of (front ++ last ∷ []) ++ rest
  pub ended : EndedIn (front ++ last ∷ []) (earlier ++ node ∷ [])
  pub meets : ArePlayable front earlier

pub wrong_ends : {input : List ℕ} {k : ℕ} (is : IsNoNode ArePlayable input k) → EndsNode input is.earlier is.node
wrong_ends {input} is = record {
  front = is.lines;
  last = is.last;
  rest = is.rest;
  parts = is.parts;
  ended = is.ended;
  meets = is.meets;
}

pub no_plain_ends : {input : List ℕ} {k : ℕ} (is : IsNoPlain input k) → EndsNode input is.earlier is.node
no_plain_ends is = record {
  front = is.lines;
  last = is.last;
  rest = is.rest;
  parts = is.parts;
  ended = is.ended;
  meets = is.meets;
}

-- the node is not at fault
pub record IsFine (earlier : List Node) (node : Node) : Type 0 where
  pub right : IsRightNode (headings_of earlier) node
  pub plain : IsPlain node

plain_at : (earlier : List Node) (node : Node) (more : List Node) → ArePlain ((earlier ++ node ∷ []) ++ more) → IsPlain node
plain_at [] node more plain = All-head IsPlain node more plain
plain_at (first ∷ earlier) node more plain =
    plain_at earlier node more (All-tail IsPlain first ((earlier ++ node ∷ []) ++ more) plain)

fine_among : (earlier : List Node) (node : Node) (all : List Node) → AreRight all → ArePlain all → GoOn (earlier ++ node ∷ []) all
    → IsFine earlier node
fine_among earlier node all right plain on = record {
  right = right_among earlier node all on (right (length earlier));
  plain = plain_at earlier node on.more (subst ArePlain on.same plain);
}

-- the lines before a text that is too large, with the line that makes it so
abbrev pub large_lines : {input : List ℕ} → IsTooLarge input → List (List ℕ)
large_lines large = large.lines ++ large.last ∷ []

pub large_begins : {input : List ℕ} (large : IsTooLarge input) → Begins AreTreeLines (large_lines large)
large_begins large = begins_of (large_lines large) large.nodes large.ended

-- lines that are small do not begin with those
pub not_large : {input : List ℕ} (large : IsTooLarge input) (lines more : List (List ℕ)) → length (text_of lines) ≤ most_bytes
    → lines ≡ large_lines large ++ more → ⊥
not_large large lines more small is =
    omega (
      arith,
      small,
      large.large,
      ap (λ (ls : List (List ℕ)). length (text_of ls)) is,
      ap length (text_of-append (large_lines large) more),
      length-append (text_of (large_lines large)) (text_of more),
    )

module _ {input : List ℕ} {earlier : List Node} {node : Node} (ends : EndsNode input earlier node) where
  abbrev lines : List (List ℕ)
  lines = ends.front ++ ends.last ∷ []

  abbrev nodes : List Node
  nodes = earlier ++ node ∷ []

  begins : Begins AreTreeLines lines
  begins = begins_of lines nodes ends.ended

  pub fine_in_text : (text rest : List ℕ) (all : List Node) → IsPlayable text all → input ≡ text ++ rest → IsFine earlier node
  fine_in_text text rest all is parts =
      fine_among earlier node all is.valid.right is.plain
      (nodes_within is.is_text rest lines ends.rest nodes ends.ended (within is.is_text rest parts lines ends.rest begins ends.parts))

  pub fine_before_line : (line : ℕ) → IsNoText ArePlayable input line → IsFine earlier node
  fine_before_line line text =
      fine_among earlier node text.faultless.nodes text.faultless.meets.right text.faultless.meets.plain
      (first_before_line lines ends.rest nodes begins ends.parts ends.ended text)

  pub fine_before_long : IsLong ArePlayable input → IsFine earlier node
  fine_before_long (inl long) =
      fine_among earlier node long.faultless.nodes long.faultless.meets.right long.faultless.meets.plain
      (first_before_long lines ends.rest nodes begins ends.parts ends.ended long)
  fine_before_long (inr many) =
      let all = many_of many in
      fine_among earlier node all.nodes all.meets.right all.meets.plain
      (first_of_many lines ends.rest nodes begins ends.parts ends.ended all)

  -- the line that makes a text too large is not before the last line of the node
  large_at : (large : IsTooLarge input) (more : List (List ℕ)) → lines ≡ large_lines large ++ more → large_lines large ≡ lines ++ []
  large_at large [] is = sym (is ∙ append-nil (large_lines large)) ∙ sym (append-nil lines)
  large_at large (next ∷ more) is =
      let front : (later : List (List ℕ)) × (ends.front ≡ large_lines large ++ later) =
      front_of (large_lines large) ends.front (next ∷ more) (ends.last ∷ []) (sym is)
      (omega (
        arith,
        ap length is,
        length-append ends.front (ends.last ∷ []),
        length-append (large_lines large) (next ∷ more),
      )) in
      absurd (not_large large ends.front front.0 ends.meets.small front.1)

  large_from : (large : IsTooLarge input) (more : List (List ℕ)) → large_lines large ≡ lines ++ more → IsFine earlier node
  large_from large more is =
      fine_among earlier node large.nodes large.right large.plain
      (front_nodes lines more nodes large.nodes ends.ended (subst (λ (ls : List (List ℕ)). EndedIn ls large.nodes) is large.ended)
      (subst (Begins AreTreeLines) is (large_begins large)))

  large_by : (large : IsTooLarge input) → Agree lines (large_lines large) ends.rest large.rest → IsFine earlier node
  large_by large (Second_goes_on more is left) = large_from large more is
  large_by large (First_goes_on more is left) = large_from large [] (large_at large more is)

  pub fine_before_large : IsTooLarge input → IsFine earlier node
  fine_before_large large =
      large_by large
      (agree lines (large_lines large) ends.rest large.rest (AllLack-begun lines begins)
      (AllLack-begun (large_lines large) (large_begins large)) (sym ends.parts ∙ large.parts))

  pub fine_before_too_long : IsLong ArePlayable input ⊎ IsTooLarge input → IsFine earlier node
  fine_before_too_long (inl long) = fine_before_long long
  fine_before_too_long (inr large) = fine_before_large large

-- ---- two named nodes

-- they are the same, after the same nodes, or one of them is not at fault
pub data AreOne (a_earlier : List Node) (a : Node) (b_earlier : List Node) (b : Node) : Type 0 where
  Same : a_earlier ≡ b_earlier → a ≡ b → AreOne a_earlier a b_earlier b
  First_fine : IsFine a_earlier a → AreOne a_earlier a b_earlier b
  Second_fine : IsFine b_earlier b → AreOne a_earlier a b_earlier b

one_turned : {a_earlier b_earlier : List Node} {a b : Node} → AreOne a_earlier a b_earlier b → AreOne b_earlier b a_earlier a
one_turned (Same before node) = Same (sym before) (sym node)
one_turned (First_fine fine) = Second_fine fine
one_turned (Second_fine fine) = First_fine fine

one_from : (a_earlier : List Node) (a : Node) (b_earlier : List Node) (b : Node) → AreRight b_earlier → ArePlain b_earlier
    → (more : List Node) → b_earlier ++ b ∷ [] ≡ (a_earlier ++ a ∷ []) ++ more → AreOne a_earlier a b_earlier b
one_from a_earlier a b_earlier b right plain [] same =
    let parts = push_injective b_earlier a_earlier b a (same ∙ append-nil (a_earlier ++ a ∷ [])) in Same (sym parts.0) (sym parts.1)
one_from a_earlier a b_earlier b right plain (next ∷ more) same =
    let front : (later : List Node) × (b_earlier ≡ (a_earlier ++ a ∷ []) ++ later) =
    front_of (a_earlier ++ a ∷ []) b_earlier (next ∷ more) (b ∷ []) (sym same)
    (omega (arith, ap length same, length-append b_earlier (b ∷ []), length-append (a_earlier ++ a ∷ []) (next ∷ more))) in
    First_fine (fine_among a_earlier a b_earlier right plain (record { more = front.0; same = front.1 }))

pub one_of_two : {input : List ℕ} {a_earlier b_earlier : List Node} {a b : Node} → EndsNode input a_earlier a → EndsNode input b_earlier b
    → AreOne a_earlier a b_earlier b
one_of_two {input} {a_earlier} {b_earlier} {a} {b} ends_a ends_b =
    by (either_first (ends_a.front ++ ends_a.last ∷ []) (ends_b.front ++ ends_b.last ∷ []) ends_a.rest ends_b.rest (a_earlier ++ a ∷ [])
    (b_earlier ++ b ∷ []) (begins ends_a) (begins ends_b) ends_a.parts ends_b.parts ends_a.ended ends_b.ended)
  where
    by : GoOn (a_earlier ++ a ∷ []) (b_earlier ++ b ∷ []) ⊎ GoOn (b_earlier ++ b ∷ []) (a_earlier ++ a ∷ [])
        → AreOne a_earlier a b_earlier b
    by (inl on) = one_from a_earlier a b_earlier b ends_b.meets.right ends_b.meets.plain on.more on.same
    by (inr on) = one_turned (one_from b_earlier b a_earlier a ends_a.meets.right ends_a.meets.plain on.more on.same)
