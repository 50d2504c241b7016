-- Nodes that are written one after the other: the texts of the first ones, and then that of the next.
use Rattle.std.proofs.Common.{◌≡◌, ℕ, ◌+◌, ◌<◌, ◌≤◌, List, [], ◌∷◌, ◌++◌, length, get_or, take, drop, sym, ap, ◌∙◌, subst}
use Rattle.std.specs.Prelude.{Option}
use Rattle.std.proofs.lemmas.List.{append-nil as list_append-nil, take_more, take_all, take-append-drop}
use Rattle.std.proofs.lemmas.Grind.{flat_map-append}
use Rattle.hx_io.specs.Sinks.{append, TakesFront}
use Rattle.hx_io.proofs.SinkLaws.{append-nil, append-then, TakesFront-then, TakesFront-append}
use Rattle.hx_tree.specs.declared.nodes.Node.{Node}
use Rattle.hx_text.specs.Grammars.{text_of}
use Rattle.hx_text.specs.TreeTexts.{node_lines}
use Rattle.hx_cmd_solve.specs.Answers.{nodes_text}

abbrev node_text : Node → List ℕ
node_text node = text_of (node_lines node)

nodes_text-append : (nodes more : List Node) → nodes_text (nodes ++ more) ≡ nodes_text nodes ++ nodes_text more
nodes_text-append nodes more = flat_map-append node_text nodes more

-- the text of one node more
nodes_text-more : (nodes : List Node) (place : ℕ) (node : Node) → place < length nodes → node ≡ get_or nodes place node
    → nodes_text (take place nodes) ++ node_text node ≡ nodes_text (take (place + 1) nodes)
nodes_text-more nodes place node less is =
    let one_more : take (place + 1) nodes ≡ take place nodes ++ node ∷ [] = take_more nodes place node less
    ∙ ap (λ n. take place nodes ++ n ∷ []) (sym is) in
    sym (ap nodes_text one_more ∙ nodes_text-append (take place nodes) (node ∷ [])
    ∙ ap (λ (t : List ℕ). nodes_text (take place nodes) ++ t) (list_append-nil (node_text node)))

-- nothing has been written yet
pub none_out : (old : Option (List ℕ)) (nodes : List Node) → old ≡ append old (nodes_text (take 0 nodes))
none_out old nodes = sym (append-nil old)

-- one more node was written
pub one_more_out : (old between new : Option (List ℕ)) (nodes : List Node) (place : ℕ) (node : Node) → place < length nodes
    → node ≡ get_or nodes place node
    → between ≡ append old (nodes_text (take place nodes)) → new ≡ append between (node_text node)
    → new ≡ append old (nodes_text (take (place + 1) nodes))
one_more_out old between new nodes place node less is out then =
    append-then old between new (nodes_text (take place nodes)) (node_text node) out then
    ∙ ap (append old) (nodes_text-more nodes place node less is)

-- the writing of a node was cut short
pub cut_short : (old between new : Option (List ℕ)) (nodes : List Node) (place : ℕ) (node : Node) → place < length nodes
    → node ≡ get_or nodes place node
    → between ≡ append old (nodes_text (take place nodes)) → TakesFront between new (node_text node) → TakesFront old new (nodes_text nodes)
cut_short old between new nodes place node less is out cut =
    let rest : List Node = drop (place + 1) nodes in
    let whole : (nodes_text (take place nodes) ++ node_text node) ++ nodes_text rest ≡ nodes_text nodes =
    ap (λ (t : List ℕ). t ++ nodes_text rest) (nodes_text-more nodes place node less is)
    ∙ sym (nodes_text-append (take (place + 1) nodes) rest) ∙ ap nodes_text (take-append-drop (place + 1) nodes) in
    subst (TakesFront old new) whole
    (TakesFront-append old new (nodes_text (take place nodes) ++ node_text node) (nodes_text rest)
    (TakesFront-then old between new (nodes_text (take place nodes)) (node_text node) out cut))

-- all were written
pub all_out : (old new : Option (List ℕ)) (nodes : List Node) (place : ℕ) → length nodes ≤ place
    → new ≡ append old (nodes_text (take place nodes))
    → new ≡ append old (nodes_text nodes)
all_out old new nodes place end out = out ∙ ap (λ (ns : List Node). append old (nodes_text ns)) (take_all place nodes end)
