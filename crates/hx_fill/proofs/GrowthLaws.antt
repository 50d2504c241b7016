-- A board with more stones. What is dead or a pair stays so while its cells are empty: no neighbour becomes open, and
-- what is joined stays joined.
use Rattle.std.proofs.Common.{ℕ, refl, sym, ◌∙◌, inl, inr, ⊎_elim}
use Rattle.std.proofs.lemmas.Bool.{false≢true, false_from_ne_true}
use Rattle.hx_board.specs.declared.colours.Colour.{Colour}
use Rattle.hx_board.specs.declared.colours.Colour.TheVariants.{Black, White}
use Rattle.hx_board.specs.declared.vertices.Vertex.{Vertex}
use Rattle.hx_board.specs.declared.vertices.Vertex.TheVariants.{Of, First, Last}
use Rattle.hx_board.specs.Colours.{other_of}
use Rattle.hx_board.specs.Positions.{Board, IsEmpty, put}
use Rattle.hx_board.specs.Graph.{Joined, IsOpen}
use Rattle.hx_board.proofs.StoneLaws.{size-put, stones-put, empty-put}
use Rattle.hx_board.proofs.KeptStones.{joined_stays}
use Rattle.hx_inferior.specs.Inferior.{IsOpenNeighbour, IsDead, IsPair}
use Rattle.hx_inferior.proofs.PairLaws.{pair-differ}
use Rattle.hx_fill.specs.Rounds.{HasNoStoneLess}

pub grown-same : (board : Board) → HasNoStoneLess board board
grown-same board = record { same_size = refl; stones = λ player cell h. h }

pub grown-trans : (one two three : Board) → HasNoStoneLess one two → HasNoStoneLess two three → HasNoStoneLess one three
grown-trans one two three a b =
    record { same_size = b.same_size ∙ a.same_size; stones = λ player cell h. b.stones player cell (a.stones player cell h) }

pub grown-put : (board : Board) (who : Colour) (n : ℕ) → HasNoStoneLess board (put board who n)
grown-put board who n =
    record { same_size = size-put board who n; stones = λ player cell h. (stones-put board who player n cell).1 (inr h) }

module _ (start now : Board) (grown : HasNoStoneLess start now) where
  pub grown-both : (who : Colour) (n : ℕ) → HasNoStoneLess (put start who n) (put now who n)
  grown-both who n = record {
    same_size = size-put now who n ∙ grown.same_size ∙ sym (size-put start who n);
    stones = λ player cell h.
        (stones-put now who player n cell).1
        (⊎_elim (λ new. inl new) (λ was. inr (grown.stones player cell was)) ((stones-put start who player n cell).0 h));
  }

  pub empty_then : (n : ℕ) → IsEmpty now n → IsEmpty start n
  empty_then n empty = record {
    on_board = rw grown.same_size at empty.on_board;
    no_black = false_from_ne_true _ (λ h. false≢true (sym empty.no_black ∙ grown.stones Black n h));
    no_white = false_from_ne_true _ (λ h. false≢true (sym empty.no_white ∙ grown.stones White n h));
  }

  is_open-then : (player : Colour) (v : Vertex) → IsOpen now player v → IsOpen start player v
  is_open-then player (Of n) is_open = false_from_ne_true _ (λ held. false≢true (sym is_open ∙ grown.stones (other_of player) n held))
  is_open-then player First is_open = tt
  is_open-then player Last is_open = tt

  open_then : (player : Colour) (cell : ℕ) (v : Vertex) → IsOpenNeighbour now player cell v → IsOpenNeighbour start player cell v
  open_then player cell v o = record { touch = rw grown.same_size at o.touch; is_open = is_open-then player v o.is_open }

  pub joined_grown : (player : Colour) (from to : Vertex) → Joined start player from to → Joined now player from to
  joined_grown player from to joined =
      joined_stays player from to start now (record { same_size = grown.same_size; own = λ n h. grown.stones player n h }) joined

  pub dead_grown : (player : Colour) (cell : ℕ) → IsEmpty now cell → IsDead start player cell → IsDead now player cell
  dead_grown player cell empty dead = record {
    empty = empty;
    joined = λ one other o p.
        joined_grown player one other (dead.joined one other (open_then player cell one o) (open_then player cell other p));
  }

pub pair_grown : (start now : Board) → HasNoStoneLess start now → (player : Colour) (a b : ℕ) → IsEmpty now a → IsEmpty now b
    → IsPair start player a b → IsPair now player a b
pair_grown start now grown player a b empty_a empty_b pair = record {
  a_dead = dead_grown (put start player b) (put now player b) (grown-both start now grown player b) player a
      ((empty-put now player b a).1 (empty_a, pair-differ start player a b pair)) pair.a_dead;
  b_dead = dead_grown (put start player a) (put now player a) (grown-both start now grown player a) player b
      ((empty-put now player a b).1 (empty_b, λ e. pair-differ start player a b pair (sym e))) pair.b_dead;
}
