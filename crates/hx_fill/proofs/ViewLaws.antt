-- What is joined after one stone more, told by what was joined before. A stone of the opponent's changes nothing, since
-- the player has the same stones. An own stone joins what was joined with its cell.
use Rattle.std.proofs.Common.{◌≡◌, ◌≢◌, ℕ, Bool, true, false, refl, sym, ◌∙◌, subst, ⊎_elim}
use Rattle.std.specs.declared.option.Option.{Option}
use Rattle.std.specs.declared.option.Option.TheVariants.{None, Some}
use Rattle.std.proofs.lemmas.Bool.{false≢true}
use Rattle.hx_board.specs.declared.colours.Colour.{Colour}
use Rattle.hx_board.specs.declared.vertices.Vertex.{Vertex}
use Rattle.hx_board.specs.declared.vertices.Vertex.TheVariants.{Of}
use Rattle.hx_board.specs.Colours.{other_of}
use Rattle.hx_board.specs.Sets.{has, union}
use Rattle.hx_board.specs.Cells.{OnBoard}
use Rattle.hx_board.specs.Positions.{Board, put}
use Rattle.hx_board.specs.Graph.{IsVertex, Joined, Grouped}
use Rattle.hx_board.specs.VertexSets.{code_of, IsSetOf}
use Rattle.hx_board.proofs.ColourLaws.{other-differs, one_or_other}
use Rattle.hx_board.proofs.SetLaws.{has-union_left, has-union_right, has-union_cases}
use Rattle.hx_board.proofs.StoneLaws.{size-put, stones-put}
use Rattle.hx_board.proofs.KeptStones.{joined_stays, keeps_put}
use Rattle.hx_fill.specs.Views.{widened, widened_if, TellsJoined}
use Rattle.hx_fill.proofs.JoinedAfter.{joined_before, joined_still, joined_over_stone}

pub tells-same : (board : Board) (player : Colour) (joint : ℕ)
    → TellsJoined (record { board = board; player = player }) board player None joint
tells-same board player joint = record { same_size = refl; now = λ vertex set is. is }

module _ (board : Board) (player : Colour) (cell : ℕ) where
  abbrev other : Colour
  other = other_of player

  -- ---- a stone of the opponent's

  joined_without : (from to : Vertex) → Joined (put board other cell) player from to → Joined board player from to
  joined_without from to joined = joined_stays player from to (put board other cell) board (record {
    same_size = sym (size-put board other cell);
    own = λ n h. ⊎_elim (λ new. absurd (other-differs player (sym new.0))) (λ was. was) ((stones-put board other player cell n).0 h);
  }) joined

  joined_with : (from to : Vertex) → Joined board player from to → Joined (put board other cell) player from to
  joined_with from to joined = joined_stays player from to board (put board other cell) (keeps_put player board other cell) joined

  pub tells-others : (joint : ℕ) → TellsJoined (record { board = board; player = player }) (put board other cell) player None joint
  tells-others joint = record {
    same_size = size-put board other cell;
    now = λ vertex set is. record {
      vertices = λ n h. rw size-put (is.vertices n h);
      members = λ to now_on. let on : IsVertex board.size to = rw size-put at now_on in (
        (λ h. joined_with vertex to ((is.members to on).0 h)),
        (λ joined. (is.members to on).1 (joined_without vertex to joined)),
      );
    };
  }

  -- ---- an own stone

  module _ (on_board : OnBoard board.size cell) (joint : ℕ) (joint_is : IsSetOf board.size (Joined board player (Of cell)) joint) where
    apart : (vertex : Vertex) (set : ℕ) → IsSetOf board.size (Joined board player vertex) set → has set cell ≡ false
        → IsSetOf (put board player cell).size (Joined (put board player cell) player vertex) set
    apart vertex set is misses = record {
      vertices = λ n h. rw size-put (is.vertices n h);
      members = λ to now_on. let on : IsVertex board.size to = rw size-put at now_on in (
        (λ h. joined_still board player cell vertex to ((is.members to on).0 h)),
        (λ joined. (is.members to on).1 (before to joined)),
      );
    }
      where
        before : (to : Vertex) → Joined (put board player cell) player vertex to → Joined board player vertex to
        before to joined = ⊎_elim (λ j. j) (λ both. absurd (false≢true (sym misses ∙ (is.members (Of cell) on_board).1 both.0)))
            (joined_before board player cell vertex to joined)

    through : (vertex : Vertex) (set : ℕ) → IsSetOf board.size (Joined board player vertex) set → has set cell ≡ true
        → IsSetOf (put board player cell).size (Joined (put board player cell) player vertex) (union set joint)
    through vertex set is meets = record {
      vertices = λ n h. rw size-put (⊎_elim (is.vertices n) (joint_is.vertices n) (has-union_cases set joint n h));
      members = λ to now_on. let on : IsVertex board.size to = rw size-put at now_on in (
        (λ h. ⊎_elim
            (λ k. joined_still board player cell vertex to ((is.members to on).0 k))
            (λ k. joined_over_stone board player cell vertex to to_cell ((joint_is.members to on).0 k))
            (has-union_cases set joint (code_of to) h)),
        (λ joined. ⊎_elim
            (λ j. has-union_left set joint (code_of to) ((is.members to on).1 j))
            (λ both. has-union_right set joint (code_of to) ((joint_is.members to on).1 both.1))
            (joined_before board player cell vertex to joined)),
      );
    }
      where
        to_cell : Joined board player vertex (Of cell)
        to_cell = (is.members (Of cell) on_board).0 meets

    pub tells-own : TellsJoined (record { board = board; player = player }) (put board player cell) player (Some cell) joint
    tells-own = record { same_size = size-put board player cell; now = λ vertex set is. by_test vertex set is (has set cell) refl }
      where
        by_test : (vertex : Vertex) (set : ℕ) → IsSetOf board.size (Joined board player vertex) set → (meets : Bool) → has set cell ≡ meets
            → IsSetOf (put board player cell).size (Joined (put board player cell) player vertex) (widened_if meets joint set)
        by_test vertex set is true meets = through vertex set is meets
        by_test vertex set is false misses = apart vertex set is misses

pub tells-after : (board : Board) (player who : Colour) (cell : ℕ) → OnBoard board.size cell → (joint : ℕ)
    → IsSetOf board.size (Joined board player (Of cell)) joint → (stone : Option ℕ) → (who ≡ player → stone ≡ Some cell)
    → (who ≢ player → stone ≡ None)
    → TellsJoined (record { board = board; player = player }) (put board who cell) player stone joint
tells-after board player who cell on joint is stone own others = ⊎_elim
    (λ (same : who ≡ player). rw (own same, same) (tells-own board player cell on joint is))
    (λ (differ : who ≡ other_of player).
    rw (others (λ same. other-differs player (sym same ∙ differ)), differ) (tells-others board player cell joint))
    (one_or_other who player)

pub joined-widened : (before : Grouped) (board : Board) (player : Colour) (stone : Option ℕ) (joint : ℕ)
    → TellsJoined before board player stone joint
    → (cell : ℕ) → stone ≡ Some cell → (vertex : Vertex) (set : ℕ)
    → IsSetOf before.board.size (Joined before.board before.player vertex) set
    → (meets : Bool) → meets ≡ has set cell → IsSetOf board.size (Joined board player vertex) (widened_if meets joint set)
joined-widened before board player stone joint tells cell same vertex set is meets meets_is =
    let now = tells.now vertex set is in
    let P : Option ℕ → Type 0 = λ s. IsSetOf board.size (Joined board player vertex) (widened s joint set) in
    let Q : Bool → Type 0 = λ b. IsSetOf board.size (Joined board player vertex) (widened_if b joint set) in
    subst Q (sym meets_is) (subst P same now)
