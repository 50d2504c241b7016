-- The first faulty line among a title and the lines of a board behind it. The lines before it begin such lines, since a
-- board may be empty. It is also the first faulty line of each text that begins with such lines.
use Rattle.std.proofs.Common.{◌≡◌, ℕ, ◌<◌, ◌≤◌, List, [], ◌∷◌, ◌++◌, length, refl, sym, ap, ◌∙◌, subst, arith, append_assoc}
use Rattle.std.proofs.Common.{length-append, None}
use Rattle.hx_board.specs.declared.colours.Colour.TheVariants.{Black, White}
use Rattle.hx_board.specs.Cells.{Extent, IsExtent}
use Rattle.hx_board.specs.Positions.{Board, IsBoard, IsPosition}
use Rattle.hx_board.proofs.PositionLaws.{empty-is_position, black-alone-is_position}
use Rattle.hx_lex.specs.Marks.{Lacks}
use Rattle.hx_lex.specs.Words.{Reads}
use Rattle.hx_text.specs.Grammars.{Begins, IsFaultyLine}
use Rattle.hx_text.specs.PositionTexts.{size_line, stones_line}
use Rattle.hx_text.proofs.Cuts.{AllLack}
use Rattle.hx_text.proofs.Injective.{size_injective}
use Rattle.hx_text.proofs.PositionLines.{stones_injective, board_of, black_small, AllLack-position_lines}
use Rattle.hx_parse.specs.Boards.{titled_board, AreBoardLines, IsBoardFault}
use Rattle.hx_parse.specs.TextLines.{Unread, StandsBehind, LacksLine}
use Rattle.hx_parse.proofs.UnreadLines.{lacking_is_faulty}

abbrev one_by_one : Extent
one_by_one = record { rows = 1; cols = 1 }

one_fits : IsBoard (board_of one_by_one 0 0)
one_fits = ((omega arith, omega arith, omega arith, omega arith), empty-is_position one_by_one)

module _ (title : List ℕ) (plain : Lacks 10 title) where
  AllLack-board : (lines : List (List ℕ)) → AreBoardLines title lines → AllLack lines
  AllLack-board lines are =
      let all = AllLack-position_lines are.board Black are.is_board in
      rw are.same (plain, (all.1.0, (all.1.1.0, (all.1.1.1.0, tt))))

  begins_by : (board : Board) (before rest : List (List ℕ)) → IsBoard board → before ++ rest ≡ titled_board title board
      → Begins (AreBoardLines title) before
  begins_by board before rest is same = (rest, record { board = board; is_board = is; same = same })

  lacking : {Holds : List ℕ → Type 0} {bytes : List ℕ} {before : List (List ℕ)} {unread : Unread} {line : ℕ}
      → StandsBehind bytes before unread → LacksLine Holds unread line → length before < 4 → Begins (AreBoardLines title) before
      → ((next : List ℕ) → Holds next → Begins (AreBoardLines title) (before ++ next ∷ []) → ⊥) → IsBoardFault title bytes line
  lacking stands lacks few begins other = record {
    fault = lacking_is_faulty (AreBoardLines title) AllLack-board stands lacks begins
        (λ are. absurd (omega (arith, few, ap length are.same))) other;
    early = omega (arith, few, lacks.named, stands.number);
  }

  module _ {bytes : List ℕ} {unread : Unread} {line : ℕ} where
    pub no_title : StandsBehind bytes [] unread
        → LacksLine (λ text. Reads (λ (u : Unit {0}). title) (λ _. Unit {0}) text None) unread line
        → IsBoardFault title bytes line
    no_title stands lacks = lacking stands lacks (omega arith) (begins_by (board_of one_by_one 0 0) [] _ one_fits refl) (λ next other b.
        let same : next ∷ b.0 ≡ titled_board title b.1.board = b.1.same in
        let first : next ≡ title = cc in
        other tt tt first)

    pub no_size : StandsBehind bytes (title ∷ []) unread
        → LacksLine (λ text. Reads size_line (λ s. IsExtent s.rows s.cols) text None) unread line
        → IsBoardFault title bytes line
    no_size stands lacks =
        lacking stands lacks (omega arith) (begins_by (board_of one_by_one 0 0) (title ∷ []) _ one_fits refl) (λ next other b.
        let same : title ∷ next ∷ b.0 ≡ titled_board title b.1.board = b.1.same in
        let second : next ≡ size_line b.1.board.size = cc in
        other b.1.board.size b.1.is_board.0 second)

    pub no_black_stones : (size : Extent) → IsExtent size.rows size.cols → StandsBehind bytes (title ∷ size_line size ∷ []) unread
        → LacksLine (λ text. Reads (stones_line Black) (λ black. IsPosition size black 0) text None) unread line
        → IsBoardFault title bytes line
    no_black_stones size extent stands lacks =
        lacking stands lacks (omega arith)
        (begins_by (board_of size 0 0) (title ∷ size_line size ∷ []) _ (extent, empty-is_position size) refl) (λ next other b.
        let board = b.1.board in
        let same : title ∷ size_line size ∷ next ∷ b.0 ≡ titled_board title board = b.1.same in
        let second : size_line size ≡ size_line board.size = cc in
        let third : next ≡ stones_line Black board.black = cc in
        let sizes : size ≡ board.size = size_injective size board.size extent b.1.is_board.0 second in
        other board.black
        (subst (λ (s : Extent). IsPosition s board.black 0) (sym sizes) (black-alone-is_position b.1.is_board.1)) third)

    pub no_white_stones : (size : Extent) (black : ℕ) → IsExtent size.rows size.cols → IsPosition size black 0
        → StandsBehind bytes (title ∷ size_line size ∷ stones_line Black black ∷ []) unread
        → LacksLine (λ text. (board : Board)
        → IsBoard board × (board.size ≡ size) × (board.black ≡ black) × (text ≡ stones_line White board.white) → ⊥) unread line
        → IsBoardFault title bytes line
    no_white_stones size black extent fits stands lacks =
        lacking stands lacks (omega arith)
        (begins_by (board_of size black 0) (title ∷ size_line size ∷ stones_line Black black ∷ []) _ (extent, fits) refl) (λ next other b.
        let board = b.1.board in
        let is = b.1.is_board in
        let same : title ∷ size_line size ∷ stones_line Black black ∷ next ∷ b.0 ≡ titled_board title board = b.1.same in
        let second : size_line size ≡ size_line board.size = cc in
        let third : stones_line Black black ≡ stones_line Black board.black = cc in
        let fourth : next ≡ stones_line White board.white = cc in
        let sizes : size ≡ board.size = size_injective size board.size extent is.0 second in
        let blacks : black ≡ board.black =
        stones_injective Black black board.black (black_small size black 0 extent fits)
        (black_small board.size board.black board.white is.0 is.1) third in
        other board (is, sym sizes, sym blacks, fourth))

-- ---- the fault in a text that begins so

-- of two fronts of the same lines the shorter one begins the other
goes_on : (a r b m : List (List ℕ)) → a ++ r ≡ b ++ m → length a ≤ length b → (rest : List (List ℕ)) × (a ++ rest ≡ b)
goes_on [] r b m e few = (b, refl)
goes_on (x ∷ a) r [] m e few = absurd (omega (arith, few))
goes_on (x ∷ a) r (y ∷ b) m e few =
    let heads : x ≡ y = cc in
    let tails : a ++ r ≡ b ++ m = cc in
    let more = goes_on a r b m tails (omega (arith, few)) in
    (more.0, ap (λ (l : List ℕ). l ∷ (a ++ more.0)) heads ∙ ap (λ (ls : List (List ℕ)). y ∷ ls) more.1)

-- the lines of a text are a title, those of a board, and more
pub record HasBoard (title : List ℕ) (lines : List (List ℕ)) : Type 0 where
  pub board : Board
  pub is_board : IsBoard board
  pub more : List (List ℕ)
  pub parts : lines ≡ titled_board title board ++ more

module _ (title : List ℕ) (grammar : List (List ℕ) → Type 0) (has : (lines : List (List ℕ)) → grammar lines → HasBoard title lines)
    (each : (board : Board) → IsBoard board → Begins grammar (titled_board title board)) where
  begins_there : (lines : List (List ℕ)) → Begins (AreBoardLines title) lines → Begins grammar lines
  begins_there lines b =
      let goes = each b.1.board b.1.is_board in (
        b.0 ++ goes.0,
        subst grammar (ap (λ (ls : List (List ℕ)). ls ++ goes.0) (sym b.1.same) ∙ append_assoc lines b.0 goes.0) goes.1,
      )

  begins_here : (lines : List (List ℕ)) → length lines ≤ 4 → Begins grammar lines → Begins (AreBoardLines title) lines
  begins_here lines few b =
      let board = has (lines ++ b.0) b.1 in
      let rest = goes_on lines b.0 (titled_board title board.board) board.more board.parts (omega (arith, few)) in
      (rest.0, record { board = board.board; is_board = board.is_board; same = rest.1 })

  pub board_fault : (bytes : List ℕ) (line : ℕ) → IsBoardFault title bytes line → IsFaultyLine grammar bytes line
  board_fault bytes line is =
      let fault = is.fault in
      let few : length fault.before < 4 = omega (arith, fault.place, is.early) in record {
        before = fault.before;
        rest = fault.rest;
        parts = fault.parts;
        place = fault.place;
        right = begins_there fault.before fault.right;
        wrong = λ next more e b.
            fault.wrong next more e
            (begins_here (fault.before ++ next ∷ []) (omega (arith, few, length-append fault.before (next ∷ []))) b);
        not_whole = λ e are.
            let board = has fault.before are in
            absurd (omega (arith, few, ap length board.parts, length-append (titled_board title board.board) board.more));
      }
