-- The commands: their names, and what a name with its arguments asks for.
use Rattle.std.specs.Prelude.{ℕ, List, [], ◌∷◌, codes, find, is_some, bytes_eq, option_and_then}
use Rattle.std.specs.declared.option.Option.{Option}
use Rattle.std.specs.declared.option.Option.TheVariants.{None, Some}
use Rattle.std.specs.declared.result.Result.{Result}
use Rattle.std.specs.declared.result.Result.TheVariants.{Ok, Err}
use Rattle.std.specs.Option.{option_map}
use Rattle.hx_htp.specs.declared.names.Name.{Name}
use Rattle.hx_htp.specs.declared.names.Name.TheVariants as name
use Rattle.hx_htp.specs.declared.requests.Request.{Request}
use Rattle.hx_htp.specs.declared.requests.Request.TheVariants as request
use Rattle.hx_htp.specs.declared.answers.Refusal.{Refusal}
use Rattle.hx_htp.specs.declared.answers.Refusal.TheVariants.{UnknownCommand, SyntaxError}
use Rattle.hx_htp.specs.Arguments.{colour_of, number_of, vertex_of}

-- the word of each command's name
abbrev pub name_word : Name → List ℕ
name_word name.ProtocolVersion = codes "protocol_version"
name_word name.Name = codes "name"
name_word name.Version = codes "version"
name_word name.KnownCommand = codes "known_command"
name_word name.ListCommands = codes "list_commands"
name_word name.Quit = codes "quit"
name_word name.BoardSize = codes "boardsize"
name_word name.ClearBoard = codes "clear_board"
name_word name.Play = codes "play"
name_word name.Undo = codes "undo"
name_word name.GenMove = codes "genmove"
name_word name.ShowBoard = codes "showboard"
name_word name.Solve = codes "solve"

-- all names, in the order in which they are listed
abbrev pub names : List Name
names =
    name.ProtocolVersion ∷ name.Name ∷ name.Version ∷ name.KnownCommand ∷ name.ListCommands ∷ name.Quit ∷ name.BoardSize
    ∷ name.ClearBoard ∷ name.Play ∷ name.Undo ∷ name.GenMove ∷ name.ShowBoard ∷ name.Solve ∷ []

-- the command that a word names
abbrev pub name_of : List ℕ → Option Name
name_of word = find (λ known. bytes_eq (name_word known) word) names

-- a board of so many columns and rows, where both are there
abbrev pub sized : Option ℕ → Option ℕ → Option Request
sized cols rows = option_and_then (λ c. option_map (λ r. request.BoardSize c r) rows) cols

-- what a name and its arguments ask for; nothing where an argument is missing or not of its form
abbrev pub request_of : Name → List (List ℕ) → Option Request
request_of name.ProtocolVersion arguments = Some request.ProtocolVersion
request_of name.Name arguments = Some request.Name
request_of name.Version arguments = Some request.Version
request_of name.KnownCommand [] = None
request_of name.KnownCommand (word ∷ rest) = Some (request.KnownCommand (is_some (name_of word)))
request_of name.ListCommands arguments = Some request.ListCommands
request_of name.Quit arguments = Some request.Quit
request_of name.BoardSize [] = None
request_of name.BoardSize (number ∷ []) = sized (number_of number) (number_of number)
request_of name.BoardSize (cols ∷ rows ∷ rest) = sized (number_of cols) (number_of rows)
request_of name.ClearBoard arguments = Some request.ClearBoard
request_of name.Play [] = None
request_of name.Play (colour ∷ []) = None
request_of name.Play (colour ∷ vertex ∷ rest) =
    option_and_then (λ c. option_map (λ v. request.Play c v) (vertex_of vertex)) (colour_of colour)
request_of name.Undo arguments = Some request.Undo
request_of name.GenMove [] = None
request_of name.GenMove (colour ∷ rest) = option_map (λ c. request.GenMove c) (colour_of colour)
request_of name.ShowBoard arguments = Some request.ShowBoard
request_of name.Solve [] = Some (request.Solve None)
request_of name.Solve (colour ∷ rest) = option_map (λ c. request.Solve (Some c)) (colour_of colour)

abbrev pub or_syntax_error : Option Request → Result Request Refusal
or_syntax_error None = Err SyntaxError
or_syntax_error (Some request) = Ok request

abbrev pub asked_by : Option Name → List (List ℕ) → Result Request Refusal
asked_by None arguments = Err UnknownCommand
asked_by (Some name) arguments = or_syntax_error (request_of name arguments)

-- what words without a number ask for, or why they ask for nothing
abbrev pub asked : List (List ℕ) → Result Request Refusal
asked [] = Err UnknownCommand
asked (word ∷ arguments) = asked_by (name_of word) arguments
