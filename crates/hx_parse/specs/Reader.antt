-- What a reader of a tree's text has read, and what it says of one more line.
use Rattle.std.specs.Prelude.{◌≡◌, ℕ, List, [], ◌∷◌, ◌++◌, Bool}
use Rattle.std.specs.declared.option.Option.{Option}
use Rattle.std.specs.declared.option.Option.TheVariants.{None, Some}
use Rattle.std.specs.declared.result.Result.{Result}
use Rattle.hx_tree.specs.declared.nodes.Node.{Node}
use Rattle.hx_text.specs.declared.versions.Version.{Version}
use Rattle.hx_parse.specs.declared.places.Fed.{Fed}
use Rattle.hx_parse.specs.declared.places.TreeFault.{TreeFault}
use Rattle.hx_parse.specs.declared.reader.TreeReader.{TreeReader}
use Rattle.hx_text.specs.TreeTexts.{title_line}
use Rattle.hx_parse.specs.Places.{Stands, Told, IsFailed, version_at}

-- the lines that the reader was fed with are those of the nodes that it handed out
abbrev pub HasRead : TreeReader → List Node → List (List ℕ) → Type 0
HasRead reader nodes lines = Stands reader.place nodes lines

-- the reader answers this fault from now on
abbrev pub HasFailed : TreeReader → TreeFault → Type 0
HasFailed reader fault = IsFailed reader.place fault

-- the version of the text, if its first line was read
abbrev pub version_read : TreeReader → Option Version
version_read reader = version_at reader.place

-- the version that the first of these lines tells; none where there is no line
abbrev pub IsVersionIn : Option Version → List (List ℕ) → Type 0
IsVersionIn None lines = lines ≡ []
IsVersionIn (Some version) lines = (rest : List (List ℕ)) × (lines ≡ title_line version ∷ rest)

-- how many lines were fed, up to the last value of the count
abbrev pub lines_fed : TreeReader → ℕ
lines_fed reader = reader.fed

-- what a reader says of one more line, after it handed out these nodes and was fed with these lines
abbrev pub Says : TreeReader → TreeReader → List Node → List (List ℕ) → List ℕ → Bool → Result Fed TreeFault → Type 0
Says old new nodes lines line ended result =
    Told old.place line ended new.fed nodes (lines ++ line ∷ []) new.place result
