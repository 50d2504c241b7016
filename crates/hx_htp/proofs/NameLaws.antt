-- The text of the names, name by name.
use Rattle.std.proofs.Common.{◌≡◌, ℕ, ◌+◌, ◌<◌, List, [], ◌∷◌, ◌++◌, take, length, get_or, map, refl, ap, sym, ◌∙◌, append_assoc}
use Rattle.std.specs.List.{join_with_byte}
use Rattle.std.proofs.lemmas.List.{take_more, map-append}
use Rattle.hx_htp.specs.declared.names.Name.{Name}
use Rattle.hx_htp.specs.Commands.{name_word}

-- one more piece behind others
join-more : (first : List ℕ) (others : List (List ℕ)) (last : List ℕ)
    → join_with_byte 10 (first ∷ (others ++ last ∷ [])) ≡ join_with_byte 10 (first ∷ others) ++ (10 ∷ last)
join-more first [] last = refl
join-more first (second ∷ others) last =
    ap (λ xs. first ++ 10 ∷ xs) (join-more second others last)
    ∙ sym (append_assoc first (10 ∷ join_with_byte 10 (second ∷ others)) (10 ∷ last))

-- the text of a first name and of so many of the others
abbrev pub text_of : Name → List Name → ℕ → List ℕ
text_of first others count = join_with_byte 10 (name_word first ∷ map name_word (take count others))

text_of-more : (first : Name) (others : List Name) (count : ℕ) (none : Name) → count < length others
    → text_of first others (count + 1) ≡ text_of first others count ++ (10 ∷ name_word (get_or others count none))
text_of-more first others count none within =
    ap (λ xs. join_with_byte 10 (name_word first ∷ map name_word xs)) (take_more others count none within)
    ∙ ap (λ xs. join_with_byte 10 (name_word first ∷ xs)) (map-append name_word (take count others) (get_or others count none ∷ []))
    ∙ join-more (name_word first) (map name_word (take count others)) (name_word (get_or others count none))

-- one more name is put: an LF, and then its word
pub put_name : (start now between next word : List ℕ) (first : Name) (others : List Name) (count : ℕ) (none : Name)
    → now ≡ start ++ text_of first others count → between ≡ now ++ 10 ∷ [] → next ≡ between ++ word → count < length others
    → word ≡ name_word (get_or others count none) → next ≡ start ++ text_of first others (count + 1)
put_name start now between next word first others count none so_far ended put within is =
    put ∙ ap (λ xs. xs ++ word) (ended ∙ ap (λ xs. xs ++ 10 ∷ []) so_far)
    ∙ append_assoc (start ++ text_of first others count) (10 ∷ []) word ∙ append_assoc start (text_of first others count) (10 ∷ word)
    ∙ ap (λ xs. start ++ (text_of first others count ++ 10 ∷ xs)) is
    ∙ ap (λ xs. start ++ xs) (sym (text_of-more first others count none within))
