-- Proof numbers as hints keep them: those of a position that somebody looked at, and whose winner is not known.
use Rattle.std.specs.Prelude.{ℕ, ◌+◌, ◌*◌, ◌/◌, ◌%◌, ◌<◌, ◌≤◌, ◌==◌}
use Rattle.std.specs.Prelude.{if◌then◌else◌, min, max}
use Rattle.atomic_table.specs.Seated.{TableId}
use Rattle.hx_pn.specs.declared.proof_numbers.TheConstants.{INF, UNSEEN}
use Rattle.hx_pn.specs.declared.proof_numbers.Numbers.{Numbers}
use Rattle.hx_count.specs.declared.hints.Stored.{Stored}
use Rattle.hx_count.specs.declared.hints.TheConstants.{A_MARK, A_NUMBER, HIGHEST_KEPT}

-- neither number decides anything
pub record AreOpen (numbers : Numbers) : Type 0 where
  pub phi : (1 ≤ numbers.phi) × (numbers.phi < INF)
  pub delta : (1 ≤ numbers.delta) × (numbers.delta < INF)

-- numbers that a hint can have
pub record AreKept (numbers : Numbers) : Type 0 where
  pub phi : (1 ≤ numbers.phi) × (numbers.phi ≤ HIGHEST_KEPT)
  pub delta : (1 ≤ numbers.delta) × (numbers.delta ≤ HIGHEST_KEPT)

-- the nearest number that a hint can have
abbrev pub within_kept : ℕ → ℕ
within_kept number = max 1 (min number HIGHEST_KEPT)

-- the numbers that are read where these were left
abbrev pub kept_of : Numbers → Numbers
kept_of numbers = record { phi = within_kept numbers.phi; delta = within_kept numbers.delta }

-- the mark of a position that has this key, and of a word: the upper twenty binary digits
abbrev pub mark_of : ℕ → ℕ
mark_of key = key / A_MARK

-- the mark of the position that has this key, and the numbers of its hint, in one word
abbrev pub word_of : ℕ → Numbers → ℕ
word_of key numbers = mark_of key * A_MARK + numbers.phi * A_NUMBER + numbers.delta

-- the numbers that a word tells of the position that has this key: those of a position that nobody looked at where the
-- word was never written, or for another mark
abbrev pub numbers_of : ℕ → ℕ → Numbers
numbers_of key word =
    if word == 0 then UNSEEN
    else (if mark_of word == mark_of key
    then kept_of (record { phi = word / A_NUMBER % A_NUMBER; delta = word % A_NUMBER })
    else UNSEEN)

-- one store: in which table, at which place, and the word that was put there
pub record LeftAt : Type 0 where
  pub table : TableId
  pub place : ℕ
  pub word : ℕ

-- the store of these numbers for the position that has this key
abbrev pub left : TableId → ℕ → Numbers → LeftAt
left table key numbers =
    record { table = table; place = key % table.words; word = word_of key numbers }

-- ---- words for the functions inside the crate alone

-- what a seat of the table knows of its store
abbrev pub left_by : TableId → Stored → LeftAt
left_by table stored = record { table = table; place = stored.place; word = stored.word }
