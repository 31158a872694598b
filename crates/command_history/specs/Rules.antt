-- The rule of a history's book, and what its steps tell.
use Rattle.std.specs.Prelude.{ℕ, ◌≡◌, ◌+◌, ◌<◌, ◌≤◌, true, List, [], ◌∷◌, ◌++◌, length}
use Rattle.logbook.specs.Pages.{Cell, cell, Step, View, Book, Named, nib, may_make}
use Rattle.command_history.specs.declared.events.Event.{Event}
use Rattle.command_history.specs.Events.{ends_last}

-- What holds between any two steps. The book begins with two words, and word n + 2 comes home with event n: who has the
-- pen of a word that is still away knows that its event isn't there.
pub record IsKept (cells : List Cell) (log : List Event) : Type 0 where
  pub count : (cell cells 0).0 ≡ length cells  -- the first word is the number of words
  pub home : (key : ℕ) → key < length log + 2 → (cell cells key).1 ≡ true  -- so many words are at home
  pub last : ends_last log ≡ true

-- the word that everybody shares
abbrev pub head_of : Book → Named
head_of book = record { tracked = true; key = 0; book = book }

-- Where the number found is the one that was looked for, there is a new word, with the pen of it.
abbrev pub Takes : Step Event → View Event ℕ → ℕ → View Event ℕ → Type 0
Takes step before found after = found ≡ step.old → after.1.0 ≡ nib may_make step.old 0

-- The event stands behind all that was seen.
abbrev pub Adds : Step Event → View Event ℕ → ℕ → View Event ℕ → Type 0
Adds step before found after = (after.0 ≡ before.0 ++ step.ask ∷ []) × (ends_last after.0 ≡ true)

-- Nothing is added, and the word of the pen is still away: so no more events than these are there.
abbrev pub Stays : Step Event → View Event ℕ → ℕ → View Event ℕ → Type 0
Stays step before found after =
    (length after.0 + 2 ≤ before.1.0.key) × (after.1.0 ≡ before.1.0) × (ends_last after.0 ≡ true)
