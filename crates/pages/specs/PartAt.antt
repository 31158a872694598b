-- The part of a list in which an item stands.
use Rattle.std.specs.Prelude.{◌≡◌, ℕ, ◌+◌, ◌<◌, List, ◌++◌, length}

-- The part stands whole in the list, behind a front and before what is left, and the item at a place of the list is at
-- this place of the part.
pub record IsPartAt {T : Type 0} (items : List T) (place : ℕ) (part : List T) (rest : ℕ) : Type 0 where
  pub front : List T
  pub back : List T
  pub among : items ≡ front ++ (part ++ back)
  pub start : length front + rest ≡ place
  pub within : rest < length part
