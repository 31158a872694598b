-- Words of the crate's own functions: how a page is kept, and what takes the place of a part.
use Rattle.std.specs.Prelude.{◌≡◌, ℕ, ◌-◌, ◌<◌, ◌≤◌, List, [], ◌++◌, length, slice_get}
use Rattle.pages.specs.declared.part.Change.{Change}
use Rattle.pages.specs.declared.part.Change.TheVariants.{Gone, One, Two}

module _ {P T : Type 0} (items : P → List T) where
  -- the items of a change, in order
  abbrev pub change_items : Change P → List T
  change_items Gone = []
  change_items (One a) = items a
  change_items (Two a b) = items a ++ items b

-- how many parts a change puts in
abbrev pub change_len : {P : Type 0} → Change P → ℕ
change_len Gone = 0
change_len (One a) = 1
change_len (Two a b) = 2

-- A page counts its items, of which there are some, has at most 32 parts, and keeps the last part, whose last item is
-- its own last.
pub record IsPage {T : Type 0} (items : List T) (count parts : ℕ) (last : List T) : Type 0 where
  pub counted : count ≡ length items
  pub some : 0 < count
  pub most : parts ≤ 32
  pub ends : slice_get items (length items - 1) ≡ slice_get last (length last - 1)
