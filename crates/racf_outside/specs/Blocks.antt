-- A reader of blocks, as its callers see it: the bytes of a source, a block of them at hand.
use Rattle.std.specs.Prelude.{ℕ, ◌≡◌, List, Option, drop}
use Rattle.std.specs.Io.KnownBytes.{prepend_known}

pub record Block : Type 0 where
  pub ready : List ℕ  -- the bytes at hand
  pub left : Option (List ℕ)  -- the bytes that its source has left
  pub faults : ℕ  -- its source's count of faults

-- all bytes that are to come
abbrev pub unread_of : Block → Option (List ℕ)
unread_of block = prepend_known block.ready block.left

-- The first `count` of the bytes at hand were left behind.
pub record Passes (count : ℕ) (old new : Block) : Type 0 where
  pub ready : new.ready ≡ drop count old.ready
  pub left : new.left ≡ old.left
  pub faults : new.faults ≡ old.faults
