-- A reader of lines, as its callers see it.
use Rattle.std.specs.Prelude.{ℕ, ◌≡◌, ◌==◌, Bool, false, List, [], Option}
use Rattle.std.specs.List.{list_any}

pub record Reader : Type 0 where
  pub unread : Option (List ℕ)  -- the bytes of the input that aren't yet given as lines, where its source tells them
  pub left : Option (List ℕ)  -- those of them that are still in its source
  pub held : List ℕ  -- those of them that its source has given
  pub faults : ℕ  -- its source's count of faults
  pub ended : Bool  -- the input has ended
  pub passed : ℕ  -- how many bytes of the input have been taken

-- a reader that has read nothing from a source with these bytes left and this count of faults
abbrev pub at_start : Option (List ℕ) → ℕ → Reader
at_start left faults = record { unread = left; left = left; held = []; faults = faults; ended = false; passed = 0 }

-- a line ends in these bytes
abbrev pub has_feed : List ℕ → Bool
has_feed bytes = list_any (λ byte. byte == 10) bytes

-- The source was not read.
pub record KeepsSource (old new : Reader) : Type 0 where
  pub left : new.left ≡ old.left
  pub faults : new.faults ≡ old.faults
