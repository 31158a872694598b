-- The text that is made, part by part: the definitions of each user, and then the requests of each.
use Rattle.std.specs.Prelude.{ℕ, ◌+◌, ◌-◌, ◌*◌, List, ◌++◌, flat_map, nat_lt, if◌then◌else◌}
use Rattle.std.specs.List.{range_with_len}
use Rattle.racf_generator.specs.MadeText.{definitions, requests, text_of}

-- a source of the text, as its callers see it
pub record MadeInput : Type 0 where
  pub left : List ℕ  -- the bytes that are left
  pub faults : ℕ  -- its count of faults, at most 2^64 - 1

-- the bytes that are left: those of the part that was made last, and the parts that are still to be made
pub record MadeParts : Type 0 where
  pub ready : List ℕ
  pub rest : List ℕ

abbrev pub left_of : MadeParts → List ℕ
left_of parts = parts.ready ++ parts.rest

-- the lines for a user, each with its line feed
unfoldable pub definitions_text : ℕ → List ℕ
definitions_text user = text_of (definitions user)

unfoldable pub requests_text : (users user : ℕ) → List ℕ
requests_text users user = text_of (requests users user)

-- a part, counted from 0
unfoldable pub part_text : (users part : ℕ) → List ℕ
part_text users part = if nat_lt part users then definitions_text (part + 1) else requests_text users (part - users + 1)

-- the text from a part on
unfoldable pub parts_from : (users part : ℕ) → List ℕ
parts_from users part = flat_map (part_text users) (range_with_len part (2 * users - part))
