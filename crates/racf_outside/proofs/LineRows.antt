-- Worked rows of the lines of an input.
use Rattle.std.specs.Prelude.{◌≡◌, [], ◌∷◌, ◌++◌, replicate, codes, refl}
use Rattle.racf_outside.specs.Lines.{Text, TooLong, lines, whole_lines}

-- an empty input has no line
empty : lines [] ≡ []
empty = refl

-- the input's end ends a line, and a line feed is no line of its own
no_feed_at_the_end : lines (codes "AB") ≡ Text (codes "AB") ∷ []
no_feed_at_the_end = refl

feed_at_the_end : lines (codes "AB\n") ≡ Text (codes "AB") ∷ []
feed_at_the_end = refl

two_feeds : lines (codes "A\n\nB") ≡ Text (codes "A") ∷ Text [] ∷ Text (codes "B") ∷ []
two_feeds = refl

only_a_feed : lines (codes "\n") ≡ Text [] ∷ []
only_a_feed = refl

-- one carriage return is dropped before either end, and no other
returns : lines (codes "A\r\nB\r\r\nC\rD\r") ≡ Text (codes "A") ∷ Text (codes "B\r") ∷ Text (codes "C\rD") ∷ []
returns = refl

only_a_return : lines (codes "\r") ≡ Text [] ∷ []
only_a_return = refl

-- what no line feed ended isn't whole
whole : whole_lines (codes "A\nB\nC") ≡ Text (codes "A") ∷ Text (codes "B") ∷ []
whole = refl

-- 4,096 bytes are a line and 4,097 are too long, the carriage return counted; the rest of a line that is too long is
-- skipped
longest : lines (replicate 4096 65) ≡ Text (replicate 4096 65) ∷ []
longest = refl

too_long : lines (replicate 4097 65 ++ codes "\nA") ≡ TooLong ∷ Text (codes "A") ∷ []
too_long = refl

return_counts : lines (replicate 4096 65 ++ codes "\r\nA") ≡ TooLong ∷ Text (codes "A") ∷ []
return_counts = refl
