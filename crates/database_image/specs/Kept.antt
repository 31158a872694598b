-- What is kept while an image is read.
use Rattle.std.specs.Prelude.{ℕ, List, map}
use Rattle.database_image.specs.declared.names.Names.TheInside.{Inside}

-- The names that were noted, in their order.
abbrev pub names_of : Inside → List (List ℕ)
names_of names = map (λ name. name.items) names.seen.keys
