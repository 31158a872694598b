-- When two entries of an access list are for the same users, and two conditions for the same port.
use Rattle.std.specs.Prelude.{Bool, true, false, ◌&&◌, bytes_eq}
use Rattle.access_levels.specs.declared.entries.Who.{Who}
use Rattle.access_levels.specs.declared.entries.Who.TheVariants.{Star, Named}
use Rattle.access_levels.specs.declared.entries.Condition.{Condition}
use Rattle.access_levels.specs.Level.{port_class_name}

-- Both are `*`, or both are one ID.
abbrev pub is_same_who : Who → Who → Bool
is_same_who Star Star = true
is_same_who Star (Named id) = false
is_same_who (Named id) Star = false
is_same_who (Named id) (Named other) = bytes_eq id other

-- Both name one port of one class.
abbrev pub is_same_port : Condition → Condition → Bool
is_same_port port other = bytes_eq (port_class_name port.class) (port_class_name other.class) && bytes_eq port.name other.name
