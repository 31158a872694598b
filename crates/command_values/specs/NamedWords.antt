-- What a word names in letters of either case: an ID, a group, an access level, an authority, a class of ports of
-- entry.
use Rattle.std.specs.Prelude.{ℕ, List, map, Option}
use Rattle.std.specs.Result.{result_ok}
use Rattle.access_levels.specs.declared.levels.Level.{Level}
use Rattle.access_levels.specs.declared.authorities.GroupAuthority.{GroupAuthority}
use Rattle.access_levels.specs.declared.entries.PortClass.{PortClass}
use Rattle.access_levels.specs.Spelling.{id_of, group_of, authority_of, level_of, port_class_of}
use Rattle.command_words.specs.Bytes.{upper}

abbrev pub id_named : List ℕ → Option (List ℕ)
id_named word = result_ok (id_of (map upper word))

abbrev pub group_named : List ℕ → Option (List ℕ)
group_named word = result_ok (group_of (map upper word))

abbrev pub level_named : List ℕ → Option Level
level_named word = level_of (map upper word)

abbrev pub authority_named : List ℕ → Option GroupAuthority
authority_named word = authority_of (map upper word)

abbrev pub port_class_named : List ℕ → Option PortClass
port_class_named word = port_class_of (map upper word)
