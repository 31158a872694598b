-- The order of access levels and of group authorities, and the words that spell them.
use Rattle.std.specs.Prelude.{ℕ, Bool, nat_le, List, [], ◌∷◌, codes}
use Rattle.access_levels.specs.declared.levels.Level.{Level}
use Rattle.access_levels.specs.declared.levels.Level.TheVariants.{NoAccess, Execute, Read, Update, Control, Alter}
use Rattle.access_levels.specs.declared.authorities.GroupAuthority.{GroupAuthority}
use Rattle.access_levels.specs.declared.authorities.GroupAuthority.TheVariants.{MayUse, MayCreate, MayConnect, MayJoin}
use Rattle.access_levels.specs.declared.entries.PortClass.{PortClass}
use Rattle.access_levels.specs.declared.entries.PortClass.TheVariants.{Terminal, Console, Jesinput, Appcport}

-- The access levels rise, and each includes all before it.
abbrev pub level_rank : Level → ℕ
level_rank NoAccess = 0
level_rank Execute = 1
level_rank Read = 2
level_rank Update = 3
level_rank Control = 4
level_rank Alter = 5

-- A level that was found suffices for the one asked where its rank is at least as high.
abbrev pub suffices : Level → Level → Bool
suffices found asked = nat_le (level_rank asked) (level_rank found)

-- The words for the levels.
abbrev pub level_name : Level → List ℕ
level_name NoAccess = codes "NONE"
level_name Execute = codes "EXECUTE"
level_name Read = codes "READ"
level_name Update = codes "UPDATE"
level_name Control = codes "CONTROL"
level_name Alter = codes "ALTER"

abbrev pub levels : List Level
levels = NoAccess ∷ Execute ∷ Read ∷ Update ∷ Control ∷ Alter ∷ []

-- The group authorities rise too.
abbrev pub authority_rank : GroupAuthority → ℕ
authority_rank MayUse = 0
authority_rank MayCreate = 1
authority_rank MayConnect = 2
authority_rank MayJoin = 3

-- The words for the authorities.
abbrev pub authority_name : GroupAuthority → List ℕ
authority_name MayUse = codes "USE"
authority_name MayCreate = codes "CREATE"
authority_name MayConnect = codes "CONNECT"
authority_name MayJoin = codes "JOIN"

abbrev pub authorities : List GroupAuthority
authorities = MayUse ∷ MayCreate ∷ MayConnect ∷ MayJoin ∷ []

-- The classes whose resources are the ports of entry.
abbrev pub port_class_name : PortClass → List ℕ
port_class_name Terminal = codes "TERMINAL"
port_class_name Console = codes "CONSOLE"
port_class_name Jesinput = codes "JESINPUT"
port_class_name Appcport = codes "APPCPORT"

abbrev pub port_classes : List PortClass
port_classes = Terminal ∷ Console ∷ Jesinput ∷ Appcport ∷ []
