-- Which member of a table gives access, computed by the definitions.
use Rattle.std.proofs.Common.{◌≡◌, ℕ, List, [], ◌∷◌, Option, Some, None, refl}
use Rattle.std.specs.Prelude.{codes}
use Rattle.access_levels.specs.declared.levels.Level.{Level}
use Rattle.access_levels.specs.declared.levels.Level.TheVariants.{NoAccess, Read, Update, Alter}
use Rattle.generic_names.specs.declared.kind.NameKind.TheVariants.{DataSet, General}
use Rattle.generic_names.specs.Spelled.{Spelled}
use Rattle.racf_profiles.specs.declared.profiles.Member.{Member}
use Rattle.racf_profiles.specs.declared.profiles.Member.TheVariants.{Access, SecurityLevel}
use Rattle.global_table.specs.declared.table.Grant.{Grant}
use Rattle.global_table.specs.Grants.{granted}

-- The names of the rows, and what is granted to the user JOE with the current group PAY.
abbrev data_set : List ℕ → Spelled
data_set text = record { kind = DataSet; text = text }

abbrev general : List ℕ → Spelled
general text = record { kind = General; text = text }

abbrev joe : List ℕ
joe = codes "JOE"

abbrev pay : List ℕ
pay = codes "PAY"

abbrev grant : ℕ → Level → Option Grant
grant place level = Some record { place = place; level = level }

-- ---- one member
abbrev system : List Member
system = Access (data_set (codes "SYS1.A")) Read ∷ []

very-name : granted system joe pay (data_set (codes "SYS1.A")) Read ≡ grant 0 Read
unfolding granted
very-name = refl

too-low : granted system joe pay (data_set (codes "SYS1.A")) Update ≡ None
unfolding granted
too-low = refl

other-name : granted system joe pay (data_set (codes "SYS1.B")) Read ≡ None
unfolding granted
other-name = refl

-- A member for data sets says nothing of a resource of that name.
other-kind : granted system joe pay (general (codes "SYS1.A")) Read ≡ None
unfolding granted
other-kind = refl

empty-table : granted [] joe pay (data_set (codes "SYS1.A")) NoAccess ≡ None
unfolding granted
empty-table = refl

-- The members of SECDATA give no access, but keep their places.
behind-a-level : granted (SecurityLevel (codes "SECRET") 100 ∷ system) joe pay (data_set (codes "SYS1.A")) Read ≡ grant 1 Read
unfolding granted
behind-a-level = refl

-- Behind a period `**` may stand for no qualifier, and a name ends before the text of the member does.
ends-before-it : granted (Access (data_set (codes "SYS1.A.**")) Read ∷ []) joe pay (data_set (codes "SYS1.A")) Read ≡ grant 0 Read
unfolding granted
ends-before-it = refl

-- ---- symbols
abbrev own : List Member
own = Access (data_set (codes "SYS1.A")) Read ∷ Access (data_set (codes "&RACUID.**")) Alter ∷ []

own-data : granted own joe pay (data_set (codes "JOE.DATA")) Update ≡ grant 1 Alter
unfolding granted
own-data = refl

not-another's : granted own (codes "ANN") pay (data_set (codes "JOE.DATA")) Read ≡ None
unfolding granted
not-another's = refl

abbrev of_group : List Member
of_group = Access (data_set (codes "&RACGPID.X")) Update ∷ []

group's : granted of_group joe pay (data_set (codes "PAY.X")) Update ≡ grant 0 Update
unfolding granted
group's = refl

not-the-user's : granted of_group joe pay (data_set (codes "JOE.X")) Update ≡ None
unfolding granted
not-the-user's = refl

-- Elsewhere than in front, too.
symbol-inside : granted (Access (general (codes "DESK.&RACUID")) Read ∷ []) joe pay (general (codes "DESK.JOE")) Read ≡ grant 0 Read
unfolding granted
symbol-inside = refl

-- ---- the most specific decides alone
abbrev nested : List Member
nested = Access (data_set (codes "SYS1.**")) Alter ∷ Access (data_set (codes "SYS1.A")) Read ∷ []

decides-alone : granted nested joe pay (data_set (codes "SYS1.A")) Update ≡ None
unfolding granted
decides-alone = refl

suffices-for-less : granted nested joe pay (data_set (codes "SYS1.A")) Read ≡ grant 1 Read
unfolding granted
suffices-for-less = refl

beside-it : granted nested joe pay (data_set (codes "SYS1.B")) Update ≡ grant 0 Alter
unfolding granted
beside-it = refl

-- Which it is may depend on the user: these are one name for JOE, and the first counts.
abbrev alike : List Member
alike = Access (data_set (codes "&RACUID.X")) Read ∷ Access (data_set (codes "JOE.X")) Alter ∷ []

first-of-equals : granted alike joe pay (data_set (codes "JOE.X")) Read ≡ grant 0 Read
unfolding granted
first-of-equals = refl

first-of-equals-alone : granted alike joe pay (data_set (codes "JOE.X")) Alter ≡ None
unfolding granted
first-of-equals-alone = refl

second-for-others : granted alike (codes "ANN") pay (data_set (codes "JOE.X")) Alter ≡ grant 1 Alter
unfolding granted
second-for-others = refl

-- ---- no lawful spelling
-- The name of a data set has at most 44 bytes. The first of these has 44 for the user PRINTER, and for PRINTERS one too
-- many: it drops, and the other decides.
abbrev long : List Member
long = Access (data_set (codes "&RACUID.AAAAAAAA.BBBBBBBB.CCCCCCCC.DDDDDD.**")) Alter ∷ Access (data_set (codes "&RACUID.**")) Read ∷ []

just-fits : granted long (codes "PRINTER") pay (data_set (codes "PRINTER.AAAAAAAA.BBBBBBBB.CCCCCCCC.DDDDDD")) Read ≡ grant 0 Alter
unfolding granted
just-fits = refl

drops : granted long (codes "PRINTERS") pay (data_set (codes "PRINTERS.AAAAAAAA.BBBBBBBB.CCCCCCCC.DDDDDD")) Read ≡ grant 1 Read
unfolding granted
drops = refl

drops-for-all : granted long (codes "PRINTERS") pay (data_set (codes "PRINTERS.AAAAAAAA.BBBBBBBB.CCCCCCCC.DDDDDD")) Update ≡ None
unfolding granted
drops-for-all = refl
