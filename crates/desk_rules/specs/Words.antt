-- The words of each refusal of a command, as they are printed.
use Rattle.std.specs.Prelude.{ℕ, List, [], ◌∷◌, ◌++◌, codes, decimal}
use Rattle.access_levels.specs.Level.{authority_name}
use Rattle.command_values.specs.declared.faults.Syntax.{Syntax}
use Rattle.command_values.specs.declared.faults.Syntax.TheVariants as syntax
use Rattle.command_values.specs.OperandWords.{spelling_of}
use Rattle.command_rules.specs.declared.conflict.Conflict.{Conflict}
use Rattle.command_rules.specs.declared.conflict.Conflict.TheVariants as conflict
use Rattle.command_rules.specs.declared.conflict.Named.{Named}
use Rattle.command_rules.specs.declared.conflict.Named.TheVariants as named
use Rattle.command_rules.specs.declared.conflict.Holder.{Holder}
use Rattle.command_rules.specs.declared.conflict.Holder.TheVariants as holder
use Rattle.command_rules.specs.declared.conflict.Limit.{Limit}
use Rattle.command_rules.specs.declared.conflict.Limit.TheVariants as kind
use Rattle.command_authority.specs.declared.needs.Need.{Need}
use Rattle.command_authority.specs.declared.needs.Need.TheVariants as need
use Rattle.desk_rules.specs.declared.refusal.Refusal.{Refusal}
use Rattle.desk_rules.specs.declared.refusal.Refusal.TheVariants as refusal

-- the first fault of a command's text, with its place in the text or the words of the operands
abbrev pub syntax_words : Syntax → List ℕ
syntax_words syntax.UnknownCommand = codes "UNKNOWNCOMMAND"
syntax_words (syntax.UnknownOperand place) = codes "UNKNOWNOPERAND " ++ decimal place
syntax_words (syntax.AmbiguousOperand place) = codes "AMBIGUOUS " ++ decimal place
syntax_words (syntax.Missing word) = codes "MISSING " ++ spelling_of word
syntax_words (syntax.Repeated word) = codes "REPEATED " ++ spelling_of word
syntax_words (syntax.Excluded word other) = codes "EXCLUDED " ++ spelling_of word ++ codes " " ++ spelling_of other
syntax_words (syntax.BadValue place) = codes "BADVALUE " ++ decimal place
syntax_words (syntax.Unclosed place) = codes "UNCLOSED " ++ decimal place
syntax_words syntax.TextTooLong = codes "TEXTTOOLONG"

-- what is defined already
abbrev pub named_words : Named → List ℕ
named_words (named.Id id) = id
named_words (named.Profile profile) = profile.text

-- what still uses a user, a group or a class
abbrev pub holder_words : Holder → List ℕ
holder_words (holder.Subgroup id) = codes "SUBGROUP " ++ id
holder_words (holder.Connected id) = codes "CONNECTED " ++ id
holder_words (holder.Profile profile) = codes "PROFILE " ++ profile.text

-- what is limited in number
abbrev pub kind_words : Limit → List ℕ
kind_words kind.Users = codes "USERS"
kind_words kind.Groups = codes "GROUPS"
kind_words kind.Connections = codes "CONNECTIONS"
kind_words kind.AllConnections = codes "ALLCONNECTIONS"
kind_words kind.ClassProfiles = codes "CLASSPROFILES"
kind_words kind.Profiles = codes "PROFILES"
kind_words kind.Entries = codes "ENTRIES"
kind_words kind.AllEntries = codes "ALLENTRIES"
kind_words kind.Members = codes "MEMBERS"
kind_words kind.Categories = codes "CATEGORIES"
kind_words kind.Classes = codes "CLASSES"

-- what a command conflicts with
abbrev pub conflict_words : Conflict → List ℕ
conflict_words (conflict.NoUser id) = codes "NOUSER " ++ id
conflict_words (conflict.NoGroup id) = codes "NOGROUP " ++ id
conflict_words (conflict.NoProfile class profile) = codes "NOPROFILE " ++ class ++ codes " " ++ profile.text
conflict_words (conflict.NoClass class) = codes "NOCLASS " ++ class
conflict_words (conflict.Exists name) = codes "EXISTS " ++ named_words name
conflict_words (conflict.NotConnected group) = codes "NOTCONNECTED " ++ group
conflict_words conflict.Root = codes "ROOT"
conflict_words (conflict.InUse holder) = codes "INUSE " ++ holder_words holder
conflict_words (conflict.Cycle group) = codes "CYCLE " ++ group
conflict_words (conflict.OwnerNotSuperior owner) = codes "OWNERNOTSUPERIOR " ++ owner
conflict_words (conflict.NotGeneric class) = codes "NOTGENERIC " ++ class
conflict_words (conflict.NotListed class) = codes "NOTLISTED " ++ class
conflict_words (conflict.ClassFixed class) = codes "CLASSFIXED " ++ class
conflict_words (conflict.DefaultGroup group) = codes "DEFAULTGROUP " ++ group
conflict_words (conflict.LastSpecial user) = codes "LASTSPECIAL " ++ user
conflict_words (conflict.UnknownName name) = codes "UNKNOWNNAME " ++ name
conflict_words (conflict.NameNotAllowed class) = codes "NAMENOTALLOWED " ++ class
conflict_words (conflict.Full kind limit) = codes "FULL " ++ kind_words kind ++ codes " " ++ decimal limit

-- what lets an issuer give a command
abbrev pub in_parentheses : List ℕ → List ℕ → List ℕ
in_parentheses word name = word ++ codes "(" ++ name ++ codes ")"

abbrev pub need_words : Need → List ℕ
need_words need.Special = codes "SPECIAL"
need_words need.Auditor = codes "AUDITOR"
need_words (need.ClassAuthority class) = in_parentheses (codes "CLAUTH") class
need_words (need.Join group) = in_parentheses (codes "JOIN") group
need_words (need.Connect group) = in_parentheses (codes "CONNECT") group
need_words (need.Create group) = in_parentheses (codes "CREATE") group
need_words (need.Authority wanted) = in_parentheses (codes "AUTHORITY") (authority_name wanted)
need_words need.Owner = codes "OWNER"
need_words need.GroupSpecial = codes "GROUPSPECIAL"
need_words need.OwnData = codes "OWNDATA"
need_words need.AlterEntry = codes "ALTER"
need_words (need.UserJoin group) = in_parentheses (codes "CLAUTH(USER)+JOIN") group
need_words need.UserOwner = codes "CLAUTH(USER)+OWNER"
need_words need.UserGroupSpecial = codes "CLAUTH(USER)+GROUPSPECIAL"

-- each behind a blank, in their order
abbrev pub each_need : List Need → List ℕ
each_need [] = []
each_need (one ∷ needs) = codes " " ++ need_words one ++ each_need needs

-- why a command was refused
abbrev pub refusal_words : Refusal → List ℕ
refusal_words (refusal.Syntax fault) = codes "SYNTAX " ++ syntax_words fault
refusal_words (refusal.IssuerUnknown id) = codes "ISSUERUNKNOWN " ++ id
refusal_words (refusal.IssuerRevoked id) = codes "ISSUERREVOKED " ++ id
refusal_words (refusal.IssuerNotConnected group) = codes "ISSUERNOTCONNECTED " ++ group
refusal_words (refusal.Conflict conflict) = conflict_words conflict
refusal_words (refusal.Need needs) = codes "NEED" ++ each_need needs
refusal_words refusal.JournalFull = codes "JOURNALFULL"
refusal_words refusal.NumberSpent = codes "NUMBERSPENT"
