-- Which values a text can spell.
use Rattle.std.specs.Prelude.{◌≡◌, ℕ, List, [], ◌∷◌, true, Some}
use Rattle.access_levels.specs.declared.entries.Who.{Who}
use Rattle.access_levels.specs.declared.entries.Who.TheVariants.{Star, Named}
use Rattle.command_values.specs.declared.value_kinds.ValueKind.{ValueKind}
use Rattle.command_values.specs.declared.value_kinds.ValueKind.TheVariants as kinds
use Rattle.command_values.specs.declared.values.Content.{Content}
use Rattle.command_values.specs.declared.values.Content.TheVariants as contents
use Rattle.command_values.specs.declared.values.Known.{Known}
use Rattle.command_fields.specs.ProfileNames.{dataset_profile, class_profile, any_profile}
use Rattle.command_fields.specs.AuditRules.{is_audit_rule}
use Rattle.command_fields.specs.Classes.{is_longest}
use Rattle.command_fields.specs.MemberForms.{member_form}
use Rattle.command_fields.specs.LawfulMembers.{Each, AreMembers, AreDropped}
use Rattle.command_values.specs.Values.{name_of}
use Rattle.command_fields.specs.UserNames.{is_name}
use Rattle.command_fields.specs.declared.log_clauses.LogClause.{LogClause}
use Rattle.command_values.specs.LogOptions.{is_in_order}

-- names that are written as they are read
abbrev pub AreNames : ValueKind → List (List ℕ) → Type 0
AreNames k [] = Unit {0}
AreNames k (w ∷ ws) = (name_of k w ≡ Some w) × AreNames k ws

abbrev pub IsNonEmpty : List (List ℕ) → Type 0
IsNonEmpty [] = ⊥
IsNonEmpty (w ∷ ws) = Unit {0}

-- users and groups, or `*` alone
abbrev pub AreNamed : List Who → Type 0
AreNamed [] = Unit {0}
AreNamed (Star ∷ ws) = ⊥
AreNamed (Named x ∷ ws) = (name_of kinds.Ids x ≡ Some x) × AreNamed ws

abbrev pub AreWhos : List Who → Type 0
AreWhos [] = ⊥
AreWhos (Star ∷ []) = Unit {0}
AreWhos (Star ∷ (w ∷ ws)) = ⊥
AreWhos (Named x ∷ ws) = (name_of kinds.Ids x ≡ Some x) × AreNamed ws

abbrev pub AreSome : {X : Type 0} → List X → Type 0
AreSome [] = ⊥
AreSome (x ∷ xs) = Unit {0}

-- words of LOGOPTIONS in their order, each with one class or more
abbrev pub IsClause : LogClause → Type 0
IsClause clause = IsNonEmpty clause.classes × AreNames kinds.Ids clause.classes

abbrev pub AreClauses : List LogClause → Type 0
AreClauses cs = AreSome cs × (is_in_order cs ≡ true) × Each IsClause cs

-- a value of its kind
abbrev pub Fits : ValueKind → Content → Type 0
Fits kinds.Flag contents.Flag = Unit {0}
Fits kinds.Id (contents.Id w) = name_of kinds.Id w ≡ Some w
Fits kinds.Group (contents.Id w) = name_of kinds.Group w ≡ Some w
Fits kinds.Authority (contents.Authority a) = Unit {0}
Fits kinds.Name (contents.Name t) = is_name t ≡ true
Fits kinds.Ids (contents.Ids ws) = IsNonEmpty ws × AreNames kinds.Ids ws
Fits kinds.Classes (contents.Ids ws) = IsNonEmpty ws × AreNames kinds.Classes ws
Fits kinds.Class (contents.Id w) = name_of kinds.Class w ≡ Some w
Fits kinds.Level (contents.Level l) = Unit {0}
Fits kinds.Reset (contents.Reset r) = Unit {0}
Fits kinds.Audit (contents.Audit rule) = is_audit_rule rule ≡ true
Fits kinds.DataSetProfile (contents.Profile n) = dataset_profile n.text ≡ Some n
Fits kinds.ClassProfile (contents.Profile n) = Unit {0}
Fits kinds.AnyProfile (contents.Profile n) = Unit {0}
Fits kinds.Whos (contents.Whos ws) = AreWhos ws
Fits kinds.When (contents.When c) = name_of kinds.Id c.name ≡ Some c.name
Fits kinds.AddedMembers (contents.Members ms) = AreSome ms
Fits kinds.DroppedMembers (contents.MemberNames ns) = AreSome ns
Fits kinds.Failures contents.Failures = Unit {0}
Fits kinds.LogOptions (contents.LogOptions cs) = AreClauses cs
Fits kinds.Length (contents.Length n) = is_longest n ≡ true
Fits kinds.Truth (contents.Truth b) = Unit {0}
Fits kinds.ClassNames (contents.ClassNames n) = Unit {0}
Fits k v = ⊥

-- A value that depends on the words in front: the name of a profile on its class, its members on both.
abbrev pub Suits : Known → ValueKind → Content → Type 0
Suits known kinds.ClassProfile (contents.Profile n) = class_profile known.class n.text ≡ Some n
Suits known kinds.AnyProfile (contents.Profile n) = any_profile known.class n.text ≡ Some n
Suits known kinds.AddedMembers (contents.Members ms) = AreMembers (member_form known.class known.profile) ms
Suits known kinds.DroppedMembers (contents.MemberNames ns) = AreDropped (member_form known.class known.profile) ns
Suits known k v = Unit {0}
