-- Fields of lawful values fit, and so do lists of them.
use Rattle.std.proofs.Common.{◌≡◌, ℕ, ◌^◌, ◌<◌, ◌≤◌, Bool, true, false, List, [], ◌∷◌, ◌++◌, map, Option, Some, None, Ok, bytes_eq, refl, sym, ap, subst, ◌∙◌, append_assoc, arith}
use Rattle.std.specs.Prelude.{not, nat_le, nat_lt}
use Rattle.std.specs.List.{AllByRecursion, IsDistinct, list_any}
use Rattle.std.proofs.lemmas.Bool.Decides.{nat_tests}
use Rattle.std.proofs.lemmas.List.{append-nil, map-append}
use Rattle.std.proofs.lemmas.Map.Keys.{IsDistinct-head, IsDistinct-tail}
use Rattle.byteorder.specs.Endian.{big_bytes, big_number, little_bytes, little_number}
use Rattle.byteorder.specs.Numbers.{length-bytes_high_first, length-bytes_low_first, big_number-reads_back, little_number-reads_back}
use Rattle.access_levels.specs.Spelling.{group_of}
use Rattle.access_levels.specs.Level.{level_rank, levels, authority_rank, authorities, port_classes}
use Rattle.access_levels.specs.declared.levels.Level.{Level}
use Rattle.access_levels.specs.declared.levels.Level.TheVariants.{NoAccess, Execute, Read, Update, Control, Alter}
use Rattle.access_levels.specs.declared.authorities.GroupAuthority.{GroupAuthority}
use Rattle.access_levels.specs.declared.authorities.GroupAuthority.TheVariants.{MayUse, MayCreate, MayConnect, MayJoin}
use Rattle.access_levels.specs.declared.entries.PortClass.{PortClass}
use Rattle.access_levels.specs.declared.entries.PortClass.TheVariants.{Terminal, Console, Jesinput, Appcport}
use Rattle.access_levels.specs.declared.entries.Who.{Who}
use Rattle.access_levels.specs.declared.entries.Who.TheVariants.{Star, Named}
use Rattle.racf_profiles.specs.declared.class_rows.LogOption.{LogOption}
use Rattle.racf_profiles.specs.declared.class_rows.LogOption.TheVariants as log
use Rattle.racf_profiles.specs.LawfulProfiles.{is_logged_level}
use Rattle.racf_profiles.proofs.Named.{turned}
use Rattle.database_image.specs.Forms.{Form, IsSpelled, number_spelling, ItemsFit}
use Rattle.database_image.specs.Fields.{of_text, filled_spelling, itself, id_text, group_text, text_or_none, unless_blank, who_text, who_of, rank_spelling, set_spelling, is_new, id}
use Rattle.database_image.specs.Description.{audit_rank, audit_levels, flag_rank, port_rank, log_rank, log_options}
use Rattle.database_image.specs.Spelled.{IsId, IsIdOrNone, IsWho}
use Rattle.database_image.proofs.Honest.{filled-id, named-who}

-- ---- numbers
pub spelled-number : (width n : ℕ) → n < 256 ^ width → IsSpelled (number_spelling width) n
spelled-number width n h = record {
  whole = length-bytes_high_first width n;
  back = ap (λ (m : ℕ). Some m) (ap (big_number width) (sym (append-nil (big_bytes width n))) ∙ big_number-reads_back width n [] h);
}

pub at-most : (n limit : ℕ) → n ≤ limit → nat_le n limit ≡ true
at-most n limit h = grind (arith, nat_tests)

pub below-limit : (n limit : ℕ) → n < limit → nat_lt n limit ≡ true
below-limit n limit h = grind (arith, nat_tests)

pub spelled-set : (set : ℕ) → set < 2 ^ 256 → IsSpelled set_spelling set
spelled-set set h = record {
  whole = length-bytes_low_first 0 32 set;
  back = ap (λ (m : ℕ). Some m) (ap (little_number 32) (sym (append-nil (little_bytes 32 set))) ∙ little_number-reads_back 32 set [] h);
}

-- ---- texts in eight bytes
pub spelled-id : (text : List ℕ) → IsId text → IsSpelled (filled_spelling itself id_text) text
spelled-id text h = let f = filled-id text h in record { whole = f.whole; back = ap (of_text id_text) f.back ∙ rw h refl }

-- a group's name is an identifier, and spelled as such a name
pub record IsGroupName (text : List ℕ) : Type 0 where
  pub id : IsId text
  pub group : group_of text ≡ Ok text

pub spelled-group : (text : List ℕ) → IsGroupName text → IsSpelled (filled_spelling itself group_text) text
spelled-group text h = let f = filled-id text h.id in let group = h.group in record { whole = f.whole; back = ap (of_text group_text) f.back ∙ rw group refl }

unless-blank-id : (value : List ℕ → Option (List ℕ)) (text : List ℕ) → IsId text → value text ≡ Some text → unless_blank value text ≡ Some (Some text)
unless-blank-id value [] h e = absurd cc
unless-blank-id value (byte ∷ text) h e = rw e refl

pub spelled-label : (label : Option (List ℕ)) → IsIdOrNone label → IsSpelled (filled_spelling text_or_none (unless_blank id_text)) label
spelled-label None h = record { whole = refl; back = refl }
spelled-label (Some text) h = let f = filled-id text h in record { whole = f.whole; back = ap (of_text (unless_blank id_text)) f.back ∙ unless-blank-id id_text text h (rw h refl) }

abbrev pub IsGroupOrNone : Option (List ℕ) → Type 0
IsGroupOrNone None = Unit {0}
IsGroupOrNone (Some text) = IsGroupName text

pub spelled-superior : (superior : Option (List ℕ)) → IsGroupOrNone superior → IsSpelled (filled_spelling text_or_none (unless_blank group_text)) superior
spelled-superior None h = record { whole = refl; back = refl }
spelled-superior (Some text) h = let f = filled-id text h.id in let group = h.group in record { whole = f.whole; back = ap (of_text (unless_blank group_text)) f.back ∙ unless-blank-id group_text text h.id (rw group refl) }

pub spelled-who : (who : Who) → IsWho who → IsSpelled (filled_spelling who_text who_of) who
spelled-who Star h = record { whole = refl; back = refl }
spelled-who (Named text) h = let f = filled-id text h in record { whole = f.whole; back = ap (of_text who_of) f.back ∙ named-who text h }

-- ---- ranks
pub spelled-level : (level : Level) → IsSpelled (rank_spelling level_rank levels) level
spelled-level NoAccess = record { whole = refl; back = refl }
spelled-level Execute = record { whole = refl; back = refl }
spelled-level Read = record { whole = refl; back = refl }
spelled-level Update = record { whole = refl; back = refl }
spelled-level Control = record { whole = refl; back = refl }
spelled-level Alter = record { whole = refl; back = refl }

pub spelled-authority : (authority : GroupAuthority) → IsSpelled (rank_spelling authority_rank authorities) authority
spelled-authority MayUse = record { whole = refl; back = refl }
spelled-authority MayCreate = record { whole = refl; back = refl }
spelled-authority MayConnect = record { whole = refl; back = refl }
spelled-authority MayJoin = record { whole = refl; back = refl }

pub spelled-port : (class : PortClass) → IsSpelled (rank_spelling port_rank port_classes) class
spelled-port Terminal = record { whole = refl; back = refl }
spelled-port Console = record { whole = refl; back = refl }
spelled-port Jesinput = record { whole = refl; back = refl }
spelled-port Appcport = record { whole = refl; back = refl }

pub spelled-log : (option : LogOption) → IsSpelled (rank_spelling log_rank log_options) option
spelled-log log.ByProfile = record { whole = refl; back = refl }
spelled-log log.Always = record { whole = refl; back = refl }
spelled-log log.Never = record { whole = refl; back = refl }
spelled-log log.Successes = record { whole = refl; back = refl }
spelled-log log.Failures = record { whole = refl; back = refl }

pub spelled-flag : (flag : Bool) → IsSpelled (rank_spelling flag_rank (false ∷ true ∷ [])) flag
spelled-flag false = record { whole = refl; back = refl }
spelled-flag true = record { whole = refl; back = refl }

pub spelled-audit : (level : Option Level) → is_logged_level level ≡ true → IsSpelled (rank_spelling audit_rank audit_levels) level
spelled-audit None h = record { whole = refl; back = refl }
spelled-audit (Some NoAccess) h = absurd cc
spelled-audit (Some Execute) h = record { whole = refl; back = refl }
spelled-audit (Some Read) h = record { whole = refl; back = refl }
spelled-audit (Some Update) h = record { whole = refl; back = refl }
spelled-audit (Some Control) h = record { whole = refl; back = refl }
spelled-audit (Some Alter) h = record { whole = refl; back = refl }

-- ---- lists: each item fits behind those before it
module _ {A : Type 0} (item : List A → Form A) (P : A → Type 0) (all : List A) (fits : (before : List A) (x : A) (rest : List A) → before ++ x ∷ rest ≡ all → P x → (item before).Fits x) where
  pub items-fit : (before items : List A) → before ++ items ≡ all → AllByRecursion P items → ItemsFit item before items
  items-fit before [] e k = tt
  items-fit before (x ∷ items) e k = (fits before x items e k.0, items-fit (before ++ x ∷ []) items (append_assoc before (x ∷ []) items ∙ e) k.1)

-- ---- names that stand once each
middle : (P : List ℕ → Type 0) (before : List (List ℕ)) (q : List ℕ) (rest : List (List ℕ)) → AllByRecursion P (before ++ q ∷ rest) → P q
middle P [] q rest all = all.0
middle P (b ∷ before) q rest all = middle P before q rest all.1

none-before : (before : List (List ℕ)) (q : List ℕ) (rest : List (List ℕ)) → IsDistinct bytes_eq (before ++ q ∷ rest) → list_any (bytes_eq q) before ≡ false
none-before [] q rest distinct = refl
none-before (b ∷ before) q rest distinct =
    let other : bytes_eq b q ≡ false = middle (λ y. bytes_eq b y ≡ false) before q rest (IsDistinct-head bytes_eq b (before ++ q ∷ rest) distinct) in
    let here : bytes_eq q b ≡ false = turned q b ∙ other in
    rw (here, none-before before q rest (IsDistinct-tail bytes_eq b (before ++ q ∷ rest) distinct)) refl

pub new-behind : (before : List (List ℕ)) (q : List ℕ) (rest : List (List ℕ)) → IsDistinct bytes_eq (before ++ q ∷ rest) → is_new before q ≡ true
new-behind before q rest distinct = ap not (none-before before q rest distinct)

pub new-in : {A : Type 0} (name : A → List ℕ) (before : List A) (x : A) (rest all : List A) → before ++ x ∷ rest ≡ all → IsDistinct bytes_eq (map name all) → is_new (map name before) (name x) ≡ true
new-in name before x rest all e distinct =
    new-behind (map name before) (name x) (map name rest) (subst (IsDistinct bytes_eq) (ap (map name) (sym e) ∙ map-append name before (x ∷ rest)) distinct)

-- identifiers
pub ids-fit : (names : List (List ℕ)) → AllByRecursion IsId names → IsDistinct bytes_eq names → ItemsFit (λ before. id (is_new before)) [] names
ids-fit names spelled distinct =
    items-fit (λ before. id (is_new before)) IsId names (λ before x rest e k. (spelled-id x k, new-behind before x rest (subst (IsDistinct bytes_eq) (sym e) distinct))) [] names refl spelled
