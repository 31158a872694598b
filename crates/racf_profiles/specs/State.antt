-- A state is the rows and, for each RACLISTed class, its listed copy.
use Rattle.std.specs.Prelude.{ℕ, Bool, true, false, not, List, [], ◌∷◌, map, Option, option_map, bytes_eq, if◌then◌else◌, IsTrue, IsSome}
use Rattle.std.specs.List.{find, filter, list_all}
use Rattle.std.specs.Option.{option_map_or}
use Rattle.racf_profiles.specs.declared.profiles.Profile.{Profile}
use Rattle.racf_profiles.specs.declared.class_rows.ClassRow.{ClassRow}
use Rattle.racf_profiles.specs.declared.rows.Rows.{Rows}
use Rattle.racf_profiles.specs.declared.edits.Edit.{Edit}
use Rattle.racf_profiles.specs.declared.edits.Edit.TheVariants.{List as ListCopy, Unlist, DropClass}
use Rattle.racf_profiles.specs.Lookup.{class_of}
use Rattle.racf_profiles.specs.Edits.{edited, put_row, drop_row}

-- The copy of a class's profiles, by the class.
pub record ListedCopy : Type 0 where
  pub class : List ℕ
  pub profiles : List Profile

pub record State : Type 0 where
  pub rows : Rows
  pub copies : List ListedCopy

abbrev pub is_copy_of : List ℕ → ListedCopy → Bool
is_copy_of name copy = bytes_eq copy.class name

-- What is copied of a class: its live profiles.
abbrev pub copy_of_class : ClassRow → ListedCopy
copy_of_class class = record { class = class.name; profiles = class.profiles }

-- The state in which each listed copy is equal to the live profiles.
abbrev pub restart : Rows → State
restart rows = record { rows = rows; copies = map copy_of_class (filter (λ (class : ClassRow). class.listed) rows.classes) }

-- Where the class is there, listing it makes its copy anew, and unlisting it or dropping it drops the copy; no other edit
-- touches one.
abbrev pub copies_after : Edit → State → List ListedCopy
copies_after (ListCopy name) state = option_map_or (λ (class : ClassRow). put_row (is_copy_of name) (copy_of_class class) state.copies) (class_of name state.rows) state.copies
copies_after (Unlist name) state = option_map_or (λ (class : ClassRow). drop_row (is_copy_of name) state.copies) (class_of name state.rows) state.copies
copies_after (DropClass name) state = option_map_or (λ (class : ClassRow). drop_row (is_copy_of name) state.copies) (class_of name state.rows) state.copies
copies_after _ state = state.copies

-- Whether an edit lists or unlists a class, or drops one.
abbrev pub is_of_copies : Edit → Bool
is_of_copies (ListCopy name) = true
is_of_copies (Unlist name) = true
is_of_copies (DropClass name) = true
is_of_copies edit = false

-- The state after an edit, and after edits in their order.
abbrev pub edited_state : Edit → State → State
edited_state edit state = record { rows = edited edit state.rows; copies = copies_after edit state }

abbrev pub changed_state : List Edit → State → State
changed_state [] state = state
changed_state (edit ∷ edits) state = changed_state edits (edited_state edit state)

-- The profiles of the listed copy of a class.
abbrev pub copy_of : List ℕ → List ListedCopy → List Profile
copy_of name copies = option_map_or (λ (copy : ListedCopy). copy.profiles) (find (is_copy_of name) copies) []

-- Whether a class is RACLISTed.
abbrev pub is_listed : List ℕ → Rows → Bool
is_listed name rows = option_map_or (λ (class : ClassRow). class.listed) (class_of name rows) false

-- Each RACLISTed class has its listed copy.
abbrev pub HaveCopies : State → Type 0
HaveCopies state = (name : List ℕ) → IsTrue (is_listed name state.rows) → IsSome (find (is_copy_of name) state.copies)

-- No class is RACLISTed.
abbrev pub is_none_listed : Rows → Bool
is_none_listed rows = list_all (λ (class : ClassRow). not class.listed) rows.classes

-- The effective profiles of a class: its listed copy where it is RACLISTed, else its live profiles.
abbrev pub effective : List ℕ → State → Option (List Profile)
effective name state = option_map (λ (class : ClassRow). if class.listed then copy_of name state.copies else class.profiles) (class_of name state.rows)
