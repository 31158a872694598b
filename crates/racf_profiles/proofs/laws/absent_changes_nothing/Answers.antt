-- By induction on the rows.
use Rattle.std.proofs.Common.{◌≡◌, true, false, List, ◌∙◌, ap}
use Rattle.std.specs.Option.{option_map_or}
use Rattle.racf_profiles.specs.Lookup.{is_user, is_group}
use Rattle.racf_profiles.specs.Edits.{put_row, drop_row, with_profile, with_flags, with_listed}
use Rattle.racf_profiles.specs.State.{State, ListedCopy, is_copy_of, copy_of_class}
use Rattle.racf_profiles.specs.declared.users.User.{User}
use Rattle.racf_profiles.specs.declared.groups.Group.{Group}
use Rattle.racf_profiles.specs.declared.class_rows.ClassRow.{ClassRow}
use Rattle.racf_profiles.proofs.EditLaws.{drop_row-absent, at_class-absent, at_class-without_absent, without_class-absent}
use Rattle.racf_profiles.proofs.laws.absent_changes_nothing.Goals as goal

pub returns-clause-user : goal.returns-clause-user
returns-clause-user c = λ id rows absent. ap (λ (users : List User). record rows { users = users }) (drop_row-absent (is_user id) rows.users absent)

pub returns-clause-group : goal.returns-clause-group
returns-clause-group c = λ id rows absent. ap (λ (groups : List Group). record rows { groups = groups }) (drop_row-absent (is_group id) rows.groups absent)

pub returns-clause-profile : goal.returns-clause-profile
returns-clause-profile c = λ class name rows absent. ap (λ (classes : List ClassRow). record rows { classes = classes }) (at_class-without_absent class name rows.classes absent)

pub returns-clause-put_profile : goal.returns-clause-put_profile
returns-clause-put_profile c = λ class profile rows absent. ap (λ (classes : List ClassRow). record rows { classes = classes }) (at_class-absent class (with_profile profile) rows.classes absent)

pub returns-clause-put_class : goal.returns-clause-put_class
returns-clause-put_class c = λ class active global log rows absent. ap (λ (classes : List ClassRow). record rows { classes = classes }) (at_class-absent class (with_flags active global log) rows.classes absent)

-- A state whose classes and copies stay is the same state.
same_state : (state : State) (classes : List ClassRow) (copies : List ListedCopy) → classes ≡ state.rows.classes → copies ≡ state.copies
    → let made : State = record { rows = record state.rows { classes = classes }; copies = copies } in made ≡ state
same_state state classes copies e f =
    ap (λ (cs : List ClassRow). let made : State = record { rows = record state.rows { classes = cs }; copies = copies } in made) e
    ∙ ap (λ (ps : List ListedCopy). let made : State = record { rows = state.rows; copies = ps } in made) f

pub returns-clause-list : goal.returns-clause-list
returns-clause-list c = λ class state absent. same_state state _ _ (at_class-absent class (with_listed true) state.rows.classes absent)
    (ap (λ o. option_map_or (λ (row : ClassRow). put_row (is_copy_of class) (copy_of_class row) state.copies) o state.copies) absent)

pub returns-clause-unlist : goal.returns-clause-unlist
returns-clause-unlist c = λ class state absent. same_state state _ _ (at_class-absent class (with_listed false) state.rows.classes absent)
    (ap (λ o. option_map_or (λ (row : ClassRow). drop_row (is_copy_of class) state.copies) o state.copies) absent)

pub returns-clause-drop_class : goal.returns-clause-drop_class
returns-clause-drop_class c = λ class state absent. same_state state _ _ (without_class-absent class state.rows.classes absent)
    (ap (λ o. option_map_or (λ (row : ClassRow). drop_row (is_copy_of class) state.copies) o state.copies) absent)
