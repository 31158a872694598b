-- What a command on users or groups makes can be made without memory, where the rows after it are lawful and room was
-- taken.
use Rattle.std.proofs.Common.{◌≡◌, ℕ, false, not, ◌&&◌, ◌||◌, List, [], ◌∷◌, Option, None, Some, is_some, refl, sym, ap, subst, ◌∙◌, arith, inl, inr}
use Rattle.std.specs.Prelude.{MatchOption, ◌⊎◌}
use Rattle.std.specs.Option.{option_or}
use Rattle.racf_profiles.specs.declared.users.User.{User}
use Rattle.racf_profiles.specs.declared.groups.Group.{Group}
use Rattle.racf_profiles.specs.declared.edits.Edit.TheVariants.{PutUser, PutGroup}
use Rattle.racf_profiles.specs.Edits.{changed}
use Rattle.racf_profiles.specs.Lookup.{find_group, group_of}
use Rattle.racf_profiles.specs.Lawful.{AreLawful}
use Rattle.group_tree.specs.Answers.{CanAdd, CanMove}
use Rattle.group_tree.proofs.Rows.{id-find_group}
use Rattle.row_tables.specs.Tables.{Tables, groups_in}
use Rattle.row_tables.specs.Applying.{CanAddGroup, CanMoveGroup, CanPutGroup, CanApply, HasRoom}
use Rattle.command_fields.specs.declared.issuer.Issuer.{Issuer}
use Rattle.command_fields.specs.declared.fields.AddGroup.{AddGroup}
use Rattle.command_fields.specs.declared.fields.AltGroup.{AltGroup}
use Rattle.command_rules.specs.Effects.{new_group, altered_group, group_or_current}
use Rattle.command_rules.specs.Edits.{put_user, put_group}
use Rattle.command_rules.specs.declared.conflict.Conflict.TheVariants.{Root}
use Rattle.command_rules.specs.Conflicts.{first_met, if_met, is_root, cycle, no_named_group, add_group_conflicts, alt_group_conflicts}
use Rattle.command_rules.proofs.Unmet.{each_unmet, no_root, no_root_moved}
use Rattle.lawful_commands.proofs.GroupCommands.{free, can_add, can_move}

module _ (tables : Tables) where
  -- ---- a user is put
  put_user-ready : (user : User) → HasRoom tables (PutUser user ∷ []) → AreLawful (changed (PutUser user ∷ []) tables.rows) → CanApply tables (PutUser user ∷ [])
  put_user-ready user room after = (
    record {
      room = λ none. let one = room.users (ap (λ o. not (is_some o) || false) none) in omega (arith, one);
      few_users = after.users.few;
      few_connections = after.few_connections;
    },
    tt,
  )

  pub new_user-ready : (user : User) → HasRoom tables (PutUser user ∷ []) → AreLawful (changed (PutUser user ∷ []) tables.rows) → CanApply tables (PutUser user ∷ [])
  new_user-ready = put_user-ready

  pub user-ready : (change : User → User) (found : Option User) → HasRoom tables (put_user change found) → AreLawful (changed (put_user change found) tables.rows) → CanApply tables (put_user change found)
  user-ready change None room after = tt
  user-ready change (Some user) room after = put_user-ready (change user) room after

  -- ---- a group is put
  module _ (issuer : Issuer) (c : AddGroup) (lawful : AreLawful tables.rows) (met : first_met (add_group_conflicts issuer c tables.rows) ≡ None) where
    pub new_group-ready : HasRoom tables (PutGroup (new_group issuer c) ∷ []) → CanApply tables (PutGroup (new_group issuer c) ∷ [])
    new_group-ready room =
        let new : CanAddGroup (groups_in tables) (new_group issuer c) = record {
          below = refl;
          can = λ superior e. subst (CanAdd tables.rows.groups c.group) (injected (group_or_current issuer c.supgroup) superior e) (can_add issuer c tables.rows lawful met);
          room = let one = room.groups (ap (λ o. not (is_some o) || false) (free issuer c tables.rows lawful met).1) in omega (arith, one);
        } in
        (subst (λ o. MatchOption o (CanAddGroup (groups_in tables) (new_group issuer c)) (λ (old : Group). (old.superior ≡ (new_group issuer c).superior) ⊎ CanMoveGroup tables.rows.groups (new_group issuer c))) (sym (free issuer c tables.rows lawful met).1) new, tt)
      where
        injected : (a b : List ℕ) → Some a ≡ Some b → a ≡ b
        injected a b e = cc

  -- it stays where it is, or can move
  module _ (issuer : Issuer) (c : AltGroup) (lawful : AreLawful tables.rows) (met : first_met (alt_group_conflicts c tables.rows) ≡ None) where
    moves : (old : Group) → find_group tables.rows.groups c.group ≡ Some old → (superior : Option (List ℕ)) → c.supgroup ≡ superior
        → no_named_group superior tables.rows ≡ None → if_met (is_root c.group && is_some superior) Root ≡ None → cycle c.group superior tables.rows ≡ None
        → (old.superior ≡ (altered_group c old).superior) ⊎ CanMoveGroup tables.rows.groups (altered_group c old)
    moves old found None none t r y = inl (sym (ap (λ o. option_or o old.superior) none))
    moves old found (Some superior) some t r y =
        let name : c.group ≡ old.id = sym (id-find_group tables.rows.groups c.group old found) in
        let new : (altered_group c old).superior ≡ Some superior = ap (λ o. option_or o old.superior) some in
        let can : CanMove tables.rows.groups old.id superior = subst (λ id. CanMove tables.rows.groups id superior) name (can_move issuer c tables.rows lawful met superior t y) in
        inr (record {
          below = ap is_some new;
          can = λ other e. subst (CanMove tables.rows.groups old.id) (let known = new in cc) can;
          no_root = λ e. no_root c.group (no_root_moved c.group superior r) (name ∙ e);
        })

    altered-can : (old : Group) → find_group tables.rows.groups c.group ≡ Some old → CanPutGroup (groups_in tables) (altered_group c old)
    unfolding alt_group_conflicts
    altered-can old found =
        let here : find_group tables.rows.groups old.id ≡ Some old = ap (find_group tables.rows.groups) (id-find_group tables.rows.groups c.group old found) ∙ found in
        let tests = (each_unmet (alt_group_conflicts c tables.rows) met).1.1 in
        subst (λ o. MatchOption o (CanAddGroup (groups_in tables) (altered_group c old)) (λ (was : Group). (was.superior ≡ (altered_group c old).superior) ⊎ CanMoveGroup tables.rows.groups (altered_group c old))) (sym here)
        (moves old found c.supgroup refl tests.0 tests.1.0 tests.1.1.0)

    pub group-ready : CanApply tables (put_group (altered_group c) (group_of c.group tables.rows))
    group-ready = by (group_of c.group tables.rows) refl
      where
        by : (o : Option Group) → group_of c.group tables.rows ≡ o → CanApply tables (put_group (altered_group c) o)
        by None none = tt
        by (Some old) found = (altered-can old found, tt)
