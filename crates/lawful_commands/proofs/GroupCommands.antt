-- The commands on groups leave lawful rows.
use Rattle.std.proofs.Common.{◌≡◌, ℕ, ◌≤◌, Bool, true, false, cond, ◌&&◌, List, [], ◌∷◌, ◌++◌, length, Option, None, Some, IsSome, is_some, bytes_eq, refl, sym, ap, subst, ◌∙◌, true≢false, arith, length-append}
use Rattle.std.specs.Prelude.{Ok, find, unwrap_or}
use Rattle.std.specs.List.{AllByRecursion}
use Rattle.std.specs.Option.{option_or}
use Rattle.std.proofs.lemmas.List.Folds.{find-append}
use Rattle.access_levels.specs.Spelling.{group_of as group_spelled}
use Rattle.access_levels.proofs.Options.{none_from_is_some}
use Rattle.racf_profiles.specs.declared.users.User.{User}
use Rattle.racf_profiles.specs.declared.users.Connect.{Connect as Connection}
use Rattle.racf_profiles.specs.declared.groups.Group.{Group}
use Rattle.racf_profiles.specs.declared.rows.Rows.{Rows}
use Rattle.racf_profiles.specs.NewDatabase.{sys1}
use Rattle.racf_profiles.specs.Lookup.{is_user, is_group, find_group, user_of, group_of}
use Rattle.racf_profiles.specs.Names.{is_to, is_connected_to}
use Rattle.racf_profiles.specs.Edits.{drop_row}
use Rattle.racf_profiles.specs.Tree.{IsTree}
use Rattle.racf_profiles.specs.LawfulUsers.{IsUser}
use Rattle.racf_profiles.specs.Lawful.{AreLawful}
use Rattle.racf_profiles.proofs.EditLaws.{all-drop_row}
use Rattle.group_tree.specs.Groups.{at_group, with_superior, with_owner}
use Rattle.group_tree.specs.Answers.{CanAdd, CanMove, CanRemove}
use Rattle.group_tree.proofs.Rows.{same, turned, some_of, find_group-push_other, find_group-drop_other}
use Rattle.group_tree.proofs.Edits.{one_there, both_there, none_from_map, is_some-at_group, tree-with_group, tree-with_superior, tree-with_owner, tree-drop}
use Rattle.row_tables.proofs.GroupLaws.{at_group-at_row}
use Rattle.command_fields.specs.declared.issuer.Issuer.{Issuer}
use Rattle.command_fields.specs.declared.fields.AddGroup.{AddGroup}
use Rattle.command_fields.specs.declared.fields.AltGroup.{AltGroup}
use Rattle.command_fields.specs.declared.fields.DelGroup.{DelGroup}
use Rattle.command_fields.specs.declared.fields.CommandFields.TheVariants as command
use Rattle.command_rules.specs.Effects.{step, group_or_current, owner_or_issuer, new_group, altered_group}
use Rattle.command_rules.specs.declared.conflict.Conflict.TheVariants.{Root, InUse}
use Rattle.command_rules.specs.declared.conflict.Holder.TheVariants.{Connected}
use Rattle.command_rules.specs.declared.conflict.Limit.TheVariants.{Groups}
use Rattle.command_rules.specs.Conflicts.{first_met, if_met, is_root, cycle, no_named_group, has_connected, groups_full, add_group_conflicts, alt_group_conflicts, del_group_conflicts}
use Rattle.command_rules.proofs.Unmet.{AreUnmet, each_unmet, unmet, group_there, named_there, name_free, within, no_subgroup, no_root, no_root_moved, no_cycle}
use Rattle.command_rules.proofs.Walks.{meets-within}
use Rattle.lawful_commands.proofs.RowLists.{all-each, both-each, all-push, all-at, none-found, found-none, none-any}
use Rattle.lawful_commands.proofs.Kept.{Fits, groups-changed}

-- ---- ADDGROUP
module _ (issuer : Issuer) (c : AddGroup) (rows : Rows) (lawful : AreLawful rows) (met : first_met (add_group_conflicts issuer c rows) ≡ None) where
  tests : AreUnmet (add_group_conflicts issuer c rows)
  tests = each_unmet (add_group_conflicts issuer c rows) met

  pub free : (user_of c.group rows ≡ None) × (group_of c.group rows ≡ None)
  unfolding add_group_conflicts tests
  free = name_free c.group rows tests.1.1.0

  few-groups : length (rows.groups ++ new_group issuer c ∷ []) ≤ 8000
  unfolding add_group_conflicts tests groups_full
  few-groups = within Groups 8000 _ tests.1.1.1.1.0

  pub can_add : CanAdd rows.groups c.group (group_or_current issuer c.supgroup)
  unfolding add_group_conflicts tests
  can_add = record {
    superior_there = one_there rows.groups (group_or_current issuer c.supgroup) (group_there (group_or_current issuer c.supgroup) rows tests.1.0);
    name_free = free.1;
    room = omega (arith, few-groups, length-append rows.groups (new_group issuer c ∷ []));
  }

  -- no user has the new name, and the groups of connections stay there
  fits-new : (user : User) → is_user c.group user ≡ false → IsUser rows user → Fits (rows.groups ++ new_group issuer c ∷ []) user
  fits-new user other is = (
    find-append (is_group user.id) rows.groups (new_group issuer c ∷ [])
        ∙ ap (λ o. option_or o (find (is_group user.id) (new_group issuer c ∷ []))) is.no_group
        ∙ ap (λ b. cond b (Some (new_group issuer c)) None) (turned c.group user.id ∙ other),
    all-each (λ (x : Connection). IsSome (group_of x.group rows)) (λ (x : Connection). IsSome (find_group (rows.groups ++ new_group issuer c ∷ []) x.group))
        (λ x there. let group = some_of (find_group rows.groups x.group) there in ap is_some (find_group-push_other rows.groups (new_group issuer c) x.group group.0 group.1)) user.connects is.connections.there,
  )

  pub add_group-lawful : group_spelled c.group ≡ Ok c.group → AreLawful (step issuer (command.AddGroup c) rows)
  add_group-lawful spelled =
      groups-changed rows (rows.groups ++ new_group issuer c ∷ []) lawful
      (tree-with_group rows.groups lawful.groups c.group (group_or_current issuer c.supgroup) (owner_or_issuer issuer c.owner) can_add)
      (all-push (λ (group : Group). group_spelled group.id ≡ Ok group.id) rows.groups (new_group issuer c) lawful.group_names spelled)
      (both-each (λ (user : User). is_user c.group user ≡ false) (IsUser rows) (Fits (rows.groups ++ new_group issuer c ∷ [])) fits-new rows.users (none-found (is_user c.group) rows.users free.0) lawful.each_user)

-- ---- ALTGROUP
-- the group with that superior group, and that owner, where they are given
altered : Option (List ℕ) → Option (List ℕ) → Group → Group
altered superior owner old = record old { superior = option_or superior old.superior; owner = unwrap_or owner old.owner }

at_group-itself : (id : List ℕ) (groups : List Group) → at_group id (λ (group : Group). group) groups ≡ groups
at_group-itself id [] = refl
at_group-itself id (g ∷ gs) = by (is_group id g) (at_group-itself id gs)
  where
    by : (b : Bool) → at_group id (λ (group : Group). group) gs ≡ gs → cond b g g ∷ at_group id (λ (group : Group). group) gs ≡ g ∷ gs
    by true rest = ap (λ xs. g ∷ xs) rest
    by false rest = ap (λ xs. g ∷ xs) rest

at_group-twice : (id : List ℕ) (first last : Group → Group) → ((g : Group) → (first g).id ≡ g.id) → (groups : List Group) → at_group id last (at_group id first groups) ≡ at_group id (λ (g : Group). last (first g)) groups
at_group-twice id first last keeps [] = refl
at_group-twice id first last keeps (g ∷ gs) = by (is_group id g) refl (at_group-twice id first last keeps gs)
  where
    by : (b : Bool) → is_group id g ≡ b → at_group id last (at_group id first gs) ≡ at_group id (λ (x : Group). last (first x)) gs
        → at_group id last (cond b (first g) g ∷ at_group id first gs) ≡ cond b (last (first g)) g ∷ at_group id (λ (x : Group). last (first x)) gs
    by true e rest = ap (λ b. cond b (last (first g)) (first g) ∷ at_group id last (at_group id first gs)) (ap (λ n. bytes_eq n id) (keeps g) ∙ e) ∙ ap (λ xs. last (first g) ∷ xs) rest
    by false e rest = ap (λ b. cond b (last g) g ∷ at_group id last (at_group id first gs)) e ∙ ap (λ xs. g ∷ xs) rest

module _ (groups : List Group) (tree : IsTree groups) (id : List ℕ) where
  tree-owned : (owner : Option (List ℕ)) → IsTree (at_group id (altered None owner) groups)
  unfolding altered
  tree-owned None = subst IsTree (sym (at_group-itself id groups)) tree
  tree-owned (Some owner) = tree-with_owner groups tree id owner

  tree-moved : (superior : List ℕ) → CanMove groups id superior → (id ≡ sys1.id → ⊥) → (owner : Option (List ℕ)) → IsTree (at_group id (altered (Some superior) owner) groups)
  unfolding altered
  tree-moved superior can below None = tree-with_superior groups tree id superior can below
  tree-moved superior can below (Some owner) =
      subst IsTree (at_group-twice id (with_superior superior) (with_owner owner) (λ g. refl) groups)
      (tree-with_owner (at_group id (with_superior superior) groups) (tree-with_superior groups tree id superior can below) id owner)

-- no user gets the name of a group, and the groups of connections stay there
fits-same : (rows : Rows) (groups : List Group) → ((id : List ℕ) → is_some (find_group groups id) ≡ is_some (find_group rows.groups id)) → (user : User) → IsUser rows user → Fits groups user
fits-same rows groups same user is = (
  none_from_is_some (find_group groups user.id) (same user.id ∙ ap is_some is.no_group),
  all-each (λ (x : Connection). IsSome (group_of x.group rows)) (λ (x : Connection). IsSome (find_group groups x.group)) (λ x there. same x.group ∙ there) user.connects is.connections.there,
)

module _ (issuer : Issuer) (c : AltGroup) (rows : Rows) (lawful : AreLawful rows) (met : first_met (alt_group_conflicts c rows) ≡ None) where
  tests-alt : AreUnmet (alt_group_conflicts c rows)
  tests-alt = each_unmet (alt_group_conflicts c rows) met

  pub can_move : (superior : List ℕ) → no_named_group (Some superior) rows ≡ None → cycle c.group (Some superior) rows ≡ None → CanMove rows.groups c.group superior
  unfolding alt_group_conflicts tests-alt
  can_move superior t y = record {
    both_there = both_there rows.groups c.group superior (group_there c.group rows tests-alt.1.0) (named_there superior rows t);
    no_cycle = λ w. true≢false (sym (meets-within rows.groups lawful.groups c.group superior w) ∙ no_cycle c.group superior rows y);
  }

  tree-altered : (superior : Option (List ℕ)) → no_named_group superior rows ≡ None → if_met (is_root c.group && is_some superior) Root ≡ None → cycle c.group superior rows ≡ None → IsTree (at_group c.group (altered superior c.owner) rows.groups)
  tree-altered None t r y = tree-owned rows.groups lawful.groups c.group c.owner
  tree-altered (Some superior) t r y = tree-moved rows.groups lawful.groups c.group superior (can_move superior t y) (no_root c.group (no_root_moved c.group superior r)) c.owner

  altered-lawful : AreLawful (record rows { groups = at_group c.group (altered_group c) rows.groups })
  unfolding alt_group_conflicts tests-alt altered
  altered-lawful =
      groups-changed rows (at_group c.group (altered_group c) rows.groups) lawful
      (tree-altered c.supgroup tests-alt.1.1.0 tests-alt.1.1.1.0 tests-alt.1.1.1.1.0)
      (subst (AllByRecursion (λ (group : Group). group_spelled group.id ≡ Ok group.id)) (sym (at_group-at_row c.group (altered_group c) rows.groups lawful.groups.distinct))
      (all-at (λ (group : Group). group_spelled group.id ≡ Ok group.id) (is_group c.group) (altered_group c) rows.groups (λ group found h. h) lawful.group_names))
      (all-each (IsUser rows) (Fits (at_group c.group (altered_group c) rows.groups)) (fits-same rows (at_group c.group (altered_group c) rows.groups) (is_some-at_group (altered_group c) (λ g. refl) c.group rows.groups)) rows.users lawful.each_user)

  pub alt_group-lawful : AreLawful (step issuer (command.AltGroup c) rows)
  alt_group-lawful = subst (λ (groups : List Group). AreLawful (record rows { groups = groups })) (at_group-at_row c.group (altered_group c) rows.groups lawful.groups.distinct) altered-lawful

-- ---- DELGROUP
module _ (issuer : Issuer) (c : DelGroup) (rows : Rows) (lawful : AreLawful rows) (met : first_met (del_group_conflicts c rows) ≡ None) where
  tests-del : AreUnmet (del_group_conflicts c rows)
  tests-del = each_unmet (del_group_conflicts c rows) met

  pub can_remove : CanRemove rows.groups c.group
  unfolding del_group_conflicts tests-del
  can_remove = record {
    there = one_there rows.groups c.group (group_there c.group rows tests-del.0);
    no_subgroup = no_subgroup c.group rows tests-del.1.1.0;
  }

  -- no user is connected to it
  none-connected : AllByRecursion (λ (user : User). is_connected_to c.group user ≡ false) rows.users
  unfolding del_group_conflicts tests-del has_connected
  none-connected = none-found (is_connected_to c.group) rows.users (none_from_map (λ (user : User). InUse (Connected user.id)) (find (is_connected_to c.group) rows.users) tests-del.1.1.1.0)

  fits-left : (user : User) → is_connected_to c.group user ≡ false → IsUser rows user → Fits (drop_row (is_group c.group) rows.groups) user
  fits-left user none is = (
    found-none (is_group user.id) (drop_row (is_group c.group) rows.groups) (all-drop_row (λ (g : Group). is_group user.id g ≡ false) (is_group c.group) rows.groups (none-found (is_group user.id) rows.groups is.no_group)),
    both-each (λ (x : Connection). is_to c.group x ≡ false) (λ (x : Connection). IsSome (group_of x.group rows)) (λ (x : Connection). IsSome (find_group (drop_row (is_group c.group) rows.groups) x.group))
        (λ x other there. ap is_some (find_group-drop_other c.group rows.groups x.group other) ∙ there) user.connects (none-any (is_to c.group) user.connects none) is.connections.there,
  )

  pub not_root : c.group ≡ sys1.id → ⊥
  unfolding del_group_conflicts tests-del
  not_root = no_root c.group (unmet (is_root c.group) Root tests-del.1.0)

  pub del_group-lawful : AreLawful (step issuer (command.DelGroup c) rows)
  del_group-lawful =
      groups-changed rows (drop_row (is_group c.group) rows.groups) lawful
      (tree-drop rows.groups lawful.groups c.group can_remove not_root)
      (all-drop_row (λ (group : Group). group_spelled group.id ≡ Ok group.id) (is_group c.group) rows.groups lawful.group_names)
      (both-each (λ (user : User). is_connected_to c.group user ≡ false) (IsUser rows) (Fits (drop_row (is_group c.group) rows.groups)) fits-left rows.users none-connected lawful.each_user)
