-- Each edit by the table that makes it.
use Rattle.std.proofs.Common.{List, refl, ap, arith}
use Rattle.racf_profiles.specs.declared.users.User.{User}
use Rattle.racf_profiles.specs.declared.groups.Group.{Group}
use Rattle.racf_profiles.specs.declared.class_rows.ClassRow.{ClassRow}
use Rattle.racf_profiles.specs.declared.edits.Edit.TheVariants.{PutUser, DropUser, PutGroup, DropGroup, PutProfile, DropProfile, PutOptions, PutClass, List as ListCopy, Unlist, AddClass, DropClass}
use Rattle.class_profiles.specs.Classes.{room_in}
use Rattle.row_tables.specs.Tables.{rows_of}
use Rattle.row_tables.specs.KeptTables.{tables_of}
use Rattle.row_tables.proofs.Room.{made, can_be, room-stays, room-changed, room-put, one_less-one}
use Rattle.row_tables.proofs.tables.RowTables.make.Goals as goal

pub put_group-requires : goal.put_group-requires
put_group-requires c = can_be c.args.self.now (tables_of c.self.inside) c.args.edit (PutGroup c.in-PutGroup.group) c.self.view_is c.in-PutGroup.is c.requires

pub returns-in-PutUser : goal.returns-in-PutUser
returns-in-PutUser c = made c.args.self.now (tables_of c.self.inside) _ c.args.edit (PutUser c.in-PutUser.user) c.self.view_is c.in-PutUser.is
    (record { rows = ap (λ (us : List User). rows_of us c.self.inside.tree.groups c.self.inside.classes.classes c.self.inside.options) c.put.ensures.users; users = one_less-one _ _ c.put.ensures.spare; groups = omega arith; profiles = room-stays (PutUser c.in-PutUser.user) (tables_of c.self.inside) (λ name. refl); classes = omega arith })

pub returns-in-DropUser : goal.returns-in-DropUser
returns-in-DropUser c = made c.args.self.now (tables_of c.self.inside) _ c.args.edit (DropUser c.in-DropUser.id) c.self.view_is c.in-DropUser.is
    (record { rows = ap (λ (us : List User). rows_of us c.self.inside.tree.groups c.self.inside.classes.classes c.self.inside.options) c.remove.ensures.users; users = c.remove.ensures.kept; groups = omega arith; profiles = room-stays (DropUser c.in-DropUser.id) (tables_of c.self.inside) (λ name. refl); classes = omega arith })

pub returns-in-PutGroup : goal.returns-in-PutGroup
returns-in-PutGroup c = made c.args.self.now (tables_of c.self.inside) _ c.args.edit (PutGroup c.in-PutGroup.group) c.self.view_is c.in-PutGroup.is
    (record { rows = ap (λ (gs : List Group). rows_of c.self.inside.users.users gs c.self.inside.classes.classes c.self.inside.options) c.put_group.ensures.groups; users = omega arith; groups = one_less-one _ _ c.put_group.ensures.spare; profiles = room-stays (PutGroup c.in-PutGroup.group) (tables_of c.self.inside) (λ name. refl); classes = omega arith })

pub returns-in-DropGroup : goal.returns-in-DropGroup
returns-in-DropGroup c = made c.args.self.now (tables_of c.self.inside) _ c.args.edit (DropGroup c.in-DropGroup.id) c.self.view_is c.in-DropGroup.is
    (record { rows = ap (λ (gs : List Group). rows_of c.self.inside.users.users gs c.self.inside.classes.classes c.self.inside.options) c.drop_group.ensures.groups; users = omega arith; groups = omega (arith, c.drop_group.ensures.spare); profiles = room-stays (DropGroup c.in-DropGroup.id) (tables_of c.self.inside) (λ name. refl); classes = omega arith })

pub returns-in-PutProfile : goal.returns-in-PutProfile
returns-in-PutProfile c = made c.args.self.now (tables_of c.self.inside) _ c.args.edit (PutProfile c.in-PutProfile.class c.in-PutProfile.profile) c.self.view_is c.in-PutProfile.is
    (record { rows = ap (λ (cs : List ClassRow). rows_of c.self.inside.users.users c.self.inside.tree.groups cs c.self.inside.options) c.put-in-PutProfile.ensures.classes; users = omega arith; groups = omega arith; profiles = room-put c.in-PutProfile.class c.in-PutProfile.profile (tables_of c.self.inside) (λ name. room_in name c.put-in-PutProfile.new.self) c.put-in-PutProfile.ensures.own c.put-in-PutProfile.ensures.others; classes = omega (arith, c.put-in-PutProfile.ensures.more_classes) })

pub returns-in-DropProfile : goal.returns-in-DropProfile
returns-in-DropProfile c = made c.args.self.now (tables_of c.self.inside) _ c.args.edit (DropProfile c.in-DropProfile.class c.in-DropProfile.name) c.self.view_is c.in-DropProfile.is
    (record { rows = ap (λ (cs : List ClassRow). rows_of c.self.inside.users.users c.self.inside.tree.groups cs c.self.inside.options) c.remove-in-DropProfile.ensures.classes; users = omega arith; groups = omega arith; profiles = λ name. let kept = c.remove-in-DropProfile.ensures.kept name in omega (arith, kept, room-stays (DropProfile c.in-DropProfile.class c.in-DropProfile.name) (tables_of c.self.inside) (λ n. refl) name); classes = omega (arith, c.remove-in-DropProfile.ensures.more_classes) })

pub returns-in-PutOptions : goal.returns-in-PutOptions
returns-in-PutOptions c = made c.args.self.now (tables_of c.self.inside) _ c.args.edit (PutOptions c.in-PutOptions.new) c.self.view_is c.in-PutOptions.is
    (record { rows = refl; users = omega arith; groups = omega arith; profiles = room-stays (PutOptions c.in-PutOptions.new) (tables_of c.self.inside) (λ name. refl); classes = omega arith })

pub returns-in-PutClass : goal.returns-in-PutClass
returns-in-PutClass c = made c.args.self.now (tables_of c.self.inside) _ c.args.edit (PutClass c.in-PutClass.class c.in-PutClass.active c.in-PutClass.global c.in-PutClass.log) c.self.view_is c.in-PutClass.is
    (record { rows = ap (λ (cs : List ClassRow). rows_of c.self.inside.users.users c.self.inside.tree.groups cs c.self.inside.options) c.set_flags.ensures.classes; users = omega arith; groups = omega arith; profiles = λ name. let kept = c.set_flags.ensures.kept name in omega (arith, kept, room-stays (PutClass c.in-PutClass.class c.in-PutClass.active c.in-PutClass.global c.in-PutClass.log) (tables_of c.self.inside) (λ n. refl) name); classes = omega (arith, c.set_flags.ensures.more_classes) })

pub returns-in-List : goal.returns-in-List
returns-in-List c = made c.args.self.now (tables_of c.self.inside) _ c.args.edit (ListCopy c.in-List.class) c.self.view_is c.in-List.is
    (record { rows = ap (λ (cs : List ClassRow). rows_of c.self.inside.users.users c.self.inside.tree.groups cs c.self.inside.options) c.set_listed.ensures.classes; users = omega arith; groups = omega arith; profiles = λ name. let kept = c.set_listed.ensures.kept name in omega (arith, kept, room-stays (ListCopy c.in-List.class) (tables_of c.self.inside) (λ n. refl) name); classes = omega (arith, c.set_listed.ensures.more_classes) })

pub returns-in-Unlist : goal.returns-in-Unlist
returns-in-Unlist c = made c.args.self.now (tables_of c.self.inside) _ c.args.edit (Unlist c.in-Unlist.class) c.self.view_is c.in-Unlist.is
    (record { rows = ap (λ (cs : List ClassRow). rows_of c.self.inside.users.users c.self.inside.tree.groups cs c.self.inside.options) c.set_listed-in-Unlist.ensures.classes; users = omega arith; groups = omega arith; profiles = λ name. let kept = c.set_listed-in-Unlist.ensures.kept name in omega (arith, kept, room-stays (Unlist c.in-Unlist.class) (tables_of c.self.inside) (λ n. refl) name); classes = omega (arith, c.set_listed-in-Unlist.ensures.more_classes) })

pub returns-in-AddClass : goal.returns-in-AddClass
returns-in-AddClass c = made c.args.self.now (tables_of c.self.inside) _ c.args.edit (AddClass c.in-AddClass.class) c.self.view_is c.in-AddClass.is
    (record { rows = ap (λ (cs : List ClassRow). rows_of c.self.inside.users.users c.self.inside.tree.groups cs c.self.inside.options) c.add.ensures.classes; users = omega arith; groups = omega arith; profiles = λ name. let none = room-changed (AddClass c.in-AddClass.class) (tables_of c.self.inside) name refl in omega (arith, none); classes = omega (arith, c.add.ensures.more_classes) })

pub returns-in-DropClass : goal.returns-in-DropClass
returns-in-DropClass c = made c.args.self.now (tables_of c.self.inside) _ c.args.edit (DropClass c.in-DropClass.class) c.self.view_is c.in-DropClass.is
    (record { rows = ap (λ (cs : List ClassRow). rows_of c.self.inside.users.users c.self.inside.tree.groups cs c.self.inside.options) c.drop_class.ensures.classes; users = omega arith; groups = omega arith; profiles = λ name. let none = room-changed (DropClass c.in-DropClass.class) (tables_of c.self.inside) name refl in omega (arith, none); classes = omega (arith, c.drop_class.ensures.more_classes) })
