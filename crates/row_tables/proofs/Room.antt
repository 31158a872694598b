-- The room that edits leave, and edits that can be made where there is more.
use Rattle.std.proofs.Common.{◌≡◌, ◌⊎◌, ℕ, ◌+◌, ◌≤◌, Bool, true, false, cond, List, [], ◌∷◌, Option, None, Some, refl, sym, ap, subst, ◌∙◌, arith, bytes_eq}
use Rattle.std.specs.Prelude.{MatchOption}
use Rattle.std.proofs.lemmas.Slice.Eq.{bytes_eq-Decides}
use Rattle.racf_profiles.specs.declared.groups.Group.{Group}
use Rattle.racf_profiles.specs.declared.class_rows.ClassRow.{ClassRow}
use Rattle.racf_profiles.specs.declared.profiles.Profile.{Profile}
use Rattle.racf_profiles.specs.declared.rows.Rows.{Rows}
use Rattle.racf_profiles.specs.declared.edits.Edit.{Edit}
use Rattle.racf_profiles.specs.declared.edits.Edit.TheVariants.{PutUser, DropUser, PutGroup, DropGroup, PutProfile, DropProfile, PutOptions, PutClass, List as ListCopy, Unlist, AddClass, DropClass}
use Rattle.racf_profiles.specs.Lookup.{is_class, find_group}
use Rattle.racf_profiles.specs.Edits.{at_class, with_profile, without_profile, with_flags, with_listed, edited, changed}
use Rattle.class_profiles.specs.Classes.{room_among}
use Rattle.row_tables.specs.Tables.{Tables}
use Rattle.row_tables.specs.Applying.{CanMake, CanApply, CanAddGroup, CanMoveGroup, HasAtLeast, tables_after, less_room, room_left, one_less, puts_into, puts_user, puts_group, adds_class, changes_classes}

-- ---- room by name
-- a change that keeps names keeps the room
pub room-at_class : (name class : List ℕ) (change : ClassRow → ClassRow) → ((row : ClassRow) → (change row).name ≡ row.name) → (classes : List ClassRow) (spare : List ℕ)
    → room_among name (at_class class change classes) spare ≡ room_among name classes spare
room-at_class name class change keeps [] spare = refl
room-at_class name class change keeps (c ∷ cs) [] = by (is_class class c)
  where
    by : (b : Bool) → room_among name (cond b (change c ∷ cs) (c ∷ at_class class change cs)) [] ≡ 0
    by true = refl
    by false = refl
room-at_class name class change keeps (c ∷ cs) (n ∷ spare) = by (is_class class c) (room-at_class name class change keeps cs spare)
  where
    by : (b : Bool) → room_among name (at_class class change cs) spare ≡ room_among name cs spare
        → room_among name (cond b (change c ∷ cs) (c ∷ at_class class change cs)) (n ∷ spare) ≡ cond (is_class name c) n (room_among name cs spare)
    by true rest = ap (λ k. cond (bytes_eq k name) n (room_among name cs spare)) (keeps c)
    by false rest = ap (λ r. cond (is_class name c) n r) rest

one_less-zero : (b : Bool) → one_less b 0 ≡ 0
one_less-zero true = refl
one_less-zero false = refl

-- an edit takes from the room of the class that it puts into
pub room-less : (edit : Edit) (name : List ℕ) (classes : List ClassRow) (spare : List ℕ) → room_among name classes (less_room edit classes spare) ≡ one_less (puts_into name edit) (room_among name classes spare)
room-less edit name [] spare = sym (one_less-zero (puts_into name edit))
room-less edit name (c ∷ cs) [] = sym (one_less-zero (puts_into name edit))
room-less edit name (c ∷ cs) (n ∷ spare) = by (is_class name c) refl (room-less edit name cs spare)
  where
    by : (b : Bool) → is_class name c ≡ b → room_among name cs (less_room edit cs spare) ≡ one_less (puts_into name edit) (room_among name cs spare)
        → cond b (one_less (puts_into c.name edit) n) (room_among name cs (less_room edit cs spare)) ≡ one_less (puts_into name edit) (cond b n (room_among name cs spare))
    by true is rest = ap (λ k. one_less (puts_into k edit) n) ((bytes_eq-Decides c.name name).0 is)
    by false is rest = rest

-- and other edits than those that add and drop classes leave the names of the classes
pub room-edited : (edit : Edit) (name : List ℕ) (rows : Rows) (spare : List ℕ) → changes_classes edit ≡ false → room_among name (edited edit rows).classes spare ≡ room_among name rows.classes spare
room-edited (PutUser user) name rows spare plain = refl
room-edited (DropUser id) name rows spare plain = refl
room-edited (PutGroup group) name rows spare plain = refl
room-edited (DropGroup id) name rows spare plain = refl
room-edited (PutProfile class profile) name rows spare plain = room-at_class name class (with_profile profile) (λ row. refl) rows.classes spare
room-edited (DropProfile class profile) name rows spare plain = room-at_class name class (without_profile profile) (λ row. refl) rows.classes spare
room-edited (PutOptions options) name rows spare plain = refl
room-edited (PutClass class active global log) name rows spare plain = room-at_class name class (with_flags active global log) (λ row. refl) rows.classes spare
room-edited (ListCopy class) name rows spare plain = room-at_class name class (with_listed true) (λ row. refl) rows.classes spare
room-edited (Unlist class) name rows spare plain = room-at_class name class (with_listed false) (λ row. refl) rows.classes spare
room-edited (AddClass class) name rows spare plain = cc
room-edited (DropClass class) name rows spare plain = cc

-- what an edit leaves, by name
pub room-after : (edit : Edit) (tables : Tables) (name : List ℕ) → changes_classes edit ≡ false
    → room_among name (tables_after edit tables).rows.classes (tables_after edit tables).spare_profiles ≡ one_less (puts_into name edit) (room_among name tables.rows.classes tables.spare_profiles)
room-after edit tables name plain =
    ap (λ b. room_among name (edited edit tables.rows).classes (cond b [] (less_room edit tables.rows.classes tables.spare_profiles))) plain
    ∙ room-edited edit name tables.rows (less_room edit tables.rows.classes tables.spare_profiles) plain ∙ room-less edit name tables.rows.classes tables.spare_profiles

room-none : (name : List ℕ) (classes : List ClassRow) → room_among name classes [] ≡ 0
room-none name [] = refl
room-none name (class ∷ classes) = refl

pub room-changed : (edit : Edit) (tables : Tables) (name : List ℕ) → changes_classes edit ≡ true → room_among name (tables_after edit tables).rows.classes (tables_after edit tables).spare_profiles ≡ 0
room-changed edit tables name changes =
    ap (λ b. room_among name (edited edit tables.rows).classes (cond b [] (less_room edit tables.rows.classes tables.spare_profiles))) changes ∙ room-none name (edited edit tables.rows).classes

one_less-le : (b : Bool) (m n : ℕ) → m ≤ n → one_less b m ≤ one_less b n
one_less-le true m n less = omega arith
one_less-le false m n less = less

-- one less of what there was is at most what is left of it
pub one_less-one : (m n : ℕ) → m ≤ n + 1 → one_less true m ≤ n
one_less-one m n less = omega arith

-- an edit that puts no profile leaves the room
pub room-stays : (edit : Edit) (tables : Tables) → ((name : List ℕ) → puts_into name edit ≡ false) → (name : List ℕ)
    → room_among name (tables_after edit tables).rows.classes (tables_after edit tables).spare_profiles ≤ room_among name tables.rows.classes tables.spare_profiles
room-stays edit tables none name = by (changes_classes edit) refl
  where
    by : (b : Bool) → changes_classes edit ≡ b → room_among name (tables_after edit tables).rows.classes (tables_after edit tables).spare_profiles ≤ room_among name tables.rows.classes tables.spare_profiles
    by true is = let same = room-changed edit tables name is in omega (arith, same)
    by false is = let same = room-after edit tables name is ∙ ap (λ b. one_less b (room_among name tables.rows.classes tables.spare_profiles)) (none name) in omega (arith, same)

-- one that puts a profile takes one from the room of its class
pub room-put : (class : List ℕ) (profile : Profile) (tables : Tables) (left : List ℕ → ℕ) → room_among class tables.rows.classes tables.spare_profiles ≤ left class + 1
    → ((name : List ℕ) → bytes_eq class name ≡ false → left name ≡ room_among name tables.rows.classes tables.spare_profiles) → (name : List ℕ)
    → room_among name (tables_after (PutProfile class profile) tables).rows.classes (tables_after (PutProfile class profile) tables).spare_profiles ≤ left name
room-put class profile tables left own others name = by (bytes_eq class name) refl
  where
    by : (b : Bool) → bytes_eq class name ≡ b → room_among name (tables_after (PutProfile class profile) tables).rows.classes (tables_after (PutProfile class profile) tables).spare_profiles ≤ left name
    by true is =
        let here : room_among name tables.rows.classes tables.spare_profiles ≤ left name + 1 = subst (λ n. room_among n tables.rows.classes tables.spare_profiles ≤ left n + 1) ((bytes_eq-Decides class name).0 is) own in
        let same = room-after (PutProfile class profile) tables name refl ∙ ap (λ b. one_less b (room_among name tables.rows.classes tables.spare_profiles)) is in
        omega (arith, same, one_less-one (room_among name tables.rows.classes tables.spare_profiles) (left name) here)
    by false is =
        let same = room-after (PutProfile class profile) tables name refl ∙ ap (λ b. one_less b (room_among name tables.rows.classes tables.spare_profiles)) is in
        let kept = others name is in
        omega (arith, same, kept)

-- ---- more room
module _ (rows : Rows) (users users' groups groups' : ℕ) (profiles profiles' : List ℕ) (classes classes' : ℕ) (more_users : users ≤ users') (more_groups : groups ≤ groups')
    (more_profiles : (class : List ℕ) → room_among class rows.classes profiles ≤ room_among class rows.classes profiles') (more_of_them : classes ≤ classes') where
  abbrev less : Tables
  less = record { rows = rows; spare_users = users; spare_groups = groups; spare_profiles = profiles; more_classes = classes }

  abbrev more : Tables
  more = record { rows = rows; spare_users = users'; spare_groups = groups'; spare_profiles = profiles'; more_classes = classes' }

  put_group-more : (group : Group) (old : Option Group) → MatchOption old (CanAddGroup (record { groups = rows.groups; spare = groups }) group) (λ (o : Group). (o.superior ≡ group.superior) ⊎ CanMoveGroup rows.groups group)
      → MatchOption old (CanAddGroup (record { groups = rows.groups; spare = groups' }) group) (λ (o : Group). (o.superior ≡ group.superior) ⊎ CanMoveGroup rows.groups group)
  put_group-more group None can = record { below = can.below; can = can.can; room = omega (arith, can.room, more_groups) }
  put_group-more group (Some old) can = can

  pub can-more : (edit : Edit) → CanMake less edit → CanMake more edit
  can-more (PutUser user) can = record { room = λ absent. let some = can.room absent in omega (arith, some, more_users); few_users = can.few_users; few_connections = can.few_connections }
  can-more (DropUser id) can = can
  can-more (PutGroup group) can = put_group-more group (find_group rows.groups group.id) can
  can-more (DropGroup id) can = can
  can-more (PutProfile class profile) can = record {
    kind = can.kind;
    room = λ absent. let some = can.room absent in let more_there = more_profiles class in omega (arith, some, more_there);
    few_in_class = can.few_in_class;
    few = can.few;
    few_entries = can.few_entries;
  }
  can-more (DropProfile class profile) can = can
  can-more (PutOptions options) can = can
  can-more (PutClass class active global log) can = can
  can-more (ListCopy class) can = can
  can-more (Unlist class) can = can
  can-more (AddClass class) can = record { room = omega (arith, can.room, more_of_them); names = can.names }
  can-more (DropClass class) can = record { dynamic = can.dynamic; empty = can.empty }

  pub after-more : (edit : Edit) → HasAtLeast (tables_after edit less) (tables_after edit more)
  after-more edit = record {
    rows = refl;
    users = one_less-le (puts_user edit) users users' more_users;
    groups = one_less-le (puts_group edit) groups groups' more_groups;
    profiles = λ class. by class (changes_classes edit) refl;
    classes = one_less-le (adds_class edit) classes classes' more_of_them;
  }
    where
      by : (class : List ℕ) (b : Bool) → changes_classes edit ≡ b → room_among class (tables_after edit less).rows.classes (tables_after edit less).spare_profiles ≤ room_among class (tables_after edit more).rows.classes (tables_after edit more).spare_profiles
      by class true is = let before = room-changed edit less class is in omega (arith, before)
      by class false is =
          let before = room-after edit less class is in
          let now = room-after edit more class is in
          omega (arith, before, now, one_less-le (puts_into class edit) (room_among class rows.classes profiles) (room_among class rows.classes profiles') (more_profiles class))

-- with the same rows under two names
module _ (least tables : Tables) (at_least : HasAtLeast least tables) where
  same-rows : tables.rows ≡ least.rows
  same-rows = at_least.rows

  profiles-there : (class : List ℕ) → room_among class least.rows.classes least.spare_profiles ≤ room_among class least.rows.classes tables.spare_profiles
  profiles-there class = let more = at_least.profiles class in omega (arith, more, ap (λ (r : Rows). room_among class r.classes tables.spare_profiles) same-rows)

  abbrev of_rows : Rows → Tables
  of_rows rows = record { rows = rows; spare_users = tables.spare_users; spare_groups = tables.spare_groups; spare_profiles = tables.spare_profiles; more_classes = tables.more_classes }

  pub make-more : (edit : Edit) → CanMake least edit → CanMake tables edit
  make-more edit can =
      subst (λ (r : Rows). CanMake (of_rows r) edit) (sym same-rows)
      (can-more least.rows least.spare_users tables.spare_users least.spare_groups tables.spare_groups least.spare_profiles tables.spare_profiles least.more_classes tables.more_classes at_least.users at_least.groups profiles-there at_least.classes edit can)

  pub tables_after-more : (edit : Edit) → HasAtLeast (tables_after edit least) (tables_after edit tables)
  tables_after-more edit =
      subst (λ (r : Rows). HasAtLeast (tables_after edit least) (tables_after edit (of_rows r))) (sym same-rows)
      (after-more least.rows least.spare_users tables.spare_users least.spare_groups tables.spare_groups least.spare_profiles tables.spare_profiles least.more_classes tables.more_classes at_least.users at_least.groups profiles-there at_least.classes edit)

pub apply-more : (least tables : Tables) → HasAtLeast least tables → (edits : List Edit) → CanApply least edits → CanApply tables edits
apply-more least tables at_least [] can = tt
apply-more least tables at_least (edit ∷ edits) can =
    (make-more least tables at_least edit can.0, apply-more (tables_after edit least) (tables_after edit tables) (tables_after-more least tables at_least edit) edits can.1)

-- ---- one step of a run of edits
pub first_can : (tables : Tables) (all : List Edit) (edit : Edit) (rest : List Edit) → all ≡ edit ∷ rest → CanApply tables all → CanMake tables edit
first_can tables all edit rest is can = (subst (CanApply tables) is can).0

pub rest_can : (tables now : Tables) (all : List Edit) (edit : Edit) (rest : List Edit) → all ≡ edit ∷ rest → HasAtLeast (tables_after edit tables) now → CanApply tables all → CanApply now rest
rest_can tables now all edit rest is made can = apply-more (tables_after edit tables) now made rest (subst (CanApply tables) is can).1

pub rest_changed : (tables now : Tables) (all : List Edit) (edit : Edit) (rest : List Edit) → all ≡ edit ∷ rest → HasAtLeast (tables_after edit tables) now → changed rest now.rows ≡ changed all tables.rows
rest_changed tables now all edit rest is made = ap (changed rest) made.rows ∙ sym (ap (λ es. changed es tables.rows) is)

-- an edit, and the tables, under other names
pub made : (shown old new : Tables) (edit done : Edit) → old ≡ shown → edit ≡ done → HasAtLeast (tables_after done old) new → HasAtLeast (tables_after edit shown) new
made shown old new edit done seen is holds = subst (λ (e : Edit). HasAtLeast (tables_after e shown) new) (sym is) (subst (λ (t : Tables). HasAtLeast (tables_after done t) new) seen holds)

pub can_be : (shown old : Tables) (edit done : Edit) → old ≡ shown → edit ≡ done → CanMake shown edit → CanMake old done
can_be shown old edit done seen is can = subst (λ (t : Tables). CanMake t done) (sym seen) (subst (CanMake shown) is can)
