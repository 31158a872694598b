-- A class's profiles put one behind another.
use Rattle.std.proofs.Common.{◌≡◌, ℕ, suc, ◌+◌, ◌≤◌, Bool, true, false, cond, List, [], ◌∷◌, ◌++◌, length, Some, is_some, IsSome, bytes_eq, refl, sym, ap, subst, ◌∙◌, length-append, arith}
use Rattle.std.specs.Prelude.{IsSomeAnd, OnOk, Result, Ok, Err}
use Rattle.std.specs.List.{find, AllByRecursion, sum_by}
use Rattle.std.proofs.lemmas.List.Sums.{sum_by-cons}
use Rattle.generic_names.specs.declared.kind.NameKind.{NameKind}
use Rattle.generic_names.specs.Spelled.{Spelled}
use Rattle.generic_names.specs.Before.{before}
use Rattle.generic_names.specs.Laws.{IsPattern, NotBoth, PassedOn}
use Rattle.racf_profiles.specs.declared.profiles.Profile.{Profile}
use Rattle.racf_profiles.specs.declared.class_rows.ClassRow.{ClassRow}
use Rattle.racf_profiles.specs.Lookup.{is_class, is_profile}
use Rattle.racf_profiles.specs.Counts.{profile_count, entry_count, entries_in}
use Rattle.racf_profiles.specs.Edits.{put_profile, with_profile, with_flags, with_listed, at_class, is_in_order, AreNamed}
use Rattle.racf_profiles.specs.LawfulProfiles.{AreProfiles, kind_in}
use Rattle.racf_profiles.specs.Limits.{most_profiles, most_entries_in_all}
use Rattle.racf_profiles.proofs.OrderedProfiles.{same_spelled, ordered-tail, rest-behind}
use Rattle.class_profiles.specs.Classes.{ClassList, IsRoomFor, room_in}
use Rattle.group_tree.proofs.Rows.{value_of, holds_of, same}
use Rattle.racf_profiles.proofs.States.{find-passes}
use Rattle.stored_database.specs.Filling.{HasNoProfiles, AreBefore, CanComeLast, with_last, with_profiles, with_all_flags}
use Rattle.stored_database.proofs.Front.{of_next}

-- ---- changes of one class
module _ (name : List ℕ) where
  -- one change behind another
  pub at_class-twice : (f g : ClassRow → ClassRow) → ((r : ClassRow) → (g r).name ≡ r.name) → (cs : List ClassRow) → at_class name f (at_class name g cs) ≡ at_class name (λ r. f (g r)) cs
  at_class-twice f g keeps [] = refl
  at_class-twice f g keeps (c ∷ cs) = by (is_class name c) refl (at_class-twice f g keeps cs)
    where
      by : (b : Bool) → is_class name c ≡ b → at_class name f (at_class name g cs) ≡ at_class name (λ r. f (g r)) cs
          → at_class name f (cond b (g c ∷ cs) (c ∷ at_class name g cs)) ≡ cond b (f (g c) ∷ cs) (c ∷ at_class name (λ r. f (g r)) cs)
      by true is rest = ap (λ b. cond b (f (g c) ∷ cs) (g c ∷ at_class name f cs)) (ap (λ n. bytes_eq n name) (keeps c) ∙ is)
      by false is rest = ap (λ b. cond b (f c ∷ at_class name g cs) (c ∷ at_class name f (at_class name g cs))) is ∙ ap (λ rs. c ∷ rs) rest

  -- two changes that make the same of the class that is found
  pub at_class-same : (f g : ClassRow → ClassRow) (row : ClassRow) (cs : List ClassRow) → find (is_class name) cs ≡ Some row → f row ≡ g row → at_class name f cs ≡ at_class name g cs
  at_class-same f g row [] found same = refl
  at_class-same f g row (c ∷ cs) found same = by (is_class name c) found (λ rest. at_class-same f g row cs rest same)
    where
      by : (b : Bool) → cond b (Some c) (find (is_class name) cs) ≡ Some row → (find (is_class name) cs ≡ Some row → at_class name f cs ≡ at_class name g cs)
          → cond b (f c ∷ cs) (c ∷ at_class name f cs) ≡ cond b (g c ∷ cs) (c ∷ at_class name g cs)
      by true here rest = let is : c ≡ row = cc in ap (λ r. r ∷ cs) (subst (λ (r : ClassRow). f r ≡ g r) (sym is) same)
      by false here rest = ap (λ rs. c ∷ rs) (rest here)

  -- a change that leaves the class that is found leaves all
  pub at_class-kept : (f : ClassRow → ClassRow) (row : ClassRow) (cs : List ClassRow) → find (is_class name) cs ≡ Some row → f row ≡ row → at_class name f cs ≡ cs
  at_class-kept f row [] found kept = refl
  at_class-kept f row (c ∷ cs) found kept = by (is_class name c) found (λ rest. at_class-kept f row cs rest kept)
    where
      by : (b : Bool) → cond b (Some c) (find (is_class name) cs) ≡ Some row → (find (is_class name) cs ≡ Some row → at_class name f cs ≡ cs) → cond b (f c ∷ cs) (c ∷ at_class name f cs) ≡ c ∷ cs
      by true here rest = let is : c ≡ row = cc in ap (λ r. r ∷ cs) (subst (λ (r : ClassRow). f r ≡ r) (sym is) kept)
      by false here rest = ap (λ rs. c ∷ rs) (rest here)

  -- the class is found again
  pub found-again : (f : ClassRow → ClassRow) → ((r : ClassRow) → (f r).name ≡ r.name) → (row : ClassRow) (cs : List ClassRow) → find (is_class name) cs ≡ Some row → find (is_class name) (at_class name f cs) ≡ Some (f row)
  found-again f keeps row [] found = cc
  found-again f keeps row (c ∷ cs) found = by (is_class name c) refl found (found-again f keeps row cs)
    where
      by : (b : Bool) → is_class name c ≡ b → cond b (Some c) (find (is_class name) cs) ≡ Some row → (find (is_class name) cs ≡ Some row → find (is_class name) (at_class name f cs) ≡ Some (f row))
          → find (is_class name) (cond b (f c ∷ cs) (c ∷ at_class name f cs)) ≡ Some (f row)
      by true is here rest =
          let same : c ≡ row = cc in
          ap (λ b. cond b (Some (f c)) (find (is_class name) cs)) (ap (λ n. bytes_eq n name) (keeps c) ∙ is) ∙ ap (λ (r : ClassRow). Some (f r)) same
      by false is here rest = ap (λ b. cond b (Some c) (find (is_class name) (at_class name f cs))) is ∙ rest here

  -- a change that leaves the weight of each leaves that of all
  pub weight-kept : (weight : ClassRow → ℕ) (f : ClassRow → ClassRow) → ((r : ClassRow) → weight (f r) ≡ weight r) → (cs : List ClassRow) → sum_by weight (at_class name f cs) ≡ sum_by weight cs
  weight-kept weight f keeps [] = refl
  weight-kept weight f keeps (c ∷ cs) = by (is_class name c) (weight-kept weight f keeps cs)
    where
      by : (b : Bool) → sum_by weight (at_class name f cs) ≡ sum_by weight cs → sum_by weight (cond b (f c ∷ cs) (c ∷ at_class name f cs)) ≡ sum_by weight (c ∷ cs)
      by true rest = let now : sum_by weight (f c ∷ cs) ≡ sum_by weight (c ∷ cs) = omega (arith, keeps c, sum_by-cons weight (f c) cs, sum_by-cons weight c cs) in now
      by false rest = let now : sum_by weight (c ∷ at_class name f cs) ≡ sum_by weight (c ∷ cs) = omega (arith, rest, sum_by-cons weight c (at_class name f cs), sum_by-cons weight c cs) in now

-- a class without profiles is as it was with none of them
pub none-yet : (class : List ℕ) (old : List ClassRow) → HasNoProfiles class old → old ≡ at_class class (with_profiles []) old
none-yet class old empty =
    let found = value_of (find (is_class class) old) (λ (r : ClassRow). r.profiles ≡ []) empty in
    sym (at_class-kept class (with_profiles []) found.0 old found.1 (ap (λ ps. with_profiles ps found.0) (sym found.2)))

-- ---- one profile behind all others
module _ (not_both : NotBoth) (kind : NameKind) (p : Profile) (is : p.name.kind ≡ kind) where
  -- a profile before it has another text
  other-before : (q : Profile) → q.name.kind ≡ kind → before q.name p.name ≡ true → is_profile p.name q ≡ false
  other-before q of_kind first = by (is_profile p.name q) refl
    where
      by : (b : Bool) → is_profile p.name q ≡ b → b ≡ false
      by false e = refl
      by true e =
          let itself : before p.name p.name ≡ true = subst (λ (n : Spelled). before n p.name ≡ true) (same_spelled q.name p.name (of_kind ∙ sym is) e) first in
          sym itself ∙ not_both p.name p.name itself

  pub put-last : (ps : List Profile) → AreNamed kind ps → AllByRecursion (λ (q : Profile). before q.name p.name ≡ true) ps → put_profile p ps ≡ ps ++ p ∷ []
  put-last [] named first = refl
  put-last (q ∷ qs) named first =
      ap (λ b. cond b (p ∷ qs) (cond (before p.name q.name) (p ∷ q ∷ qs) (q ∷ put_profile p qs))) (other-before q named.0.1 first.0)
      ∙ ap (λ b. cond b (p ∷ q ∷ qs) (q ∷ put_profile p qs)) (not_both q.name p.name first.0)
      ∙ ap (λ rs. q ∷ rs) (put-last qs named.1 first.1)

-- in a list in order the front is before the next
pub front-before : PassedOn → (front : List Profile) (p : Profile) (rest : List Profile) → is_in_order (front ++ p ∷ rest) ≡ true → AllByRecursion (λ (q : Profile). before q.name p.name ≡ true) front
front-before passed_on [] p rest ordered = tt
front-before passed_on (q ∷ qs) p rest ordered = (
  of_next (λ (z : Profile). before q.name z.name ≡ true) qs p rest (rest-behind passed_on q (qs ++ p ∷ rest) ordered),
  front-before passed_on qs p rest (ordered-tail q (qs ++ p ∷ rest) ordered),
)

-- a profile that can come last
module _ (not_both : NotBoth) (list : ClassList) (class : List ℕ) (p : Profile) (can : CanComeLast list class p) where
  pub the_class : (row : ClassRow) × (find (is_class class) list.classes ≡ Some row) × AreBefore p row
  the_class = value_of (find (is_class class) list.classes) (AreBefore p) can.there

  pub put-there : IsRoomFor list class the_class.0
  put-there = record { room = can.room; few_in_class = the_class.2.few; few = can.few }

  pub put-classes : AreProfiles (kind_in class) the_class.0.profiles → at_class class (with_profile p) list.classes ≡ at_class class (with_last p) list.classes
  put-classes lawful =
      at_class-same class (with_profile p) (with_last p) the_class.0 list.classes the_class.1
      (ap (λ ps. with_profiles ps the_class.0) (put-last not_both (kind_in class) p can.kind the_class.0.profiles lawful.named the_class.2.first))

-- the profiles of a class, which are the front of all, and the next
module _ (passed_on : PassedOn) (class : List ℕ) (all : List Profile) (lawful : AreProfiles (kind_in class) all) (old : List ClassRow) (empty : HasNoProfiles class old)
    (tables : ClassList) (front items : List Profile) (p : Profile) (rest : List Profile) (is : items ≡ p ∷ rest) (whole : front ++ items ≡ all) (so_far : tables.classes ≡ at_class class (with_profiles front) old) where
  split : front ++ p ∷ rest ≡ all
  split = sym (ap (λ ps. front ++ ps) is) ∙ whole

  there : IsSomeAnd (find (is_class class) tables.classes) (AreBefore p)
  there =
      let found = value_of (find (is_class class) old) (λ (r : ClassRow). r.profiles ≡ []) empty in
      holds_of (find (is_class class) tables.classes) (AreBefore p) (with_profiles front found.0)
      (ap (find (is_class class)) so_far ∙ found-again class (with_profiles front) (λ r. refl) found.0 old found.1)
      (record {
        first = front-before passed_on front p rest (ap is_in_order split ∙ lawful.ordered);
        few = let parts : length front + length (p ∷ rest) ≡ length all = sym (length-append front (p ∷ rest)) ∙ ap length split in omega (arith, parts, lawful.few);
      })

  module _ (room : length items ≤ room_in class tables) (few : profile_count tables.classes + length items ≤ most_profiles) (few_entries : entry_count tables.classes + sum_by entries_in items ≤ most_entries_in_all) where
    count : length items ≡ suc (length rest)
    count = ap length is

    entries : sum_by entries_in items ≡ entries_in p + sum_by entries_in rest
    entries = ap (sum_by entries_in) is ∙ sum_by-cons entries_in p rest

    pub can : CanComeLast tables class p
    can = record {
      there = there;
      kind = (of_next (λ (q : Profile). IsPattern q.name × (q.name.kind ≡ kind_in class)) front p rest (subst (AreNamed (kind_in class)) (sym split) lawful.named)).1;
      room = omega (arith, count, room);
      few = omega (arith, count, few);
      few_entries = omega (arith, entries, few_entries);
    }

    pub room-next : (left : ℕ) → room_in class tables ≤ left + 1 → length rest ≤ left
    room-next left kept = omega (arith, count, room, kept)

    pub few-next : (now : ℕ) → now ≤ profile_count tables.classes + 1 → now + length rest ≤ most_profiles
    few-next now more = omega (arith, count, few, more)

    pub entries-next : (now : ℕ) → now ≤ entry_count tables.classes + entries_in p → now + sum_by entries_in rest ≤ most_entries_in_all
    entries-next now more = omega (arith, entries, few_entries, more)

  pub so_far-next : (now : List ClassRow) → now ≡ at_class class (with_last p) tables.classes → now ≡ at_class class (with_profiles (front ++ p ∷ [])) old
  so_far-next now put = put ∙ ap (at_class class (with_last p)) so_far ∙ at_class-twice class (with_last p) (with_profiles front) (λ r. refl) old

-- ---- a class made ready, and filled
module _ (class : ClassRow) (old : List ClassRow) (empty : HasNoProfiles class.name old) where
  the_empty : (row : ClassRow) × (find (is_class class.name) old ≡ Some row) × (row.profiles ≡ [])
  the_empty = value_of (find (is_class class.name) old) (λ (r : ClassRow). r.profiles ≡ []) empty

  pub flags-both : (flagged now : List ClassRow) → flagged ≡ at_class class.name (with_flags class.active class.global class.log) old → now ≡ at_class class.name (with_listed class.listed) flagged
      → now ≡ at_class class.name (with_all_flags class) old
  flags-both flagged now first second =
      second ∙ ap (at_class class.name (with_listed class.listed)) first
      ∙ at_class-twice class.name (with_listed class.listed) (with_flags class.active class.global class.log) (λ r. refl) old

  pub is-there : (now : List ClassRow) → now ≡ at_class class.name (with_all_flags class) old → IsSome (find (is_class class.name) now)
  is-there now is = ap is_some (ap (find (is_class class.name)) is ∙ found-again class.name (with_all_flags class) (λ r. refl) the_empty.0 old the_empty.1)

  module _ (ready : List ClassRow) (is : ready ≡ at_class class.name (with_all_flags class) old) where
    pub still-empty : HasNoProfiles class.name ready
    still-empty =
        holds_of (find (is_class class.name) ready) (λ (r : ClassRow). r.profiles ≡ []) (with_all_flags class the_empty.0)
        (ap (find (is_class class.name)) is ∙ found-again class.name (with_all_flags class) (λ r. refl) the_empty.0 old the_empty.1) the_empty.2

    pub profiles-kept : profile_count ready ≡ profile_count old
    profiles-kept = ap profile_count is ∙ weight-kept class.name (λ (r : ClassRow). length r.profiles) (with_all_flags class) (λ r. refl) old

    pub entries-kept : entry_count ready ≡ entry_count old
    entries-kept = ap entry_count is ∙ weight-kept class.name (λ (r : ClassRow). sum_by entries_in r.profiles) (with_all_flags class) (λ r. refl) old

    pub is-put : (now : List ClassRow) → now ≡ at_class class.name (with_profiles class.profiles) ready → now ≡ at_class class.name (λ r. class) old
    is-put now put =
        put ∙ ap (at_class class.name (with_profiles class.profiles)) is ∙ at_class-twice class.name (with_profiles class.profiles) (with_all_flags class) (λ r. refl) old
        ∙ at_class-same class.name (λ r. with_profiles class.profiles (with_all_flags class r)) (λ r. class) the_empty.0 old the_empty.1
        (ap (λ n. with_profiles class.profiles (with_all_flags class (record the_empty.0 { name = n }))) (same the_empty.0.name class.name (find-passes (is_class class.name) the_empty.0 old the_empty.1)))

-- what follows where there was memory
pub on-ok : {A E : Type 0} {P Q : Type 0} (r : Result A E) → (P → Q) → OnOk r P → OnOk r Q
on-ok (Ok x) follows holds = follows holds
on-ok (Err e) follows holds = tt
