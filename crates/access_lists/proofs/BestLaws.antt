-- The first of two group entries, and of three whichever two are compared first.
use Rattle.std.proofs.Common.{◌≡◌, ℕ, ◌<◌, ◌≤◌, Bool, true, false, cond, ◌&&◌, eqb, ltb, List, [], ◌∷◌, map, Option, Some, None, Decides, refl, subst, sym, ◌∙◌, ap, arith, ◌⊎◌, inl, inr, ⊎_elim}
use Rattle.std.specs.Prelude.{IfSome, MatchOption}
use Rattle.std.specs.List.{AllByRecursion, filter}
use Rattle.std.proofs.lemmas.Bool.{cases_Bool, cases_order, cases_lt, false≢true}
use Rattle.std.proofs.lemmas.Bool.Decides.{Decides-or, Decides-and, Decides-ltb, Decides-eqb, not_from_Decides}
use Rattle.access_levels.specs.declared.entries.Entry.{Entry}
use Rattle.access_levels.specs.declared.entries.CondEntry.{CondEntry}
use Rattle.access_levels.specs.declared.entries.Condition.{Condition}
use Rattle.access_levels.specs.Level.{level_rank}
use Rattle.access_lists.specs.declared.best.GroupEntry.{GroupEntry}
use Rattle.access_lists.specs.Lists.{is_under}
use Rattle.access_lists.specs.Answers.{as_group_entry, goes_before, first_of_two, group_entry, unconditional, entries_under, IsFirst}

abbrev Precedes : GroupEntry → GroupEntry → Type 0
Precedes x y = (level_rank y.level < level_rank x.level) ⊎ ((level_rank x.level ≡ level_rank y.level) × (x.place < y.place))

abbrev Follows : GroupEntry → GroupEntry → Type 0
Follows x y = (level_rank x.level < level_rank y.level) ⊎ ((level_rank x.level ≡ level_rank y.level) × (y.place ≤ x.place))

decides : (x y : GroupEntry) → Decides (goes_before x y) (Precedes x y)
decides x y = Decides-or (ltb (level_rank y.level) (level_rank x.level)) (eqb (level_rank x.level) (level_rank y.level) && ltb x.place y.place)
    (Decides-ltb (level_rank y.level) (level_rank x.level))
    (Decides-and (eqb (level_rank x.level) (level_rank y.level)) (ltb x.place y.place) (Decides-eqb (level_rank x.level) (level_rank y.level)) (Decides-ltb x.place y.place))

follows : (x y : GroupEntry) → goes_before x y ≡ false → Follows x y
follows x y h =
    let no = not_from_Decides (goes_before x y) (decides x y) h in
    ⊎_elim (λ (same : level_rank x.level ≡ level_rank y.level). ⊎_elim (λ (below : x.place < y.place). absurd (no (inr (same, below)))) (λ (above : y.place ≤ x.place). inr (same, above)) (cases_lt x.place y.place))
    (λ (differ : (level_rank x.level < level_rank y.level) ⊎ (level_rank y.level < level_rank x.level)). ⊎_elim (λ (below : level_rank x.level < level_rank y.level). inl below) (λ (above : level_rank y.level < level_rank x.level). absurd (no (inl above))) differ)
    (cases_order (level_rank x.level) (level_rank y.level))

precedes-trans : (x y z : GroupEntry) → Precedes x y → Precedes y z → Precedes x z
precedes-trans x y z (inl h) (inl k) = inl (omega (arith, h, k))
precedes-trans x y z (inl h) (inr k) = inl (omega (arith, h, k.0))
precedes-trans x y z (inr h) (inl k) = inl (omega (arith, h.0, k))
precedes-trans x y z (inr h) (inr k) = inr (h.0 ∙ k.0, omega (arith, h.1, k.1))

not-both : (x y : GroupEntry) → Precedes x y → Follows x y → ⊥
not-both x y (inl h) (inl k) = omega (arith, h, k)
not-both x y (inl h) (inr k) = omega (arith, h, k.0)
not-both x y (inr h) (inl k) = omega (arith, h.0, k)
not-both x y (inr h) (inr k) = omega (arith, h.1, k.1)

follows-trans : (x y z : GroupEntry) → Follows x y → Follows y z → Follows x z
follows-trans x y z (inl h) (inl k) = inl (omega (arith, h, k))
follows-trans x y z (inl h) (inr k) = inl (omega (arith, h, k.0))
follows-trans x y z (inr h) (inl k) = inl (omega (arith, h.0, k))
follows-trans x y z (inr h) (inr k) = inr (h.0 ∙ k.0, omega (arith, h.1, k.1))

before-trans : (x y z : GroupEntry) → goes_before x y ≡ true → goes_before y z ≡ true → goes_before x z ≡ true
before-trans x y z h k = (decides x z).1 (precedes-trans x y z ((decides x y).0 h) ((decides y z).0 k))

after-trans : (x y z : GroupEntry) → goes_before x y ≡ false → goes_before y z ≡ false → goes_before x z ≡ false
after-trans x y z h k = ⊎_elim
    (λ (hit : goes_before x z ≡ true). absurd (not-both x z ((decides x z).0 hit) (follows-trans x y z (follows x y h) (follows y z k))))
    (λ (miss : goes_before x z ≡ false). miss)
    (cases_Bool (goes_before x z))

take_second : (a b : GroupEntry) → goes_before b a ≡ true → first_of_two (Some a) (Some b) ≡ Some b
take_second a b h = ap (λ t. cond t (Some b) (Some a)) h

take_first : (a b : GroupEntry) → goes_before b a ≡ false → first_of_two (Some a) (Some b) ≡ Some a
take_first a b h = ap (λ t. cond t (Some b) (Some a)) h

of_three : (a b c : GroupEntry) → first_of_two (first_of_two (Some a) (Some b)) (Some c) ≡ first_of_two (Some a) (first_of_two (Some b) (Some c))
of_three a b c = ⊎_elim
    (λ (ba : goes_before b a ≡ true). ⊎_elim
    (λ (cb : goes_before c b ≡ true).
    ap (λ o. first_of_two o (Some c)) (take_second a b ba) ∙ take_second b c cb ∙ sym (ap (λ o. first_of_two (Some a) o) (take_second b c cb) ∙ take_second a c (before-trans c b a cb ba)))
    (λ (cb : goes_before c b ≡ false).
    ap (λ o. first_of_two o (Some c)) (take_second a b ba) ∙ take_first b c cb ∙ sym (ap (λ o. first_of_two (Some a) o) (take_first b c cb) ∙ take_second a b ba))
    (cases_Bool (goes_before c b)))
    (λ (ba : goes_before b a ≡ false). ⊎_elim
    (λ (cb : goes_before c b ≡ true).
    ap (λ o. first_of_two o (Some c)) (take_first a b ba) ∙ sym (ap (λ o. first_of_two (Some a) o) (take_second b c cb)))
    (λ (cb : goes_before c b ≡ false).
    ap (λ o. first_of_two o (Some c)) (take_first a b ba) ∙ take_first a c (after-trans c b a cb ba) ∙ sym (ap (λ o. first_of_two (Some a) o) (take_first b c cb) ∙ take_first a b ba))
    (cases_Bool (goes_before c b)))
    (cases_Bool (goes_before b a))

pub none-last : (o : Option GroupEntry) → first_of_two o None ≡ o
none-last None = refl
none-last (Some a) = refl

pub first_of_three : (a b c : Option GroupEntry) → first_of_two (first_of_two a b) c ≡ first_of_two a (first_of_two b c)
first_of_three None b c = refl
first_of_three (Some a) None None = refl
first_of_three (Some a) None (Some c) = refl
first_of_three (Some a) (Some b) None = none-last (first_of_two (Some a) (Some b))
first_of_three (Some a) (Some b) (Some c) = of_three a b c

-- One entry more, of a list or of a conditional list under a port.
pub one_more : (groups : List (List ℕ)) (best : Option GroupEntry) (entry : Entry) (rest whole : List Entry) → first_of_two best (group_entry groups (entry ∷ rest)) ≡ group_entry groups whole → first_of_two (first_of_two best (as_group_entry groups entry)) (group_entry groups rest) ≡ group_entry groups whole
one_more groups best entry rest whole h = first_of_three best (as_group_entry groups entry) (group_entry groups rest) ∙ h

pub one_more_under : (groups : List (List ℕ)) (port : Condition) (best : Option GroupEntry) (entry : CondEntry) (rest whole : List CondEntry) → first_of_two best (group_entry groups (entries_under port (entry ∷ rest))) ≡ group_entry groups (entries_under port whole)
    → first_of_two (cond (is_under port entry) (first_of_two best (as_group_entry groups (unconditional entry))) best) (group_entry groups (entries_under port rest)) ≡ group_entry groups (entries_under port whole)
one_more_under groups port best entry rest whole h = ⊎_elim
    (λ (hit : is_under port entry ≡ true).
    ap (λ t. first_of_two (cond t (first_of_two best (as_group_entry groups (unconditional entry))) best) (group_entry groups (entries_under port rest))) hit
    ∙ first_of_three best (as_group_entry groups (unconditional entry)) (group_entry groups (entries_under port rest))
    ∙ ap (λ t. first_of_two best (group_entry groups (map unconditional (cond t (entry ∷ filter (is_under port) rest) (filter (is_under port) rest))))) (sym hit) ∙ h)
    (λ (miss : is_under port entry ≡ false).
    ap (λ t. first_of_two (cond t (first_of_two best (as_group_entry groups (unconditional entry))) best) (group_entry groups (entries_under port rest))) miss
    ∙ ap (λ t. first_of_two best (group_entry groups (map unconditional (cond t (entry ∷ filter (is_under port) rest) (filter (is_under port) rest))))) (sym miss) ∙ h)
    (cases_Bool (is_under port entry))

-- ---- the group entry in words
never-both : (x y : GroupEntry) → goes_before x y ≡ true → goes_before y x ≡ false
never-both x y h = ⊎_elim
    (λ (hit : goes_before y x ≡ true). absurd (apart x y ((decides x y).0 h) ((decides y x).0 hit)))
    (λ (miss : goes_before y x ≡ false). miss)
    (cases_Bool (goes_before y x))
  where
    apart : (a b : GroupEntry) → Precedes a b → Precedes b a → ⊥
    apart a b (inl h) (inl k) = omega (arith, h, k)
    apart a b (inl h) (inr k) = omega (arith, h, k.0)
    apart a b (inr h) (inl k) = omega (arith, h.0, k)
    apart a b (inr h) (inr k) = omega (arith, h.1, k.1)

not-itself : (x : GroupEntry) → goes_before x x ≡ false
not-itself x = ⊎_elim
    (λ (hit : goes_before x x ≡ true). absurd (false≢true (sym (never-both x x hit) ∙ hit)))
    (λ (miss : goes_before x x ≡ false). miss)
    (cases_Bool (goes_before x x))

module _ (groups : List (List ℕ)) where
  abbrev NoneBefore : GroupEntry → List Entry → Type 0
  NoneBefore best list = AllByRecursion (λ entry. IfSome (as_group_entry groups entry) (λ other. goes_before other best ≡ false)) list

  -- where no entry is for a group, none goes before any
  none-for : (best : GroupEntry) (list : List Entry) → AllByRecursion (λ entry. as_group_entry groups entry ≡ None) list → NoneBefore best list
  none-for best [] none = tt
  none-for best (entry ∷ list) none = (subst (λ (o : Option GroupEntry). IfSome o (λ other. goes_before other best ≡ false)) (sym none.0) tt, none-for best list none.1)

  passed : (y x : GroupEntry) (list : List Entry) → goes_before y x ≡ false → NoneBefore y list → NoneBefore x list
  passed y x [] h none = tt
  passed y x (entry ∷ list) h none = (one (as_group_entry groups entry) none.0, passed y x list h none.1)
    where
      one : (o : Option GroupEntry) → IfSome o (λ other. goes_before other y ≡ false) → IfSome o (λ other. goes_before other x ≡ false)
      one None k = tt
      one (Some other) k = after-trans other y x k h

  pub group_entry-first-in : (list : List Entry) → MatchOption (group_entry groups list) (AllByRecursion (λ entry. as_group_entry groups entry ≡ None) list) (IsFirst groups list)
  group_entry-first-in [] = tt
  group_entry-first-in (entry ∷ list) = settled (group_entry-first-in list) (as_group_entry groups entry) refl (group_entry groups list) refl
    where
      settled : MatchOption (group_entry groups list) (AllByRecursion (λ e. as_group_entry groups e ≡ None) list) (IsFirst groups list)
          → (o : Option GroupEntry) → as_group_entry groups entry ≡ o → (r : Option GroupEntry) → group_entry groups list ≡ r
          → MatchOption (first_of_two o r) (AllByRecursion (λ e. as_group_entry groups e ≡ None) (entry ∷ list)) (IsFirst groups (entry ∷ list))
      settled rest None is None was = (is, subst (λ (m : Option GroupEntry). MatchOption m (AllByRecursion (λ e. as_group_entry groups e ≡ None) list) (IsFirst groups list)) was rest)
      settled rest None is (Some y) was =
          let first : IsFirst groups list y = subst (λ (m : Option GroupEntry). MatchOption m (AllByRecursion (λ e. as_group_entry groups e ≡ None) list) (IsFirst groups list)) was rest in
          record { among = inr first.among; none_before = (subst (λ (o : Option GroupEntry). IfSome o (λ other. goes_before other y ≡ false)) (sym is) tt, first.none_before) }
      settled rest (Some x) is None was =
          let none : AllByRecursion (λ e. as_group_entry groups e ≡ None) list = subst (λ (m : Option GroupEntry). MatchOption m (AllByRecursion (λ e. as_group_entry groups e ≡ None) list) (IsFirst groups list)) was rest in
          record { among = inl is; none_before = (subst (λ (o : Option GroupEntry). IfSome o (λ other. goes_before other x ≡ false)) (sym is) (not-itself x), none-for x list none) }
      settled rest (Some x) is (Some y) was = chosen (goes_before y x) refl
        where
          chosen : (t : Bool) → goes_before y x ≡ t → MatchOption (cond t (Some y) (Some x)) (AllByRecursion (λ e. as_group_entry groups e ≡ None) (entry ∷ list)) (IsFirst groups (entry ∷ list))
          chosen true h =
              let first : IsFirst groups list y = subst (λ (m : Option GroupEntry). MatchOption m (AllByRecursion (λ e. as_group_entry groups e ≡ None) list) (IsFirst groups list)) was rest in
              record { among = inr first.among; none_before = (subst (λ (o : Option GroupEntry). IfSome o (λ other. goes_before other y ≡ false)) (sym is) (never-both y x h), first.none_before) }
          chosen false h =
              let first : IsFirst groups list y = subst (λ (m : Option GroupEntry). MatchOption m (AllByRecursion (λ e. as_group_entry groups e ≡ None) list) (IsFirst groups list)) was rest in
              record { among = inl is; none_before = (subst (λ (o : Option GroupEntry). IfSome o (λ other. goes_before other x ≡ false)) (sym is) (not-itself x), passed y x list h first.none_before) }

pub group_entry-first : (groups : List (List ℕ)) (list : List Entry) → MatchOption (group_entry groups list) (AllByRecursion (λ entry. as_group_entry groups entry ≡ None) list) (IsFirst groups list)
group_entry-first groups list = group_entry-first-in groups list
