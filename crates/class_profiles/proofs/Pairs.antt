-- Profiles kept each under its own name, as the list of the profiles.
use Rattle.std.proofs.Common.{◌≡◌, ℕ, zero, suc, ◌≤◌, Bool, true, false, cond, not, List, [], ◌∷◌, map, length, Option, Some, None, is_some, Result, Ok, Err, refl, sym, ◌∙◌, ap, subst, arith, filter}
use Rattle.std.specs.List.{find, AllByRecursion, slice_get}
use Rattle.std.specs.Option.{option_map, option_or}
use Rattle.std.specs.Result.{result_ok}
use Rattle.std.proofs.lemmas.Slice.Eq.{bytes_eq-Decides}
use Rattle.generic_names.specs.declared.kind.NameKind.{NameKind}
use Rattle.generic_names.specs.Spelled.{Spelled}
use Rattle.generic_names.specs.Before.{before}
use Rattle.generic_names.specs.Covers.{covers}
use Rattle.generic_names.specs.Faults.{pattern_of}
use Rattle.generic_names.specs.Laws.{IsPattern, NotBoth, PassedOn, ReadsBack}
use Rattle.generic_names.specs.declared.fault.NameFault.{NameFault}
use Rattle.generic_names.specs.Best.{best, most_specific, more_specific, IsInOrder, AreNamed as AreEntriesNamed}
use Rattle.profile_index.specs.declared.entry.Entry.{Entry}
use Rattle.profile_index.specs.Indexed.{AreOf, has_name, name_of, put_entry, without, IsPlaceOf as IsEntryAt}
use Rattle.racf_profiles.specs.declared.profiles.Profile.{Profile}
use Rattle.racf_profiles.specs.Lookup.{is_profile}
use Rattle.racf_profiles.specs.Edits.{put_profile, drop_row, is_in_order, AreNamed}
use Rattle.racf_profiles.specs.LawfulProfiles.{AreProfiles}
use Rattle.racf_profiles.specs.Limits.{most_class_profiles}
use Rattle.class_profiles.specs.Paired.{entry_of, items_of, IsPaired}
use Rattle.class_profiles.specs.Table.{IsPlaceOf, best_profile}
use Rattle.class_profiles.proofs.Order.{none-behind}
use Rattle.racf_profiles.proofs.OrderedProfiles.{same_spelled, all-put_profile, ordered-tail, rest-behind, order-drop_row}
use Rattle.racf_profiles.proofs.EditLaws.{all-drop_row, length-drop_row}

-- the entries of profiles are those of their profiles again
pub items-again : (ps : List Profile) → items_of (map entry_of ps) ≡ ps
items-again [] = refl
items-again (p ∷ ps) = ap (λ qs. p ∷ qs) (items-again ps)

pub paired-again : (es : List (Entry Profile)) (ps : List Profile) → es ≡ map entry_of ps → (items_of es ≡ ps) × (es ≡ map entry_of (items_of es))
paired-again es ps is = let items : items_of es ≡ ps = ap items_of is ∙ items-again ps in (items, is ∙ ap (map entry_of) (sym items))

pub kinds-paired : (kind : NameKind) (ps : List Profile) → AreNamed kind ps → AreOf kind (map entry_of ps)
kinds-paired kind [] named = tt
kinds-paired kind (p ∷ ps) named = (named.0.1, kinds-paired kind ps named.1)

module _ (test : Entry Profile → Bool) where
  pub find-mapped : (ps : List Profile) → find test (map entry_of ps) ≡ option_map entry_of (find (λ (p : Profile). test (entry_of p)) ps)
  find-mapped [] = refl
  find-mapped (p ∷ ps) = by (test (entry_of p)) (find-mapped ps)
    where
      by : (b : Bool) → find test (map entry_of ps) ≡ option_map entry_of (find (λ (q : Profile). test (entry_of q)) ps)
          → cond b (Some (entry_of p)) (find test (map entry_of ps)) ≡ option_map entry_of (cond b (Some p) (find (λ (q : Profile). test (entry_of q)) ps))
      by true rest = refl
      by false rest = rest

pub find-paired : (name : Spelled) (ps : List Profile) → find (has_name name) (map entry_of ps) ≡ option_map entry_of (find (is_profile name) ps)
find-paired name ps = find-mapped (has_name name) ps

most-paired : (name : Spelled) (ps : List Profile)
    → most_specific name_of (filter (λ (e : Entry Profile). covers (name_of e) name) (map entry_of ps)) ≡ option_map entry_of (most_specific (λ (p : Profile). p.name) (filter (λ (p : Profile). covers p.name name) ps))
most-paired name [] = refl
most-paired name (p ∷ ps) = by (covers p.name name) (most-paired name ps)
  where
    more : (o : Option Profile) → more_specific name_of (entry_of p) (option_map entry_of o) ≡ entry_of (more_specific (λ (q : Profile). q.name) p o)
    more None = refl
    more (Some q) = chosen (before q.name p.name)
      where
        chosen : (b : Bool) → cond b (entry_of q) (entry_of p) ≡ entry_of (cond b q p)
        chosen true = refl
        chosen false = refl

    by : (b : Bool) → most_specific name_of (filter (λ (e : Entry Profile). covers (name_of e) name) (map entry_of ps)) ≡ option_map entry_of (most_specific (λ (q : Profile). q.name) (filter (λ (q : Profile). covers q.name name) ps))
        → most_specific name_of (cond b (entry_of p ∷ filter (λ (e : Entry Profile). covers (name_of e) name) (map entry_of ps)) (filter (λ (e : Entry Profile). covers (name_of e) name) (map entry_of ps)))
        ≡ option_map entry_of (most_specific (λ (q : Profile). q.name) (cond b (p ∷ filter (λ (q : Profile). covers q.name name) ps) (filter (λ (q : Profile). covers q.name name) ps)))
    by true rest = ap (λ (o : Option (Entry Profile)). Some (more_specific name_of (entry_of p) o)) rest ∙ ap (λ (e : Entry Profile). Some e) (more (most_specific (λ (q : Profile). q.name) (filter (λ (q : Profile). covers q.name name) ps)))
    by false rest = rest

pub best-paired : (name : Spelled) (ps : List Profile) → best name_of (map entry_of ps) name ≡ option_map entry_of (best_profile ps name)
best-paired name ps =
    ap (λ (o : Option (Entry Profile)). option_or o (most_specific name_of (filter (λ (e : Entry Profile). covers (name_of e) name) (map entry_of ps)))) (find-paired name ps)
    ∙ ap (λ (o : Option (Entry Profile)). option_or (option_map entry_of (find (is_profile name) ps)) o) (most-paired name ps)
    ∙ either (find (is_profile name) ps) (most_specific (λ (p : Profile). p.name) (filter (λ (p : Profile). covers p.name name) ps))
  where
    either : (a b : Option Profile) → option_or (option_map entry_of a) (option_map entry_of b) ≡ option_map entry_of (option_or a b)
    either None b = refl
    either (Some a) b = refl

get-paired : (ps : List Profile) (k : ℕ) → slice_get ps k ≡ option_map (λ (e : Entry Profile). e.item) (slice_get (map entry_of ps) k)
get-paired [] k = refl
get-paired (p ∷ ps) zero = refl
get-paired (p ∷ ps) (suc k) = get-paired ps k

-- the entry at a place has its profile's name
pub named-paired : (es : List (Entry Profile)) (k : ℕ) (e : Entry Profile) → es ≡ map entry_of (items_of es) → slice_get es k ≡ Some e → e.name ≡ e.item.name
named-paired es k e paired there =
    by (slice_get (items_of es) k) (sym (get-mapped (items_of es) k) ∙ ap (λ (all : List (Entry Profile)). slice_get all k) (sym paired) ∙ there)
  where
    get-mapped : (ps : List Profile) (k : ℕ) → slice_get (map entry_of ps) k ≡ option_map entry_of (slice_get ps k)
    get-mapped [] k = refl
    get-mapped (p ∷ ps) zero = refl
    get-mapped (p ∷ ps) (suc k) = get-mapped ps k

    by : (o : Option Profile) → option_map entry_of o ≡ Some e → e.name ≡ e.item.name
    by None is = absurd (cc)
    by (Some p) is = let same : entry_of p ≡ e = (cc) in ap (λ (e : Entry Profile). e.name) (sym same) ∙ ap (λ (e : Entry Profile). e.item.name) same

length-paired : (ps : List Profile) → length (map entry_of ps) ≡ length ps
length-paired [] = refl
length-paired (p ∷ ps) = ap suc (length-paired ps)

pub item-paired : (o : Option Profile) → option_map (λ (e : Entry Profile). e.item) (option_map entry_of o) ≡ o
item-paired None = refl
item-paired (Some p) = refl

-- a place among the entries is that of the profile
pub place-paired : (ps : List Profile) (o : Option Profile) (answer : Option ℕ) → IsEntryAt (map entry_of ps) (option_map entry_of o) answer → IsPlaceOf ps o answer
place-paired ps o None h = record { within = tt; there = ap (option_map (λ (e : Entry Profile). e.item)) h.there ∙ item-paired o }
place-paired ps o (Some k) h = record {
  within = omega (arith, h.within, length-paired ps);
  there = get-paired ps k ∙ ap (option_map (λ (e : Entry Profile). e.item)) h.there ∙ item-paired o;
}

-- a name that can't be read as one of the kind is no profile's
pub none-named : (kind : NameKind) (name : Spelled) (ps : List Profile) → result_ok (pattern_of kind name.text) ≡ None → AreNamed kind ps → find (is_profile name) ps ≡ None
none-named kind name [] none named = refl
none-named kind name (p ∷ ps) none named = by (is_profile name p) refl (none-named kind name ps none named.1)
  where
    by : (b : Bool) → is_profile name p ≡ b → find (is_profile name) ps ≡ None → cond b (Some p) (find (is_profile name) ps) ≡ None
    by true same rest =
        let text : p.name.text ≡ name.text = (bytes_eq-Decides p.name.text name.text).0 same in
        let read : result_ok (pattern_of kind name.text) ≡ Some p.name = ap (λ (t : List ℕ). result_ok (pattern_of kind t)) (sym text) ∙ ap (λ (k : NameKind). result_ok (pattern_of k p.name.text)) (sym named.0.1) ∙ ap result_ok named.0.0 in
        cc (read, none)
    by false other rest = rest

-- without the entry of a name: the profiles without the one of that name
pub without-paired : NotBoth → PassedOn → (kind : NameKind) (name : Spelled) (ps : List Profile) → name.kind ≡ kind → AreNamed kind ps → is_in_order ps ≡ true → without name (map entry_of ps) ≡ map entry_of (drop_row (is_profile name) ps)
without-paired not_both passed_on kind name [] is named ordered = refl
without-paired not_both passed_on kind name (p ∷ ps) is named ordered = by (is_profile name p) refl (without-paired not_both passed_on kind name ps is named.1 (ordered-tail p ps ordered))
  where
    kept : (qs : List Profile) → find (is_profile name) qs ≡ None → without name (map entry_of qs) ≡ map entry_of qs
    kept [] none = refl
    kept (q ∷ qs) none = split (is_profile name q) none (kept qs)
      where
        split : (b : Bool) → cond b (Some q) (find (is_profile name) qs) ≡ None → (find (is_profile name) qs ≡ None → without name (map entry_of qs) ≡ map entry_of qs)
            → cond (not b) (entry_of q ∷ without name (map entry_of qs)) (without name (map entry_of qs)) ≡ entry_of q ∷ map entry_of qs
        split true f rest = cc
        split false f rest = ap (λ es. entry_of q ∷ es) (rest f)

    by : (b : Bool) → is_profile name p ≡ b → without name (map entry_of ps) ≡ map entry_of (drop_row (is_profile name) ps)
        → cond (not b) (entry_of p ∷ without name (map entry_of ps)) (without name (map entry_of ps)) ≡ map entry_of (cond b ps (p ∷ drop_row (is_profile name) ps))
    by true same rest =
        let here : p.name ≡ name = same_spelled p.name name (named.0.1 ∙ sym is) same in
        kept ps (none-behind not_both name kind ps is named.1 (subst (λ (n : Spelled). AllByRecursion (λ (z : Profile). before n z.name ≡ true) ps) here (rest-behind passed_on p ps ordered)))
    by false other rest = ap (λ es. entry_of p ∷ es) rest

-- an entry put among those of profiles: the profile put among these
pub put-paired : (p : Profile) (ps : List Profile) → put_entry (entry_of p) (map entry_of ps) ≡ map entry_of (put_profile p ps)
put-paired p [] = refl
put-paired p (y ∷ ys) = by (is_profile p.name y) (before p.name y.name) (put-paired p ys)
  where
    by : (s t : Bool) → put_entry (entry_of p) (map entry_of ys) ≡ map entry_of (put_profile p ys)
        → cond s (entry_of p ∷ map entry_of ys) (cond t (entry_of p ∷ entry_of y ∷ map entry_of ys) (entry_of y ∷ put_entry (entry_of p) (map entry_of ys)))
        ≡ map entry_of (cond s (p ∷ ys) (cond t (p ∷ y ∷ ys) (y ∷ put_profile p ys)))
    by true t rest = refl
    by false true rest = refl
    by false false rest = ap (λ es. entry_of y ∷ es) rest

-- the name of the kind with the same text
pub of_kind-is : (kind : NameKind) (name found : Spelled) → ReadsBack → result_ok (pattern_of kind name.text) ≡ Some found → found ≡ record { kind = kind; text = name.text }
of_kind-is kind name found reads is = by (pattern_of kind name.text) refl is
  where
    by : (r : Result Spelled NameFault) → pattern_of kind name.text ≡ r → result_ok r ≡ Some found → found ≡ record { kind = kind; text = name.text }
    by (Ok other) read same = let here : other ≡ found = cc in sym here ∙ (reads kind name.text other read).0
    by (Err fault) read same = cc

pub of_kind-kind : (kind : NameKind) (name found : Spelled) → ReadsBack → result_ok (pattern_of kind name.text) ≡ Some found → found.kind ≡ kind
of_kind-kind kind name found reads is = ap (λ (n : Spelled). n.kind) (of_kind-is kind name found reads is)

pub of_kind-test : (kind : NameKind) (name found : Spelled) → ReadsBack → result_ok (pattern_of kind name.text) ≡ Some found → is_profile found ≡ is_profile name
of_kind-test kind name found reads is = ap (λ (n : Spelled). is_profile n) (of_kind-is kind name found reads is)

pub some-paired : (name : Spelled) (ps : List Profile) → is_some (option_map (λ (e : Entry Profile). e.item) (find (has_name name) (map entry_of ps))) ≡ is_some (find (is_profile name) ps)
some-paired name ps = ap (λ (o : Option (Entry Profile)). is_some (option_map (λ (e : Entry Profile). e.item) o)) (find-paired name ps) ∙ ap (λ (o : Option Profile). is_some o) (item-paired (find (is_profile name) ps))

-- what the index keeps after the entry of a name was taken out
module _ (not_both : NotBoth) (passed_on : PassedOn) (kind : NameKind) (name : Spelled) (is : name.kind ≡ kind) (es after : List (Entry Profile))
    (paired : es ≡ map entry_of (items_of es)) (lawful : AreProfiles kind (items_of es)) (taken : after ≡ without name es) where
  taken-is : after ≡ map entry_of (drop_row (is_profile name) (items_of es))
  taken-is = taken ∙ ap (without name) paired ∙ without-paired not_both passed_on kind name (items_of es) is lawful.named lawful.ordered

  pub taken-items : items_of after ≡ drop_row (is_profile name) (items_of es)
  taken-items = (paired-again after (drop_row (is_profile name) (items_of es)) taken-is).0

  pub taken-paired : after ≡ map entry_of (items_of after)
  taken-paired = (paired-again after (drop_row (is_profile name) (items_of es)) taken-is).1

  pub taken-lawful : AreProfiles kind (items_of after)
  taken-lawful = subst (AreProfiles kind) (sym taken-items) (record {
    named = all-drop_row (λ (p : Profile). IsPattern p.name × (p.name.kind ≡ kind)) (is_profile name) (items_of es) lawful.named;
    ordered = order-drop_row passed_on (is_profile name) (items_of es) lawful.ordered;
    few = omega (arith, length-drop_row (is_profile name) (items_of es), lawful.few);
  })

-- what it keeps after an entry was put
module _ (kind : NameKind) (p : Profile) (named : IsPattern p.name) (is : p.name.kind ≡ kind) (es after : List (Entry Profile))
    (paired : es ≡ map entry_of (items_of es)) (lawful : AreProfiles kind (items_of es)) (added : after ≡ put_entry (entry_of p) es) where
  put-is : after ≡ map entry_of (put_profile p (items_of es))
  put-is = added ∙ ap (put_entry (entry_of p)) paired ∙ put-paired p (items_of es)

  pub put-items : items_of after ≡ put_profile p (items_of es)
  put-items = (paired-again after (put_profile p (items_of es)) put-is).0

  pub put-kept : length (put_profile p (items_of es)) ≤ most_class_profiles → is_in_order (put_profile p (items_of es)) ≡ true → IsPaired kind after
  put-kept few ordered = record {
    paired = (paired-again after (put_profile p (items_of es)) put-is).1;
    lawful = subst (AreProfiles kind) (sym put-items) (record { named = all-put_profile (λ (q : Profile). IsPattern q.name × (q.name.kind ≡ kind)) p (items_of es) (named, is) lawful.named; ordered = ordered; few = few });
  }

-- where no entry has a name, no profile has it
pub absent-profile : (name : Spelled) (ps : List Profile) → find (has_name name) (map entry_of ps) ≡ None → find (is_profile name) ps ≡ None
absent-profile name ps none = by (find (is_profile name) ps) (sym (find-paired name ps) ∙ none)
  where
    by : (o : Option Profile) → option_map entry_of o ≡ None → o ≡ None
    by None h = refl
    by (Some p) h = cc

-- the entries of profiles in order stand in order, and have names
pub ordered-paired : NotBoth → PassedOn → (ps : List Profile) → is_in_order ps ≡ true → IsInOrder name_of (map entry_of ps)
ordered-paired not_both passed_on [] ordered = tt
ordered-paired not_both passed_on (p ∷ ps) ordered = (behind ps (rest-behind passed_on p ps ordered), ordered-paired not_both passed_on ps (ordered-tail p ps ordered))
  where
    behind : (qs : List Profile) → AllByRecursion (λ (z : Profile). before p.name z.name ≡ true) qs → AllByRecursion (λ (e : Entry Profile). before p.name e.name ≡ true) (map entry_of qs)
    behind [] all = tt
    behind (q ∷ qs) all = (all.0, behind qs all.1)

pub names-paired : (kind : NameKind) (ps : List Profile) → AreNamed kind ps → AreEntriesNamed name_of (map entry_of ps)
names-paired kind [] named = tt
names-paired kind (p ∷ ps) named = (named.0.0, names-paired kind ps named.1)
