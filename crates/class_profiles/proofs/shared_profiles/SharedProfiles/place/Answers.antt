-- The index finds the entry, and its place is the profile's. A name that is none of the kind is no profile's.
use Rattle.std.proofs.Common.{◌∙◌, Bool, List, Option, None, sym, subst, map}
use Rattle.std.specs.List.{find}
use Rattle.profile_index.specs.declared.entry.Entry.{Entry}
use Rattle.profile_index.specs.Indexed.{AreOf, has_name, IsPlaceOf as IsEntryAt}
use Rattle.racf_profiles.specs.declared.profiles.Profile.{Profile}
use Rattle.racf_profiles.specs.Lookup.{is_profile}
use Rattle.class_profiles.specs.Paired.{entry_of, items_of}
use Rattle.class_profiles.specs.Table.{IsPlaceOf}
use Rattle.class_profiles.proofs.Pairs.{kinds-paired, find-paired, place-paired, none-named, of_kind-kind, of_kind-test}
use Rattle.class_profiles.proofs.shared_profiles.SharedProfiles.place.Goals as goal

pub find_named-requires : goal.find_named-requires
find_named-requires c =
    let kind = of_kind-kind c.self.inside.kind c.args.name.now c.in-Some.name c.text_reads_back.ensures.pattern (sym c.of_kind.ensures ∙ c.in-Some.is) in
    subst (λ es. AreOf c.in-Some.name.kind es) (sym c.self.invariant.paired)
    (subst (λ k. AreOf k (map entry_of (items_of c.self.inside.profiles))) (sym kind) (kinds-paired c.self.inside.kind (items_of c.self.inside.profiles) c.self.invariant.lawful.named))

pub returns-in-Some : goal.returns-in-Some
returns-in-Some c =
    let ps = items_of c.self.inside.profiles in
    let name = c.args.name.now in
    let test = of_kind-test c.self.inside.kind name c.in-Some.name c.text_reads_back.ensures.pattern (sym c.of_kind.ensures ∙ c.in-Some.is) in
    let there = subst (λ (es : List (Entry Profile)). IsEntryAt es (find (has_name c.in-Some.name) es) c.find_named.result) c.self.invariant.paired c.find_named.ensures in
    let found = subst (λ (o : Option (Entry Profile)). IsEntryAt (map entry_of ps) o c.find_named.result) (find-paired c.in-Some.name ps) there in
    let here = place-paired ps (find (is_profile c.in-Some.name) ps) c.find_named.result found in
    subst (λ v. IsPlaceOf v.profiles (find (is_profile name) v.profiles) c.find_named.result) c.self.view_is
    (subst (λ (t : Profile → Bool). IsPlaceOf ps (find t ps) c.find_named.result) test here)

pub returns-in-None : goal.returns-in-None
returns-in-None c =
    let ps = items_of c.self.inside.profiles in
    let name = c.args.name.now in
    let none = none-named c.self.inside.kind name ps (sym c.of_kind.ensures ∙ c.in-None.is) c.self.invariant.lawful.named in
    subst (λ v. IsPlaceOf v.profiles (find (is_profile name) v.profiles) None) c.self.view_is
    (record { within = tt; there = sym none })
