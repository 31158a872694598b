-- The index puts the entry where the profile goes.
use Rattle.std.proofs.Common.{◌≡◌, ◌≤◌, ◌∙◌, List, Option, None, ap, sym, subst, map, length, arith}
use Rattle.std.specs.List.{find}
use Rattle.std.specs.Option.{option_map}
use Rattle.profile_index.specs.declared.entry.Entry.{Entry}
use Rattle.profile_index.specs.Indexed.{AreOf, has_name}
use Rattle.racf_profiles.specs.declared.profiles.Profile.{Profile}
use Rattle.racf_profiles.specs.Lookup.{is_profile}
use Rattle.racf_profiles.specs.Edits.{put_profile}
use Rattle.racf_profiles.specs.Limits.{most_class_profiles}
use Rattle.class_profiles.specs.Paired.{entry_of, items_of}
use Rattle.class_profiles.proofs.Pairs.{kinds-paired, absent-profile, find-paired, item-paired, put-items, put-kept}
use Rattle.class_profiles.proofs.table.ProfileTable.put.Goals as goal

pub put-requires-clause-room : goal.put-requires-clause-room
put-requires-clause-room c none =
    let ps = items_of c.self.inside.profiles.entries in
    let absent = absent-profile c.args.profile.name ps (subst (λ (es : List (Entry Profile)). find (has_name c.args.profile.name) es ≡ None) c.self.invariant.paired none) in
    omega (arith, c.requires.room (ap (λ v. find (is_profile c.args.profile.name) v.profiles) (sym c.self.view_is) ∙ absent), ap (λ v. v.spare) c.self.view_is)

pub put-requires-clause-kind : goal.put-requires-clause-kind
put-requires-clause-kind c =
    let kind = ap (λ v. v.kind) c.self.view_is ∙ sym c.requires.kind in
    subst (λ es. AreOf c.args.profile.name.kind es) (sym c.self.invariant.paired)
    (subst (λ k. AreOf k (map entry_of (items_of c.self.inside.profiles.entries))) kind (kinds-paired c.self.inside.kind (items_of c.self.inside.profiles.entries) c.self.invariant.lawful.named))

pub invariant_of-self : goal.invariant_of-self
invariant_of-self c =
    let p = c.args.profile in
    let old = c.self.inside.profiles.entries in
    let is = c.requires.kind ∙ sym (ap (λ v. v.kind) c.self.view_is) in
    let few = subst (λ v. length (put_profile p v.profiles) ≤ most_class_profiles) (sym c.self.view_is) c.requires.few in
    let ordered = c.puts_keep_the_order.ensures c.self.inside.kind p (items_of old) c.is_spelled.ensures is c.self.invariant.lawful.named c.self.invariant.lawful.ordered in
    put-kept c.self.inside.kind p c.is_spelled.ensures is old c.put.new.self.entries c.self.invariant.paired c.self.invariant.lawful c.put.ensures.entries few ordered

pub returns-clause-profiles : goal.returns-clause-profiles
returns-clause-profiles c =
    let p = c.args.profile in
    let is = c.requires.kind ∙ sym (ap (λ v. v.kind) c.self.view_is) in
    put-items c.self.inside.kind p c.is_spelled.ensures is c.self.inside.profiles.entries c.put.new.self.entries c.self.invariant.paired c.self.invariant.lawful c.put.ensures.entries
    ∙ ap (λ v. put_profile p v.profiles) c.self.view_is

pub returns-clause-replaced : goal.returns-clause-replaced
returns-clause-replaced c =
    let name = c.args.profile.name in
    let ps = items_of c.self.inside.profiles.entries in
    c.put.ensures.item
    ∙ ap (λ (es : List (Entry Profile)). option_map (λ (e : Entry Profile). e.item) (find (has_name name) es)) c.self.invariant.paired
    ∙ ap (λ (o : Option (Entry Profile)). option_map (λ (e : Entry Profile). e.item) o) (find-paired name ps)
    ∙ item-paired (find (is_profile name) ps)
    ∙ ap (λ v. find (is_profile name) v.profiles) c.self.view_is

pub returns-clause-spare : goal.returns-clause-spare
returns-clause-spare c = c.put.ensures.spare ∙ ap (λ v. v.spare) c.self.view_is

pub returns-clause-lawful : goal.returns-clause-lawful
returns-clause-lawful c = (invariant_of-self c).lawful
