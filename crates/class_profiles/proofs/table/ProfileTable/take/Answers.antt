-- The index takes the entry out of those of the profiles, which stay in order.
use Rattle.std.proofs.Common.{◌∙◌, ◌+◌, List, Bool, ap, sym, subst, map, is_some, if◌then◌else◌}
use Rattle.std.specs.List.{find}
use Rattle.std.specs.Option.{option_map}
use Rattle.profile_index.specs.declared.entry.Entry.{Entry}
use Rattle.profile_index.specs.Indexed.{AreOf, has_name}
use Rattle.racf_profiles.specs.declared.profiles.Profile.{Profile}
use Rattle.racf_profiles.specs.Lookup.{is_profile}
use Rattle.racf_profiles.specs.Edits.{drop_row}
use Rattle.class_profiles.specs.Paired.{entry_of, items_of}
use Rattle.class_profiles.proofs.Pairs.{kinds-paired, some-paired, taken-items, taken-paired, taken-lawful}
use Rattle.class_profiles.proofs.table.ProfileTable.take.Goals as goal

pub remove-requires : goal.remove-requires
remove-requires c =
    let kind = ap (λ v. v.kind) c.self.view_is ∙ sym c.requires in
    subst (λ es. AreOf c.args.name.now.kind es) (sym c.self.invariant.paired)
    (subst (λ k. AreOf k (map entry_of (items_of c.self.inside.profiles.entries))) kind (kinds-paired c.self.inside.kind (items_of c.self.inside.profiles.entries) c.self.invariant.lawful.named))

pub invariant_of-self : goal.invariant_of-self
invariant_of-self c =
    let law = c.order_is_total.ensures in
    let old = c.self.inside.profiles.entries in
    let is = c.requires ∙ sym (ap (λ v. v.kind) c.self.view_is) in
    record {
      paired = taken-paired law.not_both law.passed_on c.self.inside.kind c.args.name.now is old c.remove.new.self.entries c.self.invariant.paired c.self.invariant.lawful c.remove.ensures.entries;
      lawful = taken-lawful law.not_both law.passed_on c.self.inside.kind c.args.name.now is old c.remove.new.self.entries c.self.invariant.paired c.self.invariant.lawful c.remove.ensures.entries;
    }

pub returns-clause-profiles : goal.returns-clause-profiles
returns-clause-profiles c =
    let law = c.order_is_total.ensures in
    let is = c.requires ∙ sym (ap (λ v. v.kind) c.self.view_is) in
    taken-items law.not_both law.passed_on c.self.inside.kind c.args.name.now is c.self.inside.profiles.entries c.remove.new.self.entries c.self.invariant.paired c.self.invariant.lawful c.remove.ensures.entries
    ∙ ap (λ v. drop_row (is_profile c.args.name.now) v.profiles) c.self.view_is

pub returns-clause-spare : goal.returns-clause-spare
returns-clause-spare c =
    let name = c.args.name.now in
    let ps = items_of c.self.inside.profiles.entries in
    let found = ap is_some c.remove.ensures.item
    ∙ ap (λ (es : List (Entry Profile)). is_some (option_map (λ (e : Entry Profile). e.item) (find (has_name name) es))) c.self.invariant.paired
    ∙ some-paired name ps ∙ ap (λ v. is_some (find (is_profile name) v.profiles)) c.self.view_is in
    c.remove.ensures.spare ∙ ap (λ (b : Bool). c.self.inside.profiles.spare + (if b then 1 else 0)) found
    ∙ ap (λ v. v.spare + (if is_some (find (is_profile name) c.args.self.now.profiles) then 1 else 0)) c.self.view_is

pub returns-clause-lawful : goal.returns-clause-lawful
returns-clause-lawful c =
    let law = c.order_is_total.ensures in
    let is = c.requires ∙ sym (ap (λ v. v.kind) c.self.view_is) in
    taken-lawful law.not_both law.passed_on c.self.inside.kind c.args.name.now is c.self.inside.profiles.entries c.remove.new.self.entries c.self.invariant.paired c.self.invariant.lawful c.remove.ensures.entries
