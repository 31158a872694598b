-- The index takes the entry out of those of the profiles. A name that is none of the kind is no profile's.
use Rattle.std.proofs.Common.{◌∙◌, Bool, ap, sym, subst, map}
use Rattle.std.specs.List.{find}
use Rattle.profile_index.specs.Indexed.{AreOf}
use Rattle.racf_profiles.specs.declared.profiles.Profile.{Profile}
use Rattle.racf_profiles.specs.Lookup.{is_profile}
use Rattle.racf_profiles.specs.Edits.{drop_row}
use Rattle.racf_profiles.proofs.EditLaws.{drop_row-absent}
use Rattle.class_profiles.specs.Paired.{entry_of, items_of}
use Rattle.class_profiles.proofs.Pairs.{kinds-paired, none-named, of_kind-kind, of_kind-test, taken-items, taken-paired, taken-lawful}
use Rattle.class_profiles.proofs.shared_profiles.SharedProfiles.without_profile.Goals as goal

pub remove-requires : goal.remove-requires
remove-requires c =
    let kind = of_kind-kind c.self.inside.kind c.args.name.now c.in-Some.name c.text_reads_back.ensures.pattern (sym c.of_kind.ensures ∙ c.in-Some.is) in
    subst (λ es. AreOf c.in-Some.name.kind es) (sym c.self.invariant.paired)
    (subst (λ k. AreOf k (map entry_of (items_of c.self.inside.profiles))) (sym kind) (kinds-paired c.self.inside.kind (items_of c.self.inside.profiles) c.self.invariant.lawful.named))

pub invariant_of-what : goal.invariant_of-what
invariant_of-what c =
    let law = c.order_is_total.ensures in
    let old = c.self.inside.profiles in
    let kind = of_kind-kind c.self.inside.kind c.args.name.now c.in-Some.name c.text_reads_back.ensures.pattern (sym c.of_kind.ensures ∙ c.in-Some.is) in
    record {
      paired = taken-paired law.not_both law.passed_on c.self.inside.kind c.in-Some.name kind old c.in_ok-made.made.what c.self.invariant.paired c.self.invariant.lawful c.in_ok-made.ensures.entries;
      lawful = taken-lawful law.not_both law.passed_on c.self.inside.kind c.in-Some.name kind old c.in_ok-made.made.what c.self.invariant.paired c.self.invariant.lawful c.in_ok-made.ensures.entries;
    }

pub returns-clause-profiles : goal.returns-clause-profiles
returns-clause-profiles c =
    let law = c.order_is_total.ensures in
    let read = sym c.of_kind.ensures ∙ c.in-Some.is in
    let kind = of_kind-kind c.self.inside.kind c.args.name.now c.in-Some.name c.text_reads_back.ensures.pattern read in
    let test = of_kind-test c.self.inside.kind c.args.name.now c.in-Some.name c.text_reads_back.ensures.pattern read in
    taken-items law.not_both law.passed_on c.self.inside.kind c.in-Some.name kind c.self.inside.profiles c.in_ok-made.made.what c.self.invariant.paired c.self.invariant.lawful c.in_ok-made.ensures.entries
    ∙ ap (λ (t : Profile → Bool). drop_row t (items_of c.self.inside.profiles)) test
    ∙ ap (λ v. drop_row (is_profile c.args.name.now) v.profiles) c.self.view_is

pub returns-in_default-clause-profiles : goal.returns-in_default-clause-profiles
returns-in_default-clause-profiles c =
    let name = c.args.name.now in
    let none = ap (λ v. find (is_profile name) v.profiles) (sym c.self.view_is)
    ∙ none-named c.self.inside.kind name (items_of c.self.inside.profiles) (sym c.of_kind.ensures ∙ c.in_default.is) c.self.invariant.lawful.named in
    ap (λ v. v.profiles) c.in_ok-share.ensures ∙ sym (drop_row-absent (is_profile name) c.args.self.now.profiles none)
