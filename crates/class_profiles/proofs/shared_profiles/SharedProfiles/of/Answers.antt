-- The entries of profiles in order are in order.
use Rattle.std.proofs.Common.{◌∙◌, sym, subst}
use Rattle.generic_names.specs.Best.{IsInOrder, AreNamed as AreEntriesNamed}
use Rattle.profile_index.specs.Indexed.{name_of}
use Rattle.racf_profiles.specs.LawfulProfiles.{AreProfiles}
use Rattle.class_profiles.proofs.Pairs.{paired-again, ordered-paired, names-paired}
use Rattle.class_profiles.proofs.shared_profiles.SharedProfiles.of.Goals as goal

pub of-requires-clause-ordered : goal.of-requires-clause-ordered
of-requires-clause-ordered c =
    let law = c.order_is_total.ensures in
    subst (IsInOrder name_of) (sym c.in_ok-entries.ensures) (ordered-paired law.not_both law.passed_on c.args.profiles.now c.requires.ordered)

pub of-requires-clause-named : goal.of-requires-clause-named
of-requires-clause-named c = subst (AreEntriesNamed name_of) (sym c.in_ok-entries.ensures) (names-paired c.args.kind c.args.profiles.now c.requires.named)

pub invariant_of-result : goal.invariant_of-result
invariant_of-result c =
    let again = paired-again c.in_ok-of.field-0 c.args.profiles.now (c.in_ok-of.ensures ∙ c.in_ok-entries.ensures) in
    record { paired = again.1; lawful = subst (AreProfiles c.args.kind) (sym again.0) c.requires }

pub returns-clause-profiles : goal.returns-clause-profiles
returns-clause-profiles c = (paired-again c.in_ok-of.field-0 c.args.profiles.now (c.in_ok-of.ensures ∙ c.in_ok-entries.ensures)).0
