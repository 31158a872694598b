use Rattle.std.proofs.Common.{◌≡◌, ◌∙◌, true, false, length, subst}
use Rattle.std.specs.List.{AllWithin}
use Rattle.generic_names.specs.OrderKey.{is_lower}
use Rattle.profile_index.specs.Indexed.{name_of}
use Rattle.profile_index.proofs.RisingLaws.{rises-in-order, lower-before-first, not-lower-from-first}
use Rattle.profile_index.proofs.entry_list.SharedEntriesEntryList.end_below.Goals as goal

pub first_by_key-requires : goal.first_by_key-requires
first_by_key-requires g c = rises-in-order name_of c.of.result c.args.self.now c.requires.ordered c.requires.named

pub returns-clause-below : goal.returns-clause-below
returns-clause-below g c =
    subst (λ key. AllWithin (λ e. is_lower e.name key ≡ true) c.args.self.now 0 c.first_by_key.result) (c.of.ensures ∙ c.as_bytes.ensures)
    (lower-before-first name_of c.of.result c.args.self.now c.first_by_key.result c.first_by_key.ensures.place)

pub returns-clause-above : goal.returns-clause-above
returns-clause-above g c =
    subst (λ key. AllWithin (λ e. is_lower e.name key ≡ false) c.args.self.now c.first_by_key.result (length c.args.self.now)) (c.of.ensures ∙ c.as_bytes.ensures)
    (not-lower-from-first name_of c.of.result c.args.self.now c.first_by_key.result c.first_by_key.ensures.place c.requires.ordered c.requires.named)
