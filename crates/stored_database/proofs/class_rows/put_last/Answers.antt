-- From what a put adds to the counts, and from the place of a profile behind all others.
use Rattle.std.proofs.Common.{ap, ◌∙◌, arith}
use Rattle.racf_profiles.specs.Counts.{profile_count, entry_count}
use Rattle.stored_database.proofs.Profiles.{the_class, put-there, put-classes}
use Rattle.stored_database.proofs.class_rows.put_last.Goals as goal

pub put-requires : goal.put-requires
put-requires c =
    let at = the_class c.order_is_total.ensures.not_both c.args.tables.now c.args.class c.args.profile c.requires in
    c.counts_are_enough.ensures c.args.tables.now c.args.class at.0 c.args.profile c.count-count.ensures.lawful (omega (arith, c.requires.few)) at.1 c.requires.kind
    (λ absent. put-there c.order_is_total.ensures.not_both c.args.tables.now c.args.class c.args.profile c.requires) (omega (arith, c.requires.few_entries))

pub returns-clause-classes : goal.returns-clause-classes
returns-clause-classes c =
    let at = the_class c.order_is_total.ensures.not_both c.args.tables.now c.args.class c.args.profile c.requires in
    c.put.ensures.classes
    ∙ put-classes c.order_is_total.ensures.not_both c.args.tables.now c.args.class c.args.profile c.requires (c.found_is_lawful.ensures c.args.class at.0 c.args.tables.now.classes c.count-count.ensures.lawful at.1)

pub returns-clause-profiles : goal.returns-clause-profiles
returns-clause-profiles c =
    let at = the_class c.order_is_total.ensures.not_both c.args.tables.now c.args.class c.args.profile c.requires in
    omega (arith, ap profile_count c.put.ensures.classes, c.puts_are_counted.ensures.profiles c.args.class at.0 c.args.profile c.args.tables.now.classes c.count-count.ensures.lawful at.1 c.requires.kind)

pub returns-clause-entries : goal.returns-clause-entries
returns-clause-entries c =
    let at = the_class c.order_is_total.ensures.not_both c.args.tables.now c.args.class c.args.profile c.requires in
    omega (arith, ap entry_count c.put.ensures.classes, c.puts_are_counted.ensures.entries c.args.class at.0 c.args.profile c.args.tables.now.classes c.count-count.ensures.lawful at.1 c.requires.kind)
