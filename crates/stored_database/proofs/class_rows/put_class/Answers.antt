-- What was made ready has its old profiles, which are none, and then the row's.
use Rattle.std.proofs.Common.{arith}
use Rattle.stored_database.proofs.Profiles.{still-empty, profiles-kept, entries-kept, is-put}
use Rattle.stored_database.proofs.class_rows.put_class.Goals as goal

pub put_profiles-requires-clause-empty : goal.put_profiles-requires-clause-empty
put_profiles-requires-clause-empty c = still-empty c.args.class c.args.tables.now.classes c.requires.empty c.make_ready.new.tables.classes c.make_ready.ensures.classes

pub put_profiles-requires-clause-few_profiles : goal.put_profiles-requires-clause-few_profiles
put_profiles-requires-clause-few_profiles c =
    omega (arith, profiles-kept c.args.class c.args.tables.now.classes c.requires.empty c.make_ready.new.tables.classes c.make_ready.ensures.classes, c.requires.few_profiles)

pub put_profiles-requires-clause-few_entries : goal.put_profiles-requires-clause-few_entries
put_profiles-requires-clause-few_entries c =
    omega (arith, entries-kept c.args.class c.args.tables.now.classes c.requires.empty c.make_ready.new.tables.classes c.make_ready.ensures.classes, c.requires.few_entries)

pub returns : goal.returns
returns c = is-put c.args.class c.args.tables.now.classes c.requires.empty c.make_ready.new.tables.classes c.make_ready.ensures.classes c.put_profiles.new.tables.classes c.put_profiles.ensures
