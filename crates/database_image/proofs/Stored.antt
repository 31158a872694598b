-- What an image may hold is lawful.
use Rattle.std.proofs.Common.{length}
use Rattle.std.proofs.lemmas.Bool.{leb-true}
use Rattle.racf_profiles.specs.declared.rows.Rows.{Rows}
use Rattle.racf_profiles.specs.Limits.{most_categories}
use Rattle.racf_profiles.specs.Lawful.{AreCategories, AreLawful}
use Rattle.database_image.specs.Description.{options, image_by}
use Rattle.database_image.specs.Image.{IsStored}
use Rattle.database_image.proofs.StoredGroups.{tree}
use Rattle.database_image.proofs.StoredUsers.{distinct-ids, lawful-users, are-users, few-connections, some-special, group-names}
use Rattle.database_image.proofs.StoredClasses.{are-classes, lawful-classes, are-dynamic, few-profiles, few-entries}

are-categories : (rows : Rows) → IsStored rows → AreCategories rows.options
unfolding image_by options
are-categories rows stored = record {
  distinct = distinct-ids rows.options.categories stored.fields.0.1.0.1;
  few = leb-true (length rows.options.categories) most_categories stored.fields.0.1.0.0.1;
}

pub lawful : (rows : Rows) → IsStored rows → AreLawful rows
lawful rows stored = record {
  groups = tree rows stored;
  group_names = group-names rows stored;
  users = are-users rows stored;
  each_user = lawful-users rows stored;
  special_user = some-special rows stored;
  few_connections = few-connections rows stored;
  classes = are-classes rows stored;
  each_class = lawful-classes rows stored;
  dynamic = are-dynamic rows stored;
  few_profiles = few-profiles rows stored;
  few_entries = few-entries rows stored;
  categories = are-categories rows stored;
}
