-- How the tables are kept: the users, the tree of groups, the classes with their profiles, and the options.
use Rattle.row_tables.specs.declared.tables.RowTables.TheInside.{Inside}
use Rattle.row_tables.specs.Tables.{Tables, rows_of}
use Rattle.row_tables.specs.Applying.{HasFewCategories}

abbrev pub tables_of : Inside → Tables
tables_of tables = record {
  rows = rows_of tables.users.users tables.tree.groups tables.classes.classes tables.options;
  spare_users = tables.users.spare;
  spare_groups = tables.tree.spare;
  spare_profiles = tables.classes.spare;
  more_classes = tables.classes.more_classes;
}

-- What each table keeps is its own; here it is the options that name no more categories than there may be.
abbrev pub NamesFew : Inside → Type 0
NamesFew tables = HasFewCategories tables.options
