-- How much a database holds (this product's own limits).
use Rattle.std.specs.Prelude.{ℕ}

abbrev pub most_users : ℕ
most_users = 20000

abbrev pub most_groups : ℕ
most_groups = 8000

-- of one user, and of all users
abbrev pub most_connections : ℕ
most_connections = 300

abbrev pub most_connections_in_all : ℕ
most_connections_in_all = 200000

-- of one class, and of all classes
abbrev pub most_class_profiles : ℕ
most_class_profiles = 50000

abbrev pub most_profiles : ℕ
most_profiles = 100000

-- of one access list, and of all access lists
abbrev pub most_list_entries : ℕ
most_list_entries = 1000

abbrev pub most_entries_in_all : ℕ
most_entries_in_all = 1000000

-- of one profile
abbrev pub most_members : ℕ
most_members = 1000

-- ever defined
abbrev pub most_categories : ℕ
most_categories = 256

-- beside the fixed ones
abbrev pub most_dynamic_classes : ℕ
most_dynamic_classes = 32
