-- By induction on the rows.
use Rattle.racf_profiles.specs.Lookup.{is_user, is_group}
use Rattle.racf_profiles.proofs.EditLaws.{put_row-found, put_row-others, other_name}
use Rattle.racf_profiles.proofs.OrderedProfiles.{profile-put}
use Rattle.racf_profiles.proofs.laws.what_is_put_is_found.Goals as goal
use Rattle.racf_profiles.proofs.Named.{itself}

pub returns-clause-user : goal.returns-clause-user
returns-clause-user c = λ user rows. put_row-found (is_user user.id) user rows.users (itself user.id)

pub returns-clause-other_user : goal.returns-clause-other_user
returns-clause-other_user c = λ user id rows differ. put_row-others (is_user user.id) (is_user id) user rows.users differ (λ other same. other_name other.id user.id id differ same)

pub returns-clause-group : goal.returns-clause-group
returns-clause-group c = λ group rows. put_row-found (is_group group.id) group rows.groups (itself group.id)

pub returns-clause-other_group : goal.returns-clause-other_group
returns-clause-other_group c = λ group id rows differ. put_row-others (is_group group.id) (is_group id) group rows.groups differ (λ other same. other_name other.id group.id id differ same)

pub returns-clause-profile : goal.returns-clause-profile
returns-clause-profile c = λ class row profile rows found. profile-put class profile row rows.classes found
