use Rattle.group_tree.proofs.ScopeTests.{group-tested, profile-tested}
use Rattle.group_tree.proofs.laws.scope_is_tested.Goals as goal

pub returns-clause-group : goal.returns-clause-group
returns-clause-group c = λ groups top id tree. group-tested groups top tree id

pub returns-clause-profile : goal.returns-clause-profile
returns-clause-profile c = profile-tested
