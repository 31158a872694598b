-- The index has the profile under its own name.
use Rattle.class_profiles.proofs.Pairs.{named-paired}
use Rattle.class_profiles.proofs.shared_profiles.SharedProfiles.named_at.Goals as goal

pub returns-clause-name : goal.returns-clause-name
returns-clause-name c = named-paired c.self.inside.profiles c.args.place (record { name = c.at.result.0.now; item = c.at.result.1.now }) c.self.invariant.paired c.at.ensures
