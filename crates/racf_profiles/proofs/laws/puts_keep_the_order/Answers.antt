-- By induction on the profiles, from the order of names.
use Rattle.racf_profiles.proofs.OrderedProfiles.{put_profile-in_order}
use Rattle.racf_profiles.proofs.laws.puts_keep_the_order.Goals as goal

pub returns : goal.returns
returns c = λ kind profile profiles lawful is named ordered. put_profile-in_order c.order_is_total.ensures.either kind profile profiles lawful is named ordered
