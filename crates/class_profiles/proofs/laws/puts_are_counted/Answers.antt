-- By induction on the profiles, and on the classes.
use Rattle.class_profiles.proofs.Counts.{length-put}
use Rattle.class_profiles.proofs.Changes.{put-profiles, put-entries_in}
use Rattle.class_profiles.proofs.laws.puts_are_counted.Goals as goal

pub returns-clause-length : goal.returns-clause-length
returns-clause-length c = λ kind p ps lawful is. length-put c.order_is_total.ensures.not_both c.order_is_total.ensures.passed_on kind p is ps lawful.named lawful.ordered

pub returns-clause-profiles : goal.returns-clause-profiles
returns-clause-profiles c = λ class row p classes lawful found is. put-profiles c.order_is_total.ensures.not_both c.order_is_total.ensures.passed_on class row p classes lawful found is

pub returns-clause-entries : goal.returns-clause-entries
returns-clause-entries c = λ class row p classes lawful found is. put-entries_in c.order_is_total.ensures.not_both c.order_is_total.ensures.passed_on class row p classes lawful found is
