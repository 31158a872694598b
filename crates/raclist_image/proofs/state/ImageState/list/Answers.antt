-- a class that isn't there isn't listed
use Rattle.std.proofs.Common.{◌∙◌, sym, ap}
use Rattle.racf_profiles.specs.State.{State}
use Rattle.racf_profiles.specs.Lookup.{class_of}
use Rattle.raclist_image.proofs.state.ImageState.list.Goals as goal

pub returns-in_default : goal.returns-in_default
returns-in_default c = sym (c.absent_changes_nothing.ensures.list c.args.class c.args.self.now (ap (λ (s : State). class_of c.args.class s.rows) (sym c.self.view_is) ∙ sym c.in_default.ensures.class))
