-- How a state is kept: each of its parts by itself, with as many owners as there are images that share it.
use Rattle.std.specs.Arc.{arc_value}
use Rattle.racf_profiles.specs.State.{State}
use Rattle.raclist_image.specs.declared.state.ImageState.TheInside.{Inside}

abbrev pub state_of : Inside → State
state_of state = record {
  rows = record { users = arc_value state.users; groups = arc_value state.groups; classes = state.classes; options = arc_value state.options };
  copies = state.copies;
}
