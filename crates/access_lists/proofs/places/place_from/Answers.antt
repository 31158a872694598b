use Rattle.std.proofs.Common.{[], bytes_eq}
use Rattle.access_lists.proofs.StartLaws.{found_behind, none_behind}
use Rattle.access_lists.proofs.places.place_from.Goals as goal

pub returns-in-Some : goal.returns-in-Some
returns-in-Some c = found_behind (bytes_eq c.args.id) c.args.groups.now c.args.from c.in-Some.place [] c.requires.within c.requires.behind c.in-Some.ensures

pub returns-in-None : goal.returns-in-None
returns-in-None c = none_behind (bytes_eq c.args.id) c.args.groups.now c.args.from [] c.requires.within c.requires.behind c.in-None.ensures
