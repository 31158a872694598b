use Rattle.std.proofs.Common.{Some, sym, ◌∙◌, ap}
use Rattle.access_lists.specs.Answers.{answered_when}
use Rattle.access_lists.proofs.PlaceLaws.{user_place, group_place, star_place}
use Rattle.access_lists.proofs.answers.place_that_counts.Goals as goal

pub returns-in-Some : goal.returns-in-Some
returns-in-Some c = sym (user_place c.args.port.now c.args.list.now c.args.user c.args.groups.now c.args.restricted c.in-Some.place (sym c.in-Some.ensures))

pub returns-in-Some-group_entry_under : goal.returns-in-Some-group_entry_under
returns-in-Some-group_entry_under c =
    c.place_under-in-Some-group_entry_under.ensures
    ∙ sym (group_place c.args.port.now c.args.list.now c.args.user c.args.groups.now c.args.restricted c.in-Some-group_entry_under.best (sym c.in_default.ensures) (sym c.in-Some-group_entry_under.ensures))

pub returns : goal.returns
returns c =
    c.place_under-2.ensures
    ∙ sym (star_place c.args.port.now c.args.list.now c.args.user c.args.groups.now (sym c.in_default.ensures) (sym c.in_default-group_entry_under.ensures))
    ∙ ap (λ restricted. answered_when (Some c.args.port.now) c.args.user c.args.groups.now restricted c.args.list.now) (sym c.if-restricted.false)
