use Rattle.std.proofs.Common.{length, sym, ap, ◌∙◌}
use Rattle.std.specs.List.{position}
use Rattle.access_lists.specs.Lists.{is_for_under, has_no_room}
use Rattle.access_lists.proofs.PutLaws.{set_at_position, room_at_position, room_when_new, full_if, not_full, added_is_put, absent_at_none}
use Rattle.access_lists.proofs.edits.permit_when.Goals as goal

pub returns-in-Some-clause-list : goal.returns-in-Some-clause-list
returns-in-Some-clause-list c = set_at_position (is_for_under c.args.entry.condition c.args.entry.who) c.args.list.now.items c.in-Some.place c.args.entry (sym (c.in-Some.ensures ∙ ap (position (is_for_under c.args.entry.condition c.args.entry.who)) c.as_slice.ensures.value))

pub returns-in-Some-clause-full : goal.returns-in-Some-clause-full
returns-in-Some-clause-full c = not_full _ (has_no_room (is_for_under c.args.entry.condition c.args.entry.who) c.args.list.now.items) (room_at_position (is_for_under c.args.entry.condition c.args.entry.who) c.args.list.now.items c.in-Some.place c.args.entry (sym (c.in-Some.ensures ∙ ap (position (is_for_under c.args.entry.condition c.args.entry.who)) c.as_slice.ensures.value)))

pub returns-in-None-clause-list : goal.returns-in-None-clause-list
returns-in-None-clause-list c = added_is_put (is_for_under c.args.entry.condition c.args.entry.who) c.args.list.now.items c.add.new.list.items c.args.entry c.add.result (sym (c.in-None.ensures ∙ ap (position (is_for_under c.args.entry.condition c.args.entry.who)) c.as_slice.ensures.value)) c.add.ensures.list

pub returns-in-None-clause-full : goal.returns-in-None-clause-full
returns-in-None-clause-full c = full_if (has_no_room (is_for_under c.args.entry.condition c.args.entry.who) c.args.list.now.items) (length c.args.list.now.items) (room_when_new (is_for_under c.args.entry.condition c.args.entry.who) c.args.list.now.items c.args.entry (sym (c.in-None.ensures ∙ ap (position (is_for_under c.args.entry.condition c.args.entry.who)) c.as_slice.ensures.value))) c.add.ensures.full

pub returns-in-None-clause-memory : goal.returns-in-None-clause-memory
returns-in-None-clause-memory c wanting = absent_at_none (is_for_under c.args.entry.condition c.args.entry.who) c.args.list.now.items c.args.entry (sym (c.in-None.ensures ∙ ap (position (is_for_under c.args.entry.condition c.args.entry.who)) c.as_slice.ensures.value))
