-- The member is written at the place of the one of its name, or goes last.
use Rattle.std.proofs.Common.{◌∙◌, sym, ap}
use Rattle.std.specs.List.{position}
use Rattle.command_rules.specs.Members.{member_name, is_member_named}
use Rattle.access_lists.proofs.PutLaws.{set_at_position, new_without_position}
use Rattle.command_effects.proofs.made.members.put_member.Goals as goal

pub returns-in-Some : goal.returns-in-Some
returns-in-Some c =
    set_at_position (is_member_named (member_name c.args.member)) c.args.members.now.items c.in-Some.place c.args.member
    (sym (c.in-Some.ensures ∙ ap (λ n. position (is_member_named n) c.as_slice.result.now) c.member_name.ensures ∙ ap (position (is_member_named (member_name c.args.member))) c.as_slice.ensures.value))

pub returns-in_ok-push-in-None : goal.returns-in_ok-push-in-None
returns-in_ok-push-in-None c =
    c.in_ok-push-in-None.ensures.items
    ∙ sym (new_without_position (is_member_named (member_name c.args.member)) c.args.members.now.items c.args.member
    (sym (c.in-None.ensures ∙ ap (λ n. position (is_member_named n) c.as_slice.result.now) c.member_name.ensures ∙ ap (position (is_member_named (member_name c.args.member))) c.as_slice.ensures.value))).put
