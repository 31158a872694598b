use Rattle.std.proofs.Common.{refl}
use Rattle.std.specs.Prelude.{codes}
use Rattle.racf_generator.specs.MadeText.{user_name, group_name}
use Rattle.racf_generator.proofs.Appends.{then, ends}
use Rattle.racf_generator.proofs.made_lines.write_user.Goals as goal

pub returns : goal.returns
returns c =
    let out = c.args.out.now.items in
    let group = group_name c.args.group in
    let first = then out c.extend_from_slice.new.self.items c.write_name.new.out.items (codes "ADDUSER ") (user_name c.args.user) c.in_ok-extend_from_slice.ensures.items c.in_ok-write_name.ensures in
    let second = then out c.write_name.new.out.items c.extend_from_slice-2.new.self.items _ (codes " DFLTGRP(") first c.in_ok-extend_from_slice-2.ensures.items in
    let third = then out c.extend_from_slice-2.new.self.items c.write_name-2.new.out.items _ group second c.in_ok-write_name-2.ensures in
    let fourth = then out c.write_name-2.new.out.items c.extend_from_slice-3.new.self.items _ (codes ") OWNER(") third c.in_ok-extend_from_slice-3.ensures.items in
    let fifth = then out c.extend_from_slice-3.new.self.items c.write_name-3.new.out.items _ group fourth c.in_ok-write_name-3.ensures in
    ends c.extend_from_slice-4.result out c.write_name-3.new.out.items c.extend_from_slice-4.new.self.items _ (codes ")\n") _ fifth c.extend_from_slice-4.ensures.items refl
