use Rattle.std.proofs.Common.{refl}
use Rattle.std.specs.Prelude.{codes}
use Rattle.racf_generator.specs.MadeText.{user_name}
use Rattle.racf_generator.proofs.Appends.{then, ends}
use Rattle.racf_generator.proofs.made_lines.write_data_set.Goals as goal

pub returns : goal.returns
returns c =
    let out = c.args.out.now.items in
    let name = user_name c.args.user in
    let first = then out c.extend_from_slice.new.self.items c.write_name.new.out.items (codes "ADDSD '") name c.in_ok-extend_from_slice.ensures.items c.in_ok-write_name.ensures in
    let second = then out c.write_name.new.out.items c.extend_from_slice-2.new.self.items _ (codes ".**' OWNER(") first c.in_ok-extend_from_slice-2.ensures.items in
    let third = then out c.extend_from_slice-2.new.self.items c.write_name-2.new.out.items _ name second c.in_ok-write_name-2.ensures in
    ends c.extend_from_slice-3.result out c.write_name-2.new.out.items c.extend_from_slice-3.new.self.items _ (codes ") UACC(READ)\n") _ third c.extend_from_slice-3.ensures.items refl
