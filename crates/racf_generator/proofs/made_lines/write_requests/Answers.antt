use Rattle.std.proofs.Common.{◌++◌, refl}
use Rattle.std.specs.Prelude.{codes}
use Rattle.racf_generator.specs.MadeText.{user_name, next_user}
use Rattle.racf_generator.specs.Made.{requests_text}
use Rattle.racf_generator.proofs.Appends.{then, ends}
use Rattle.racf_generator.proofs.made_lines.write_requests.Goals as goal

pub returns : goal.returns
unfolding requests_text
returns c =
    let out = c.args.out.now.items in
    let name = user_name c.args.user in
    let other = codes "AUTH A DATASET " ++ (user_name (next_user c.args.users c.args.user) ++ codes ".DATA UPDATE\n") in
    let own = codes "AUTH A DATASET " ++ (name ++ codes ".DATA ALTER\n") in
    let first = then out c.extend_from_slice.new.self.items c.write_name.new.out.items (codes "VERIFY A ") name c.in_ok-extend_from_slice.ensures.items c.in_ok-write_name.ensures in
    let second = then out c.write_name.new.out.items c.extend_from_slice-2.new.self.items _ (codes "\n") first c.in_ok-extend_from_slice-2.ensures.items in
    let third = then out c.extend_from_slice-2.new.self.items c.write_access.new.out.items _ other second c.in_ok-write_access.ensures in
    let fourth = then out c.write_access.new.out.items c.write_access-2.new.out.items _ own third c.in_ok-write_access-2.ensures in
    ends c.extend_from_slice-3.result out c.write_access-2.new.out.items c.extend_from_slice-3.new.self.items _ (codes "DELETE A\n") _ fourth c.extend_from_slice-3.ensures.items refl
