-- One profile more than before, at most.
use Rattle.std.proofs.Common.{◌∙◌, ◌<◌, ◌≤◌, sym, ap, subst, arith, length, max}
use Rattle.generic_names.specs.Spelled.{Spelled}
use Rattle.racf_profiles.specs.Edits.{put_profile}
use Rattle.racf_profiles.specs.Limits.{most_class_profiles}
use Rattle.class_profiles.specs.Table.{ProfileList}
use Rattle.row_tests.proofs.class_tests.put.Goals as goal

pub put-requires : goal.put-requires
put-requires c =
    let old = c.args.table.now in
    let p = c.in-Ok-profile.profile in
    let kind = ap (λ (n : Spelled). n.kind) c.in-Ok-profile.ensures.name ∙ c.in-Ok.ensures.kind ∙ c.kind.ensures in
    let step = c.puts_are_counted.ensures.length old.kind p old.profiles c.len.ensures.lawful kind in
    let few : length (put_profile p old.profiles) ≤ most_class_profiles = omega (arith, step, c.len.ensures.count) in
    let some : 0 < max old.spare 1 = omega arith in
    record {
      kind = kind ∙ ap (λ (v : ProfileList). v.kind) (sym c.in-Ok-reserve.ensures.ok);
      room = λ _. subst (λ (v : ProfileList). 0 < v.spare) (sym c.in-Ok-reserve.ensures.ok) some;
      few = subst (λ (v : ProfileList). length (put_profile p v.profiles) ≤ most_class_profiles) (sym c.in-Ok-reserve.ensures.ok) few;
    }
