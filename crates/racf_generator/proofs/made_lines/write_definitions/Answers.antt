use Rattle.racf_generator.proofs.Appends.{then, ends_with}
use Rattle.racf_generator.proofs.MadeLaws.{definitions_text-pieces}
use Rattle.racf_generator.proofs.made_lines.write_definitions.Goals as goal

pub returns : goal.returns
returns c =
    let first = then _ _ _ _ _ c.in_ok-write_group_before.ensures c.in_ok-write_user.ensures in
    ends_with c.write_data_set.result _ _ _ _ _ _ first c.write_data_set.ensures (definitions_text-pieces c.args.user)
