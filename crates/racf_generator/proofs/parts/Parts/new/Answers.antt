use Rattle.std.proofs.Common.{◌++◌, ◌∙◌, ap, drop}
use Rattle.racf_generator.specs.Made.{parts_from}
use Rattle.racf_generator.proofs.MadeLaws.{parts_from-whole}
use Rattle.racf_generator.proofs.parts.Parts.new.Goals as goal

pub returns : goal.returns
returns c = ap (λ text. drop 0 text ++ parts_from c.args.users 0) c.new.ensures.items ∙ parts_from-whole c.args.users
