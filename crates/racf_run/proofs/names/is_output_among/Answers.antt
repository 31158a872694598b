use Rattle.std.proofs.Common.{string_bytes, bytes_eq, sym, ◌∙◌, rules}
use Rattle.std.proofs.lemmas.Iterator.{YieldsList-from_slice}
use Rattle.std.proofs.lemmas.Iterator.Search.{any_from_yields_List}
use Rattle.racf_run.specs.Opening.{output_name}
use Rattle.racf_run.proofs.WordLaws.{among_map}
use Rattle.racf_run.proofs.names.is_output_among.Goals as goal

pub returns : goal.returns
returns c =
    any_from_yields_List (λ other. bytes_eq (output_name c.args.name.now) (string_bytes other)) _ _ _ c.any.ensures.ran (YieldsList-from_slice c.args.names.now cc) (λ x b q k. search rules)
    ∙ sym (among_map string_bytes (output_name c.args.name.now) c.args.names.now)
