use Rattle.std.proofs.Common.{◌≡◌, None, sym, subst}
use Rattle.generic_names.specs.declared.form.Form.{Form}
use Rattle.generic_names.specs.declared.form.Form.TheVariants.{Discrete}
use Rattle.generic_names.specs.Spelled.{qualifiers}
use Rattle.generic_names.specs.Faults.{qualifiers_fault}
use Rattle.generic_names.proofs.reading.is_faultless.Goals as goal

pub returns-in-Discrete : goal.returns-in-Discrete
returns-in-Discrete c h =
    let is : c.args.form ≡ Discrete = c.in-Discrete.is in
    subst (λ (form : Form). qualifiers_fault form c.args.kind 1 1 (qualifiers c.args.text.now) ≡ None) (sym is) (c.stands_discrete.ensures h)
