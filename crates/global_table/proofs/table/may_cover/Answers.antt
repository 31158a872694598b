use Rattle.std.proofs.Common.{◌≡◌, ◌∙◌, sym, ap, subst, false, List, ℕ}
use Rattle.std.specs.Prelude.{IfSome}
use Rattle.racf_profiles.specs.declared.profiles.Member.{Member}
use Rattle.global_table.specs.Grants.{resolved, covers_name}
use Rattle.global_table.specs.Steps.{may_begin}
use Rattle.global_table.proofs.SkipLaws.{passed-over}
use Rattle.global_table.proofs.table.may_cover.Goals as goal

pub returns-in-Access : goal.returns-in-Access
returns-in-Access c apart user group place =
    let name = c.args.name.now in
    let pattern = c.in-Access.pattern in
    let begins : may_begin pattern.text name.text ≡ false =
    ap (λ (text : List ℕ). may_begin text name.text) (sym c.text.ensures.text) ∙ ap (λ (text : List ℕ). may_begin c.text.result.now text) (sym c.text-in-Access.ensures.text) ∙ sym c.may_begin.ensures ∙ apart in
    subst (λ (m : Member). IfSome (resolved user group place m) (λ r. covers_name name r ≡ false)) (sym c.in-Access.is) (passed-over user group pattern name c.in-Access.field-1 place begins)
