use Rattle.std.proofs.Common.{◌≡◌, ◌∙◌, List, ℕ, ap, sym, subst}
use Rattle.generic_names.specs.declared.kind.NameKind.{NameKind}
use Rattle.generic_names.specs.Spelled.{Spelled}
use Rattle.generic_names.specs.Laws.{IsPattern}
use Rattle.generic_names.proofs.Lawful.{resource-pattern}
use Rattle.generic_names.proofs.pattern.Pattern.discrete.Goals as goal

made : NameKind → List ℕ → Spelled
made kind text = record { kind = kind; text = text }

same : (name copy : Spelled) (kind : NameKind) (text : List ℕ) → kind ≡ name.kind → text ≡ name.text → copy ≡ record { kind = kind; text = text } → name ≡ copy
unfolding made
same name copy kind text k t is = sym (is ∙ ap (λ (x : NameKind). made x text) k ∙ ap (λ (x : List ℕ). made name.kind x) t)

pub invariant_of-result : goal.invariant_of-result
invariant_of-result c =
    subst (λ (n : Spelled). IsPattern n) (same c.args.name.now c.of.result c.kind.result c.text.result.now c.kind.ensures c.text.ensures.text c.of.ensures) (resource-pattern c.args.name.now c.text.ensures.name)
