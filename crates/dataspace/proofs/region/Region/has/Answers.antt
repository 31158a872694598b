use Rattle.std.proofs.Common.{◌≡◌, ◌∙◌, ◌<◌, ◌≤◌, ℕ, true, false, length, ap, subst, arith}
use Rattle.std.proofs.lemmas.Bool.{le-ltb}
use Rattle.dataspace.specs.Placed.{has}
use Rattle.dataspace.specs.Kept.{is_row, is_before}
use Rattle.dataspace.proofs.SpotLaws.{had-placed}
use Rattle.dataspace.proofs.KeptLaws.{has-then, has-else}
use Rattle.dataspace.proofs.region.Region.has.Goals as goal

pub returns-then-row-len-clause-text : goal.returns-then-row-len-clause-text
returns-then-row-len-clause-text c =
    let inside = c.self.inside in
    let spot = c.args.spot in
    let first = c.first_not_before-row.result in
    let before = subst (λ ends. (row : ℕ) → row < first → is_before ends row spot ≡ true) c.deref.ensures.value c.first_not_before-row.ensures.before in
    let behind = subst (λ ends. (row : ℕ) → first ≤ row → row < length ends → is_before ends row spot ≡ false) c.deref.ensures.value c.first_not_before-row.ensures.behind in
    let below : first < length inside.ends.items = omega (arith, c.if-row-len.true, c.len.ensures, inside.ends.ok.0) in
    c.is_row.ensures ∙ ap (λ ends. is_row ends first spot) c.deref-then-row-len.ensures.value ∙ has-then inside c.self.invariant spot first below before behind ∙ ap (λ r. has r.texts spot) c.self.view_is

pub returns-then-row-len-clause-placed : goal.returns-then-row-len-clause-placed
returns-then-row-len-clause-placed c = had-placed c.args.self.now.texts c.args.spot _ (returns-then-row-len-clause-text c)

pub returns-else-row-len-clause-text : goal.returns-else-row-len-clause-text
returns-else-row-len-clause-text c =
    let inside = c.self.inside in
    let spot = c.args.spot in
    let first = c.first_not_before-row.result in
    let before = subst (λ ends. (row : ℕ) → row < first → is_before ends row spot ≡ true) c.deref.ensures.value c.first_not_before-row.ensures.before in
    let behind = subst (λ ends. (row : ℕ) → first ≤ row → row < length ends → is_before ends row spot ≡ false) c.deref.ensures.value c.first_not_before-row.ensures.behind in
    let past : length inside.ends.items ≤ first = omega (arith, c.if-row-len.false, c.len.ensures, inside.ends.ok.0) in
    le-ltb first c.len.result c.if-row-len.false ∙ has-else inside c.self.invariant spot first past before behind ∙ ap (λ r. has r.texts spot) c.self.view_is

pub returns-else-row-len-clause-placed : goal.returns-else-row-len-clause-placed
returns-else-row-len-clause-placed c = had-placed c.args.self.now.texts c.args.spot _ (returns-else-row-len-clause-text c)
