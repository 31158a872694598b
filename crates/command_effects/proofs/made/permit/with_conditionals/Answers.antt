use Rattle.std.proofs.Common.{◌≡◌, ◌∙◌, ◌∷◌, List, length, suc, fold, drop, sym, ap, arith, drop-cons}
use Rattle.access_levels.specs.declared.entries.Who.{Who}
use Rattle.access_levels.specs.declared.entries.CondEntry.{CondEntry}
use Rattle.command_rules.specs.PermitEffects.{with_conditional}
use Rattle.command_rules.proofs.ListCounts.{conditionals-longer}
use Rattle.command_effects.proofs.made.permit.with_conditionals.Goals as goal

-- the list at last is within the limit, and the one with this entry is no longer
pub put_conditional-requires : goal.put_conditional-requires
put_conditional-requires c = λ gives.
    let command = c.args.command.now in
    let port = c.args.condition.now in
    let who = c.who-item.result in
    let list = c.loop-who.list.items in
    let rest = drop (suc c.loop-who.who-index) c.args.whos.now in
    let here : drop c.loop-who.who-index c.args.whos.now ≡ who ∷ rest = drop-cons c.args.whos.now c.loop-who.who-index who (omega arith) ∙ ap (λ (w : Who). w ∷ rest) (sym c.who-item.is) in
    let last : fold (with_conditional command port) (with_conditional command port list who) rest ≡ fold (with_conditional command port) c.args.list.items c.args.whos.now = sym (ap (fold (with_conditional command port) list) here) ∙ c.loop-who.invariant in
    omega (arith, conditionals-longer command gives port (with_conditional command port list who) rest, ap (λ (xs : List CondEntry). length xs) last, c.requires gives)
