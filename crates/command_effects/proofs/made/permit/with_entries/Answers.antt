use Rattle.std.proofs.Common.{◌≡◌, ◌∙◌, ◌∷◌, List, length, suc, fold, drop, sym, ap, arith, drop-cons}
use Rattle.access_levels.specs.declared.entries.Who.{Who}
use Rattle.access_levels.specs.declared.entries.Entry.{Entry}
use Rattle.command_rules.specs.PermitEffects.{with_entry}
use Rattle.command_rules.proofs.ListCounts.{entries-longer}
use Rattle.command_effects.proofs.made.permit.with_entries.Goals as goal

-- the list at last is within the limit, and the one with this entry is no longer
pub put_entry-requires : goal.put_entry-requires
put_entry-requires c = λ gives.
    let command = c.args.command.now in
    let who = c.who-item.result in
    let list = c.loop-who.list.items in
    let rest = drop (suc c.loop-who.who-index) c.args.whos.now in
    let here : drop c.loop-who.who-index c.args.whos.now ≡ who ∷ rest = drop-cons c.args.whos.now c.loop-who.who-index who (omega arith) ∙ ap (λ (w : Who). w ∷ rest) (sym c.who-item.is) in
    let last : fold (with_entry command) (with_entry command list who) rest ≡ fold (with_entry command) c.args.list.items c.args.whos.now = sym (ap (fold (with_entry command) list) here) ∙ c.loop-who.invariant in
    omega (arith, entries-longer command gives (with_entry command list who) rest, ap (λ (xs : List Entry). length xs) last, c.requires gives)
