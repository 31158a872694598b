use Rattle.std.proofs.Common.{◌≡◌, ◌+◌, ◌++◌, Some, take, drop, get_or, sym, ◌∙◌, ap}
use Rattle.std.specs.Prelude.{option_map}
use Rattle.request_files.specs.declared.acees.NamedAcee.{NamedAcee}
use Rattle.request_files.specs.Acees.{is_named}
use Rattle.request_files.proofs.RowLaws.{position-some, position-none, drop_row-around, find-there, find-nowhere}
use Rattle.request_files.proofs.acees.AceeTable.remove.Goals as goal

pub returns-in-Some-clause-acee : goal.returns-in-Some-clause-acee
returns-in-Some-clause-acee c =
    let name = c.args.name in
    let acees = c.args.self.now in
    let at = position-some (is_named name) acees c.in-Some.place (sym c.position.ensures ∙ c.in-Some.is) in
    let rows : c.self.inside.entries.items ≡ acees = c.self.view_is in
    let there = find-there (is_named name) acees c.remove-acee.result at.1 in
    let entry = c.remove-acee.ensures.value ∙ ap (λ list. get_or list c.in-Some.place c.remove-acee.result) rows ∙ ap (λ place. get_or acees place c.remove-acee.result) at.0 in
    ap (λ (found : NamedAcee). Some found.acee) entry ∙ sym (ap (λ found. option_map (λ (e : NamedAcee). e.acee) found) there)

pub returns-in-Some-clause-rest : goal.returns-in-Some-clause-rest
returns-in-Some-clause-rest c =
    let name = c.args.name in
    let acees = c.args.self.now in
    let at = position-some (is_named name) acees c.in-Some.place (sym c.position.ensures ∙ c.in-Some.is) in
    let rows : c.self.inside.entries.items ≡ acees = c.self.view_is in
    c.remove-acee.ensures.by_index.2
    ∙ ap (λ list. take c.in-Some.place list ++ drop (c.in-Some.place + 1) list) rows
    ∙ ap (λ place. take place acees ++ drop (place + 1) acees) at.0
    ∙ drop_row-around (is_named name) acees

pub returns-in-None-clause-acee : goal.returns-in-None-clause-acee
returns-in-None-clause-acee c =
    let name = c.args.name in
    let nowhere = find-nowhere (is_named name) c.args.self.now (position-none (is_named name) c.args.self.now (sym c.position.ensures ∙ c.in-None.is)) in
    sym (ap (λ found. option_map (λ (e : NamedAcee). e.acee) found) nowhere.0)

pub returns-in-None-clause-rest : goal.returns-in-None-clause-rest
returns-in-None-clause-rest c =
    let name = c.args.name in
    let nowhere = find-nowhere (is_named name) c.args.self.now (position-none (is_named name) c.args.self.now (sym c.position.ensures ∙ c.in-None.is)) in
    sym nowhere.1
