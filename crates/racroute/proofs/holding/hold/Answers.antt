use Rattle.std.proofs.Common.{sym, ◌∙◌, ap}
use Rattle.desk_rules.specs.Position.{Position}
use Rattle.desk_rules.specs.Made.{made_in}
use Rattle.racroute.proofs.holding.hold.Goals as goal

-- what the desk made goes on from what is published
pub hold-requires-clause-legal : goal.hold-requires-clause-legal
hold-requires-clause-legal g c =
    let given = c.requires.made.given in
    (c.what_a_desk_makes_goes_on.ensures g.J.Naming.base c.args.publisher.now.events c.in_ok-entry.entry (made_in c.args.ready.now) given.issuer given.group given.text
    c.is_legal.ensures.legal c.requires.made.made c.in_ok-entry.ensures.entry.issuer_is c.in_ok-entry.ensures.entry.text_is).0

pub hold-requires-clause-image : goal.hold-requires-clause-image
hold-requires-clause-image g c =
    let given = c.requires.made.given in
    c.in_ok-image.ensures
    ∙ sym (ap (λ (p : Position). p.image)
    (c.what_a_desk_makes_goes_on.ensures g.J.Naming.base c.args.publisher.now.events c.in_ok-entry.entry (made_in c.args.ready.now) given.issuer given.group given.text
    c.is_legal.ensures.legal c.requires.made.made c.in_ok-entry.ensures.entry.issuer_is c.in_ok-entry.ensures.entry.text_is).1)

pub returns-clause-legal : goal.returns-clause-legal
returns-clause-legal g c =
    let given = c.requires.made.given in
    (c.what_a_desk_makes_goes_on.ensures g.J.Naming.base c.args.publisher.now.events c.in_ok-entry.entry (made_in c.args.ready.now) given.issuer given.group given.text
    c.is_legal.ensures.legal c.requires.made.made c.in_ok-entry.ensures.entry.issuer_is c.in_ok-entry.ensures.entry.text_is).0

pub returns-clause-leads : goal.returns-clause-leads
returns-clause-leads g c =
    let given = c.requires.made.given in
    (c.what_a_desk_makes_goes_on.ensures g.J.Naming.base c.args.publisher.now.events c.in_ok-entry.entry (made_in c.args.ready.now) given.issuer given.group given.text
    c.is_legal.ensures.legal c.requires.made.made c.in_ok-entry.ensures.entry.issuer_is c.in_ok-entry.ensures.entry.text_is).1
