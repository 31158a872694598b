use Rattle.std.proofs.Common.{◌≡◌, map, refl, ap, ◌∙◌}
use Rattle.database_image.proofs.NameLaws.{new_of, put_last}
use Rattle.database_image.proofs.names.Names.note.Goals as goal

pub returns-clause-new : goal.returns-clause-new
returns-clause-new c =
    let one = new_of (λ name. name.items) c.in_ok-kept.kept c.self.inside.seen.keys in
    let two : map (λ name. name.items) c.self.inside.seen.keys ≡ c.args.self.now = c.self.view_is in
    let three : c.in_ok-kept.kept.items ≡ c.args.name.now = c.in_ok-kept.ensures.items in
    c.in_ok-_place.ensures.added ∙ one ∙ rw (two, three) refl

pub returns-clause-noted : goal.returns-clause-noted
returns-clause-noted c = λ h.
    let two : map (λ name. name.items) c.self.inside.seen.keys ≡ c.args.self.now = c.self.view_is in
    let three : c.in_ok-kept.kept.items ≡ c.args.name.now = c.in_ok-kept.ensures.items in
    ap (map (λ name. name.items)) c.in_ok-_place.ensures.keys ∙ put_last (λ name. name.items) c.in_ok-kept.kept c.self.inside.seen.keys (rw (two, three) h) ∙ rw (two, three) refl
