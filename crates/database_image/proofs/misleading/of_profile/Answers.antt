use Rattle.std.proofs.Common.{rules, ◌≡◌, ◌+◌, List, [], ◌∷◌, ◌++◌, length, ◌∙◌}
use Rattle.racf_profiles.specs.LawfulProfiles.{is_of_kind}
use Rattle.database_image.specs.Facts.{Fact, told, first_broken}
use Rattle.database_image.specs.Misleading.{is_of_bytes, audit_marks, list_marks}
use Rattle.database_image.proofs.Told.{or-append}
use Rattle.database_image.proofs.misleading.of_profile.Goals as goal

pub returns : goal.returns
returns c =
    let p = c.args.profile.now in
    let place = c.args.place in
    let name : List Fact = told (place + 2) (is_of_kind c.args.kind p.name.kind) ∷ [] in
    let audit : List Fact = audit_marks (place + 12 + length p.name.text) p in
    let set : List Fact = told (place + 17 + length p.name.text) (is_of_bytes p.categories) ∷ [] in
    let lists : List Fact = list_marks (place + 57 + length p.name.text) p in
    let one : c.unless.result ≡ first_broken name = search rules in
    let two : c.of_audit.result ≡ first_broken audit = search rules in
    let three : c.unless-2.result ≡ first_broken set = search rules in
    let four : c.of_lists.result ≡ first_broken lists = search rules in
    c.or-3.ensures ∙ or-append c.or-2.result c.of_lists.result ((name ++ audit) ++ set) lists
    (c.or-2.ensures ∙ or-append c.or.result c.unless-2.result (name ++ audit) set (c.or.ensures ∙ or-append c.unless.result c.of_audit.result name audit one two) three) four
