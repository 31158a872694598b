use Rattle.std.proofs.Common.{◌∷◌, ◌++◌, [], ℕ, List, sym, ap, ◌∙◌}
use Rattle.std.proofs.lemmas.Result.{err_from_is_err_and}
use Rattle.std.proofs.lemmas.List.{map-append}
use Rattle.database_image.specs.Description.{member}
use Rattle.racf_profiles.specs.LawfulProfiles.{member_name}
use Rattle.database_image.proofs.Loops.{goes_on, ends}
use Rattle.database_image.proofs.members.members_from.Goals as goal

pub returns-in_err-member : goal.returns-in_err-member
returns-in_err-member c =
    let p = err_from_is_err_and c.from_residual.result c.from_residual.ensures.1 in
    rw (p.1, p.2) (ends c.in_err-member.field-0.0 (member c.args.categories.now c.args.class c.args.profile.now) c.args.count c.loop.counter c.loop.items.items c.loop.left _ c.loop-test.true (rw (← c.deref.ensures.value) c.in_err-member.ensures.reads) c.loop.invariant.read)

pub loop-preserved : goal.loop-preserved
loop-preserved c = record {
  noted = rw c.in_ok-push.ensures.items (c.in_ok-member.ensures.noted ∙ ap (λ (names : List (List ℕ)). names ++ member_name c.in_ok-member.member ∷ []) c.loop.invariant.noted ∙ sym (map-append member_name c.loop.items.items (c.in_ok-member.member ∷ [])));
  read = rw c.in_ok-push.ensures.items (goes_on (member c.args.categories.now c.args.class c.args.profile.now) c.args.count c.loop.counter c.loop.items.items c.loop.left c.in_ok-member.member c.next_member.new.left _ c.loop-test.true (rw (← c.deref.ensures.value) c.in_ok-member.ensures.reads) c.loop.invariant.read);
}
