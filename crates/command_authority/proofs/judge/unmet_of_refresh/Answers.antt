use Rattle.std.proofs.Common.{◌≡◌, ℕ, Bool, List, Option, Some, option_map, sym, ap, ◌∙◌}
use Rattle.std.specs.List.{find}
use Rattle.std.specs.Option.{option_or}
use Rattle.command_fields.specs.declared.option_fields.SetRopts.{SetRopts}
use Rattle.command_authority.specs.declared.requirement.Requirement.{Requirement}
use Rattle.command_authority.specs.Requirements.{refreshing, refreshed_classes}
use Rattle.command_authority.specs.Authority.{is_withheld}
use Rattle.command_authority.proofs.Refreshing.{find-three, first_unmet_of_classes}
use Rattle.command_authority.proofs.judge.unmet_of_refresh.Goals as goal

-- the first class of the three lists that is withheld
all-found : (q : List ℕ → Bool) (c : SetRopts) (o one two three first : Option (List ℕ)) → one ≡ find q c.raclist → two ≡ find q c.global → three ≡ find q c.generic → first ≡ option_or one two → o ≡ option_or first three
    → o ≡ find q (refreshed_classes c)
all-found q c o one two three first h1 h2 h3 h4 h5 =
    h5 ∙ ap (λ f. option_or f three) (h4 ∙ ap (λ x. option_or x two) h1 ∙ ap (option_or (find q c.raclist)) h2) ∙ ap (option_or (option_or (find q c.raclist) (find q c.global))) h3
    ∙ find-three q c.raclist c.global c.generic

pub returns-in-Some : goal.returns-in-Some
returns-in-Some g c =
    let rows = g.V.View.rows c.args.view.now in
    let issuer = c.args.issuer.now in
    let all = all-found (is_withheld rows issuer) c.args.command.now c.or-withheld.result c.first_withheld.result c.first_withheld-2.result c.first_withheld-3.result c.or.result c.first_withheld.ensures c.first_withheld-2.ensures c.first_withheld-3.ensures c.or.ensures c.or-withheld.ensures in
    ap (λ (r : Requirement). Some r.needs) c.refreshing.ensures
    ∙ ap (option_map (λ class. (refreshing class).needs)) (sym c.in-Some.is ∙ all)
    ∙ sym (first_unmet_of_classes rows issuer (refreshed_classes c.args.command.now))

pub returns-in-None : goal.returns-in-None
returns-in-None g c =
    let rows = g.V.View.rows c.args.view.now in
    let issuer = c.args.issuer.now in
    let all = all-found (is_withheld rows issuer) c.args.command.now c.or-withheld.result c.first_withheld.result c.first_withheld-2.result c.first_withheld-3.result c.or.result c.first_withheld.ensures c.first_withheld-2.ensures c.first_withheld-3.ensures c.or.ensures c.or-withheld.ensures in
    ap (option_map (λ class. (refreshing class).needs)) (sym c.in-None.is ∙ all)
    ∙ sym (first_unmet_of_classes rows issuer (refreshed_classes c.args.command.now))
