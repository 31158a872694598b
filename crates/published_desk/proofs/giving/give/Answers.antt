use Rattle.std.proofs.Common.{◌≡◌, [], ◌∷◌, ◌++◌, Some, ap, sym, ◌∙◌, subst}
use Rattle.desk_rules.specs.Position.{Position}
use Rattle.desk_rules.specs.Made.{DeskOn, made_in, installed}
use Rattle.command_history.specs.declared.events.Event.TheVariants.{Added}
use Rattle.command_history.specs.Reached.{reached}
use Rattle.raclist_snapshots.specs.Publishing.{Publishing, ended_with, MarkIs}
use Rattle.command_history.proofs.Marks.{goes_push}
use Rattle.raclist_snapshots.proofs.Marks.{mark_any}
use Rattle.published_desk.proofs.Onward.{onward}
use Rattle.published_desk.proofs.giving.give.Goals as goal

-- what the desk made goes on from what is published
pub hold-requires-clause-legal : goal.hold-requires-clause-legal
hold-requires-clause-legal g c =
    (onward c.what_a_desk_makes_goes_on.ensures g.J.Naming.base c.args.desk.now.position c.args.publisher.now.events c.in-Ok-entry_of.entry (made_in c.in-Ok.ready) _ _ _
    c.requires.position c.is_legal.ensures.legal c.in-Ok.ensures.accepted c.in-Ok-entry_of.ensures.issuer c.in-Ok-entry_of.ensures.text).0

pub hold-requires-clause-image : goal.hold-requires-clause-image
hold-requires-clause-image g c =
    c.in-Ok-try_clone.ensures
    ∙ ap (λ (p : Position). p.image)
    (onward c.what_a_desk_makes_goes_on.ensures g.J.Naming.base c.args.desk.now.position c.args.publisher.now.events c.in-Ok-entry_of.entry (made_in c.in-Ok.ready) _ _ _
    c.requires.position c.is_legal.ensures.legal c.in-Ok.ensures.accepted c.in-Ok-entry_of.ensures.issuer c.in-Ok-entry_of.ensures.text).1

-- the history goes on until then
pub finish-requires : goal.finish-requires
finish-requires g c =
    record {
      mark = subst (MarkIs (Some c.in-Ok-entry_of.entry)) (ap (λ (p : Publishing). p.events) (sym c.in-Ok-hold.ensures.held)) (mark_any (Some c.in-Ok-entry_of.entry) c.args.publisher.now.events c.requires.goes_on);
    }

-- where a disk failed, its mark names the command
pub returns-in-Err-commit-clause-ended : goal.returns-in-Err-commit-clause-ended
returns-in-Err-commit-clause-ended g c = (
  c.in-Ok-entry_of.entry,
  ap (λ (p : Publishing). p.events) c.finish.ensures.ended
      ∙ ap (λ (p : Publishing). ended_with (Some c.in-Ok-entry_of.entry) p.events) c.in-Ok-hold.ensures.held,
)

-- and both stand behind it
pub returns : goal.returns
returns g c =
    let made = made_in c.in-Ok.ready in
    let leads = (onward c.what_a_desk_makes_goes_on.ensures g.J.Naming.base c.args.desk.now.position c.args.publisher.now.events c.in-Ok-entry_of.entry made _ _ _
    c.requires.position c.is_legal.ensures.legal c.in-Ok.ensures.accepted c.in-Ok-entry_of.ensures.issuer c.in-Ok-entry_of.ensures.text).1 in
    let events : c.publish.new.self.events ≡ c.args.publisher.now.events ++ Added c.in-Ok-entry_of.entry ∷ [] =
    ap (λ (p : Publishing). p.events) c.publish.ensures
    ∙ ap (λ (p : Publishing). p.events ++ Added c.in-Ok-entry_of.entry ∷ []) c.in-Ok-hold.ensures.held in
    let stood : c.commit.new.self.position ≡ c.args.desk.now.position =
    ap (λ (d : DeskOn _). d.position) c.in-Ok-commit.ensures.committed ∙ ap (λ (d : DeskOn _). d.position) c.in-Ok.ensures.made in
    let stands : c.install.new.self.position ≡ installed c.args.desk.now.position made =
    ap (λ (d : DeskOn _). d.position) c.install.ensures.installed ∙ ap (λ (p : Position). installed p made) stood in
    record {
      together = record {
        position = stands ∙ (leads ∙ ap (reached g.J.Naming.base) (sym events));
        settled = ap (λ (d : DeskOn _). d.committed) c.install.ensures.installed;
        free = ap (λ (p : Publishing). p.held) c.publish.ensures;
        goes_on = rw events (goes_push c.args.publisher.now.events c.in-Ok-entry_of.entry c.requires.goes_on);
      };
      ended = tt;
    }
