-- A checkpoint is written of the rows, or memory was wanting, or a disk failed.
use Rattle.std.proofs.Common.{◌≤◌, ◌∙◌, ap, subst, sym, rules}
use Rattle.racf_profiles.specs.Lawful.{AreLawful}
use Rattle.raclist_image.specs.Imaged.{Imaged}
use Rattle.desk_rules.specs.Made.{DeskOn}
use Rattle.desk_rules.specs.Outcome.{most_number}
use Rattle.racf_desk.proofs.DeskLaws.{kept_takes, rests_there, next_epoch, checkpoint_stays, checkpoint_leaves, checkpoint_said, checkpoint_kept, checkpoint_done, checkpoint_last}
use Rattle.racf_desk.proofs.desk.Desk.compact.Goals as goal

pub compact-written-requires : goal.compact-written-requires
compact-written-requires g c = record {
  ready = kept_takes g.D.Disk.tells c.self.inside c.args.self.now c.self.invariant c.self.view_is c.requires.settled c.requires.running;
  lawful = subst AreLawful (sym c.in_ok-rows.ensures.rows) c.in_ok-rows.ensures.lawful;
  number = subst (λ n. n ≤ most_number) (sym (c.generation.ensures ∙ ap (λ (i : Imaged). i.generation) c.deref.ensures)) c.self.invariant.image.number;
}

-- there was no memory for the rows
pub returns-in_err-rows-clause-moments : goal.returns-in_err-rows-clause-moments
returns-in_err-rows-clause-moments g c =
    rests_there g.D.Disk.tells c.args.self.now.store _ c.args.self.now.position (ap (λ (d : DeskOn _). d.store) c.self.view_is) (c.is_at_rest.ensures c.requires.running)

-- it was written
pub invariant_of-self-in-Ok : goal.invariant_of-self-in-Ok
invariant_of-self-in-Ok g c =
    let desk = c.self.inside in
    let counts = c.generation.ensures ∙ ap (λ (i : Imaged). i.generation) c.deref.ensures in
    let said = c.in-Ok.ensures in
    checkpoint_kept g.D.Disk.tells desk c.args.self.now c.self.invariant c.self.view_is c.requires.running c.requires.settled c.compact-written.new.self c.generation.result c.in_ok-rows.rows counts c.in_ok-rows.ensures.rows
    (record { done = said.done; lawful = said.lawful; start = said.start; gate = said.gate; epoch = next_epoch _ _ said.epoch; last = λ is. (c.compact-written.ensures.last is).1 })
    c.gate-self-inside.result c.gate-self-inside.ensures

pub returns-in-Ok-clause-done : goal.returns-in-Ok-clause-done
returns-in-Ok-clause-done g c =
    let desk = c.self.inside in
    let counts = c.generation.ensures ∙ ap (λ (i : Imaged). i.generation) c.deref.ensures in
    let said = c.in-Ok.ensures in
    checkpoint_done g.D.Disk.tells desk c.args.self.now c.self.invariant c.self.view_is c.requires.running c.requires.settled c.compact-written.new.self c.generation.result c.in_ok-rows.rows counts c.in_ok-rows.ensures.rows
    (record { done = said.done; lawful = said.lawful; start = said.start; gate = said.gate; epoch = next_epoch _ _ said.epoch; last = λ is. (c.compact-written.ensures.last is).1 })
    c.gate-self-inside.result c.gate-self-inside.ensures

pub returns-in-Ok-clause-last : goal.returns-in-Ok-clause-last
returns-in-Ok-clause-last g c =
    let desk = c.self.inside in
    let counts = c.generation.ensures ∙ ap (λ (i : Imaged). i.generation) c.deref.ensures in
    let said = c.in-Ok.ensures in
    checkpoint_last g.D.Disk.tells desk c.args.self.now c.self.invariant c.self.view_is c.requires.running c.requires.settled c.compact-written.new.self c.generation.result c.in_ok-rows.rows counts c.in_ok-rows.ensures.rows
    (record { done = said.done; lawful = said.lawful; start = said.start; gate = said.gate; epoch = next_epoch _ _ said.epoch; last = λ is. (c.compact-written.ensures.last is).1 })
    c.gate-self-inside.result c.gate-self-inside.ensures

pub returns-in-Ok-clause-leaves : goal.returns-in-Ok-clause-leaves
returns-in-Ok-clause-leaves g c =
    let desk = c.self.inside in
    let counts = c.generation.ensures ∙ ap (λ (i : Imaged). i.generation) c.deref.ensures in
    let said = c.in-Ok.ensures in
    checkpoint_leaves g.D.Disk.tells desk c.args.self.now c.self.invariant c.self.view_is c.requires.running c.requires.settled c.compact-written.new.self c.generation.result c.in_ok-rows.rows counts c.in_ok-rows.ensures.rows
    (record { done = said.done; lawful = said.lawful; start = said.start; gate = said.gate; epoch = next_epoch _ _ said.epoch; last = λ is. (c.compact-written.ensures.last is).1 })
    c.gate-self-inside.result c.gate-self-inside.ensures c.what_is_stored_is_said.ensures

pub returns-in-Ok-clause-checkpoint : goal.returns-in-Ok-clause-checkpoint
returns-in-Ok-clause-checkpoint g c =
    let desk = c.self.inside in
    let counts = c.generation.ensures ∙ ap (λ (i : Imaged). i.generation) c.deref.ensures in
    let said = c.in-Ok.ensures in
    checkpoint_said g.D.Disk.tells desk c.args.self.now c.self.invariant c.self.view_is c.requires.running c.requires.settled c.compact-written.new.self c.generation.result c.in_ok-rows.rows counts c.in_ok-rows.ensures.rows
    (record { done = said.done; lawful = said.lawful; start = said.start; gate = said.gate; epoch = next_epoch _ _ said.epoch; last = λ is. (c.compact-written.ensures.last is).1 })
    c.gate-self-inside.result c.gate-self-inside.ensures c.what_is_stored_is_said.ensures

pub returns-in-Ok-clause-moments : goal.returns-in-Ok-clause-moments
returns-in-Ok-clause-moments g c =
    let counts = c.generation.ensures ∙ ap (λ (i : Imaged). i.generation) c.deref.ensures in
    checkpoint_stays g.D.Disk.tells c.self.inside c.args.self.now c.self.invariant c.self.view_is c.requires.running c.requires.settled c.compact-written.new.self c.generation.result c.in_ok-rows.rows counts c.in_ok-rows.ensures.rows c.compact-written.ensures.moments

-- a disk failed
pub returns-in-Err-DiskFault-clause-moments : goal.returns-in-Err-DiskFault-clause-moments
returns-in-Err-DiskFault-clause-moments g c =
    let counts = c.generation.ensures ∙ ap (λ (i : Imaged). i.generation) c.deref.ensures in
    checkpoint_stays g.D.Disk.tells c.self.inside c.args.self.now c.self.invariant c.self.view_is c.requires.running c.requires.settled c.compact-written.new.self c.generation.result c.in_ok-rows.rows counts c.in_ok-rows.ensures.rows c.compact-written.ensures.moments

-- there was no memory for its image
pub returns-in-Err : goal.returns-in-Err
returns-in-Err g c =
    let counts = c.generation.ensures ∙ ap (λ (i : Imaged). i.generation) c.deref.ensures in
    record {
      done = tt;
      journal = tt;
      side = tt;
      epoch = tt;
      last = λ is. tt;
      leaves = tt;
      checkpoint = tt;
      moments = checkpoint_stays g.D.Disk.tells c.self.inside c.args.self.now c.self.invariant c.self.view_is c.requires.running c.requires.settled c.compact-written.new.self c.generation.result c.in_ok-rows.rows counts c.in_ok-rows.ensures.rows c.compact-written.ensures.moments;
      live = search rules;
      fault = search rules;
      halted = search rules;
      memory = search rules;
      nothing_made = search rules;
      settled = search rules;
      cause = search rules;
      no_fewer = search rules;
    }
