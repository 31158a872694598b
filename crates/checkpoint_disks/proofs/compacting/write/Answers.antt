-- The bytes that were made are those of the new file.
use Rattle.std.proofs.Common.{◌≡◌, ◌++◌, ◌∙◌}
use Rattle.std.proofs.lemmas.Result.{on_ok_weaker}
use Rattle.checkpoint_disks.specs.Compacting.{new_body}
use Rattle.checkpoint_disks.proofs.Compacts.{new_body_is, files_are, done_is}
use Rattle.checkpoint_disks.proofs.compacting.write.Goals as goal

pub returns-clause-files : goal.returns-clause-files
returns-clause-files g c epoch number rows before made holds =
    let is : c.deref.result.now ++ c.deref-2.result.now ≡ new_body epoch number rows = new_body_is epoch number rows c.deref.result.now c.deref-2.result.now (c.deref.ensures.value ∙ made.fields_are) (c.deref-2.ensures.value ∙ made.image_is) in
    files_are before (c.deref.result.now ++ c.deref-2.result.now) (new_body epoch number rows) _ _ is (c.write_behind.ensures.files before holds)

pub returns-clause-done : goal.returns-clause-done
returns-clause-done g c =
    on_ok_weaker c.write_behind.result (λ done epoch number rows made.
    let is : c.deref.result.now ++ c.deref-2.result.now ≡ new_body epoch number rows = new_body_is epoch number rows c.deref.result.now c.deref-2.result.now (c.deref.ensures.value ∙ made.fields_are) (c.deref-2.ensures.value ∙ made.image_is) in
    done_is (c.deref.result.now ++ c.deref-2.result.now) (new_body epoch number rows) _ is done) c.write_behind.ensures.done
