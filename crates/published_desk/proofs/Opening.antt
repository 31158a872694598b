-- A desk over a new database stands where a history begins that was just opened.
use Rattle.std.proofs.Common.{◌≡◌, ap, refl}
use Rattle.racf_outside.specs.declared.never_disk.NeverDisk.{NeverDisk}
use Rattle.desk_rules.specs.Made.{is_fresh, DeskOn}
use Rattle.desk_rules.specs.Position.{first_position}
use Rattle.command_history.specs.Reached.{reached}
use Rattle.published_desk.specs.Standing.{AreTogether, nothing_published}

pub together : (desk : DeskOn NeverDisk) → desk ≡ is_fresh first_position desk.store → AreTogether first_position desk nothing_published
unfolding reached
together desk fresh =
    record {
      position = ap (λ (d : DeskOn NeverDisk). d.position) fresh;
      settled = ap (λ (d : DeskOn NeverDisk). d.committed) fresh;
      free = refl;
      goes_on = refl;
    }
