-- No file says a fault of a disk, and the last gate is within the file.
use Rattle.std.proofs.Common.{◌≤◌, ◌≡◌, Err, length, ap, arith, rules}
use Rattle.checkpoint_disks.specs.Counting.{as_read, file_on}
use Rattle.racf_checkpoint.specs.Contents.{checkpoint_fault}
use Rattle.racf_checkpoint.proofs.Seeing.{no_other_fault, gate_within}
use Rattle.racf_checkpoint.proofs.reading.see.Goals as goal

pub returns-in_err-side-clause-no_other : goal.returns-in_err-side-clause-no_other
returns-in_err-side-clause-no_other c =
    let why = c.in_err-side.field-0.0 in
    let is : c.from_residual.result ≡ Err (checkpoint_fault why) = search rules in
    rw is (no_other_fault c.args.first.now c.args.second.now why c.in_err-side.ensures.said)

pub end_of-requires : goal.end_of-requires
end_of-requires c =
    let within : c.in_ok-side.checkpoint.gate ≤ length (file_on c.in_ok-side.side c.args.first.now c.args.second.now) = gate_within (as_read c.in_ok-side.checkpoint) (file_on c.in_ok-side.side c.args.first.now c.args.second.now) c.in_ok-side.ensures.held in
    omega (arith, within, ap length c.file_on-file.ensures)
