-- A statement that leaves the desk as it was does nothing to the disks.
use Rattle.std.proofs.Common.{◌≡◌, ℕ, ◌≤◌, true, false, inl, sym, ◌∙◌, subst, arith}
use Rattle.std.specs.Prelude.{Option}
use Rattle.racf_outside.specs.Disk.{History}
use Rattle.desk_rules.proofs.IdleLaws.{same_idle}
use Rattle.statements.specs.declared.statement.Statement.{Statement}
use Rattle.racf_stream.specs.Durable.{StreamOn, Stays, Moves}

pub stays_moves : {D : Type 0} (tells : D → Option History) (faults : D → ℕ) (item : Statement) (s t : StreamOn D) → Stays s t → Moves tells faults item s t
stays_moves tells faults item s t stays =
    record {
      moments = inl stays.store;
      idle = same_idle s.store t.store stays.store;
      cause = λ running halted. let no : true ≡ false = sym halted ∙ stays.halted ∙ running in cc;
      no_fewer = subst (λ store. faults s.store.journal.disk ≤ faults store.journal.disk) (sym stays.store) (omega arith);
    }
