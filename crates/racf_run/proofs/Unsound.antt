-- The statuses that say of the disks that no sound database is there.
use Rattle.std.proofs.Common.{◌≡◌, ◌≢◌, ℕ, inl, inr, subst}
use Rattle.std.specs.Prelude.{◌⊎◌}
use Rattle.racf_checkpoint.specs.declared.fault.StoreFault.{StoreFault}
use Rattle.racf_checkpoint.specs.declared.fault.StoreFault.TheVariants as fault
use Rattle.statements.specs.declared.status.Status.{Status}
use Rattle.statements.specs.declared.status.Status.TheVariants.{Done, ReadFault, WriteFault, DiskFault, NotFormatted, Damaged, NoMemory}
use Rattle.racf_run.specs.Racf.{IsUnsound, opening_status}
use Rattle.racf_run.specs.Running.{unopened_status}
use Rattle.racf_run.specs.declared.opening.Unopened.{Unopened}
use Rattle.racf_run.specs.declared.opening.Unopened.TheVariants.{Input, Output}

-- one that is none of them
pub is_neither : (status : Status) → status ≢ NotFormatted → ((place : ℕ) → status ≢ Damaged place) → IsUnsound status → ⊥
is_neither status formatted undamaged (inl is) = formatted is
is_neither status formatted undamaged (inr is) = undamaged is.0 is.1

-- They aren't told of a disk's fault.
pub no_disk_fault : (why : StoreFault) → IsUnsound (opening_status why) → why ≢ fault.DiskFault
no_disk_fault why unsound is =
    is_neither DiskFault (λ (e : DiskFault ≡ NotFormatted). cc) (λ place (e : DiskFault ≡ Damaged place). cc)
    (subst (λ (w : StoreFault). IsUnsound (opening_status w)) is unsound)

pub no_memory_sound : IsUnsound NoMemory → ⊥
no_memory_sound =
    is_neither NoMemory (λ (e : NoMemory ≡ NotFormatted). cc) (λ place (e : NoMemory ≡ Damaged place). cc)

-- nor where a checkpoint was to be written
pub ends_sound : (status : Status) → (status ≡ Done) ⊎ ((status ≡ DiskFault) ⊎ (status ≡ NoMemory)) → IsUnsound status → ⊥
ends_sound status ends =
    is_neither status (λ e. formatted ends e) (λ place e. undamaged place ends e)
  where
    formatted : (status ≡ Done) ⊎ ((status ≡ DiskFault) ⊎ (status ≡ NoMemory)) → status ≢ NotFormatted
    formatted (inl is) e = cc
    formatted (inr (inl is)) e = cc
    formatted (inr (inr is)) e = cc

    undamaged : (place : ℕ) → (status ≡ Done) ⊎ ((status ≡ DiskFault) ⊎ (status ≡ NoMemory)) → status ≢ Damaged place
    undamaged place (inl is) e = cc
    undamaged place (inr (inl is)) e = cc
    undamaged place (inr (inr is)) e = cc

-- nor of files
pub unopened_sound : (why : Unopened) → IsUnsound (unopened_status why) → ⊥
unopened_sound Input =
    is_neither ReadFault (λ (e : ReadFault ≡ NotFormatted). cc) (λ place (e : ReadFault ≡ Damaged place). cc)
unopened_sound Output =
    is_neither WriteFault (λ (e : WriteFault ≡ NotFormatted). cc) (λ place (e : WriteFault ≡ Damaged place). cc)
