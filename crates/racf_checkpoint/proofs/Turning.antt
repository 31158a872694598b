-- The disks by their sides, and by what they are for.
use Rattle.std.proofs.Common.{ℕ, ◌≡◌, ◌∙◌, List, Option, sym, ap, subst}
use Rattle.racf_outside.specs.Crashes.{StaysIn}
use Rattle.racf_outside.specs.Disk.{History}
use Rattle.racf_journal.specs.Opening.{OnlySynced}
use Rattle.racf_journal.specs.Repair.{IsFound}
use Rattle.checkpoint_disks.specs.declared.counting.Side.{Side}
use Rattle.checkpoint_disks.specs.declared.counting.Side.TheVariants.{First, Second}
use Rattle.checkpoint_disks.specs.Files.{CheckpointRead}
use Rattle.racf_checkpoint.specs.Stored.{StoreOn, pick, other, disk_on, StaysPossible}
use Rattle.racf_checkpoint.specs.Finding.{IsRead, IsSeen}
use Rattle.racf_checkpoint.proofs.Finding.{seen_found, seen_read}
use Rattle.racf_checkpoint.proofs.Syncing.{synced_stays, possible_joined}

-- ---- what was picked is picked again

pub first_back : {X : Type 0} (side at : Side) (first second live idle : X) → at ≡ side → live ≡ pick side first second → idle ≡ pick side second first → pick at live idle ≡ first
first_back First at first second live idle same p q = ap (λ s. pick s live idle) same ∙ p
first_back Second at first second live idle same p q = ap (λ s. pick s live idle) same ∙ q

pub second_back : {X : Type 0} (side at : Side) (first second live idle : X) → at ≡ side → live ≡ pick side first second → idle ≡ pick side second first → pick at idle live ≡ second
second_back First at first second live idle same p q = ap (λ s. pick s idle live) same ∙ q
second_back Second at first second live idle same p q = ap (λ s. pick s idle live) same ∙ p

module _ {D : Type 0} (tells : D → Option History) where
  -- ---- of what was seen

  pub picked_found : (side : Side) (first second live : D) (kept : CheckpointRead) (end : List ℕ) → live ≡ pick side first second → IsSeen (tells first) (tells second) side kept end → IsFound kept.start kept.gate kept.records end (tells live)
  picked_found First first second live kept end is s = subst (λ (d : D). IsFound kept.start kept.gate kept.records end (tells d)) (sym is) (seen_found (tells first) (tells second) First kept end s)
  picked_found Second first second live kept end is s = subst (λ (d : D). IsFound kept.start kept.gate kept.records end (tells d)) (sym is) (seen_found (tells first) (tells second) Second kept end s)

  pub picked_read : (side : Side) (first second live idle : D) (kept : CheckpointRead) (end : List ℕ) → live ≡ pick side first second → idle ≡ pick side second first → IsSeen (tells first) (tells second) side kept end → IsRead (tells live) (tells idle) side kept
  picked_read First first second live idle kept end p q s =
      subst (λ (d : D). IsRead (tells d) (tells idle) First kept) (sym p) (subst (λ (d : D). IsRead (tells first) (tells d) First kept) (sym q) (seen_read (tells first) (tells second) First kept end s))
  picked_read Second first second live idle kept end p q s =
      subst (λ (d : D). IsRead (tells d) (tells idle) Second kept) (sym p) (subst (λ (d : D). IsRead (tells second) (tells d) Second kept) (sym q) (seen_read (tells first) (tells second) Second kept end s))

  pub found_first : (a : Option History) (side at : Side) (first second live idle : D) → at ≡ side → live ≡ pick side first second → idle ≡ pick side second first → StaysPossible a (tells first) → StaysPossible a (tells (pick at live idle))
  found_first a side at first second live idle same p q s = subst (λ (d : D). StaysPossible a (tells d)) (sym (first_back side at first second live idle same p q)) s

  pub found_second : (a : Option History) (side at : Side) (first second live idle : D) → at ≡ side → live ≡ pick side first second → idle ≡ pick side second first → StaysPossible a (tells second) → StaysPossible a (tells (pick at idle live))
  found_second a side at first second live idle same p q s = subst (λ (d : D). StaysPossible a (tells d)) (sym (second_back side at first second live idle same p q)) s

  -- ---- where one of them was synced, and the other opened behind that

  pub stays_back : (a : Option History) (side : Side) (live idle first second : D) → first ≡ pick side live idle → second ≡ pick side idle live → StaysPossible a (tells live) → StaysPossible a (tells (pick side first second))
  stays_back a First live idle first second p q s = subst (λ (d : D). StaysPossible a (tells d)) (sym p) s
  stays_back a Second live idle first second p q s = subst (λ (d : D). StaysPossible a (tells d)) (sym q) s

  moved_first : (side : Side) (before live idle opened rest : D) → rest ≡ idle → OnlySynced (tells before) (tells (pick side live idle)) → StaysPossible (tells live) (tells opened) → StaysPossible (tells before) (tells (pick side opened rest))
  moved_first First before live idle opened rest same s stays = possible_joined (tells before) (tells live) (tells opened) s stays
  moved_first Second before live idle opened rest same s stays = subst (λ (d : D). StaysPossible (tells before) (tells d)) (sym same) (synced_stays (tells before) (tells idle) s)

  moved_second : (side : Side) (before live idle opened rest : D) → rest ≡ idle → OnlySynced (tells before) (tells (pick side idle live)) → StaysPossible (tells live) (tells opened) → StaysPossible (tells before) (tells (pick side rest opened))
  moved_second First before live idle opened rest same s stays = subst (λ (d : D). StaysPossible (tells before) (tells d)) (sym same) (synced_stays (tells before) (tells idle) s)
  moved_second Second before live idle opened rest same s stays = possible_joined (tells before) (tells live) (tells opened) s stays

  pub loaded_first : (side at : Side) (before live idle opened rest : D) → at ≡ side → rest ≡ idle → OnlySynced (tells before) (tells (pick side live idle)) → StaysPossible (tells live) (tells opened) → StaysPossible (tells before) (tells (pick at opened rest))
  loaded_first side at before live idle opened rest turned same s stays = subst (λ (d : Side). StaysPossible (tells before) (tells (pick d opened rest))) (sym turned) (moved_first side before live idle opened rest same s stays)

  pub loaded_second : (side at : Side) (before live idle opened rest : D) → at ≡ side → rest ≡ idle → OnlySynced (tells before) (tells (pick side idle live)) → StaysPossible (tells live) (tells opened) → StaysPossible (tells before) (tells (pick at rest opened))
  loaded_second side at before live idle opened rest turned same s stays = subst (λ (d : Side). StaysPossible (tells before) (tells (pick d rest opened))) (sym turned) (moved_second side before live idle opened rest same s stays)

  -- the disks handed back
  pub back_first : (side : Side) (before live idle first second : D) → pick side second first ≡ idle → OnlySynced (tells before) (tells (pick side live idle)) → StaysPossible (tells live) (tells (pick side first second)) → StaysPossible (tells before) (tells first)
  back_first First before live idle first second same s stays = possible_joined (tells before) (tells live) (tells first) s stays
  back_first Second before live idle first second same s stays = subst (λ (d : D). StaysPossible (tells before) (tells d)) (sym same) (synced_stays (tells before) (tells idle) s)

  pub back_second : (side : Side) (before live idle first second : D) → pick side second first ≡ idle → OnlySynced (tells before) (tells (pick side idle live)) → StaysPossible (tells live) (tells (pick side first second)) → StaysPossible (tells before) (tells second)
  back_second First before live idle first second same s stays = subst (λ (d : D). StaysPossible (tells before) (tells d)) (sym same) (synced_stays (tells before) (tells idle) s)
  back_second Second before live idle first second same s stays = possible_joined (tells before) (tells live) (tells second) s stays

-- ---- the disks of a store

live_on : {D : Type 0} (store : StoreOn D) (side : Side) → store.side ≡ side → disk_on side store ≡ store.journal.disk
live_on store First same = ap (λ s. pick s store.journal.disk store.idle) same
live_on store Second same = ap (λ s. pick s store.idle store.journal.disk) same

idle_on : {D : Type 0} (store : StoreOn D) (side : Side) → store.side ≡ side → disk_on (other side) store ≡ store.idle
idle_on store First same = ap (λ s. pick s store.idle store.journal.disk) same
idle_on store Second same = ap (λ s. pick s store.journal.disk store.idle) same

pub stays_live : {D : Type 0} (tells : D → Option History) (P : List ℕ → Type 0) (a : Option History) (store : StoreOn D) (side : Side) → store.side ≡ side → StaysIn P a (tells store.journal.disk) → StaysIn P a (tells (disk_on side store))
stays_live {D} tells P a store side same s = subst (λ (d : D). StaysIn P a (tells d)) (sym (live_on store side same)) s

pub stays_idle : {D : Type 0} (tells : D → Option History) (P : List ℕ → Type 0) (a : Option History) (store : StoreOn D) (side : Side) → store.side ≡ side → StaysIn P a (tells store.idle) → StaysIn P a (tells (disk_on (other side) store))
stays_idle {D} tells P a store side same s = subst (λ (d : D). StaysIn P a (tells d)) (sym (idle_on store side same)) s
