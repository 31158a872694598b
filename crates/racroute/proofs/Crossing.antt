-- What threads may share: a desk, a publisher and an office go from thread to thread, so they share the office behind
-- its lock.
--     Racf-sync      a `&Racf` may be shared by threads where the disk, the two copies, their operation and the
--                    waiting may be sent, and the copies shared
use denote.RattleType.{RattleType}
use denote.Param.Send.{IsSend, IsSync, sendable}
use Rattle.std.proofs.Crossing.{crosses, frees, send, sync}
use Rattle.std.specs.contracts.alloc.Global as Heap
use Rattle.std.specs.contracts.impls.GlobalAllocator.TheImpl.{ghosts}
use Rattle.std.specs.declared.sync.ledger.Ledger as ledger
use Rattle.std.proofs.sync.ledger.Book.TheSendSync as sums
use Rattle.std.below.core.proofs.once.OnceLock.TheSendSync as slot
use Rattle.left_right.specs.declared.Absorb as absorb
use Rattle.left_right.specs.contracts.handles.WriteHandle as WriteHandle
use Rattle.left_right.proofs.handles.WriteHandle.TheSendSync as writer
use Rattle.racf_outside.specs.declared.disk.Disk as disk
use Rattle.racf_checkpoint.proofs.store.Store.TheSendSync as store
use Rattle.raclist_image.proofs.image.Image.TheSendSync as image
use Rattle.racf_desk.below.row_tables.proofs.tables.RowTables.TheSendSync as tables
use Rattle.racf_desk.below.racf_database.specs.contracts.database.Database as Database
use Rattle.racf_desk.specs.contracts.desk.Desk as Desk
use Rattle.command_history.specs.declared.rule.Naming as naming
use Rattle.command_history.proofs.book.Book.TheSendSync as book
use Rattle.command_history.proofs.turn.Turn.TheSendSync as turn
use Rattle.command_history.proofs.events.Accepted.TheSendSync as accepted
use Rattle.raclist_snapshots.proofs.note.Note.TheSendSync as note
use Rattle.raclist_snapshots.specs.contracts.held.Held as Held
use Rattle.raclist_snapshots.specs.contracts.publisher.Publisher as Publisher
use Rattle.racroute.proofs.rest.Rest.TheSendSync as rest
use Rattle.racroute.specs.contracts.office.Office as Office
use Rattle.racroute.specs.contracts.racf.Racf as Racf

Database-send : IsSend Database.the_row
Database-send = search (tables.the_send, sendable, crosses) depth 20

module _ (D : RattleType) (d : disk.Ghosts D.Denot) where
  Desk-send : IsSend D → IsSend (Desk.the_row D d)
  Desk-send s = let database = Database-send in search (store.the_send, image.the_send, image.the_sync, sendable, crosses) depth 20

module _ (J : RattleType) (j : naming.Ghosts J.Denot) where
  Held-send : IsSend (Held.the_row J j)
  Held-send = search (slot.the_send, slot.the_sync, note.the_send, note.the_sync, image.the_send, image.the_sync, sendable, crosses) depth 20

-- the copies T, their operation O, the waiting R, and what the copies stand for, S
module _ (T O R S : RattleType) (t : absorb.Ghosts T.Denot O.Denot S.Denot) where
  writer-send : IsSend T → IsSync T → IsSend O → IsSend R → IsSend (WriteHandle.the_field T O R Heap.the_row S t ghosts).row
  writer-send st yt so sr = search (writer.the_field_send, frees, send, sync) depth 20

  module _ (J : RattleType) (j : naming.Ghosts J.Denot) where
    Publisher-send : IsSend T → IsSync T → IsSend O → IsSend R → IsSend (Publisher.the_row J T O R S j t)
    Publisher-send st yt so sr =
        let handle = writer-send st yt so sr in
        let held = Held-send J j in
        search (book.the_field_send, note.the_send, turn.the_send, image.the_send, image.the_sync, sendable, crosses) depth 20

-- the parameters as `Racf` has them, with what the copies stand for, V
module _ (J T O R S F P D V : RattleType) (j : naming.Ghosts J.Denot) (t : absorb.Ghosts T.Denot O.Denot V.Denot)
    (s : ledger.Ghosts S.Denot) (f : ledger.Ghosts F.Denot) (p : ledger.Ghosts P.Denot) (d : disk.Ghosts D.Denot) where
  Office-send : IsSend T → IsSync T → IsSend O → IsSend R → IsSend D → IsSend (Office.the_row J T O R S F P D V j t s f p d)
  Office-send st yt so sr sd =
      let desk = Desk-send D d sd in
      let publisher = Publisher-send T O R V t J j st yt so sr in
      search (accepted.the_field_send, sums.the_send, rest.the_send, sendable, crosses) depth 20

  pub Racf-sync : IsSend T → IsSync T → IsSend O → IsSend R → IsSend D → IsSync (Racf.the_row J T O R S F P D V j t s f p d)
  Racf-sync st yt so sr sd = let office = Office-send st yt so sr sd in search (sendable, crosses) depth 20
