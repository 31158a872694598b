-- The room that replies lend: whatever stands in it when it is given back is gathered behind them.
use Rattle.std.specs.Prelude.{ℕ, List, ◌++◌, Result}
use Rattle.std.specs.Global.{Vec}
use Rattle.std.specs.Borrow.{LendsIfOk, RattleType, MutBor, Fml, u8}
use Rattle.std.specs.contracts.alloc.Global as global
use Rattle.std.specs.contracts.vec.Vec as vec
use Rattle.std.specs.contracts.impls.GlobalAllocator.TheImpl.{ghosts}
use Rattle.statements.specs.contracts.replies.Replies.{the_row}

-- the type of lists of bytes, as the logic holds it
abbrev pub bytes_row : RattleType
bytes_row = vec.the_row u8 global.the_row ghosts

-- Where the room isn't lent, the replies stay.
abbrev pub LendsRoom : {E : Type 0} → MutBor (List ℕ) → Result (MutBor (Vec ℕ)) E → Fml
LendsRoom replies room = LendsIfOk the_row bytes_row replies room (λ written. replies.now ++ written.items) replies.now
