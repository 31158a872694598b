use Rattle.desk_rules.proofs.RecoveryLaws.{lead_along, room_within}
use Rattle.desk_rules.proofs.laws.records_lead_along_a_history.Goals as goal

-- records that lead on are those of a legal history
pub returns-clause-leads : goal.returns-clause-leads
returns-clause-leads c = lead_along

-- a journal that ends within its bound had room for each
pub returns-clause-room : goal.returns-clause-room
returns-clause-room c = room_within
