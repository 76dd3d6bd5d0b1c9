use Rattle.host_plan.proofs.Room.{placed_room, over_room}
use Rattle.host_plan.proofs.law.placements_see_no_room.Goals as goal

pub returns-clause-placed : goal.returns-clause-placed
returns-clause-placed c = placed_room

pub returns-clause-over : goal.returns-clause-over
returns-clause-over c = over_room
