use Rattle.plan_text.proofs.Room.{puts_room, part_room}
use Rattle.plan_text.proofs.law.plans_see_no_room.Goals as goal

pub returns-clause-whole : goal.returns-clause-whole
returns-clause-whole c = puts_room

pub returns-clause-part : goal.returns-clause-part
returns-clause-part c = part_room
