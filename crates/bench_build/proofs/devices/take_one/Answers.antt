use Rattle.std.proofs.Common.{rules}
use Rattle.dev_face.specs.States.{IsBlankFor}
use Rattle.bench_build.proofs.Popped.{popped}
use Rattle.bench_build.proofs.devices.take_one.Goals as goal

pub returns-in_ok-set_up-in-Some-clause-rest : goal.returns-in_ok-set_up-in-Some-clause-rest
returns-in_ok-set_up-in-Some-clause-rest g c = (popped g.D.Device.state (IsBlankFor c.args.config.now) c.args.list.now.items c.pop.new.self.items c.in-Some.device (search rules) c.requires.blank).0

pub set_up-requires-clause-blank : goal.set_up-requires-clause-blank
set_up-requires-clause-blank g c = (popped g.D.Device.state (IsBlankFor c.args.config.now) c.args.list.now.items c.pop.new.self.items c.in-Some.device (search rules) c.requires.blank).1
