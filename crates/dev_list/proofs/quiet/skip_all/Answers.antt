use Rattle.std.proofs.Common.{[], All, rules, map, ap, sym, ◌∙◌, subst, get_or, refl}
use Rattle.std.proofs.lemmas.List.{length-map}
use Rattle.dev_face.specs.States.{IsSetUp, kind_of}
use Rattle.dev_face.specs.Calls.{MaySkip}
use Rattle.dev_list.proofs.Skipped.{kinds_all, skip_one, skip_walk, set_up_all}
use Rattle.dev_list.proofs.Walking.{along_start, along_more, along_end, still_there}
use Rattle.dev_list.proofs.quiet.skip_all.Goals as goal

pub loop-i-init : goal.loop-i-init
loop-i-init g c = along_start (skip_one c.args.tick) (map g.D.Device.state c.args.devices.now) [] []

pub skip_to-requires-clause-quiet : goal.skip_to-requires-clause-quiet
skip_to-requires-clause-quiet g c =
    let at = ap (get_or c.loop-i.devices c.loop-i.i) c.index-devices-i.is in
    still_there g.D.Device.state (MaySkip c.args.tick) _ _ c.loop-i.devices c.loop-i.i _ _ _ _ _ c.loop-i.invariant (search rules) at c.requires.quiet

pub loop-i-preserved : goal.loop-i-preserved
loop-i-preserved g c =
    let at = ap (get_or c.loop-i.devices c.loop-i.i) c.index-devices-i.is in
    along_more g.D.Device.state (skip_one c.args.tick) _ c.loop-i.devices c.loop-i.i [] [] [] [] _ c.skip_to.new.self [] [] c.loop-i.invariant (search rules) at c.skip_to.ensures refl refl

pub returns-clause-devices : goal.returns-clause-devices
returns-clause-devices g c =
    (along_end g.D.Device.state (skip_one c.args.tick) _ c.loop-i.devices c.loop-i.i _ _ _ _ c.loop-i.invariant (search (rules, length-map))).devices
    ∙ skip_walk c.args.tick 0 [] (map g.D.Device.state c.args.devices.now)

pub returns-clause-set_up : goal.returns-clause-set_up
returns-clause-set_up g c =
    let over = along_end g.D.Device.state (skip_one c.args.tick) _ c.loop-i.devices c.loop-i.i _ _ _ _ c.loop-i.invariant (search (rules, length-map)) in
    subst (All IsSetUp) (sym (over.devices ∙ skip_walk c.args.tick 0 [] (map g.D.Device.state c.args.devices.now))) (set_up_all c.args.tick (map g.D.Device.state c.args.devices.now) c.requires.quiet)

pub returns-clause-kinds : goal.returns-clause-kinds
returns-clause-kinds g c = ap (map kind_of) (returns-clause-devices g c) ∙ kinds_all c.args.tick (map g.D.Device.state c.args.devices.now)
