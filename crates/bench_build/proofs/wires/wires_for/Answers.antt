use Rattle.exp_file.specs.declared.link_spec.LinkSpec.{LinkSpec}
use Rattle.bench_build.proofs.LinkWires.{wires_more}
use Rattle.bench_build.proofs.wires.wires_for.Goals as goal

pub loop-link-preserved : goal.loop-link-preserved
loop-link-preserved c =
    let l = c.loop-link in
    let none : LinkSpec = record { a = 0; a_nic = 0; b = 0; b_nic = 0; bandwidth = 0; delay = 0; queue = 0 } in
    wires_more c.args.links.now l.link-index none l.wires.items c.push.new.self.items c.push-in-loop-link.new.self.items c.loop-link-test.true l.invariant
    c.in_ok-push.ensures.ok c.in_ok-push-2.ensures.ok
