use Rattle.std.proofs.Common.{◌≡◌, ◌-◌, ◌+◌, ◌*◌, map, drop, rules, arith, ap, ◌∙◌}
use Rattle.csr_file.specs.Csrs.{bit_of}
use Rattle.csr_file.specs.declared.lines.Lines.{Lines}
use Rattle.dev_face.specs.States.{IsSetUp}
use Rattle.dev_list.specs.Walks.{external_bits}
use Rattle.dev_list.proofs.Bits.{bits_none, bits_more, bits_low, bit_low}
use Rattle.dev_list.proofs.Listed.{holds_there}
use Rattle.dev_list.proofs.access.external_bits.Goals as goal

pub loop-at-init : goal.loop-at-init
loop-at-init g c = record { low = c.requires.there; within = search rules; bits = bits_none g.D.Device.state c.args.devices.now _ c.args.now (search rules) }

pub lines-lines-requires : goal.lines-lines-requires
lines-lines-requires g c = holds_there g.D.Device.state IsSetUp c.args.devices.now (c.loop-at.at - 1) c.index-devices-at.result (search rules) c.index-devices-at.is c.requires.set_up

pub overflow_mul-bits : goal.overflow_mul-bits
overflow_mul-bits g c =
    let low = bits_low g.D.Device.state c.args.devices.now c.loop-at.at c.args.now (search rules) in
    record { fits = omega (arith, c.loop-at.invariant.bits, low) }

pub overflow_add-bits : goal.overflow_add-bits
overflow_add-bits g c =
    let low = bits_low g.D.Device.state c.args.devices.now c.loop-at.at c.args.now (search rules) in
    let bit = bit_low c.lines-lines.result.external in
    record { fits = omega (arith, c.loop-at.invariant.bits, low, bit, c.bit_of.ensures) }

pub loop-at-preserved : goal.loop-at-preserved
loop-at-preserved g c =
    let f = g.D.Device.state in
    let back : c.loop-at.at ≡ c.loop-at.at - 1 + 1 = search rules in
    record {
      low = search rules;
      within = search rules;
      bits = ap (λ b. 2 * c.loop-at.bits + b) (c.bit_of.ensures ∙ ap (λ (l : Lines). bit_of l.external) c.lines-lines.ensures)
          ∙ bits_more f c.args.devices.now (c.loop-at.at - 1) c.args.now c.loop-at.bits c.index-devices-at.result (search rules) c.index-devices-at.is
          (c.loop-at.invariant.bits ∙ ap (λ k. external_bits (drop k (map f c.args.devices.now)) c.args.now) back);
    }
