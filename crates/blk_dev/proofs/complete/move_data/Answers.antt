use Rattle.std.proofs.Common.{◌≡◌, ◌+◌, ◌*◌, true, slice_range, sym, subst, ap, ◌∙◌, ◌≤◌}
use Rattle.byte_pages.specs.LittleEndian.{with_bytes}
use Rattle.split_queue.specs.Streams.{stream, stream_len}
use Rattle.dev_face.specs.BlkStates.{FlightState}
use Rattle.blk_dev.proofs.Pieces.{content_written}
use Rattle.blk_dev.proofs.complete.move_data.Goals as goal

pub returns-in_ok-write_data-clause-content : goal.returns-in_ok-write_data-clause-content
returns-in_ok-write_data-clause-content c =
    let good : c.args.good ≡ true = c.if-not-good.false in
    let header : 16 ≤ stream_len c.args.flight.now.chain.readable = subst (λ (f : FlightState). 16 ≤ stream_len f.chain.readable) c.flight.view_is c.flight.invariant.header in
    let kind : c.args.flight.now.kind ≡ 1 = sym (ap (λ (f : FlightState). f.kind) c.flight.view_is) ∙ c.if-flight-eq-WRITE.true in
    c.in_ok-write_data.ensures.bytes
    ∙ (ap (λ (f : FlightState). with_bytes c.args.content.now.bytes (512 * f.sector) (slice_range (stream c.args.ram.now f.chain.readable) 16 (16 + c.args.len))) c.flight.view_is
    ∙ content_written c.args.ram.now c.args.content.now.bytes c.args.flight.now c.args.len c.args.good c.requires.ranges header c.requires.len good kind)
