use Rattle.std.proofs.Common.{◌≡◌, ℕ, ap, ◌∙◌}
use Rattle.dev_face.specs.BlkStates.{FlightState}
use Rattle.dev_face.specs.BlkRequests.{data_len, is_well_formed}
use Rattle.dev_face.specs.BlkCalls.{is_good}
use Rattle.blk_dev.proofs.Making.{made_one}
use Rattle.blk_dev.proofs.complete.complete.Goals as goal

pub returns-clause-pages : goal.returns-clause-pages
returns-clause-pages c =
    let size : c.data_len-len.result ≡ data_len c.args.flight.now.kind c.args.flight.now.chain = c.data_len-len.ensures ∙ ap (λ (f : FlightState). data_len f.kind f.chain) c.flight.view_is in
    let good : c.is_well_formed-good.result ≡ is_good c.args.sectors c.args.flight.now =
    c.is_well_formed-good.ensures.is
    ∙ (ap (λ (n : ℕ). is_well_formed c.args.sectors c.flight.inside.kind c.flight.inside.sector n) c.data_len-len.ensures ∙ ap (λ (f : FlightState). is_good c.args.sectors f) c.flight.view_is) in
    let moved = c.in_ok-move_data.ensures in
    made_one c.args.sectors c.data_len-len.result c.is_well_formed-good.result c.args.flight.now c.args.content.now c.move_data.new.content size good moved.stay moved.there moved.others moved.count
