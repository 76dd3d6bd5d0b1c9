-- One image more is that of the next guest.
use Rattle.std.proofs.Common.{◌≡◌, ◌<◌, length, ap, ◌∙◌, arith}
use Rattle.exp_file.specs.declared.experiment.Experiment.{Experiment}
use Rattle.bench_build.proofs.Standing.{some_at, count_push, taken_is, loaded_more}
use Rattle.bench_build.proofs.builder.Builder.add_image.Goals as goal

pub returns-clause-answer : goal.returns-clause-answer
returns-clause-answer c = λ e slots i g b at.
    let guests = c.as_slice-guests.result.now in
    let same : guests ≡ e.guests.items = c.as_slice-guests.ensures ∙ ap (λ (x : Experiment). x.guests.items) {x = c.args.self.now.experiment.now} {y = e} b.experiment in
    let here : c.len-index.result ≡ length i.images = omega (arith, c.len-index.ensures, b.count) in
    let within : c.len-index.result < length guests = omega (arith, c.requires, c.len-index.ensures, ap length c.as_slice-guests.ensures) in
    record {
      loaded = c.in_ok-loaded.loaded;
      is = taken_is guests e.guests.items c.len-index.result (length i.images) c.index-guests-index.result g c.args.bytes.now c.in_ok-loaded.loaded same here within
          c.index-guests-index.is at c.in_ok-loaded.ensures;
    }

pub returns-clause-building : goal.returns-clause-building
returns-clause-building c = λ e slots i b.
    let self = c.args.self.now in
    let guests = c.as_slice-guests.result.now in
    let same : guests ≡ e.guests.items = c.as_slice-guests.ensures ∙ ap (λ (x : Experiment). x.guests.items) {x = c.args.self.now.experiment.now} {y = e} b.experiment in
    let here : c.len-index.result ≡ length i.images = omega (arith, c.len-index.ensures, b.count) in
    let within : c.len-index.result < length guests = omega (arith, c.requires, c.len-index.ensures, ap length c.as_slice-guests.ensures) in
    let g = some_at e.guests.items (length i.images) (omega (arith, here, within, ap length {x = guests} {y = e.guests.items} same)) in
    let one = taken_is guests e.guests.items c.len-index.result (length i.images) c.index-guests-index.result g.0 c.args.bytes.now c.in_ok-loaded.loaded same here within
    c.index-guests-index.is g.1 c.in_ok-loaded.ensures in
    record {
      experiment = b.experiment;
      placement = b.placement;
      loaded = loaded_more e.guests.items i.images self.loaded.items c.push.new.self.items c.args.bytes.now c.in_ok-loaded.loaded g.0 c.in-Ok.ensures.items b.loaded g.1 one;
      count = count_push self.loaded.items c.push.new.self.items c.in_ok-loaded.loaded i.images c.args.bytes.now c.in-Ok.ensures.items b.count;
      contents = b.contents;
    }
