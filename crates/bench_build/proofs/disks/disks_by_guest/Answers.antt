-- One disk more is the next of its guest.
use Rattle.std.proofs.Common.{◌≡◌, ◌+◌, ◌<◌, List, [], ◌∷◌, ◌++◌, length, length-set, take, sym, ap, ◌∙◌, subst, arith}
use Rattle.std.proofs.lemmas.Iterator.Adapters.{YieldsList-from_vec}
use Rattle.std.proofs.lemmas.Iterator.Consumers.{YieldsList-turn}
use Rattle.std.proofs.lemmas.List.{length_push, length-take-le, take_more}
use Rattle.exp_file.specs.declared.disk_spec.DiskSpec.{DiskSpec}
use Rattle.bench_build.specs.Setups.{disk_configs}
use Rattle.bench_build.proofs.GuestDisks.{held_few, lists_put}
use Rattle.bench_build.proofs.disks.disks_by_guest.Goals as goal

pub overflow_cast-n : goal.overflow_cast-n
overflow_cast-n c =
    let t = YieldsList-turn (YieldsList-from_vec {s = c.into_iter-content-iterator.result} c.args.contents.items (cc) (cc)) c.loop-content.yielded c.loop-content.content-iterator c.loop-content.yielded_by c.next.result c.next.new.self c.in-Some.content c.in-Some.is c.next.ensures.steps in
    let l = c.loop-content in
    let spec : DiskSpec = c.index-specs-index.result in
    let within : l.index < length c.args.specs.now = omega (arith, t.0, c.requires.all, l.invariant.at) in
    let guest : spec.guest < c.args.guests = subst (λ (z : DiskSpec). z.guest < c.args.guests) (sym c.index-specs-index.is) (c.requires.guests l.index spec within) in
    let held = held_few l.lists.items c.index_mut-list.result.now spec.guest (take l.index c.args.specs.now) l.yielded c.index_mut-list.ensures.value
    (omega (arith, guest, l.invariant.count)) (l.invariant.each spec.guest guest) in
    omega (arith, held, length-take-le l.index c.args.specs.now (omega (arith, within)), within, c.requires.few, c.len-n.ensures)

pub loop-content-preserved : goal.loop-content-preserved
loop-content-preserved c =
    let t = YieldsList-turn (YieldsList-from_vec {s = c.into_iter-content-iterator.result} c.args.contents.items (cc) (cc)) c.loop-content.yielded c.loop-content.content-iterator c.loop-content.yielded_by c.next.result c.next.new.self c.in-Some.content c.in-Some.is c.next.ensures.steps in
    let l = c.loop-content in
    let specs = c.args.specs.now in
    let spec : DiskSpec = c.index-specs-index.result in
    let within : l.index < length specs = omega (arith, t.0, c.requires.all, l.invariant.at) in
    let guest : spec.guest < c.args.guests = subst (λ (z : DiskSpec). z.guest < c.args.guests) (sym c.index-specs-index.is) (c.requires.guests l.index spec within) in
    let there : spec.guest < length l.lists.items = omega (arith, guest, l.invariant.count) in
    let long : length (take l.index specs) ≡ length l.yielded = omega (arith, length-take-le l.index specs (omega (arith, within)), l.invariant.at) in
    let more : take (l.index + 1) specs ≡ take l.index specs ++ spec ∷ [] = take_more specs l.index spec within ∙ ap (λ (z : DiskSpec). take l.index specs ++ z ∷ []) (sym c.index-specs-index.is) in
    record {
      at = omega (arith, l.invariant.at, length_push l.yielded c.in-Some.content);
      count = omega (arith, l.invariant.count, length-set l.lists.items spec.guest c.push.new.self);
      each = λ g lt.
          lists_put l.lists.items c.index_mut-list.result.now c.push.new.self c.disk_config.result c.len-n.result (take l.index specs) l.yielded spec c.in-Some.content g
          c.index_mut-list.ensures.value there c.in-Ok.ensures.items c.disk_config.ensures (omega (arith, c.len-n.ensures)) long (l.invariant.each g lt)
          ∙ ap (λ (ds : List DiskSpec). disk_configs g 0 ds (l.yielded ++ c.in-Some.content ∷ [])) (sym more);
    }
