-- One machine more is that of the next guest.
use Rattle.std.proofs.Common.{◌≡◌, ◌<◌, List, [], ◌∷◌, ◌++◌, length, map, ap, subst, arith}
use Rattle.std.proofs.lemmas.Iterator.Adapters.{YieldsList-from_vec}
use Rattle.std.proofs.lemmas.Iterator.Consumers.{YieldsList-turn}
use Rattle.std.proofs.lemmas.List.{length_push}
use Rattle.std.proofs.lemmas.List.Elements.{All-push, All-same}
use Rattle.dev_face.specs.States.{opening as opened}
use Rattle.dev_face.specs.declared.config.DevConfig.{DevConfig}
use Rattle.exp_file.specs.Links.{nics_of}
use Rattle.lookahead_core.specs.Motion.{Idle}
use Rattle.guest_machine.specs.MachineView.{machine_state, machine_clock}
use Rattle.bench_build.specs.Setups.{pipes_at}
use Rattle.bench_build.specs.Stocks.{counts, items_of}
use Rattle.bench_build.specs.Takings.{AreDisks, MayBuild, with_base, with_nics, others_at}
use Rattle.bench_build.proofs.GuestDisks.{disks_turn}
use Rattle.bench_build.proofs.GuestNics.{others_turn, pipes_turn}
use Rattle.bench_build.proofs.KindLists.{enough_left, left_after}
use Rattle.bench_build.proofs.Standing.{all_get, count_push, read_at, states_push}
use Rattle.bench_build.proofs.machines.machines_for.Goals as goal

pub overflow_cast-index : goal.overflow_cast-index
overflow_cast-index g c =
    let l = c.loop-image in
    let t = YieldsList-turn (YieldsList-from_vec {s = c.into_iter-image-iterator.result} c.args.loaded.items (cc) (cc)) l.yielded l.image-iterator l.yielded_by c.next.result c.next.new.self c.in-Some.image c.in-Some.is c.next.ensures.steps in
    let here : c.len-index.result ≡ length l.yielded = omega (arith, c.len-index.ensures, l.invariant.count) in
    let within : length l.yielded < length c.args.guests.now = omega (arith, t.0, c.requires.all) in
    omega (arith, here, within, c.requires.few)

pub machine_for-requires-clause-guest : goal.machine_for-requires-clause-guest
machine_for-requires-clause-guest g c =
    let l = c.loop-image in
    let t = YieldsList-turn (YieldsList-from_vec {s = c.into_iter-image-iterator.result} c.args.loaded.items (cc) (cc)) l.yielded l.image-iterator l.yielded_by c.next.result c.next.new.self c.in-Some.image c.in-Some.is c.next.ensures.steps in
    let here : c.len-index.result ≡ length l.yielded = omega (arith, c.len-index.ensures, l.invariant.count) in
    let within : length l.yielded < length c.args.guests.now = omega (arith, t.0, c.requires.all) in
    omega (arith, here, within, c.requires.few)

pub machine_for-requires-clause-spec : goal.machine_for-requires-clause-spec
machine_for-requires-clause-spec g c =
    let l = c.loop-image in
    let t = YieldsList-turn (YieldsList-from_vec {s = c.into_iter-image-iterator.result} c.args.loaded.items (cc) (cc)) l.yielded l.image-iterator l.yielded_by c.next.result c.next.new.self c.in-Some.image c.in-Some.is c.next.ensures.steps in
    let here : c.len-index.result ≡ length l.yielded = omega (arith, c.len-index.ensures, l.invariant.count) in
    let within : length l.yielded < length c.args.guests.now = omega (arith, t.0, c.requires.all) in
    let spec = c.index-guests-index.result in
    all_get MayBuild c.args.guests.now (length l.yielded) spec c.requires.guests
    (read_at c.args.guests.now c.len-index.result (length l.yielded) spec here (omega (arith, here, within)) c.index-guests-index.is)

pub machine_for-requires-clause-disks : goal.machine_for-requires-clause-disks
machine_for-requires-clause-disks g c =
    let l = c.loop-image in
    let t = YieldsList-turn (YieldsList-from_vec {s = c.into_iter-image-iterator.result} c.args.loaded.items (cc) (cc)) l.yielded l.image-iterator l.yielded_by c.next.result c.next.new.self c.in-Some.image c.in-Some.is c.next.ensures.steps in
    let here : c.len-index.result ≡ length l.yielded = omega (arith, c.len-index.ensures, l.invariant.count) in
    let within : length l.yielded < length c.args.guests.now = omega (arith, t.0, c.requires.all) in
    let same = disks_turn c.args.disks.now c.index-disks-index.result c.len-index.result (length l.yielded) c.deref.result.now c.index-disks-index.is here
    (omega (arith, here, within, c.requires.lists)) c.deref.ensures.value in
    subst AreDisks same (c.requires.disks (length l.yielded) within)

pub machine_for-requires-clause-enough : goal.machine_for-requires-clause-enough
machine_for-requires-clause-enough g c = λ k.
    let l = c.loop-image in
    let t = YieldsList-turn (YieldsList-from_vec {s = c.into_iter-image-iterator.result} c.args.loaded.items (cc) (cc)) l.yielded l.image-iterator l.yielded_by c.next.result c.next.new.self c.in-Some.image c.in-Some.is c.next.ensures.steps in
    let here : c.len-index.result ≡ length l.yielded = omega (arith, c.len-index.ensures, l.invariant.count) in
    let within : length l.yielded < length c.args.guests.now = omega (arith, t.0, c.requires.all) in
    let spec = c.index-guests-index.result in
    let same = disks_turn c.args.disks.now c.index-disks-index.result c.len-index.result (length l.yielded) c.deref.result.now c.index-disks-index.is here
    (omega (arith, here, within, c.requires.lists)) c.deref.ensures.value in
    let at = read_at c.args.guests.now c.len-index.result (length l.yielded) spec here (omega (arith, here, within)) c.index-guests-index.is in
    let own = others_turn c.args.guests.now c.args.disks.now c.len-index.result (length l.yielded) spec c.deref.result.now here at same in
    enough_left k (others_at c.args.guests.now c.args.disks.now) (length l.yielded) (length c.args.guests.now) (counts (items_of l.stock) k) (counts (items_of c.args.stock.now) k)
    (with_nics c.len-index.result spec.nics c.deref.result.now) own within (c.requires.enough k) (l.invariant.left k)

pub loop-image-preserved : goal.loop-image-preserved
loop-image-preserved g c =
    let l = c.loop-image in
    let t = YieldsList-turn (YieldsList-from_vec {s = c.into_iter-image-iterator.result} c.args.loaded.items (cc) (cc)) l.yielded l.image-iterator l.yielded_by c.next.result c.next.new.self c.in-Some.image c.in-Some.is c.next.ensures.steps in
    let here : c.len-index.result ≡ length l.yielded = omega (arith, c.len-index.ensures, l.invariant.count) in
    let within : length l.yielded < length c.args.guests.now = omega (arith, t.0, c.requires.all) in
    let guests = c.args.guests.now in
    let made = c.in_ok-machine.machine in
    let image = c.in-Some.image in
    let others = others_at guests c.args.disks.now in
    let spec = c.index-guests-index.result in
    let same = disks_turn c.args.disks.now c.index-disks-index.result c.len-index.result (length l.yielded) c.deref.result.now c.index-disks-index.is here
    (omega (arith, here, within, c.requires.lists)) c.deref.ensures.value in
    let at = read_at c.args.guests.now c.len-index.result (length l.yielded) spec here (omega (arith, here, within)) c.index-guests-index.is in
    let own = others_turn c.args.guests.now c.args.disks.now c.len-index.result (length l.yielded) spec c.deref.result.now here at same in
    let configs = with_nics c.len-index.result spec.nics c.deref.result.now in
    record {
      states = states_push machine_state l.machines.items c.push.new.self.items made (λ n. map opened (with_base (others n))) (λ n. pipes_at c.args.links.now n (nics_of guests n)) guests
          l.yielded image spec (map opened (with_base configs)) (pipes_at c.args.links.now c.len-index.result spec.nics) c.in-Ok.ensures.items l.invariant.states
          c.in_ok-machine.ensures.state at (ap (λ (cs : List DevConfig). map opened (with_base cs)) {x = others (length l.yielded)} {y = configs} own)
          (pipes_turn guests c.args.links.now c.len-index.result (length l.yielded) spec here at);
      count = count_push l.machines.items c.push.new.self.items made l.yielded image c.in-Ok.ensures.items l.invariant.count;
      idle = All-same (λ m. machine_clock m ≡ Idle 0) c.push.new.self.items (l.machines.items ++ made ∷ []) c.in-Ok.ensures.items
          (All-push (λ m. machine_clock m ≡ Idle 0) l.machines.items made l.invariant.idle c.in_ok-machine.ensures.idle);
      stock = c.in_ok-machine.ensures.stock;
      left = λ k.
          left_after k others (length l.yielded) (length (l.yielded ++ image ∷ [])) (counts (items_of l.stock) k) (counts (items_of c.machine_for.new.stock) k)
          (counts (items_of c.args.stock.now) k) configs own (length_push l.yielded image) (c.in_ok-machine.ensures.taken k) (l.invariant.left k);
    }
