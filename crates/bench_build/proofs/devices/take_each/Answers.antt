-- One device more is that of the next configuration.
use Rattle.std.proofs.Common.{◌≡◌, ◌+◌, ◌<◌, List, [], ◌∷◌, ◌++◌, append_assoc, map, take, drop, get_or, length, ap, sym, ◌∙◌, arith}
use Rattle.std.proofs.lemmas.List.{drop_more, map_more, map_push}
use Rattle.dev_face.specs.States.{DevState, opening}
use Rattle.dev_face.specs.declared.config.DevConfig.{DevConfig}
use Rattle.bench_build.specs.Stocks.{rank}
use Rattle.bench_build.specs.Takings.{number_for}
use Rattle.bench_build.proofs.KindLists.{rank_low, stock_set, counts_set}
use Rattle.bench_build.proofs.devices.take_each.Goals as goal

pub loop-config-preserved : goal.loop-config-preserved
loop-config-preserved g c =
    let state = g.D.Device.state in
    let l = c.loop-config in
    let configs = c.args.configs.now in
    let before = map state c.args.devices.now.items in
    let given : DevConfig = c.config-item.result in
    let here : given ≡ get_or configs l.config-index given = c.config-item.is in
    let at = c.rank.ensures ∙ ap rank c.kind_of.ensures in
    let there : c.rank.result < length l.stock = omega (arith, c.rank.ensures, rank_low c.kind_of.result, l.auto.stock, c.requires.one_each) in
    record {
      stock = stock_set state l.stock given c.rank.result c.take_one.new.list at there l.invariant.stock c.in_ok-device.ensures.rest;
      left = λ k.
          let fewer = counts_set l.stock given c.rank.result c.index-stock-rank.result c.take_one.new.list k at there c.in_ok-device.ensures.count in
          omega (arith, fewer, l.invariant.left k, ap (number_for k) (drop_more configs l.config-index given c.loop-config-test.true ∙ ap (λ (z : DevConfig). z ∷ drop (l.config-index + 1) configs) (sym here)));
      opened = ap (map state) c.in-Ok.ensures.items
          ∙ map_push state l.devices.items c.in_ok-device.device
          ∙ ap (λ (zs : List DevState). zs ++ state c.in_ok-device.device ∷ []) l.invariant.opened
          ∙ ap (λ (z : DevState). (before ++ map opening (take l.config-index configs)) ++ z ∷ []) c.in_ok-device.ensures.opened
          ∙ ap (λ (z : DevConfig). (before ++ map opening (take l.config-index configs)) ++ opening z ∷ []) here
          ∙ append_assoc before (map opening (take l.config-index configs)) (opening (get_or configs l.config-index given) ∷ [])
          ∙ ap (λ (zs : List DevState). before ++ zs) (sym (map_more opening configs l.config-index given c.loop-config-test.true));
    }
