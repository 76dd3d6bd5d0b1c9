use Rattle.std.proofs.Common.{◌≡◌, ◌≤◌, ◌<◌, ℕ, Bool, true, false, arith, refl, sym, ◌∙◌, ap, subst}
use Rattle.lookahead_core.specs.CoreWords.{StandsFor, Rests, ticks_done, goes, is_begun}
use Rattle.lookahead_core.specs.SkipWords.{skip_of}
use Rattle.lookahead_core.specs.declared.node.Node.{Ghosts}
use Rattle.lookahead_core.specs.declared.node_core.Core.{Core}
use Rattle.slot_sched.specs.Turns.{Went}
use Rattle.slot_sched.proofs.Comes.{went_on, went_quietly, uses_some}
use Rattle.slot_sched.proofs.scheduler.Scheduler.go_on.Goals as goal

none : (n : ℕ) → n ≤ 0 → n ≡ 0
none n h = omega arith

-- where some ticks are taken, no tick is begun
none_begun : {N : Type 0} {G : Ghosts N} (core : Core N G) (who units k : ℕ) → k ≡ skip_of core who units → 0 < k → is_begun core who ≡ false
none_begun core who units k e some = decide (is_begun core who) refl
  where
    decide : (b : Bool) → is_begun core who ≡ b → is_begun core who ≡ false
    decide true is = let zero_is : k ≡ 0 = rw is at e in absurd (omega arith)
    decide false is = is

pub returns-then-skipped-gt0-clause-went : goal.returns-then-skipped-gt0-clause-went
returns-then-skipped-gt0-clause-went g c = λ x st.
    let ev = c.skip-skipped.ensures in
    let lt : c.args.who < x.count = subst (λ n. c.args.who < n) st.tells.count c.requires.who in
    let idle : is_begun c.args.self.now.core c.args.who ≡ false = none_begun c.args.self.now.core c.args.who c.most_ticks-most.result c.skip-skipped.result ev.exact c.if-skipped-gt0.true in
    subst (Went x c.args.self.now.core c.skip-skipped.new.self c.args.who c.args.self.now.target c.skip-skipped.result) (sym c.clear.ensures)
    (went_quietly x c.args.self.now.core c.skip-skipped.new.self c.args.who c.args.self.now.target c.skip-skipped.result (ev.rests c.requires.ready.rests) lt (ev.progress x st) c.if-skipped-gt0.true ev.done (ev.begun ∙ idle)
    (λ less. omega (arith, ev.few, c.most_ticks-most.ensures.within (omega (arith, less, c.done.ensures)), c.done.ensures)) (ev.idle x st))

pub returns-then-skipped-gt0-clause-ready : goal.returns-then-skipped-gt0-clause-ready
returns-then-skipped-gt0-clause-ready g c = record { going = c.skip-skipped.ensures.going; rests = c.skip-skipped.ensures.rests c.requires.ready.rests }

pub returns-clause-went : goal.returns-clause-went
returns-clause-went g c = λ x st.
    let mid = c.skip-skipped.new.self in
    let same : mid ≡ c.args.self.now.core = c.skip-skipped.ensures.nothing (none c.skip-skipped.result c.if-skipped-gt0.false) in
    let ev = c.in_ok-advanced.ensures in
    let a = c.in_ok-advanced.advanced in
    let rest : Rests mid = c.skip-skipped.ensures.rests c.requires.ready.rests in
    let may : goes mid c.args.who ≡ true = subst (λ o. goes o c.args.who ≡ true) (sym same) c.requires.goes in
    let some : 1 ≤ a.used = uses_some c.args.self.now.core mid c.advance.new.self a.stop c.args.who c.args.units a.used c.clear.new.self.items c.advance.new.recs.items same c.requires.goes ev.stop (ev.uses rest) in
    let st' : StandsFor mid x = subst (λ o. StandsFor o x) (sym same) st in
    let lt : c.args.who < x.count = subst (λ n. c.args.who < n) st.tells.count c.requires.who in
    subst (λ o. Went x o c.advance.new.self c.args.who c.args.self.now.target a.used c.advance.new.recs.items) same
    (went_on x mid c.advance.new.self a.stop c.args.who c.args.self.now.target c.args.units a.used c.advance.new.recs.items (ev.rests rest) lt may (ev.progress x st')
    (rw c.clear.ensures at ev.stop) some (λ h. rw c.clear.ensures at (ev.recs h x st')))

pub returns-clause-some : goal.returns-clause-some
returns-clause-some g c =
    let same = c.skip-skipped.ensures.nothing (none c.skip-skipped.result c.if-skipped-gt0.false) in
    let ev = c.in_ok-advanced.ensures in
    let a = c.in_ok-advanced.advanced in
    uses_some c.args.self.now.core c.skip-skipped.new.self c.advance.new.self a.stop c.args.who c.args.units a.used c.clear.new.self.items c.advance.new.recs.items same c.requires.goes ev.stop
    (ev.uses (c.skip-skipped.ensures.rests c.requires.ready.rests))

pub returns-clause-few : goal.returns-clause-few
returns-clause-few g c =
    let same = c.skip-skipped.ensures.nothing (none c.skip-skipped.result c.if-skipped-gt0.false) in
    omega (arith, c.in_ok-advanced.ensures.one_tick, returns-clause-some g c, ap (λ o. ticks_done o c.args.who) same)

pub returns-clause-ready : goal.returns-clause-ready
returns-clause-ready g c = record { going = c.in_ok-advanced.ensures.going; rests = c.in_ok-advanced.ensures.rests (c.skip-skipped.ensures.rests c.requires.ready.rests) }
