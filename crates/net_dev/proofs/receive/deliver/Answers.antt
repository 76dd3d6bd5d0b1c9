use Rattle.std.proofs.Common.{◌≡◌, ℕ, ◌∷◌, List, Bool, cond, drop, sym, ◌∙◌, ap}
use Rattle.dev_face.specs.Queues.{put_with}
use Rattle.net_dev.specs.Backlogs.{first_frame}
use Rattle.net_dev.proofs.Delivering.{along_more, along_stop, along_end, first_and_rest, empty_when}
use Rattle.net_dev.proofs.receive.deliver.Goals as goal

pub frames-preserved : goal.frames-preserved
frames-preserved c =
    let e = c.in_ok-well.ensures in
    let fs : List (List ℕ) = c.frames.backlog.items in
    let rest : c.deliver_one.new.backlog.items ≡ drop 1 fs = e.backlog ∙ ap (λ (b : Bool). cond b (drop 1 fs) fs) c.if-not-well.false in
    let whole : fs ≡ first_frame fs ∷ drop 1 fs = first_and_rest fs c.frames.backlog.len c.frames.backlog.ok.0 (sym c.is_empty.ensures ∙ c.frames-test.true) in
    along_more _ _ _ _ _ (put_with c.frames.regs c.frames.queue c.frames.ram) _ _ fs _ (first_frame fs) _ c.frames.log.items _ c.frames.invariant (whole ∙ ap (λ (xs : List (List ℕ)). first_frame fs ∷ xs) (sym rest)) (sym e.well ∙ c.if-not-well.false) e.put e.recs e.size e.front

pub returns-then-not-well-clause-put : goal.returns-then-not-well-clause-put
returns-then-not-well-clause-put c =
    let e = c.in_ok-well.ensures in
    let fs : List (List ℕ) = c.frames.backlog.items in
    let kept : c.deliver_one.new.backlog.items ≡ fs = e.backlog ∙ ap (λ (b : Bool). cond b (drop 1 fs) fs) c.if-not-well.true in
    let whole : fs ≡ first_frame fs ∷ drop 1 fs = first_and_rest fs c.frames.backlog.len c.frames.backlog.ok.0 (sym c.is_empty.ensures ∙ c.frames-test.true) in
    (along_stop _ _ _ _ _ (put_with c.frames.regs c.frames.queue c.frames.ram) _ _ fs _ (drop 1 fs) (first_frame fs) _ c.frames.log.items _ c.frames.invariant whole kept (sym e.well ∙ c.if-not-well.true) e.put e.recs).put

pub returns-then-not-well-clause-left : goal.returns-then-not-well-clause-left
returns-then-not-well-clause-left c =
    let e = c.in_ok-well.ensures in
    let fs : List (List ℕ) = c.frames.backlog.items in
    let kept : c.deliver_one.new.backlog.items ≡ fs = e.backlog ∙ ap (λ (b : Bool). cond b (drop 1 fs) fs) c.if-not-well.true in
    let whole : fs ≡ first_frame fs ∷ drop 1 fs = first_and_rest fs c.frames.backlog.len c.frames.backlog.ok.0 (sym c.is_empty.ensures ∙ c.frames-test.true) in
    (along_stop _ _ _ _ _ (put_with c.frames.regs c.frames.queue c.frames.ram) _ _ fs _ (drop 1 fs) (first_frame fs) _ c.frames.log.items _ c.frames.invariant whole kept (sym e.well ∙ c.if-not-well.true) e.put e.recs).left

pub returns-then-not-well-clause-recs : goal.returns-then-not-well-clause-recs
returns-then-not-well-clause-recs c =
    let e = c.in_ok-well.ensures in
    let fs : List (List ℕ) = c.frames.backlog.items in
    let kept : c.deliver_one.new.backlog.items ≡ fs = e.backlog ∙ ap (λ (b : Bool). cond b (drop 1 fs) fs) c.if-not-well.true in
    let whole : fs ≡ first_frame fs ∷ drop 1 fs = first_and_rest fs c.frames.backlog.len c.frames.backlog.ok.0 (sym c.is_empty.ensures ∙ c.frames-test.true) in
    (along_stop _ _ _ _ _ (put_with c.frames.regs c.frames.queue c.frames.ram) _ _ fs _ (drop 1 fs) (first_frame fs) _ c.frames.log.items _ c.frames.invariant whole kept (sym e.well ∙ c.if-not-well.true) e.put e.recs).recs

pub returns-clause-put : goal.returns-clause-put
returns-clause-put c =
    (along_end _ _ _ _ _ (put_with c.frames.regs c.frames.queue c.frames.ram) _ c.frames.backlog.items _ _ c.frames.invariant (empty_when c.frames.backlog.items c.frames.backlog.len c.frames.backlog.ok.0 (sym c.is_empty.ensures ∙ c.frames-test.false))).put

pub returns-clause-left : goal.returns-clause-left
returns-clause-left c =
    (along_end _ _ _ _ _ (put_with c.frames.regs c.frames.queue c.frames.ram) _ c.frames.backlog.items _ _ c.frames.invariant (empty_when c.frames.backlog.items c.frames.backlog.len c.frames.backlog.ok.0 (sym c.is_empty.ensures ∙ c.frames-test.false))).left

pub returns-clause-recs : goal.returns-clause-recs
returns-clause-recs c =
    (along_end _ _ _ _ _ (put_with c.frames.regs c.frames.queue c.frames.ram) _ c.frames.backlog.items _ _ c.frames.invariant (empty_when c.frames.backlog.items c.frames.backlog.len c.frames.backlog.ok.0 (sym c.is_empty.ensures ∙ c.frames-test.false))).recs
