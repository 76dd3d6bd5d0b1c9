use Rattle.std.proofs.Common.{◌<◌, ◌≤◌, ◌∙◌, sym, ap, subst, arith, length, inl, inr, refl}
use Rattle.std.proofs.lemmas.Bool.{cases_lt, false≢true}
use Rattle.link_pipe.specs.Piped.{Piped, NoneBefore, offered}
use Rattle.link_pipe.proofs.Kept.{fits_put, sound_later, sound_put, offered_put, offered_full}
use Rattle.link_pipe.proofs.pipe.Pipe.put.Goals as goal

pub overflow_add-end : goal.overflow_add-end
overflow_add-end c =
    let s = c.self.inside in
    let lt : s.least ≤ c.args.now = subst (λ (p : Piped). p.least ≤ c.args.now) (sym c.self.view_is) c.requires.later in
    let k = fits_put s.params s.last_end s.least c.args.now s.held.items c.self.invariant.0 lt c.requires.early in
    omega (arith, k, c.max.ensures, c.frame_len.ensures.most)

pub invariant_of-self : goal.invariant_of-self
invariant_of-self c =
    let s = c.self.inside in
    let lt : s.least ≤ c.args.now = subst (λ (p : Piped). p.least ≤ c.args.now) (sym c.self.view_is) c.requires.later in
    let nb : NoneBefore c.args.now s.held.items = subst (λ (p : Piped). NoneBefore c.args.now p.backlog.held) (sym c.self.view_is) c.requires.none_before in
    let room : length s.held.items < s.params.queue = omega (arith, c.in-Ok.ensures.variant.0 refl, c.self.invariant.1) in
    rw c.in-Ok.ensures.ok (sound_put s.params s.last_end s.least c.args.now c.max.result c.frame_len.result c.args.frame s.held.items c.self.invariant.0 lt nb room c.max.ensures c.frame_len.ensures.least c.frame_len.ensures.most, c.self.invariant.1)

pub invariant_of-self-in-Err : goal.invariant_of-self-in-Err
invariant_of-self-in-Err c =
    let s = c.self.inside in
    let lt : s.least ≤ c.args.now = subst (λ (p : Piped). p.least ≤ c.args.now) (sym c.self.view_is) c.requires.later in
    let nb : NoneBefore c.args.now s.held.items = subst (λ (p : Piped). NoneBefore c.args.now p.backlog.held) (sym c.self.view_is) c.requires.none_before in
    rw c.in-Err.ensures.err.1 (sound_later s.params s.last_end s.least c.args.now s.held.items c.self.invariant.0 lt nb, c.self.invariant.1)

pub returns-in-Ok-clause-pipe : goal.returns-in-Ok-clause-pipe
returns-in-Ok-clause-pipe c =
    let s = c.self.inside in
    let room : length s.held.items < s.params.queue = omega (arith, c.in-Ok.ensures.variant.0 refl, c.self.invariant.1) in
    rw c.in-Ok.ensures.ok (offered_put s.params s.last_end s.least c.args.now c.max.result c.frame_len.result c.args.frame s.held.items room c.max.ensures c.frame_len.ensures.len ∙ ap (λ (p : Piped). offered p c.args.now c.args.frame) c.self.view_is)

pub returns-in-Err-clause-pipe : goal.returns-in-Err-clause-pipe
returns-in-Err-clause-pipe c =
    let s = c.self.inside in
    let full : s.params.queue ≤ length s.held.items = elim (cases_lt (length s.held.items) s.held.capacity) [ inl h ↦ absurd (false≢true (c.in-Err.ensures.variant.1 h)) | inr h ↦ omega (arith, c.self.invariant.1) ] in
    rw c.in-Err.ensures.err.1 (offered_full s.params s.last_end s.least c.args.now c.args.frame s.held.items full ∙ ap (λ (p : Piped). offered p c.args.now c.args.frame) c.self.view_is)
