use Rattle.std.proofs.Common.{sym, ap, ◌∙◌, subst}
use Rattle.std.specs.Prelude.{Option, option_map, ℕ, IfSome}
use Rattle.link_pipe.specs.Piped.{Piped, NoneBefore}
use Rattle.link_pipe.specs.PipeStates.{state_of}
use Rattle.dev_list.specs.Sending.{least_left}
use Rattle.dev_list.specs.Walks.{least_of}
use Rattle.dev_list.proofs.Leaving.{first_is_least}
use Rattle.dev_list.proofs.quiet.least_left.Goals as goal

pub returns-in-Some : goal.returns-in-Some
returns-in-Some c =
    let held = c.in-Some.pipe.backlog.held in
    c.least_of.ensures ∙ ap (λ (o : Option ℕ). least_of o c.args.limit) c.next_leave.ensures.first
    ∙ first_is_least c.args.limit held (subst (λ (o : Option ℕ). IfSome o (λ n. NoneBefore n held)) c.next_leave.ensures.first c.next_leave.ensures.none_before)
    ∙ ap (λ (o : Option Piped). least_left c.args.limit (option_map state_of o)) (sym c.in-Some.is)
