-- How the stages of a command end it.
use Rattle.tb_top.proofs.Common.{ℕ, List, Option, Result, Ok, Err, inl, inr, refl, sym, subst, WriteCause, View, Experiment, without_room, Fits, IsFirstOverload, placed, Over, Inputs, Suffices, OpenFault, IsUnopened, Ends, no_memory, no_experiment, ended, Refuses, IsAsked, Origin, Run, Plan, AreInputs, Plans, OrMemory, open_status, run_status, World, Quiet, Status, Done, WriteFault, Memory}
use Rattle.tb_io.specs.declared.write_err.WriteErr.{WriteErr}
use Rattle.tb_io.specs.declared.write_err.WriteErr.TheVariants as write
use Rattle.plan_text.specs.Puts.{PutsPlan, PutsPlanPart}
use Rattle.open_images.specs.declared.open_fault.OpenFault.TheVariants as open_is
use Rattle.run_views.specs.Runs.{Runs}
use Rattle.tb_top.specs.declared.status.Status.TheVariants.{Overload}

-- there is no experiment
pub unasked : {w : World} (s : Status) → Quiet w → OrMemory (Refuses w.words w.files w.files_after) s → Ends w s
unasked Memory quiet h = no_memory quiet
unasked s quiet h = no_experiment quiet h

-- the plan of an experiment was asked for, and the room of lists is none of what is said of it
module _ (over : (e : Experiment) (p : List ℕ) (o : Over) → IsFirstOverload e p o → IsFirstOverload (without_room e) p o)
    (whole : (e : Experiment) (p : List ℕ) (old new : Option (List ℕ)) → PutsPlan e p old new → PutsPlan (without_room e) p old new)
    (part : (e : Experiment) (p : List ℕ) (old new : Option (List ℕ)) → PutsPlanPart e p old new → PutsPlanPart (without_room e) p old new)
    {w : World} (o : Origin) (e : Experiment) (asked : IsAsked w.words w.files.held o Plan (without_room e)) where
  pub plan_ends : (s : Status) → Plans e (placed (without_room e)) w.out w.out_after s → Ends w s
  plan_ends Memory (inl quiet) = no_memory quiet
  plan_ends Memory (inr puts) = ended o Plan _ asked (part e _ w.out.taken w.out_after.taken puts)
  plan_ends Done (fits, puts) = ended o Plan _ asked (fits, whole e _ w.out.taken w.out_after.taken puts)
  plan_ends (Overload slot need have) (first, puts) = ended o Plan _ asked (over e _ _ first, whole e _ w.out.taken w.out_after.taken puts)
  plan_ends WriteFault (rose, puts) = ended o Plan _ asked (rose, part e _ w.out.taken w.out_after.taken puts)
  plan_ends _ h = absurd h

-- a run that fits was asked for, and its bench was not opened, or run
module _ {w : World} (o : Origin) (n : ℕ) (view : View) (e : Experiment) (asked : IsAsked w.words w.files.held o (Run n view) e) (fits : Fits e (placed e)) where
  pub unopened_ends : (f : OpenFault) → Quiet w → IsUnopened w o e f → Ends w (open_status f)
  unopened_ends open_is.Memory quiet h = no_memory quiet
  unopened_ends (open_is.TooLong f) quiet h = ended o (Run n view) e asked (quiet, fits, h)
  unopened_ends (open_is.ReadFault f) quiet h = ended o (Run n view) e asked (quiet, fits, h)
  unopened_ends (open_is.Build f) quiet h = ended o (Run n view) e asked (quiet, fits, h)

  module _ (i : Inputs) (loaded : AreInputs w.files.held o e i) (enough : Suffices e w.stock) where
    pub run_ends : (r : Result (Unit {0}) WriteErr) → WriteCause w.out.faults w.out_after.faults r → Runs view e (placed e) i n w.out.taken w.out_after.taken r → Ends w (run_status r)
    run_ends r cause (inl (none, quiet)) = subst (λ z. Ends w (run_status z)) (sym none) (no_memory quiet)
    run_ends (Ok u) cause (inr puts) = ended o (Run n view) e asked (fits, record { inputs = i; loaded = loaded; enough = enough; holds = puts })
    run_ends (Err write.NoMemory) cause (inr puts) = ended o (Run n view) e asked (fits, record { inputs = i; loaded = loaded; enough = enough; holds = puts })
    run_ends (Err write.Failed) cause (inr puts) = ended o (Run n view) e asked (cause.failed refl, (fits, record { inputs = i; loaded = loaded; enough = enough; holds = puts }))
