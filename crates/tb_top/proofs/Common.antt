-- The names that most proofs cite, passed on from one place. Declares nothing.
pub use Rattle.std.proofs.Common.{◌≡◌, ℕ, List, Option, Result, Ok, Err, inl, inr, refl, sym, subst, ◌≢◌, ◌∙◌, ◌<◌, ◌≤◌, ◌⊎◌, true, [], length, Some, None, IfSome, ap, arith, ◌++◌, append-nil, map, take}
pub use Rattle.tb_io.specs.Causes.{WriteCause, Rose}
pub use Rattle.tb_io.specs.Puts.{Takes, TakesPart}
pub use Rattle.trace_rec.specs.declared.view.View.{View}
pub use Rattle.exp_file.specs.Lists.{without_room}
pub use Rattle.exp_file.specs.declared.experiment.Experiment.{Experiment}
pub use Rattle.host_plan.specs.Fits.{Fits, IsFirstOverload}
pub use Rattle.host_plan.specs.Placing.{placed}
pub use Rattle.host_plan.specs.declared.overload.Overload.{Overload as Over, Overload}
pub use Rattle.host_journal.specs.Printed.{up_to_tick}
pub use Rattle.slot_sched.specs.Legal.{IsComplete}
pub use Rattle.bench_build.specs.Inputs.{Inputs}
pub use Rattle.bench_build.specs.Setups.{host_setup, run_rules}
pub use Rattle.bench_build.specs.Stocks.{Suffices, IsShort, counts, items_of}
pub use Rattle.open_images.specs.Openings.{Loaded, AreImages, images_alone, Unopened}
pub use Rattle.open_images.specs.Reads.{IsRead, IsTooLong, IsContent, disk_limit, files_seen, FilesSeen, AreRead}
pub use Rattle.open_images.specs.declared.open_fault.OpenFault.{OpenFault}
pub use Rattle.tb_top.specs.Benches.{IsUnopened}
pub use Rattle.tb_top.specs.Ends.{Ends, no_memory, no_experiment, ended, Refuses, IsAsked, TaskEnds, Asks, IsRight, MayRun, IsTold, IsToldOf, IsPartPut, FilesServed, OutServed, Completes, IsPlanned}
pub use Rattle.tb_top.specs.Lines.{is_made, shown_byte}
pub use Rattle.tb_top.specs.Origins.{Origin, Run, Plan, AreInputs, File, Load, Task, origin_of, task_of, AreFor, IsFrom, Says, IsGiven, experiment_limit}
pub use Rattle.tb_top.specs.Plans.{Plans}
pub use Rattle.tb_top.specs.Statuses.{OrMemory, over_status, open_status, run_status}
pub use Rattle.tb_top.specs.World.{World, Quiet, sizes, texts, world, sink_seen}
pub use Rattle.tb_top.specs.declared.status.Status.{Status}
pub use Rattle.tb_top.specs.declared.status.Status.TheVariants.{Done, WriteFault, Memory, Usage, Experiment as Refused, Build, TooLong, ReadFault}
