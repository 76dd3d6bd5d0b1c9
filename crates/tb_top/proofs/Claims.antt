-- What follows from how a command ends.
use Rattle.tb_top.proofs.Common.{◌≡◌, ◌≢◌, ◌∙◌, ℕ, ◌<◌, ◌≤◌, ◌⊎◌, true, List, [], length, Option, Some, None, IfSome, Ok, inl, inr, refl, sym, ap, subst, arith, append-nil, Takes, TakesPart, Rose, View, Experiment, Fits, IsFirstOverload, placed, Overload, up_to_tick, IsComplete, Inputs, run_rules, Suffices, IsShort, Loaded, IsRead, IsTooLong, IsContent, disk_limit, OpenFault, IsUnopened, Ends, no_memory, no_experiment, ended, Refuses, IsAsked, TaskEnds, Asks, IsRight, MayRun, IsTold, IsToldOf, IsPartPut, FilesServed, OutServed, Completes, IsPlanned, is_made, Origin, File, Load, Task, Run, Plan, origin_of, task_of, AreFor, IsFrom, Says, IsGiven, experiment_limit, Plans, open_status, World, Quiet, Status, Done, Usage, Refused, Build, TooLong, ReadFault, WriteFault, Memory}
use Rattle.dev_face.specs.declared.kind.Kind.{Kind}
use Rattle.host_journal.specs.Entries.{Entry}
use Rattle.run_views.specs.Traced.{IsTraced}
use Rattle.bench_build.specs.Answers.{room_of}
use Rattle.bench_build.specs.declared.build_fault.BuildFault.TheVariants.{Image as ImageFault, DiskSize, NoDevice}
use Rattle.gen_load.specs.Loads.{ring}
use Rattle.words_line.specs.Ranges.{IsInRange}
use Rattle.words_line.specs.Words.{command}
use Rattle.words_line.specs.declared.command.Command.{Command}
use Rattle.words_line.specs.declared.command.Command.TheVariants as given
use Rattle.open_images.specs.declared.file_id.FileId.TheVariants.{Experiment as TheExperiment, Image as ImageOf, Disk as DiskOf}
use Rattle.open_images.specs.declared.open_fault.OpenFault.TheVariants as open_is
use Rattle.tb_top.specs.Headline.{IsUndisturbed, IsJudged, IsPrinted, Headline}
use Rattle.tb_top.specs.declared.status.Status.TheVariants.{Overload as Over}

-- What the laws of the crates below say.
abbrev pub AreInRange : Type 0
AreInRange = (words : List (List ℕ)) (c : Command) → command words ≡ Ok c → IsInRange c

pub record Laws : Type 0 where
  pub ranges : AreInRange
  pub fits : (n : ℕ) → n ≤ 32 → Fits (ring n) (placed (ring n))
  pub traced : (e : Experiment) (slots : List ℕ) (i : Inputs) (n : ℕ) (es : List Entry) → IsComplete (run_rules e slots i n) es → (t : ℕ) → t ≤ n
      → (g : ℕ) → g < length e.guests.items → IsTraced e i t g (up_to_tick t es)

-- a load has 2 to 32 guests
few : (c : Command) (n : ℕ) → IsInRange c → origin_of c ≡ Load n → (2 ≤ n) × (n ≤ 32)
few (given.Gen m t) n h same = let load : Load m ≡ Load n = same in let e : m ≡ n = cc load in subst (λ k. (2 ≤ k) × (k ≤ 32)) e (h.0, h.1)
few (given.Run file t view) n h same = let no : File file ≡ Load n = same in absurd (cc no)
few (given.Plan file) n h same = let no : File file ≡ Load n = same in absurd (cc no)

few_guests : AreInRange → (words : List (List ℕ)) (n : ℕ) (t : Task) → AreFor words (Load n) t → (2 ≤ n) × (n ≤ 32)
few_guests ranges words n t c = few c.given n (ranges words c.given c.read) c.origin

-- The words give one task with one origin.
one_command : (words : List (List ℕ)) (o q : Origin) (t u : Task) → AreFor words o t → AreFor words q u → (o ≡ q) × (t ≡ u)
one_command words o q t u c d =
    let read = c.read in
    let also = d.read in
    let same : c.given ≡ d.given = cc (read, also) in
    (sym c.origin ∙ ap origin_of same ∙ d.origin, sym c.task_is ∙ ap task_of same ∙ d.task_is)

-- the experiment that was read is the one that is told
told_same : (held : List ℕ → Option (List ℕ)) (o : Origin) (e f : Experiment) → IsToldOf held o e → IsFrom held o f → f ≡ e
told_same held (File name) e f told from =
    let bytes : from.bytes ≡ told.bytes = subst (λ z. IfSome z (λ t. from.bytes ≡ t)) told.told_is from.read.held in
    let read = subst (λ (b : List ℕ). Says b f) bytes from.holds in
    let said = told.holds in
    cc (read, said)
told_same held (Load n) e f told from = from ∙ sym told

not_too_long : (o : Option (List ℕ)) (limit : ℕ) (P : List ℕ → Type 0) → IsTold o limit P → IsTooLong o limit → ⊥
not_too_long o limit P told long = let over : limit < length told.bytes = subst (λ z. IfSome z (λ t. limit < length t)) told.told_is long in omega (arith, told.short, over)

-- what was read of a file that is told has what holds of the told bytes
read_told : (o : Option (List ℕ)) (limit : ℕ) (P : List ℕ → Type 0) (b : List ℕ) → IsTold o limit P → IsRead o limit b → P b
read_told o limit P b told read = subst P (sym (subst (λ z. IfSome z (λ t. b ≡ t)) told.told_is read.held)) told.holds

-- Of a task with an experiment that is told.
module _ (w : World) (o : Origin) (t : Task) (e : Experiment) (asks : Asks w.words w.files.held o t e) where
  -- a file that the words name is told
  told_of : (name : List ℕ) (u : Task) → AreFor w.words (File name) u → IsTold (w.files.held name) experiment_limit (λ b. Says b e)
  told_of name u c = subst (λ (q : Origin). IsToldOf w.files.held q e) (one_command w.words o (File name) t u asks.command c).0 asks.told

  came : (s : Status) (q : Origin) (u : Task) (f : Experiment) → IsAsked w.words w.files.held q u f → TaskEnds w q u f s → TaskEnds w o t e s
  came s q u f k ends =
      let one = one_command w.words q o u t k.command asks.command in
      let same : f ≡ e = told_same w.files.held o e f asks.told (subst (λ (p : Origin). IsFrom w.files.held p f) one.0 k.from) in
      subst (λ (p : Origin). TaskEnds w p t e s) one.0 (subst (λ (v : Task). TaskEnds w q v e s) one.1 (subst (λ (x : Experiment). TaskEnds w q u x s) same ends))

  -- so there is one, but where the read of its file failed
  module _ (P : Status → Type 0) (lost : Rose w.files.faults w.files_after.faults → P (ReadFault TheExperiment)) where
    refused : (s : Status) → Refuses w.words w.files w.files_after s → P s
    refused (Usage f) gives = let read = asks.command.read in absurd (cc (read, gives))
    refused (TooLong TheExperiment) h = absurd (not_too_long (w.files.held h.name) experiment_limit (λ b. Says b e) (told_of h.name h.task h.command) h.holds)
    refused (ReadFault TheExperiment) h = lost h.holds.rose
    refused (Refused f) h =
        let said = read_told (w.files.held h.name) experiment_limit (λ b. Says b e) h.holds.bytes (told_of h.name h.task h.command) h.holds.read in
        let bad = h.holds.holds in
        absurd (cc (bad, said))
    refused _ h = absurd h

    -- what holds of every end of the task holds of how the command ends
    of_task : (Quiet w → P Memory) → ((s : Status) → TaskEnds w o t e s → P s) → {s : Status} → Ends w s → P s
    of_task memory task (no_memory quiet) = memory quiet
    of_task memory task {s} (no_experiment quiet h) = refused s h
    of_task memory task {s} (ended q u f k h) = task s (came s q u f k h)

-- A run whose placement fits, whose images and disks are told and right, and for which there are devices enough, is done, but where a file, memory or the
-- output failed.
abbrev IsHurt : World → Status → Type 0
IsHurt w s = (IsUndisturbed s → ⊥) × (FilesServed w → OutServed w → s ≡ Memory)

no_overload : (e : Experiment) (p : List ℕ) (o : Overload) → Fits e p → IsFirstOverload e p o → ⊥
no_overload e p o fits over = omega (arith, fits o.slot over.slot, over.needs, over.has, over.over)

content_has : (held : List ℕ → Option (List ℕ)) (P : List ℕ → Type 0) (o : Option (List ℕ)) (b : List ℕ) → ((name : List ℕ) → o ≡ Some name → IsTold (held name) disk_limit P) → P []
    → IsContent held o b → P b
content_has held P None b told none read = subst P (sym read) none
content_has held P (Some name) b told none read = read_told (held name) disk_limit P b (told name refl) read

-- what its bench is opened with is right, but where a file failed
module _ (w : World) (e : Experiment) (enough : Suffices e w.stock) where
  not_short : {Like : Inputs → Type 0} (k : Kind) (wanted had : ℕ) → Loaded Like (λ i. IsShort e w.stock (NoDevice k wanted had)) → ⊥
  not_short k wanted had l = omega (arith, enough.of k, l.holds.wanted, l.holds.had_is, l.holds.short)

  unopened : (o : Origin) → IsRight w.files.held o e → (f : OpenFault) → IsUnopened w o e f → IsHurt w (open_status f)
  unopened o right open_is.Memory h = (λ calm. calm, λ files out. refl)
  unopened (Load n) right (open_is.Build (NoDevice k wanted had)) l = absurd (not_short k wanted had l)
  unopened (Load n) right f h = absurd h
  unopened (File name) right (open_is.Build (NoDevice k wanted had)) l = absurd (not_short k wanted had l)
  unopened (File name) right (open_is.Build (ImageFault i fault)) k =
      let taken = read_told (w.files.held k.thing.image) _ _ k.why.bytes (right.images i k.thing k.at) k.why.read in
      let taken_is = taken.is in
      let bad = k.why.holds in
      absurd (cc (taken_is, bad))
  unopened (File name) right (open_is.Build (DiskSize j len room)) k =
      let fills = content_has w.files.held (λ z. length z ≤ room_of k.thing) k.thing.image k.why.bytes (λ name. right.disks j k.thing name k.at) (omega arith) k.why.read in
      absurd (omega (arith, fills, k.why.len_is, k.why.room_is, k.why.over))
  unopened (File name) right (open_is.TooLong (ImageOf i)) k = absurd (not_too_long (w.files.held k.thing.image) _ _ (right.images i k.thing k.at) k.why)
  unopened (File name) right (open_is.TooLong (DiskOf j)) k = absurd (not_too_long (w.files.held k.why.0) _ _ (right.disks j k.thing k.why.0 k.at k.why.1) k.why.2)
  unopened (File name) right (open_is.ReadFault (ImageOf i)) k = (λ calm. calm, λ files out. absurd (files k.why.rose))
  unopened (File name) right (open_is.ReadFault (DiskOf j)) k = (λ calm. calm, λ files out. absurd (files k.why.2.rose))
  unopened (File name) right _ h = absurd h

-- a run of an experiment that is right fits
it_fits : Laws → (words : List (List ℕ)) (held : List ℕ → Option (List ℕ)) (o : Origin) (t : Task) (e : Experiment) → AreFor words o t → IsToldOf held o e → IsRight held o e → Fits e (placed e)
it_fits laws words held (File name) t e c told right = right.fits
it_fits laws words held (Load n) t e c told right = subst (λ (x : Experiment). Fits x (placed x)) (sym told) (laws.fits n (few_guests laws.ranges words n t c).1)

module _ (laws : Laws) (w : World) (e : Experiment) (may : MayRun w.words w.files.held e) (enough : Suffices e w.stock) where
  run_done : (s : Status) → TaskEnds w may.origin (Run may.host_ticks may.view) e s → (s ≡ Done) ⊎ IsHurt w s
  run_done Done h = inl refl
  run_done WriteFault h = inr (λ calm. calm, λ files out. absurd (out h.0))
  run_done Memory h = inr (λ calm. calm, λ files out. refl)
  run_done (Over slot need have) h =
      absurd (no_overload e (placed e) _ (it_fits laws w.words w.files.held may.origin (Run may.host_ticks may.view) e may.asks.command may.asks.told may.right) h.0)
  run_done (TooLong f) h = inr (unopened w e enough may.origin may.right (open_is.TooLong f) h.2)
  run_done (ReadFault f) h = inr (unopened w e enough may.origin may.right (open_is.ReadFault f) h.2)
  run_done (Build f) h = inr (unopened w e enough may.origin may.right (open_is.Build f) h.2)
  run_done s h = absurd h

  done_or_hurt : {s : Status} → Ends w s → (s ≡ Done) ⊎ IsHurt w s
  done_or_hurt ends =
      of_task w may.origin (Run may.host_ticks may.view) e may.asks (λ s. (s ≡ Done) ⊎ IsHurt w s) (λ rose. inr (λ calm. calm, λ files out. absurd (files rose))) (λ quiet. inr (λ calm. calm, λ files out. refl)) run_done ends

pub completes : {w : World} {s : Status} → Laws → Ends w s → Completes w s
completes {w} laws ends = λ e may enough files out. elim (done_or_hurt laws w e may enough ends) [ inl done ↦ inl done | inr hurt ↦ inr (hurt.1 files out) ]

-- A plan is put.
plans : (w : World) (o : Origin) (e : Experiment) (s : Status) → TaskEnds w o Plan e s → Plans e (placed e) w.out w.out_after s
plans w o e Done h = h
plans w o e (Over slot need have) h = h
plans w o e WriteFault h = h
plans w o e Memory h = inr h
plans w o e _ h = absurd h

pub planned : {w : World} {s : Status} → Ends w s → IsPlanned w s
planned {w} ends = λ e a files. of_task w a.origin Plan e a.asks (λ s. Plans e (placed e) w.out w.out_after s) (λ rose. absurd (files rose)) (λ quiet. inl quiet) (plans w a.origin e) ends

-- The placement is accepted where it fits.
judged : (w : World) (o : Origin) (t : Task) (e : Experiment) (s : Status) → TaskEnds w o t e s → IsUndisturbed s → IsJudged e s
judged w o t e Done h calm = record { accepted = λ fit p same. cc same; refused = λ over. absurd (over h.0) }
judged w o t e (Over slot need have) h calm =
    record { accepted = λ fits p same. no_overload e (placed e) _ fits h.0; refused = λ none. (record { slot = slot; need = need; have = have }, h.0, refl) }
judged w o t e WriteFault h calm = absurd calm
judged w o t e Memory h calm = absurd calm
judged w o t e (TooLong f) h calm = absurd calm
judged w o t e (ReadFault f) h calm = absurd calm
judged w o (Run n view) e (Build f) h calm = record { accepted = λ fit p same. cc same; refused = λ over. absurd (over h.1) }
judged w o t e s h calm = absurd h

-- What a run that is done has printed.
printed : Laws → (w : World) (o : Origin) (n : ℕ) (view : View) (e : Experiment) → TaskEnds w o (Run n view) e Done → IsPrinted w o n view e
printed laws w o n view e (fits, run) =
    let (head, head_is, (journal, complete, taken)) = run.holds in
    record { inputs = run.inputs; loaded = run.loaded; head = head; head_is = head_is; journal = journal; taken = taken; schedule = complete; traces = laws.traced e (placed e) run.inputs n journal complete }

-- What was put where memory or the output failed.
cut_short : {w : World} {s : Status} → Ends w s → (s ≡ Memory) ⊎ (s ≡ WriteFault) → Quiet w ⊎ IsPartPut w
cut_short (no_memory quiet) cut = inl quiet
cut_short (no_experiment quiet h) cut = inl quiet
cut_short {w} (ended o t e k h) (inl memory) = inr (record { origin = o; task = t; experiment = e; asked = k; part = subst (TaskEnds w o t e) memory h })
cut_short {w} (ended o t e k h) (inr failed) = inr (record { origin = o; task = t; experiment = e; asked = k; part = (subst (TaskEnds w o t e) failed h).1 })

pub headline : {w : World} {s : Status} → Laws → Ends w s → (s ≢ WriteFault → w.out_after.faults ≡ w.out.faults) → Headline w s
headline {w} laws ends unfailed = record {
  accepted = λ o t e asks. of_task w o t e asks (λ s. IsUndisturbed s → IsJudged e s) (λ rose calm. absurd calm) (λ quiet calm. absurd calm) (judged w o t e) ends;
  runs = λ e may enough calm. elim (done_or_hurt laws w e may enough ends) [ inl done ↦ done | inr hurt ↦ absurd (hurt.0 calm) ];
  printed = λ o n view e asks. of_task w o (Run n view) e asks (λ s. s ≡ Done → IsPrinted w o n view e) (λ rose same. absurd (cc same)) (λ quiet same. absurd (cc same))
      (λ s h same. printed laws w o n view e (subst (TaskEnds w o (Run n view) e) same h)) ends;
  cut_short = cut_short ends;
  unfailed = unfailed;
}

-- the whole of a text is a first part of it
pub whole_part : (old new : Option (List ℕ)) (text : List ℕ) → Takes old new text → TakesPart old new text
whole_part old new text takes = (text, record { rest = []; whole = sym (append-nil text) }, takes)

-- What is said of a status whose line is made is said of want of memory too.
task_memory : {w : World} (o : Origin) (t : Task) (e : Experiment) (s : Status) → is_made s ≡ true → IsAsked w.words w.files.held o t e → TaskEnds w o t e s → Ends w Memory
task_memory o (Run n view) e (Over slot need have) made k (over, quiet) = no_memory quiet
task_memory {w} o Plan e (Over slot need have) made k (over, (l, least, takes)) = ended o Plan e k (l, least, whole_part w.out.taken w.out_after.taken _ takes)
task_memory o t e Done made k h = absurd (cc made)
task_memory o t e WriteFault made k h = absurd (cc made)
task_memory o t e Memory made k h = absurd (cc made)
task_memory o (Run n view) e (TooLong f) made k h = no_memory h.0
task_memory o (Run n view) e (ReadFault f) made k h = no_memory h.0
task_memory o (Run n view) e (Build f) made k h = no_memory h.0
task_memory o t e s made k h = absurd h

ends_memory : {w : World} {s : Status} → is_made s ≡ true → Ends w s → Ends w Memory
ends_memory made (no_memory quiet) = no_memory quiet
ends_memory made (no_experiment quiet h) = no_memory quiet
ends_memory {w} {s} made (ended o t e k h) = task_memory o t e s made k h

-- the status of the command, or want of memory for its line
pub ends_told : {w : World} {r s : Status} → Ends w r → (s ≡ r) ⊎ ((s ≡ Memory) × (is_made r ≡ true)) → Ends w s
ends_told {w} ends (inl same) = subst (Ends w) (sym same) ends
ends_told {w} ends (inr (memory, made)) = subst (Ends w) (sym memory) (ends_memory made ends)

-- a write fault is always told as such
pub unfailed_told : {r s : Status} {A : Type 0} → (r ≢ WriteFault → A) → (s ≡ r) ⊎ ((s ≡ Memory) × (is_made r ≡ true)) → s ≢ WriteFault → A
unfailed_told unfailed (inl same) other = unfailed (λ fault. other (same ∙ fault))
unfailed_told unfailed (inr (memory, made)) other = unfailed (λ fault. cc (subst (λ (z : Status). is_made z ≡ true) fault made))

-- so the experiment that is told is given
pub told_given : AreInRange → (words : List (List ℕ)) (held : List ℕ → Option (List ℕ)) (o : Origin) (t : Task) (e : Experiment) → AreFor words o t → IsToldOf held o e → IsGiven e
told_given ranges words held (File name) t e c told = inl (told.bytes, told.holds)
told_given ranges words held (Load n) t e c same = let (low, high) = few_guests ranges words n t c in inr (n, low, high, same)

-- where a device is wanting, it is so of an experiment that is given
pub short_of : {w : World} → AreInRange → (k : Kind) (wanted had : ℕ) → Ends w (Build (NoDevice k wanted had)) → (e : Experiment) × IsGiven e × IsShort e w.stock (NoDevice k wanted had)
short_of ranges k wanted had (no_experiment quiet h) = absurd h
short_of ranges k wanted had (ended o Plan e asked h) = absurd h
short_of ranges k wanted had (ended (File name) (Run n view) e asked h) = (e, inl (asked.from.bytes, asked.from.holds), h.2.holds)
short_of {w} ranges k wanted had (ended (Load m) (Run n view) e asked h) = (e, told_given ranges w.words w.files.held (Load m) (Run n view) e asked.command asked.from, h.2.holds)
