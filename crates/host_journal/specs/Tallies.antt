-- How many records of each kind a guest has, and the line of a summary.
use Rattle.std.specs.Prelude.{ℕ, ◌+◌, ◌%◌, ◌^◌, Bool, true, false, List, ◌++◌, codes, count_by, if◌then◌else◌}
use Rattle.trace_rec.specs.Lines.{field}
use Rattle.trace_rec.specs.Shown.{is_instr}
use Rattle.trace_rec.specs.declared.rec.Rec.{Rec}
use Rattle.trace_rec.specs.declared.what.What.{What}
use Rattle.trace_rec.specs.declared.what.What.TheVariants.{Trap, DiskDone, Sent, Dropped, BadFrame, Received, Backlogged, Uart, Broken, Halted}
use Rattle.host_journal.specs.Guests.{guest_words}
use Rattle.host_journal.specs.declared.counts.Counts.{Counts}

abbrev pub is_trap : What → Bool
is_trap (Trap cause pc) = true
is_trap _ = false

abbrev pub is_disk : What → Bool
is_disk (DiskDone disk kind sector bytes status) = true
is_disk _ = false

abbrev pub is_sent : What → Bool
is_sent (Sent nic frame) = true
is_sent _ = false

abbrev pub is_dropped : What → Bool
is_dropped (Dropped nic len) = true
is_dropped _ = false

abbrev pub is_bad : What → Bool
is_bad (BadFrame nic len) = true
is_bad _ = false

abbrev pub is_received : What → Bool
is_received (Received nic frame) = true
is_received _ = false

abbrev pub is_lost : What → Bool
is_lost (Backlogged nic len) = true
is_lost _ = false

abbrev pub is_uart : What → Bool
is_uart (Uart byte) = true
is_uart _ = false

abbrev pub is_broken : What → Bool
is_broken (Broken slot why) = true
is_broken _ = false

abbrev pub is_halt : What → Bool
is_halt Halted = true
is_halt _ = false

-- how many records are of a kind, as a number of 64 bits
abbrev pub tally : (What → Bool) → List Rec → ℕ
tally p recs = count_by (λ r. p r.what) recs % 2 ^ 64

abbrev pub counts_of : List Rec → Counts
counts_of recs = record {
  instructions = tally is_instr recs;
  traps = tally is_trap recs;
  disks = tally is_disk recs;
  sent = tally is_sent recs;
  dropped = tally is_dropped recs;
  bad = tally is_bad recs;
  received = tally is_received recs;
  lost = tally is_lost recs;
  bytes = tally is_uart recs;
  broken = tally is_broken recs;
  halts = tally is_halt recs;
}

-- a count after a record that is counted by it or not
abbrev pub plus : Bool → ℕ → ℕ
plus counts n = if counts then (n + 1) % 2 ^ 64 else n

-- the counts after one more record, which is counted under its kind
abbrev pub one_more : What → Counts → Counts
one_more w c = record {
  instructions = plus (is_instr w) c.instructions;
  traps = plus (is_trap w) c.traps;
  disks = plus (is_disk w) c.disks;
  sent = plus (is_sent w) c.sent;
  dropped = plus (is_dropped w) c.dropped;
  bad = plus (is_bad w) c.bad;
  received = plus (is_received w) c.received;
  lost = plus (is_lost w) c.lost;
  bytes = plus (is_uart w) c.bytes;
  broken = plus (is_broken w) c.broken;
  halts = plus (is_halt w) c.halts;
}

-- two words, each with a number
abbrev pub two_fields : List ℕ → ℕ → List ℕ → ℕ → List ℕ
two_fields first a second b = field first a ++ field second b

-- what the hart and the disks did
unfoldable pub own_words : Counts → List ℕ
own_words c = two_fields (codes " instr ") c.instructions (codes " trap ") c.traps ++ field (codes " disk ") c.disks

-- frames
unfoldable pub frame_counts : Counts → List ℕ
frame_counts c =
    two_fields (codes " sent ") c.sent (codes " drop ") c.dropped ++ two_fields (codes " bad ") c.bad (codes " recv ") c.received ++ field (codes " lost ") c.lost

-- bytes, queues that broke, and halts
unfoldable pub other_words : Counts → List ℕ
other_words c = two_fields (codes " uart ") c.bytes (codes " broken ") c.broken ++ field (codes " halt ") c.halts

unfoldable pub count_words : Counts → List ℕ
count_words c = own_words c ++ frame_counts c ++ other_words c

-- the line of a guest: its number, its name and its counts
unfoldable pub summary_line : ℕ → List ℕ → Counts → List ℕ
summary_line g name c = guest_words g name ++ count_words c ++ codes "\n"
