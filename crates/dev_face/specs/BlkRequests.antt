-- Requests of a block device (virtio 1.2, section 5.2.6).
use Rattle.std.specs.Prelude.{ℕ, ◌+◌, ◌-◌, ◌*◌, ◌/◌, ◌%◌, ◌^◌, ◌==◌, ◌&&◌, ◌||◌, nat_le, nat_lt, if◌then◌else◌, Bool, List, slice_range, [], ◌∷◌}
use Rattle.std.specs.List.{splice}
use Rattle.byte_pages.specs.LittleEndian.{word_at}
use Rattle.split_queue.specs.Chains.{ChainOf}
use Rattle.split_queue.specs.Streams.{stream, stream_len, written}
use Rattle.dev_face.specs.BlkStates.{FlightState}

-- a request has a header of 16 bytes and a byte for its status
abbrev pub is_short : ChainOf → Bool
is_short c = nat_lt (stream_len c.readable) 16 || stream_len c.writable == 0

-- the header: its type, a word that is reserved, and its sector
abbrev pub header : List ℕ → ChainOf → List ℕ
header ram c = slice_range (stream ram c.readable) 0 16

abbrev pub kind_in : List ℕ → ℕ
kind_in h = word_at h 0

abbrev pub sector_in : List ℕ → ℕ
sector_in h = word_at h 8 + 2 ^ 32 * word_at h 12

-- how many bytes of data a request of a type has: a read (0) those before the status, a write (1) those behind the header
abbrev pub data_len : ℕ → ChainOf → ℕ
data_len kind c = if kind == 0 then stream_len c.writable - 1 else if kind == 1 then stream_len c.readable - 16 else 0

-- a read or a write is well formed where its data is a number of whole sectors, which the disk has
abbrev pub is_well_formed : ℕ → ℕ → ℕ → ℕ → Bool
is_well_formed sectors kind sector len = nat_lt kind 2 && len % 512 == 0 && nat_le (sector + len / 512) sectors

-- the status that a request ends with: OK (0), IOERR (1) or UNSUPP (2); a flush (4) ends well
abbrev pub status_of : ℕ → Bool → ℕ
status_of kind good = if nat_lt kind 2 then (if good then 0 else 1) else if kind == 4 then 0 else 2

-- how many bytes were written to the chain, as its used element has it
abbrev pub used_len : ℕ → Bool → ChainOf → ℕ
used_len kind good c = if (kind == 0 && good) || stream_len c.writable == 1 then stream_len c.writable else 0

-- RAM after the data of a read moved from the disk
abbrev pub ram_moved : ℕ → Bool → List ℕ → List ℕ → FlightState → List ℕ
ram_moved len good content ram f =
    if good && f.kind == 0 then written ram f.chain.writable 0 (slice_range content (512 * f.sector) (512 * f.sector + len)) else ram

-- the disk after the data of a write moved to it
abbrev pub content_moved : ℕ → Bool → List ℕ → List ℕ → FlightState → List ℕ
content_moved len good content ram f =
    if good && f.kind == 1 then splice content (512 * f.sector) (512 * f.sector + len) (slice_range (stream ram f.chain.readable) 16 (16 + len)) else content

-- RAM after the status was put behind the data
abbrev pub status_put : List ℕ → ChainOf → ℕ → List ℕ
status_put ram c status = written ram c.writable (stream_len c.writable - 1) (status ∷ [])
