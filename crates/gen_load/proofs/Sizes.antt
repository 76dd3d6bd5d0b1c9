-- How long the parts of an image are.
use Rattle.std.proofs.Common.{◌≡◌, ℕ, ◌-◌, ◌≤◌, List, ◌++◌, length, replicate, refl, arith, length-append}
use Rattle.std.specs.List.{flat_map}
use Rattle.std.proofs.lemmas.List.{length-replicate}
use Rattle.guest_asm.specs.Programs.{padded}
use Rattle.gen_load.specs.Images.{code, bring_up, sends, table, pair_bytes, descriptors, driver_area, queue_area, to_receive, to_transmit, buffer, frames, program, guest_image}

length-padded : (bytes : List ℕ) (len : ℕ) → length bytes ≤ len → length (padded bytes len) ≡ len
length-padded bytes len short =
    let whole = length-append bytes (replicate (len - length bytes) 0) in
    let zeros = length-replicate {A = ℕ} (len - length bytes) 0 in
    omega (arith, short, whole, zeros)

code_length : length code ≡ 32
unfolding code
code_length = refl

table_length : length (flat_map pair_bytes table) ≡ 1640
unfolding table bring_up sends
table_length = refl

receive_lengths : (length (descriptors to_receive) ≡ 512) × (length (driver_area 32 32) ≡ 68)
unfolding descriptors driver_area
receive_lengths = (refl, refl)

transmit_lengths : (length (descriptors to_transmit) ≡ 256) × (length (driver_area 0 16) ≡ 36)
unfolding descriptors driver_area
transmit_lengths = (refl, refl)

frames_length : (n i : ℕ) → length (frames n i) ≡ 2048
unfolding frames buffer
frames_length n i = refl

program_length : length program ≡ 8192
unfolding program
program_length =
    let whole = length-append (padded code 0x1000) (padded (flat_map pair_bytes table) 0x1000) in
    let first = length-padded code 0x1000 (omega (arith, code_length)) in
    let second = length-padded (flat_map pair_bytes table) 0x1000 (omega (arith, table_length)) in
    omega (arith, whole, first, second)

receive_length : length (queue_area to_receive 32 0x1c00) ≡ 8192
unfolding queue_area
receive_length =
    let whole = length-append (padded (descriptors to_receive) 0x400) (padded (driver_area 32 32) 0x1c00) in
    let first = length-padded (descriptors to_receive) 0x400 (omega (arith, receive_lengths.0)) in
    let second = length-padded (driver_area 32 32) 0x1c00 (omega (arith, receive_lengths.1)) in
    omega (arith, whole, first, second)

transmit_length : length (queue_area to_transmit 0 0xc00) ≡ 4096
unfolding queue_area
transmit_length =
    let whole = length-append (padded (descriptors to_transmit) 0x400) (padded (driver_area 0 16) 0xc00) in
    let first = length-padded (descriptors to_transmit) 0x400 (omega (arith, transmit_lengths.0)) in
    let second = length-padded (driver_area 0 16) 0xc00 (omega (arith, transmit_lengths.1)) in
    omega (arith, whole, first, second)

pub image_length : (n i : ℕ) → length (guest_image n i) ≡ 22528
unfolding guest_image
image_length n i =
    let two = length-append program (queue_area to_receive 32 0x1c00) in
    let three = length-append (program ++ queue_area to_receive 32 0x1c00) (queue_area to_transmit 0 0xc00) in
    let four = length-append (program ++ queue_area to_receive 32 0x1c00 ++ queue_area to_transmit 0 0xc00) (frames n i) in
    omega (arith, two, three, four, program_length, receive_length, transmit_length, frames_length n i)
