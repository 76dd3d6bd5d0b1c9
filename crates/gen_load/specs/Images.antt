-- The image of a guest of a generated load, from 0x80000000 on: a program, the table that it works through, a queue to receive and a queue
-- to transmit, and the frames to send.
use Rattle.std.specs.Prelude.{ℕ, ◌+◌, ◌*◌, ◌%◌, List, [], ◌∷◌, ◌++◌, pos, negsuc, replicate, map}
use Rattle.std.specs.Int.{w16, w32, w64, to_le_bytes}
use Rattle.std.specs.List.{flat_map, range_with_len}
use Rattle.rv_word.specs.declared.op.Op.{Op}
use Rattle.rv_word.specs.declared.op.Op.TheVariants as op
use Rattle.guest_asm.specs.OpWord.{op_word}
use Rattle.guest_asm.specs.Programs.{padded}
use Rattle.gen_load.specs.declared.buffers.Buffers.{Buffers}

-- words of 32 bits, low byte first
abbrev pub word_bytes : List ℕ → List ℕ
word_bytes ws = flat_map (to_le_bytes w32) ws

-- Each pair of the table is an address and a word that is stored there. After the last pair, whose address is 0, the program jumps in place.
abbrev pub ops : List Op
ops =
    op.Lui 5 (negsuc 0x7fffefff)
    ∷ op.Lw 6 5 (pos 0)
    ∷ op.Beq 6 0 (pos 20)
    ∷ op.Lw 7 5 (pos 4)
    ∷ op.Sw 6 7 (pos 0)
    ∷ op.Addi 5 5 (pos 8)
    ∷ op.Jal 0 (negsuc 19)
    ∷ op.Jal 0 (pos 0)
    ∷ []

unfoldable pub code : List ℕ
code = word_bytes (map op_word ops)

-- a driver brings up a nic with one of its queues (virtio 1.2, sections 3.1 and 4.2.2): the nic's registers, the queue's number and size, and
-- where its three areas begin
unfoldable pub bring_up : ℕ → ℕ → ℕ → ℕ → List (ℕ × ℕ)
bring_up nic queue size area =
    (nic + 0x70, 0)
    ∷ (nic + 0x70, 1)
    ∷ (nic + 0x70, 3)
    ∷ (nic + 0x24, 0)
    ∷ (nic + 0x20, 0x20)
    ∷ (nic + 0x24, 1)
    ∷ (nic + 0x20, 1)
    ∷ (nic + 0x70, 0xb)
    ∷ (nic + 0x30, queue)
    ∷ (nic + 0x38, size)
    ∷ (nic + 0x80, area)
    ∷ (nic + 0x84, 0)
    ∷ (nic + 0x90, area + 0x400)
    ∷ (nic + 0x94, 0)
    ∷ (nic + 0xa0, area + 0x800)
    ∷ (nic + 0xa4, 0)
    ∷ (nic + 0x44, 1)
    ∷ (nic + 0x70, 0xf)
    ∷ []

-- sixteen frames more are available, the nic is told so, and forty stores let time pass
unfoldable pub sends : ℕ → List (ℕ × ℕ)
sends round = (0x80004400, 16 * round * 65536) ∷ (0x10002050, 1) ∷ replicate 40 (0x8000f000, round)

unfoldable pub table : List (ℕ × ℕ)
table = bring_up 0x10001000 0 32 0x80002000 ++ bring_up 0x10002000 1 16 0x80004000 ++ flat_map sends (1 ∷ 2 ∷ 3 ∷ 4 ∷ []) ++ (0, 0) ∷ []

abbrev pub pair_bytes : (ℕ × ℕ) → List ℕ
pair_bytes p = to_le_bytes w32 p.0 ++ to_le_bytes w32 p.1

-- a descriptor with no next one (virtio 1.2, section 2.7.5)
abbrev pub descriptor : ℕ → ℕ → ℕ → List ℕ
descriptor address len flags = to_le_bytes w64 address ++ to_le_bytes w32 len ++ to_le_bytes w16 flags ++ to_le_bytes w16 0

unfoldable pub descriptors : Buffers → List ℕ
descriptors b = flat_map (λ k. descriptor (b.first + 128 * k) b.len b.flags) (range_with_len 0 b.count)

-- a driver area whose heads are the descriptors in order (virtio 1.2, section 2.7.6)
unfoldable pub driver_area : ℕ → ℕ → List ℕ
driver_area idx size = to_le_bytes w16 0 ++ to_le_bytes w16 idx ++ flat_map (to_le_bytes w16) (range_with_len 0 size)

-- the descriptors of a queue, and from 0x400 on its driver area with so much room
unfoldable pub queue_area : Buffers → ℕ → ℕ → List ℕ
queue_area b idx room = padded (descriptors b) 0x400 ++ padded (driver_area idx b.count) room

-- 32 buffers of 128 bytes that a device may write, all of them available
abbrev pub to_receive : Buffers
to_receive = record { count = 32; first = 0x80003000; len = 128; flags = 2 }

-- 16 buffers of a header of 12 bytes and a frame of 64, none of them available yet
abbrev pub to_transmit : Buffers
to_transmit = record { count = 16; first = 0x80005000; len = 76; flags = 0 }

abbrev pub mac : ℕ → ℕ → List ℕ
mac guest nic = 2 ∷ 0 ∷ 0 ∷ 0 ∷ guest ∷ nic ∷ []

-- a frame of one guest to another, with a mark (EtherType 0x88b5, which IEEE Std 802 keeps for local experiments)
abbrev pub frame : ℕ → ℕ → ℕ → List ℕ
frame to from mark = mac to 0 ++ mac from 1 ++ 0x88 ∷ 0xb5 ∷ mark ∷ replicate 49 0

unfoldable pub buffer : ℕ → ℕ → ℕ → List ℕ
buffer to from mark = padded (replicate 12 0 ++ frame to from mark) 128

-- the frames of guest i of n: to the next one round the ring
unfoldable pub frames : ℕ → ℕ → List ℕ
frames n i = flat_map (buffer ((i + 1) % n) i) (range_with_len 0 16)

-- the program at 0, and its table at 0x1000
unfoldable pub program : List ℕ
program = padded code 0x1000 ++ padded (flat_map pair_bytes table) 0x1000

-- the queue to receive at 0x2000, that to transmit at 0x4000, and the frames at 0x5000
unfoldable pub guest_image : ℕ → ℕ → List ℕ
guest_image n i = program ++ queue_area to_receive 32 0x1c00 ++ queue_area to_transmit 0 0xc00 ++ frames n i
