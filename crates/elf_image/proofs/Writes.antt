-- Two writes into RAM, the second behind the first.
use Rattle.std.proofs.Common.{◌≡◌, ℕ, ◌≤◌, ◌+◌, ◌-◌, List, ◌++◌, length, take, drop, slice_range, replicate, ◌==◌, ◌<◌, zero, suc, true, false, if◌then◌else◌, refl, sym, ap, ◌∙◌, arith}
use Rattle.std.proofs.lemmas.List.{length-take-le, length-drop, replicate-append-replicate, length-replicate}
use Rattle.byte_pages.proofs.Writes.{two_writes, with_none}
use Rattle.guest_ram.specs.Bytes.{ram_base, ram_after, IsInRam}
use Rattle.std.proofs.lemmas.Bool.{false_from_ne_true}
use Rattle.std.proofs.lemmas.Bool.Decides.{nat_tests}
use Rattle.elf_image.specs.declared.segment.Segment.{Segment}
use Rattle.elf_image.specs.Elf.{IsPlaceable, put_at, segment_bytes}

pub ram_writes : (r xs ys : List ℕ) (addr next : ℕ) → IsInRam r addr (length xs + length ys) → next ≡ addr + length xs → ram_after (ram_after r addr xs) next ys ≡ ram_after r addr (xs ++ ys)
ram_writes r xs ys addr next within e =
    let low = within.0 in
    let high = within.1 in
    two_writes r xs ys (addr - ram_base) (next - ram_base) (omega (arith, low, e)) (omega (arith, low, high))

-- zeros behind zeros
pub more_zeros : (r old new part : List ℕ) (addr next count done more : ℕ) → IsInRam r addr count → done + more ≤ count → next ≡ addr + done → part ≡ replicate more 0 → old ≡ ram_after r addr (replicate done 0)
    → new ≡ ram_after old next part → new ≡ ram_after r addr (replicate (done + more) 0)
more_zeros r old new part addr next count done more within fits e zeros before after =
    let low = within.0 in
    let high = within.1 in
    let left = length-replicate {A = ℕ} done 0 in
    let right = length-replicate {A = ℕ} more 0 in
    after ∙ ap (λ z. ram_after z next part) before ∙ ap (ram_after (ram_after r addr (replicate done 0)) next) zeros
    ∙ ram_writes r (replicate done 0) (replicate more 0) addr next (low, omega (arith, high, left, right, fits)) (omega (arith, e, left))
    ∙ ap (ram_after r addr) (replicate-append-replicate done more 0)

-- no zeros
pub no_zeros : (r : List ℕ) (addr : ℕ) → ram_after r addr (replicate 0 0) ≡ r
no_zeros r addr = with_none r (addr - ram_base)

zero_is : (n : ℕ) → (n == 0) ≡ true → n ≡ 0
zero_is n h = grind (arith, nat_tests)

above_zero : (n : ℕ) → (n ≡ 0 → ⊥) → 0 < n
above_zero zero some = absurd (some refl)
above_zero (suc n) some = omega arith

length-part : (b : List ℕ) (from size : ℕ) → from + size ≤ length b → length (slice_range b from (from + size)) ≡ size
length-part b from size h =
    let n : from + size - from ≡ size = omega arith in
    let left = length-drop from b in
    ap (λ k. length (take k (drop from b))) n ∙ length-take-le size (drop from b) (omega (arith, left, h))

-- the bytes of a segment, then its zeros
pub put_both : (b ram mid new : List ℕ) (s : Segment) → (s.memsz ≡ 0 → ⊥) → IsPlaceable (length b) ram s → mid ≡ ram_after ram s.paddr (slice_range b s.offset (s.offset + s.filesz))
    → new ≡ ram_after mid (s.paddr + s.filesz) (replicate (s.memsz - s.filesz) 0) → new ≡ put_at b ram s
put_both b ram mid new s some well file zeros =
    let not_zero : (s.memsz == 0) ≡ false = false_from_ne_true (s.memsz == 0) (λ h. some (zero_is s.memsz h)) in
    let part = length-part b s.offset s.filesz well.file in
    let rest = length-replicate {A = ℕ} (s.memsz - s.filesz) 0 in
    let positive = above_zero s.memsz some in
    let low = well.low positive in
    let high = well.high positive in
    let less = well.memory in
    zeros ∙ ap (λ z. ram_after z (s.paddr + s.filesz) (replicate (s.memsz - s.filesz) 0)) file
    ∙ ram_writes ram (slice_range b s.offset (s.offset + s.filesz)) (replicate (s.memsz - s.filesz) 0) s.paddr (s.paddr + s.filesz) (low, omega (arith, high, part, rest, less)) (omega (arith, part))
    ∙ ap (λ t. if t then ram else ram_after ram s.paddr (segment_bytes b s)) (sym not_zero)
