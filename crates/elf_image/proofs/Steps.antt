-- The segments of a file, one at a time.
use Rattle.std.proofs.Common.{◌≡◌, ◌==◌, ℕ, suc, ◌<◌, ◌≤◌, ◌+◌, ◌-◌, ◌&&◌, ◌||◌, not, nat_lt, Bool, true, false, List, length, Ok, Err, Result, if◌then◌else◌, inl, inr, refl, sym, ap, ◌∙◌, arith, subst}
use Rattle.std.proofs.lemmas.Bool.{cases_lt, false≢true, or_parts, ltb-false}
use Rattle.std.proofs.lemmas.Bool.Decides.{nat_tests}
use Rattle.guest_ram.specs.Bytes.{ram_base}
use Rattle.elf_image.specs.declared.fault.ElfFault.{ElfFault}
use Rattle.elf_image.specs.declared.segment.Segment.{Segment}
use Rattle.elf_image.specs.Elf.{◌>>=◌, segments, segment_check, check_at, in_ram, put_segment, put_segments, IsPlaceable}

segments_more : (b : List ℕ) (size n m : ℕ) → segments b size n (suc m) ≡ (segment_check b size n >>= λ _. segments b size (n + 1) m)
unfolding segments
segments_more b size n m = refl

segments_none : (b : List ℕ) (size n : ℕ) → segments b size n 0 ≡ Ok tt
unfolding segments
segments_none b size n = refl

left_of : (i n : ℕ) → i < n → n - i ≡ suc (n - (i + 1))
left_of i n h = omega arith

pub segments_go : (b : List ℕ) (size i n : ℕ) (all : Result (Unit {0}) ElfFault) → i < n → segment_check b size i ≡ Ok tt → segments b size i (n - i) ≡ all → segments b size (i + 1) (n - (i + 1)) ≡ all
segments_go b size i n all h good rest =
    ap (λ r. r >>= λ _. segments b size (i + 1) (n - (i + 1))) (sym good) ∙ sym (segments_more b size i (n - (i + 1))) ∙ ap (segments b size i) (sym (left_of i n h)) ∙ rest

pub segments_stop : (b : List ℕ) (size i n : ℕ) (all : Result (Unit {0}) ElfFault) (f : ElfFault) → i < n → segment_check b size i ≡ Err f → segments b size i (n - i) ≡ all → all ≡ Err f
segments_stop b size i n all f h bad rest =
    sym rest ∙ ap (segments b size i) (left_of i n h) ∙ segments_more b size i (n - (i + 1)) ∙ ap (λ r. r >>= λ _. segments b size (i + 1) (n - (i + 1))) bad

pub segments_end : (b : List ℕ) (size i n : ℕ) (all : Result (Unit {0}) ElfFault) → n ≤ i → segments b size i (n - i) ≡ all → all ≡ Ok tt
segments_end b size i n all h rest =
    let none : n - i ≡ 0 = omega arith in
    sym rest ∙ ap (segments b size i) none ∙ segments_none b size i

pub good_more : (b : List ℕ) (size i : ℕ) → ((k : ℕ) → k < i → segment_check b size k ≡ Ok tt) → segment_check b size i ≡ Ok tt → (k : ℕ) → k < i + 1 → segment_check b size k ≡ Ok tt
good_more b size i below here k h = elim (cases_lt k i) as (λ _. segment_check b size k ≡ Ok tt) [
  | inl low ↦ below k low
  | inr high ↦ let same : i ≡ k = omega arith in subst (λ z. segment_check b size z ≡ Ok tt) same here
]

puts_more : (b ram : List ℕ) (n m : ℕ) → put_segments b ram n (suc m) ≡ put_segments b (put_segment b ram n) (n + 1) m
unfolding put_segments
puts_more b ram n m = refl

puts_none : (b ram : List ℕ) (n : ℕ) → put_segments b ram n 0 ≡ ram
unfolding put_segments
puts_none b ram n = refl

pub puts_go : (b ram next all : List ℕ) (i n : ℕ) → i < n → next ≡ put_segment b ram i → put_segments b ram i (n - i) ≡ all → put_segments b next (i + 1) (n - (i + 1)) ≡ all
puts_go b ram next all i n h put rest =
    ap (λ z. put_segments b z (i + 1) (n - (i + 1))) put ∙ sym (puts_more b ram i (n - (i + 1))) ∙ ap (put_segments b ram i) (sym (left_of i n h)) ∙ rest

pub puts_end : (b ram all : List ℕ) (i n : ℕ) → n ≤ i → put_segments b ram i (n - i) ≡ all → ram ≡ all
puts_end b ram all i n h rest =
    let none : n - i ≡ 0 = omega arith in
    sym (puts_none b ram i) ∙ ap (put_segments b ram i) (sym none) ∙ rest

-- a segment that passed its checks can be put
if_passed : (t u : Bool) (f g : ElfFault) → ◌≡◌ {A = Result (Unit {0}) ElfFault} (if t then Err f else if u then Err g else Ok tt) (Ok tt) → (t ≡ false) × (u ≡ false)
if_passed false false f g h = (refl, refl)
if_passed false true f g h = absurd (cc)
if_passed true u f g h = absurd (cc)

inside : (zero_size ram : Bool) → (not zero_size && not ram) ≡ false → zero_size ≡ false → ram ≡ true
inside false true h e = refl
inside false false h e = absurd (false≢true (sym h))
inside true ram h e = absurd (false≢true (sym e))

some_size : (n : ℕ) → 0 < n → (n == 0) ≡ false
some_size n h = grind (arith, nat_tests)

in_range : (size addr len : ℕ) → in_ram size addr len ≡ true → (ram_base ≤ addr) × (addr + len ≤ ram_base + size)
in_range size addr len h = (grind (arith, nat_tests), grind (arith, nat_tests))

pub placeable : (b ram : List ℕ) (n : ℕ) (s : Segment) → check_at b (length ram) n s ≡ Ok tt → IsPlaceable (length b) ram s
placeable b ram n s h =
    let tests = if_passed (nat_lt (length b) (s.offset + s.filesz) || nat_lt s.memsz s.filesz) (not (s.memsz == 0) && not (in_ram (length ram) s.paddr s.memsz)) _ _ h in
    let file = or_parts (nat_lt (length b) (s.offset + s.filesz)) (nat_lt s.memsz s.filesz) tests.0 in
    record {
      file = ltb-false (length b) (s.offset + s.filesz) file.0;
      memory = ltb-false s.memsz s.filesz file.1;
      low = λ some. (in_range (length ram) s.paddr s.memsz (inside (s.memsz == 0) (in_ram (length ram) s.paddr s.memsz) tests.1 (some_size s.memsz some))).0;
      high = λ some. (in_range (length ram) s.paddr s.memsz (inside (s.memsz == 0) (in_ram (length ram) s.paddr s.memsz) tests.1 (some_size s.memsz some))).1;
    }
