-- The line of a record fixes the record, and what follows it.
use Rattle.std.proofs.Common.{◌≡◌, ◌∙◌, ℕ, ◌<◌, ◌^◌, ◌*◌, ◌+◌, List, [], ◌∷◌, ◌++◌, refl, sym, ap, ap₂, subst, arith, length, drop, get_or, append_assoc, codes}
use Rattle.std.specs.Prelude.{◌==◌, Bool, true, not, if◌then◌else◌}
use Rattle.std.specs.List.{list_all, AllByRecursion}
use Rattle.std.specs.Fmt.{decimal}
use Rattle.tb_base.specs.declared.why.Why.{Why}
use Rattle.tb_base.specs.declared.why.Why.TheVariants.{RingOutside, IndexAhead, HeadRange, HeadOut, Loop, Indirect, RangeOutside, OrderWrong, NextRange, ShortRequest, ShortBuffer}
use Rattle.tb_text.specs.Fronts.{StartsOff, is_digit}
use Rattle.tb_text.specs.Hex.{hex8}
use Rattle.tb_text.proofs.FrontLemmas.{split_front, decimal_front, decimal_starts, hex2_front, hex8_front}
use Rattle.trace_rec.specs.Lines.{rec_line, what_words, why_word, field, hex_field, hex_bytes}
use Rattle.trace_rec.specs.Values.{IsWord, IsFrame, IsWhat, IsRec}
use Rattle.trace_rec.specs.declared.rec.Rec.{Rec}
use Rattle.trace_rec.specs.declared.what.What.{What}
use Rattle.trace_rec.specs.declared.what.What.TheVariants.{Instr, Trap, DiskDone, Sent, Dropped, BadFrame, Received, Backlogged, Uart, Broken, Halted}

-- what a record tells, with a text behind it
abbrev numbers_onto : ℕ → ℕ → List ℕ → List ℕ
numbers_onto a b z = decimal a ++ (codes " " ++ (decimal b ++ z))

abbrev words_onto : ℕ → ℕ → List ℕ → List ℕ
words_onto a b z = hex8 a ++ (codes " " ++ (hex8 b ++ z))

abbrev frame_onto : ℕ → List ℕ → List ℕ → List ℕ
frame_onto nic frame z = decimal nic ++ (codes " " ++ (decimal (length frame) ++ (codes " " ++ (hex_bytes frame ++ z))))

abbrev what_onto : What → List ℕ → List ℕ
what_onto (Instr pc word) z = codes " instr " ++ words_onto pc word z
what_onto (Trap cause pc) z = codes " trap " ++ words_onto cause pc z
what_onto (DiskDone disk kind sector bytes status) z =
    codes " disk " ++ numbers_onto disk kind (codes " " ++ (decimal sector ++ (codes " " ++ numbers_onto bytes status z)))
what_onto (Sent nic frame) z = codes " sent " ++ frame_onto nic frame z
what_onto (Dropped nic len) z = codes " drop " ++ numbers_onto nic len z
what_onto (BadFrame nic len) z = codes " bad " ++ numbers_onto nic len z
what_onto (Received nic frame) z = codes " recv " ++ frame_onto nic frame z
what_onto (Backlogged nic len) z = codes " lost " ++ numbers_onto nic len z
what_onto (Uart byte) z = codes " uart " ++ (decimal byte ++ z)
what_onto (Broken slot why) z = codes " broken " ++ (decimal slot ++ (codes " " ++ (why_word why ++ z)))
what_onto Halted z = codes " halt" ++ z

-- joined texts, each with the rest behind it
regroup : (a b c d e z : List ℕ) → (((a ++ b) ++ c) ++ (d ++ e)) ++ z ≡ a ++ (b ++ (c ++ (d ++ (e ++ z))))
regroup a b c d e z = simp append_assoc

regroup_four : (a b c d z : List ℕ) → (((a ++ b) ++ c) ++ d) ++ z ≡ a ++ (b ++ (c ++ (d ++ z)))
regroup_four a b c d z = simp append_assoc

regroup_three : (a b c z : List ℕ) → ((a ++ b) ++ c) ++ z ≡ a ++ (b ++ (c ++ z))
regroup_three a b c z = simp append_assoc

onto_is : (w : What) (z : List ℕ) → what_words w ++ z ≡ what_onto w z
unfolding what_words
onto_is (Instr pc word) z = append_assoc (hex_field (codes " instr ") pc) (hex_field (codes " ") word) z
onto_is (Trap cause pc) z = append_assoc (hex_field (codes " trap ") cause) (hex_field (codes " ") pc) z
onto_is (DiskDone disk kind sector bytes status) z =
    regroup (field (codes " disk ") disk) (field (codes " ") kind) (field (codes " ") sector) (field (codes " ") bytes) (field (codes " ") status) z
onto_is (Sent nic frame) z = regroup_four (field (codes " sent ") nic) (field (codes " ") (length frame)) (codes " ") (hex_bytes frame) z
onto_is (Dropped nic len) z = append_assoc (field (codes " drop ") nic) (field (codes " ") len) z
onto_is (BadFrame nic len) z = append_assoc (field (codes " bad ") nic) (field (codes " ") len) z
onto_is (Received nic frame) z = regroup_four (field (codes " recv ") nic) (field (codes " ") (length frame)) (codes " ") (hex_bytes frame) z
onto_is (Backlogged nic len) z = append_assoc (field (codes " lost ") nic) (field (codes " ") len) z
onto_is (Uart byte) z = refl
onto_is (Broken slot why) z = regroup_three (field (codes " broken ") slot) (codes " ") (why_word why) z
onto_is Halted z = refl

numbers_front : (a b c d : ℕ) (x y : List ℕ) → a < 2 ^ 64 → b < 2 ^ 64 → c < 2 ^ 64 → d < 2 ^ 64 → StartsOff is_digit x → StartsOff is_digit y
    → numbers_onto a b x ≡ numbers_onto c d y → (a ≡ c) × (b ≡ d) × (x ≡ y)
numbers_front a b c d x y pa pb pc pd s t h =
    let first = decimal_front a c (codes " " ++ (decimal b ++ x)) (codes " " ++ (decimal d ++ y)) pa pc refl refl h in
    let second = decimal_front b d x y pb pd s t (ap (drop 1) first.1) in
    (first.0, second.0, second.1)

words_front : (a b c d : ℕ) (x y : List ℕ) → IsWord a → IsWord b → IsWord c → IsWord d → words_onto a b x ≡ words_onto c d y → (a ≡ c) × (b ≡ d) × (x ≡ y)
words_front a b c d x y pa pb pc pd h =
    let first = hex8_front a c (codes " " ++ (hex8 b ++ x)) (codes " " ++ (hex8 d ++ y)) pa pc h in
    let second = hex8_front b d x y pb pd (ap (drop 1) first.1) in
    (first.0, second.0, second.1)

bytes_front : (a b : List ℕ) (x y : List ℕ) → AllByRecursion (λ n. n < 256) a → AllByRecursion (λ n. n < 256) b → length a ≡ length b
    → hex_bytes a ++ x ≡ hex_bytes b ++ y → (a ≡ b) × (x ≡ y)
bytes_front [] [] x y s t same h = (refl, h)
bytes_front [] (e ∷ es) x y s t same h = absurd (cc same)
bytes_front (d ∷ ds) [] x y s t same h = absurd (cc same)
bytes_front (d ∷ ds) (e ∷ es) x y s t same h =
    let first = hex2_front d e (hex_bytes ds ++ x) (hex_bytes es ++ y) s.0 t.0 h in
    let rest = bytes_front ds es x y s.1 t.1 (omega (arith, same)) first.1 in
    (ap₂ (λ (c : ℕ) (cs : List ℕ). c ∷ cs) first.0 rest.0, rest.1)

frame_front : (a b : ℕ) (f g : List ℕ) (x y : List ℕ) → IsWord a → IsWord b → IsFrame f → IsFrame g → frame_onto a f x ≡ frame_onto b g y → (a ≡ b) × (f ≡ g) × (x ≡ y)
frame_front a b f g x y pa pb pf pg h =
    let first = decimal_front a b (codes " " ++ (decimal (length f) ++ (codes " " ++ (hex_bytes f ++ x)))) (codes " " ++ (decimal (length g) ++ (codes " " ++ (hex_bytes g ++ y)))) (omega arith) (omega arith) refl refl h in
    let second = decimal_front (length f) (length g) (codes " " ++ (hex_bytes f ++ x)) (codes " " ++ (hex_bytes g ++ y)) pf.0 pg.0 refl refl (ap (drop 1) first.1) in
    let third = bytes_front f g x y pf.1 pg.1 second.0 (ap (drop 1) second.1) in
    (first.0, third.0, third.1)

-- a cause of a broken queue is fixed by its first letter and its length
abbrev mark : List ℕ → ℕ
mark t = get_or t 0 0 * 16 + length t

abbrev why_at : ℕ → Why
why_at n =
    if n == 114 * 16 + 12 then RingOutside else (if n == 105 * 16 + 11 then IndexAhead else (if n == 104 * 16 + 10 then HeadRange
    else (if n == 104 * 16 + 8 then HeadOut else (if n == 108 * 16 + 4 then Loop else (if n == 105 * 16 + 8 then Indirect
    else (if n == 114 * 16 + 13 then RangeOutside else (if n == 111 * 16 + 11 then OrderWrong else (if n == 110 * 16 + 10 then NextRange
    else (if n == 115 * 16 + 13 then ShortRequest else ShortBuffer)))))))))

why_back : (w : Why) → why_at (mark (why_word w)) ≡ w
why_back RingOutside = refl
why_back IndexAhead = refl
why_back HeadRange = refl
why_back HeadOut = refl
why_back Loop = refl
why_back Indirect = refl
why_back RangeOutside = refl
why_back OrderWrong = refl
why_back NextRange = refl
why_back ShortRequest = refl
why_back ShortBuffer = refl

abbrev is_letter : ℕ → Bool
is_letter c = not (c == 10)

why_letters : (w : Why) → list_all is_letter (why_word w) ≡ true
why_letters RingOutside = refl
why_letters IndexAhead = refl
why_letters HeadRange = refl
why_letters HeadOut = refl
why_letters Loop = refl
why_letters Indirect = refl
why_letters RangeOutside = refl
why_letters OrderWrong = refl
why_letters NextRange = refl
why_letters ShortRequest = refl
why_letters ShortBuffer = refl

why_front : (a b : Why) (x y : List ℕ) → why_word a ++ (10 ∷ x) ≡ why_word b ++ (10 ∷ y) → (a ≡ b) × (x ≡ y)
why_front a b x y h =
    let parts = split_front is_letter (why_word a) (why_word b) (10 ∷ x) (10 ∷ y) (why_letters a) (why_letters b) refl refl h in
    (sym (why_back a) ∙ ap (λ (t : List ℕ). why_at (mark t)) parts.0 ∙ why_back b, ap (drop 1) parts.1)

-- the kinds differ in their second and third letters
abbrev kind_mark : List ℕ → ℕ
kind_mark t = get_or t 1 0 * 256 + get_or t 2 0

disk_same : (a b c d e f g i j k : ℕ) → a ≡ f → b ≡ g → c ≡ i → d ≡ j → e ≡ k → DiskDone a b c d e ≡ DiskDone f g i j k
disk_same a b c d e f g i j k p q r s t = cc

what_front : (w v : What) (x y : List ℕ) → IsWhat w → IsWhat v → what_onto w (10 ∷ x) ≡ what_onto v (10 ∷ y) → (w ≡ v) × (x ≡ y)
what_front (Instr a b) (Instr c d) x y p q h =
    let parts = words_front a b c d (10 ∷ x) (10 ∷ y) p.0 p.1 q.0 q.1 (ap (drop 7) h) in
    (ap₂ Instr parts.0 parts.1, ap (drop 1) parts.2)
what_front (Trap a b) (Trap c d) x y p q h =
    let parts = words_front a b c d (10 ∷ x) (10 ∷ y) p.0 p.1 q.0 q.1 (ap (drop 6) h) in
    (ap₂ Trap parts.0 parts.1, ap (drop 1) parts.2)
what_front (DiskDone a b c d e) (DiskDone f g i j k) x y p q h =
    let one = numbers_front a b f g (codes " " ++ (decimal c ++ (codes " " ++ numbers_onto d e (10 ∷ x)))) (codes " " ++ (decimal i ++ (codes " " ++ numbers_onto j k (10 ∷ y))))
    (omega (arith, p.0)) (omega (arith, p.1)) (omega (arith, q.0)) (omega (arith, q.1)) refl refl (ap (drop 6) h) in
    let two = decimal_front c i (codes " " ++ numbers_onto d e (10 ∷ x)) (codes " " ++ numbers_onto j k (10 ∷ y)) p.2 q.2 refl refl (ap (drop 1) one.2) in
    let three = numbers_front d e j k (10 ∷ x) (10 ∷ y) (omega (arith, p.3)) (omega (arith, p.4)) (omega (arith, q.3)) (omega (arith, q.4)) refl refl (ap (drop 1) two.1) in
    (disk_same a b c d e f g i j k one.0 one.1 two.0 three.0 three.1, ap (drop 1) three.2)
what_front (Sent a f) (Sent b g) x y p q h =
    let parts = frame_front a b f g (10 ∷ x) (10 ∷ y) p.0 q.0 p.1 q.1 (ap (drop 6) h) in
    (ap₂ Sent parts.0 parts.1, ap (drop 1) parts.2)
what_front (Dropped a b) (Dropped c d) x y p q h =
    let parts = numbers_front a b c d (10 ∷ x) (10 ∷ y) (omega (arith, p.0)) (omega (arith, p.1)) (omega (arith, q.0)) (omega (arith, q.1)) refl refl (ap (drop 6) h) in
    (ap₂ Dropped parts.0 parts.1, ap (drop 1) parts.2)
what_front (BadFrame a b) (BadFrame c d) x y p q h =
    let parts = numbers_front a b c d (10 ∷ x) (10 ∷ y) (omega (arith, p.0)) (omega (arith, p.1)) (omega (arith, q.0)) (omega (arith, q.1)) refl refl (ap (drop 5) h) in
    (ap₂ BadFrame parts.0 parts.1, ap (drop 1) parts.2)
what_front (Received a f) (Received b g) x y p q h =
    let parts = frame_front a b f g (10 ∷ x) (10 ∷ y) p.0 q.0 p.1 q.1 (ap (drop 6) h) in
    (ap₂ Received parts.0 parts.1, ap (drop 1) parts.2)
what_front (Backlogged a b) (Backlogged c d) x y p q h =
    let parts = numbers_front a b c d (10 ∷ x) (10 ∷ y) (omega (arith, p.0)) (omega (arith, p.1)) (omega (arith, q.0)) (omega (arith, q.1)) refl refl (ap (drop 6) h) in
    (ap₂ Backlogged parts.0 parts.1, ap (drop 1) parts.2)
what_front (Uart a) (Uart b) x y p q h =
    let parts = decimal_front a b (10 ∷ x) (10 ∷ y) (omega arith) (omega arith) refl refl (ap (drop 6) h) in
    (ap Uart parts.0, ap (drop 1) parts.1)
what_front (Broken a f) (Broken b g) x y p q h =
    let one = decimal_front a b (codes " " ++ (why_word f ++ (10 ∷ x))) (codes " " ++ (why_word g ++ (10 ∷ y))) (omega arith) (omega arith) refl refl (ap (drop 8) h) in
    let two = why_front f g x y (ap (drop 1) one.1) in
    (ap₂ Broken one.0 two.0, two.1)
what_front Halted Halted x y p q h = (refl, ap (drop 6) h)
what_front w v x y p q h = absurd (omega (arith, ap kind_mark h))

what_off : (w : What) (z : List ℕ) → StartsOff is_digit (what_onto w z)
what_off (Instr pc word) z = refl
what_off (Trap cause pc) z = refl
what_off (DiskDone disk kind sector bytes status) z = refl
what_off (Sent nic frame) z = refl
what_off (Dropped nic len) z = refl
what_off (BadFrame nic len) z = refl
what_off (Received nic frame) z = refl
what_off (Backlogged nic len) z = refl
what_off (Uart byte) z = refl
what_off (Broken slot why) z = refl
what_off Halted z = refl

abbrev line_onto : ℕ → Rec → List ℕ → List ℕ
line_onto g r x = decimal r.tick ++ (codes " " ++ (decimal g ++ what_onto r.what (10 ∷ x)))

abbrev rec_at : ℕ → What → Rec
rec_at t w = record { tick = t; what = w }

rec_same : (r s : Rec) → r.tick ≡ s.tick → r.what ≡ s.what → r ≡ s
rec_same r s a b = ap₂ rec_at a b

line_is : (g : ℕ) (r : Rec) (x : List ℕ) → rec_line g r ++ x ≡ line_onto g r x
unfolding rec_line
line_is g r x =
    regroup_four (decimal r.tick) (field (codes " ") g) (what_words r.what) (codes "\n") x
    ∙ ap (λ (t : List ℕ). decimal r.tick ++ (codes " " ++ (decimal g ++ t))) (onto_is r.what (10 ∷ x))

-- a record's line begins with a digit
pub line_starts : (g : ℕ) (r : Rec) (x : List ℕ) → IsRec r → StartsOff is_digit (rec_line g r ++ x) → ⊥
line_starts g r x p s = decimal_starts r.tick (codes " " ++ (decimal g ++ what_onto r.what (10 ∷ x))) p.0 (subst (λ (t : List ℕ). StartsOff is_digit t) (line_is g r x) s)

-- the line of a record, and what follows it
pub rec_front : (g k : ℕ) (r s : Rec) (x y : List ℕ) → g < 2 ^ 64 → k < 2 ^ 64 → IsRec r → IsRec s → rec_line g r ++ x ≡ rec_line k s ++ y → (g ≡ k) × (r ≡ s) × (x ≡ y)
rec_front g k r s x y pg pk pr ps h =
    let whole : line_onto g r x ≡ line_onto k s y = sym (line_is g r x) ∙ h ∙ line_is k s y in
    let one = decimal_front r.tick s.tick (codes " " ++ (decimal g ++ what_onto r.what (10 ∷ x))) (codes " " ++ (decimal k ++ what_onto s.what (10 ∷ y))) pr.0 ps.0 refl refl whole in
    let two = decimal_front g k (what_onto r.what (10 ∷ x)) (what_onto s.what (10 ∷ y)) pg pk (what_off r.what (10 ∷ x)) (what_off s.what (10 ∷ y)) (ap (drop 1) one.1) in
    let three = what_front r.what s.what x y pr.1 ps.1 two.1 in
    (two.0, rec_same r s one.0 three.0, three.1)
