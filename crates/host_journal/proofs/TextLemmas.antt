-- The text of a journal fixes its entries.
use Rattle.std.proofs.Common.{◌≡◌, ◌∙◌, ℕ, ◌<◌, ◌^◌, List, [], ◌∷◌, ◌++◌, Option, Some, None, refl, sym, ap, ap₂, subst, arith, length, drop, get_or, append_assoc, codes}
use Rattle.std.specs.List.{filter, flat_map, AllByRecursion}
use Rattle.trace_rec.specs.Shown.{is_shown}
use Rattle.trace_rec.specs.declared.view.View.TheVariants.{Journal}
use Rattle.std.specs.Fmt.{decimal}
use Rattle.tb_text.specs.Fronts.{StartsOff, is_digit}
use Rattle.tb_text.proofs.FrontLemmas.{decimal_front}
use Rattle.trace_rec.specs.Lines.{field, rec_line}
use Rattle.trace_rec.specs.Values.{IsRec}
use Rattle.trace_rec.specs.declared.rec.Rec.{Rec}
use Rattle.trace_rec.proofs.LineLemmas.{rec_front, line_starts}
use Rattle.host_journal.specs.declared.head.Head.{Head}
use Rattle.host_journal.specs.declared.quantum.Quantum.{Quantum}
use Rattle.host_journal.specs.Entries.{Entry, Host, Slot, Ran, End}
use Rattle.host_journal.specs.Named.{NamesSlots, IsEntry, IsPrintable, IsHeadOfValues, SameNumbers}
use Rattle.host_journal.specs.Texts.{size_words, head_line, quantum_line, rec_lines, entry_lines, entries_text, journal_text}

-- the records of a guest, and what follows them
recs_front : (g : ℕ) (rs ss : List Rec) (x y : List ℕ) → g < 2 ^ 64 → AllByRecursion IsRec rs → AllByRecursion IsRec ss → StartsOff is_digit x → StartsOff is_digit y
    → rec_lines g rs ++ x ≡ rec_lines g ss ++ y → (rs ≡ ss) × (x ≡ y)
recs_front g [] [] x y small p q s t h = (refl, h)
recs_front g [] (b ∷ bs) x y small p q s t h =
    absurd (line_starts g b (rec_lines g bs ++ y) q.0 (subst (λ (z : List ℕ). StartsOff is_digit z) (h ∙ append_assoc (rec_line g b) (rec_lines g bs) y) s))
recs_front g (a ∷ js) [] x y small p q s t h =
    absurd (line_starts g a (rec_lines g js ++ x) p.0 (subst (λ (z : List ℕ). StartsOff is_digit z) (sym h ∙ append_assoc (rec_line g a) (rec_lines g js) x) t))
recs_front g (a ∷ js) (b ∷ bs) x y small p q s t h =
    let first = rec_front g g a b (rec_lines g js ++ x) (rec_lines g bs ++ y) small small p.0 q.0
    (sym (append_assoc (rec_line g a) (rec_lines g js) x) ∙ h ∙ append_assoc (rec_line g b) (rec_lines g bs) y) in
    let rest = recs_front g js bs x y small p.1 q.1 s t first.2 in
    (ap₂ (λ (r : Rec) (rs : List Rec). r ∷ rs) first.1 rest.0, rest.1)

-- no entry begins with a digit
entries_off : (h : Head) (es : List Entry) → StartsOff is_digit (flat_map (entry_lines Journal h) es)
entries_off h [] = tt
entries_off h (Host t ∷ es) = refl
entries_off h (Slot s ∷ es) = refl
entries_off h (Ran q recs ∷ es) = refl
entries_off h (End ∷ es) = refl

-- a line of one number, by its text without the word before it
number_line : (m n : ℕ) (x y : List ℕ) → m < 2 ^ 64 → n < 2 ^ 64 → (decimal m ++ (10 ∷ [])) ++ x ≡ (decimal n ++ (10 ∷ [])) ++ y → (m ≡ n) × (x ≡ y)
number_line m n x y p q h =
    let parts = decimal_front m n (10 ∷ x) (10 ∷ y) p q refl refl (sym (append_assoc (decimal m) (10 ∷ []) x) ∙ h ∙ append_assoc (decimal n) (10 ∷ []) y) in
    (parts.0, ap (drop 1) parts.1)

abbrev quantum_onto : Quantum → List ℕ → List ℕ
quantum_onto q z = codes "run " ++ (decimal q.guest ++ (codes " units " ++ (decimal q.units ++ (codes " done " ++ (decimal q.done ++ (10 ∷ z))))))

regroup : (a b c d e z : List ℕ) → ((((a ++ b) ++ c) ++ d) ++ e) ++ z ≡ a ++ (b ++ (c ++ (d ++ (e ++ z))))
regroup a b c d e z = simp append_assoc

quantum_is : (q : Quantum) (recs x : List ℕ) → (quantum_line q ++ recs) ++ x ≡ quantum_onto q (recs ++ x)
quantum_is q recs x = regroup (field (codes "run ") q.guest) (field (codes " units ") q.units) (field (codes " done ") q.done) (codes "\n") recs x

-- the journal shows all records
all_shown : (recs : List Rec) → filter (is_shown Journal) recs ≡ recs
all_shown [] = refl
all_shown (r ∷ rs) = ap (λ (x : List Rec). r ∷ x) (all_shown rs)

shown_is : (q : Quantum) (recs : List Rec) (x : List ℕ) → (quantum_line q ++ rec_lines q.guest (filter (is_shown Journal) recs)) ++ x ≡ quantum_onto q (rec_lines q.guest recs ++ x)
shown_is q recs x = quantum_is q (rec_lines q.guest (filter (is_shown Journal) recs)) x ∙ ap (λ (r : List Rec). quantum_onto q (rec_lines q.guest r ++ x)) (all_shown recs)

quantum_front : (p q : Quantum) (x y : List ℕ) → p.guest < 2 ^ 32 → p.units < 2 ^ 64 → p.done < 2 ^ 64 → q.guest < 2 ^ 32 → q.units < 2 ^ 64 → q.done < 2 ^ 64
    → quantum_onto p x ≡ quantum_onto q y → (p.guest ≡ q.guest) × (p.units ≡ q.units) × (p.done ≡ q.done) × (x ≡ y)
quantum_front p q x y a b c d e f h =
    let one = decimal_front p.guest q.guest (codes " units " ++ (decimal p.units ++ (codes " done " ++ (decimal p.done ++ (10 ∷ x))))) (codes " units " ++ (decimal q.units ++ (codes " done " ++ (decimal q.done ++ (10 ∷ y)))))
    (omega arith) (omega arith) refl refl (ap (drop 4) h) in
    let two = decimal_front p.units q.units (codes " done " ++ (decimal p.done ++ (10 ∷ x))) (codes " done " ++ (decimal q.done ++ (10 ∷ y))) b e refl refl (ap (drop 7) one.1) in
    let three = decimal_front p.done q.done (10 ∷ x) (10 ∷ y) c f refl refl (ap (drop 6) two.1) in
    (one.0, two.0, three.0, ap (drop 1) three.1)

abbrev quantum_at : ℕ → ℕ → ℕ → ℕ → Quantum
quantum_at s g u d = record { slot = s; guest = g; units = u; done = d }

same_quantum : (p q : Quantum) → p.slot ≡ q.slot → p.guest ≡ q.guest → p.units ≡ q.units → p.done ≡ q.done → p ≡ q
same_quantum p q a b c d =
    let whole : quantum_at p.slot p.guest p.units p.done ≡ quantum_at q.slot q.guest q.units q.done = cc in whole

first_letter : (x y : List ℕ) → x ≡ y → get_or x 0 0 ≡ get_or y 0 0
first_letter x y h = ap (λ (l : List ℕ). get_or l 0 0) h

entries_same : (turn : Option ℕ) (h k : Head) (js bs : List Entry) → h.host_ticks < 2 ^ 64 → k.host_ticks < 2 ^ 64 → AllByRecursion IsEntry js → AllByRecursion IsEntry bs
    → NamesSlots turn js → NamesSlots turn bs → flat_map (entry_lines Journal h) js ≡ flat_map (entry_lines Journal k) bs → js ≡ bs
entries_same turn h k [] [] hs ks p q m n e = refl
entries_same turn h k [] (Host t ∷ bs) hs ks p q m n e = absurd (cc e)
entries_same turn h k [] (Slot s ∷ bs) hs ks p q m n e = absurd (cc e)
entries_same turn h k [] (Ran u rs ∷ bs) hs ks p q m n e = absurd (cc e)
entries_same turn h k [] (End ∷ bs) hs ks p q m n e = absurd (cc e)
entries_same turn h k (Host t ∷ js) [] hs ks p q m n e = absurd (cc e)
entries_same turn h k (Slot s ∷ js) [] hs ks p q m n e = absurd (cc e)
entries_same turn h k (Ran u rs ∷ js) [] hs ks p q m n e = absurd (cc e)
entries_same turn h k (End ∷ js) [] hs ks p q m n e = absurd (cc e)
entries_same turn h k (Host t ∷ js) (Host u ∷ bs) hs ks p q m n e =
    let line = number_line t u (flat_map (entry_lines Journal h) js) (flat_map (entry_lines Journal k) bs) p.0 q.0 (ap (drop 5) e) in
    ap₂ (λ (x : Entry) (xs : List Entry). x ∷ xs) (ap Host line.0) (entries_same None h k js bs hs ks p.1 q.1 m n line.1)
entries_same turn h k (Slot s ∷ js) (Slot u ∷ bs) hs ks p q m n e =
    let line = number_line s u (flat_map (entry_lines Journal h) js) (flat_map (entry_lines Journal k) bs) (omega (arith, p.0)) (omega (arith, q.0)) (ap (drop 5) e) in
    let same : NamesSlots (Some s) bs = subst (λ (i : ℕ). NamesSlots (Some i) bs) (sym line.0) n in
    ap₂ (λ (x : Entry) (xs : List Entry). x ∷ xs) (ap Slot line.0) (entries_same (Some s) h k js bs hs ks p.1 q.1 m same line.1)
entries_same turn h k (End ∷ js) (End ∷ bs) hs ks p q m n e =
    let line = number_line h.host_ticks k.host_ticks (flat_map (entry_lines Journal h) js) (flat_map (entry_lines Journal k) bs) hs ks (ap (drop 4) e) in
    ap (λ (xs : List Entry). End ∷ xs) (entries_same None h k js bs hs ks p.1 q.1 m n line.1)
entries_same turn h k (Ran u rs ∷ js) (Ran v ss ∷ bs) hs ks p q m n e =
    let x : List ℕ = flat_map (entry_lines Journal h) js in
    let y : List ℕ = flat_map (entry_lines Journal k) bs in
    let line = quantum_front u v (rec_lines u.guest rs ++ x) (rec_lines v.guest ss ++ y) p.0.0 p.0.1 p.0.2 q.0.0 q.0.1 q.0.2
    (sym (shown_is u rs x) ∙ e ∙ shown_is v ss y) in
    let one : rec_lines u.guest rs ++ x ≡ rec_lines u.guest ss ++ y = line.3 ∙ ap (λ (g : ℕ). rec_lines g ss ++ y) (sym line.0) in
    let recs = recs_front u.guest rs ss x y (omega (arith, p.0.0)) p.0.3 q.0.3 (entries_off h js) (entries_off k bs) one in
    let slot : u.slot ≡ v.slot = cc (m.0, n.0) in
    ap₂ (λ (a : Entry) (xs : List Entry). a ∷ xs) (ap₂ Ran (same_quantum u v slot line.0 line.1 line.2) recs.0) (entries_same turn h k js bs hs ks p.1 q.1 m.1 n.1 recs.1)
entries_same turn h k (a ∷ js) (b ∷ bs) hs ks p q m n e = absurd (omega (arith, ap (λ (l : List ℕ). get_or l 0 0) e))

abbrev head_onto : Head → List ℕ → List ℕ
head_onto h z = codes "diecast 1 factor " ++ (decimal h.factor ++ (codes " slots " ++ (decimal h.slots ++ (codes " guests " ++ (decimal (length h.names.items) ++ (codes " host " ++ (decimal h.host_ticks ++ (10 ∷ z))))))))

regroup_head : (a b c d e z : List ℕ) → (((a ++ (b ++ c)) ++ d) ++ e) ++ z ≡ a ++ (b ++ (c ++ (d ++ (e ++ z))))
regroup_head a b c d e z = simp append_assoc

head_is : (h : Head) (x : List ℕ) → head_line h ++ x ≡ head_onto h x
unfolding size_words
head_is h x = regroup_head (field (codes "diecast 1 factor ") h.factor) (field (codes " slots ") h.slots) (field (codes " guests ") (length h.names.items)) (field (codes " host ") h.host_ticks) (codes "\n") x

head_front : (h k : Head) (x y : List ℕ) → IsHeadOfValues h → IsHeadOfValues k → head_onto h x ≡ head_onto k y → SameNumbers h k × (x ≡ y)
head_front h k x y p q e =
    let one = decimal_front h.factor k.factor
    (codes " slots " ++ (decimal h.slots ++ (codes " guests " ++ (decimal (length h.names.items) ++ (codes " host " ++ (decimal h.host_ticks ++ (10 ∷ x)))))))
    (codes " slots " ++ (decimal k.slots ++ (codes " guests " ++ (decimal (length k.names.items) ++ (codes " host " ++ (decimal k.host_ticks ++ (10 ∷ y)))))))
    p.factor q.factor refl refl (ap (drop 17) e) in
    let two = decimal_front h.slots k.slots
    (codes " guests " ++ (decimal (length h.names.items) ++ (codes " host " ++ (decimal h.host_ticks ++ (10 ∷ x)))))
    (codes " guests " ++ (decimal (length k.names.items) ++ (codes " host " ++ (decimal k.host_ticks ++ (10 ∷ y)))))
    (omega (arith, p.slots)) (omega (arith, q.slots)) refl refl (ap (drop 7) one.1) in
    let three = decimal_front (length h.names.items) (length k.names.items) (codes " host " ++ (decimal h.host_ticks ++ (10 ∷ x))) (codes " host " ++ (decimal k.host_ticks ++ (10 ∷ y)))
    p.guests q.guests refl refl (ap (drop 8) two.1) in
    let four = decimal_front h.host_ticks k.host_ticks (10 ∷ x) (10 ∷ y) p.host_ticks q.host_ticks refl refl (ap (drop 6) three.1) in
    (record { factor = one.0; slots = two.0; guests = three.0; host_ticks = four.0 }, ap (drop 1) four.1)

pub journal_same : (h k : Head) (es fs : List Entry) → IsHeadOfValues h → IsHeadOfValues k → IsPrintable es → IsPrintable fs → journal_text h es ≡ journal_text k fs
    → SameNumbers h k × (es ≡ fs)
unfolding entries_text
journal_same h k es fs p q v w e =
    let head = head_front h k (flat_map (entry_lines Journal h) es) (flat_map (entry_lines Journal k) fs) p q
    (sym (head_is h (flat_map (entry_lines Journal h) es)) ∙ e ∙ head_is k (flat_map (entry_lines Journal k) fs)) in
    (head.0, entries_same None h k es fs p.host_ticks q.host_ticks v.values w.values v.named w.named head.1)
