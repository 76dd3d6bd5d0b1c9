-- Data moves a piece at a time.
use Rattle.std.proofs.Common.{◌≡◌, ℕ, ◌+◌, ◌*◌, ◌-◌, ◌≤◌, ◌&&◌, Bool, true, List, [], ◌∷◌, ◌++◌, length, take, drop, slice_range, refl, sym, ap, ◌∙◌, arith, append_assoc}
use Rattle.std.specs.Prelude.{◌==◌}
use Rattle.std.proofs.lemmas.List.{take-take, take-append-drop, drop-take, drop-drop, length-append}
use Rattle.std.proofs.lemmas.Bool.{cond-true}
use Rattle.byte_pages.specs.LittleEndian.{with_bytes}
use Rattle.byte_pages.proofs.Writes.{two_writes}
use Rattle.split_queue.specs.declared.range.Range.{Range}
use Rattle.split_queue.specs.Streams.{range_bytes, stream, stream_len, written, RangesIn, ChainIn}
use Rattle.split_queue.proofs.StreamLemmas.{cons_len, len_slice, length_range}
use Rattle.split_queue.proofs.WriteLemmas.{written_append}
use Rattle.dev_face.specs.BlkStates.{FlightState}
use Rattle.dev_face.specs.BlkRequests.{data_len, content_moved}

-- the bytes from a place on, and then those right behind them
joined : (xs : List ℕ) (a b c : ℕ) → a ≤ b → b ≤ c → slice_range xs a c ≡ slice_range xs a b ++ slice_range xs b c
joined xs a b c l m =
    let n : ℕ = b - a in
    let k : ℕ = c - b in
    let all : c - a ≡ n + k = omega (arith, l, m) in
    let place : a + n ≡ b = omega (arith, l) in
    let whole : List ℕ = take (n + k) (drop a xs) in
    ap (λ (j : ℕ). take j (drop a xs)) all
    ∙ (sym (take-append-drop n whole)
    ∙ (ap (λ (ys : List ℕ). ys ++ drop n whole) (take-take n (n + k) (drop a xs) (omega arith))
    ∙ ap (λ (ys : List ℕ). take n (drop a xs) ++ ys) (drop-take n k (drop a xs) ∙ ap (take k) (drop-drop n a xs ∙ ap (λ (j : ℕ). drop j xs) place))))

-- the joined ranges have as many bytes as they say
pub length_stream : (ram : List ℕ) (rs : List Range) → RangesIn ram rs → length (stream ram rs) ≡ stream_len rs
length_stream ram [] h = refl
length_stream ram (r ∷ rs) h =
    length-append (range_bytes ram r) (stream ram rs) ∙ omega (arith, length_range ram r h.0, length_stream ram rs h.1, cons_len r rs)

-- one more piece is read
pub read_more : (ram now : List ℕ) (rs : List Range) (content piece : List ℕ) (at done n : ℕ) → at + (done + n) ≤ length content →
    now ≡ written ram rs 0 (slice_range content at (at + done)) →
    piece ≡ slice_range content (at + done) (at + done + n) →
    written now rs done piece ≡ written ram rs 0 (slice_range content at (at + (done + n)))
read_more ram now rs content piece at done n fits was is =
    let b : ℕ = at + done in
    let xs : List ℕ = slice_range content at b in
    let next : b + n ≡ at + (done + n) = omega arith in
    let len : 0 + length xs ≡ done = omega (arith, len_slice at b content (omega (arith, fits))) in
    ap (λ (r : List ℕ). written r rs done piece) was
    ∙ (ap (λ (k : ℕ). written (written ram rs 0 xs) rs k piece) (sym len)
    ∙ (sym (written_append ram rs 0 xs piece)
    ∙ ap (written ram rs 0) (ap (λ (ys : List ℕ). xs ++ ys) is ∙ (sym (joined content at b (b + n) (omega arith) (omega arith)) ∙ ap (slice_range content at) next))))

-- one more piece is written
pub write_more : (old now source piece : List ℕ) (at done n : ℕ) → 16 + (done + n) ≤ length source → at + (done + n) ≤ length old →
    now ≡ with_bytes old at (slice_range source 16 (16 + done)) →
    piece ≡ slice_range source (16 + done) (16 + done + n) →
    with_bytes now (at + done) piece ≡ with_bytes old at (slice_range source 16 (16 + (done + n)))
write_more old now source piece at done n from to was is =
    let a : ℕ = 16 + done in
    let xs : List ℕ = slice_range source 16 a in
    let len : length xs ≡ done = omega (arith, len_slice 16 a source (omega (arith, from))) in
    let size : length piece ≡ n = ap length is ∙ omega (arith, len_slice a (a + n) source (omega (arith, from))) in
    let next : a + n ≡ 16 + (done + n) = omega arith in
    ap (λ (w : List ℕ). with_bytes w (at + done) piece) was
    ∙ (two_writes old xs piece at (at + done) (omega (arith, len)) (omega (arith, len, size, to))
    ∙ ap (with_bytes old at) (ap (λ (ys : List ℕ). xs ++ ys) is ∙ (sym (joined source 16 a (a + n) (omega arith) (omega arith)) ∙ ap (slice_range source 16) next)))

-- the data of a write is moved
pub content_written : (ram content : List ℕ) (f : FlightState) (len : ℕ) (good : Bool) → ChainIn ram f.chain → 16 ≤ stream_len f.chain.readable → len ≡ data_len f.kind f.chain → good ≡ true → f.kind ≡ 1 →
    with_bytes content (512 * f.sector) (slice_range (stream ram f.chain.readable) 16 (16 + len)) ≡ content_moved len good content ram f
content_written ram content f len good fits header size is_good kind =
    let at : ℕ = 512 * f.sector in
    let source : List ℕ = stream ram f.chain.readable in
    let moved : List ℕ = slice_range source 16 (16 + len) in
    let behind : len ≡ stream_len f.chain.readable - 16 = size ∙ ap (λ (k : ℕ). data_len k f.chain) kind in
    let long : length moved ≡ len = omega (arith, len_slice 16 (16 + len) source (omega (arith, behind, header, length_stream ram f.chain.readable fits.0))) in
    let writes : (good && (f.kind == 1)) ≡ true = ap (λ (b : Bool). b && (f.kind == 1)) is_good ∙ ap (λ (k : ℕ). true && (k == 1)) kind in
    ap (λ (n : ℕ). take at content ++ moved ++ drop (at + n) content) long
    ∙ (append_assoc (take at content) moved (drop (at + len) content)
    ∙ sym (cond-true (good && (f.kind == 1)) (take at content ++ (moved ++ drop (at + len) content)) content writes))
