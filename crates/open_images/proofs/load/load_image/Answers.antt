-- The image that was read is that of the guest.
use Rattle.open_images.proofs.Common.{◌≡◌, ℕ, ◌≤◌, List, length, Option, IfSome, rules, IsRead, files_seen, image_limit}
use Rattle.open_images.proofs.Loading.{is_at, image_refused, image_taken}
use Rattle.open_images.proofs.load.load_image.Goals as goal

-- what was read of a file of this name
read_is : (held : List ℕ → Option (List ℕ)) (limit : ℕ) (name image v b : List ℕ) → name ≡ image → b ≡ v → (length v ≤ limit) × IfSome (held name) (λ z. v ≡ z) → IsRead (held image) limit b
read_is held limit name image v b p q h = rw (← p, q) (record { held = h.1; fits = h.0 })

pub returns-clause-missed : goal.returns-clause-missed
returns-clause-missed g c = λ slots had t.
    let guest = c.index-guests-guest.result in
    let read = read_is (g.F.Files.held c.args.files.now) image_limit _ guest.image _ c.as_slice.result.now c.as_str.ensures.text c.as_slice.ensures.value c.in-Ok.ensures.answer in
    rw c.build_fault.ensures
    (image_refused (files_seen g.F.Files c.args.files.now) (files_seen g.F.Files c.read.new.self) c.args.e.now slots c.args.builder.now c.args.guest guest
    (is_at c.args.e.now.guests.items c.args.guest guest _ c.as_slice-guests.ensures c.requires.guest c.index-guests-guest.is) c.requires.next t c.as_slice.result.now read
    had c.in-Err-add_image.fault (c.in-Err-add_image.ensures.answer c.args.e.now slots t.inputs guest t.building))

pub returns-in-Ok-add_image-clause-taken : goal.returns-in-Ok-add_image-clause-taken
returns-in-Ok-add_image-clause-taken g c = λ slots t.
    let guest = c.index-guests-guest.result in
    let read = read_is (g.F.Files.held c.args.files.now) image_limit _ guest.image _ c.as_slice.result.now c.as_str.ensures.text c.as_slice.ensures.value c.in-Ok.ensures.answer in
    image_taken (files_seen g.F.Files c.args.files.now) (files_seen g.F.Files c.read.new.self) c.args.e.now slots c.args.builder.now c.args.guest guest
    (is_at c.args.e.now.guests.items c.args.guest guest _ c.as_slice-guests.ensures c.requires.guest c.index-guests-guest.is) c.requires.next t c.as_slice.result.now read
    c.add_image.new.self (search rules) (c.in-Ok-add_image.ensures.answer c.args.e.now slots t.inputs guest t.building)
    (c.in-Ok-add_image.ensures.building c.args.e.now slots t.inputs t.building)
