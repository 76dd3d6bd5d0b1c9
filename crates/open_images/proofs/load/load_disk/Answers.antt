-- What was read is the content of the disk.
use Rattle.open_images.proofs.Common.{sym, subst, without_room, IsContent, files_seen}
use Rattle.open_images.proofs.Loading.{is_at, disk_refused, disk_taken}
use Rattle.open_images.proofs.load.load_disk.Goals as goal

pub returns-in-Err-clause-missed : goal.returns-in-Err-clause-missed
returns-in-Err-clause-missed g c = λ slots had t.
    c.in-Err.ensures.missed (without_room c.args.e.now) t.inputs had
    (is_at c.args.e.now.disks.items c.args.disk c.index-disks-disk.result _ c.as_slice-disks.ensures c.requires.disk c.index-disks-disk.is).here t.loaded

pub returns-clause-missed : goal.returns-clause-missed
returns-clause-missed g c = λ slots had t.
    let disk = c.index-disks-disk.result in
    rw c.build_fault.ensures
    (disk_refused (files_seen g.F.Files c.args.files.now) (files_seen g.F.Files c.read_content.new.files) c.args.e.now slots c.args.builder.now c.args.disk disk
    (is_at c.args.e.now.disks.items c.args.disk disk _ c.as_slice-disks.ensures c.requires.disk c.index-disks-disk.is) c.requires.next t
    c.as_slice.result.now (subst (IsContent (g.F.Files.held c.args.files.now) disk.image) (sym c.as_slice.ensures.value) c.in-Ok.ensures.content)
    had c.in-Err-add_disk.fault (c.in-Err-add_disk.ensures.answer c.args.e.now slots t.inputs disk t.building))

pub returns-in-Ok-add_disk-clause-taken : goal.returns-in-Ok-add_disk-clause-taken
returns-in-Ok-add_disk-clause-taken g c = λ slots t.
    let disk = c.index-disks-disk.result in
    disk_taken (files_seen g.F.Files c.args.files.now) (files_seen g.F.Files c.read_content.new.files) c.args.e.now slots c.args.builder.now c.args.disk disk
    (is_at c.args.e.now.disks.items c.args.disk disk _ c.as_slice-disks.ensures c.requires.disk c.index-disks-disk.is) c.requires.next t
    c.as_slice.result.now (subst (IsContent (g.F.Files.held c.args.files.now) disk.image) (sym c.as_slice.ensures.value) c.in-Ok.ensures.content)
    c.add_disk.new.self c.in-Ok.ensures.same (c.in-Ok-add_disk.ensures.answer c.args.e.now slots t.inputs disk t.building)
    (c.in-Ok-add_disk.ensures.building c.args.e.now slots t.inputs t.building)
