-- The names that most proofs cite, passed on from one place. Declares nothing.
pub use Rattle.std.proofs.Common.{◌≡◌, ℕ, List, [], ◌∷◌, ◌++◌, length, map, sym, ap, subst, arith, ◌+◌, ◌<◌, ◌≤◌, get_or, take, Some, IfSome, Err, refl, ◌∙◌, Option, None, rules}
pub use Rattle.std.proofs.lemmas.Slice.Zip.{all_zipped_more, AllZip-right, AllZip-long}
pub use Rattle.std.specs.List.{AllZip, range_with_len}
pub use Rattle.std.specs.Prelude.{◌-◌, nat_le, replicate, slice_get}
pub use Rattle.exp_file.specs.Lists.{without_room}
pub use Rattle.exp_file.specs.declared.disk_spec.DiskSpec.{DiskSpec}
pub use Rattle.exp_file.specs.declared.experiment.Experiment.{Experiment}
pub use Rattle.exp_file.specs.declared.guest_spec.GuestSpec.{GuestSpec}
pub use Rattle.dev_face.specs.declared.kind.Kind.{Kind}
pub use Rattle.bench_build.specs.Answers.{IsTaken, ImageAnswers, DiskAnswers, Fills}
pub use Rattle.bench_build.specs.Building.{IsBuilding, images_wanted, images_added, disks_wanted, disks_added}
pub use Rattle.bench_build.specs.Inputs.{with_image, with_disk, Inputs}
pub use Rattle.bench_build.specs.Stocks.{IsUnbuilt, counts, items_of}
pub use Rattle.bench_build.specs.declared.build_fault.BuildFault.{BuildFault}
pub use Rattle.bench_build.specs.declared.build_fault.BuildFault.TheVariants.{Image, DiskSize, NoMemory, NoDevice}
pub use Rattle.open_images.specs.Openings.{AreImages, Unopened, images_alone, Unbuilt}
pub use Rattle.open_images.specs.Reads.{FilesSeen, IsRead, IsContent, IsLoaded, IsFilled, image_limit, files_seen, AreLoaded, disk_limit, AreRead}
pub use Rattle.open_images.specs.Takings.{HasTaken, build_fault, read_fault}
