-- Claims: BlkView and DiskView, what contracts see of a disk, MadePages and Order. What its calls do stands in dev_face.
-- What proofs keep: Requests.
pub mod BlkView
pub mod DiskView
pub mod MadePages
pub mod Order
pub mod Requests
