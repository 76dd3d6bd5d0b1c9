-- Claims: NicView and CardView, what contracts see of a nic, and Backlogs, the words of its laws. What its calls do stands in dev_face.
pub mod Backlogs
pub mod CardView
pub mod NicView
