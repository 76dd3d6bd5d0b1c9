pub mod FrontLemmas
pub mod GrownLemmas
mod PairLemmas
