pub mod CountLemmas
pub mod GuestLemmas
pub mod HeldLemmas
pub mod StandingLemmas
pub mod TextLemmas
