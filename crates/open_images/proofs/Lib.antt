mod Common
mod Generated
mod Loading
