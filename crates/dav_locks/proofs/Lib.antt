pub mod GrammarLemmas
pub mod HeldLemmas
pub mod IfLemmas
pub mod PathTests
pub mod TimeoutLemmas
