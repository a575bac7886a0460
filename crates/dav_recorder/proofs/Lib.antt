pub mod Standing
pub mod Filing
pub mod StartLemmas
pub mod DueLemmas
pub mod LiveLemmas
pub mod PlanLemmas
pub mod IndexLemmas
