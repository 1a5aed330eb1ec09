mod AtLemmas
mod DescentLemmas
mod DescentTurns
mod StandLemmas
pub mod AimLemmas
pub mod CourseLemmas
pub mod FollowLemmas
pub mod ListLemmas
pub mod MarkedEdits
pub mod MarkedFiles
pub mod Marks
pub mod TallyLemmas
pub mod TurnLemmas
pub mod WalkLemmas
