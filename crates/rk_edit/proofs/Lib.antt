mod Bits
mod Customs
mod Shorter
mod Steps
mod Tracking
mod Values
mod Views
mod WholeKeys
