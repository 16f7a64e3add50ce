mod PartsFound
mod SitesFound
mod SlotsFilled
mod KernelsMade
mod InterfacesSound
mod PartsListed
mod NumbersFound
mod NamesDeclared
mod TreeStarts
pub mod CopiesMade
pub mod ConstantsAlike
pub mod SoundParts
pub mod GraphsGrow
pub mod KernelsStay
pub mod ProgramResolved
pub mod SitePatterns
