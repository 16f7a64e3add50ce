pub mod FallingEnds
pub mod Renaming
pub mod ImagesTake
pub mod ImagesBind
pub mod ImagesAreSound
pub mod ClassesFound
