pub mod Shapes
pub mod Sound
pub mod SoundSizes
pub mod SoundOperations
pub mod Isotone
pub mod IsotoneSizes
pub mod IsotoneOperations
pub mod OnTarget
