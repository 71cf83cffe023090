pub mod OnTarget
pub mod Numbers
pub mod Sound
pub mod SoundRewriting
pub mod Isotone
pub mod IsotoneRewriting
