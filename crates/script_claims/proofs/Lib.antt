pub mod Hypotheses
pub mod ReadGoals
pub mod Formulas
pub mod NormalParts
pub mod Grows
pub mod FormulaParts
pub mod Facts
pub mod InParts
