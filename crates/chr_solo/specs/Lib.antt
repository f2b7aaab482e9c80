pub mod Solo
pub mod SoloCode
pub mod SoloSteps
