pub mod SoloRuns
