pub mod Texts
pub mod Reports
pub mod Judging
pub mod Verdicts
