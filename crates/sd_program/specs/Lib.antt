pub mod AuditAnswers
pub mod Audited
pub mod Certified
pub mod Forms
pub mod Headline
pub mod RunAnswers
pub mod Starts
pub mod TheRun
