pub mod CertificateLemmas
pub mod CutLemmas
pub mod EndLemmas
pub mod HandingLemmas
pub mod InputLemmas
pub mod PutLemmas
pub mod RefusalLemmas
pub mod WordLemmas
