pub mod LogLemmas
