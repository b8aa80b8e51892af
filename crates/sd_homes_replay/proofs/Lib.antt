mod LookLemmas
mod StepLemmas
