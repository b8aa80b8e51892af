pub mod SetsTouched
pub mod Touched
