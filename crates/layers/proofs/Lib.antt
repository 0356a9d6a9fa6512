pub mod LetsCase
pub mod LetEnds
pub mod LambdaEnter
pub mod Closing
pub mod LambdaEnds
