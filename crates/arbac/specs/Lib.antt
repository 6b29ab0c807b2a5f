-- What the functions for C callers tell, in numbers.
pub mod Face
pub mod FaceNumbers
