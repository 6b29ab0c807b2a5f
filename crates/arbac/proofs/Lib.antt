-- Laws and theorems about the definitions of specs/.
pub mod FaceLaws
pub mod FaceExact
