-- What a reader must believe.
pub mod Numbers
pub mod Form
