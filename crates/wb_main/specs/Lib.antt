-- What the program's own contracts say.
pub mod Afterwards
pub mod Asked
pub mod Log
pub mod Picture
