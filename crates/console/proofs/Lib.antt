-- The lemmas of the crate: what is read, the turns of the loop over a text, and what is written.
mod Reading
mod Turns
mod Written
