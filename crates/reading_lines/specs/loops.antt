-- What only the proofs of loops and descents need. Nothing here has to be believed: no file of specs/ outside this folder uses it.
pub mod ToPack
