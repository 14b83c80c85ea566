-- What only the proofs of the decoding need. Nothing here has to be believed: no file of specs/ outside this folder uses it.
pub mod Takes
