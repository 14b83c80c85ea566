-- `form` meets its contract. Assumes nothing.
use Rattle.halving_tree.proofs.FormLaws as laws
use native.Mathlib.Omega.{arith}
use Rattle.halving_tree.proofs.Subtree.form.Goals as goal

pub word-requires : goal.word-requires
word-requires c = laws.laid_in c.requires.0

pub returns-in-None : goal.returns-in-None
returns-in-None c = laws.form_node c.requires.0 (omega (arith, c.word.ensures, c.in-None.ensures))
