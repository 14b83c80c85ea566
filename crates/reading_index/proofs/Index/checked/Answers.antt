-- `reading_index::Index::checked` meets its contract. Assumes nothing.
use Rattle.column_index.specs.Promise.{checked_answer}
use Rattle.reading_index.proofs.Index.checked.Goals as goal

pub returns : goal.returns
unfolding checked_answer
returns c = c.checked_rows.ensures
