-- `reading_index::Index::checked_rows` meets its contract. Assumes nothing.
use Prim.Native.Nat.{ℕ}
use mathlib.Core.Path.{ap, ◌∙◌}
use Rattle.bins.specs.Bins.{readings}
use Rattle.column_index.specs.Promise.{checked_lines}
use Rattle.column_index.proofs.CallLaws.{checked_long, checked_few}
use Rattle.reading_index.proofs.Index.checked_rows.Goals as goal

pub returns-then-rows-gt-MOST_ROWS : goal.returns-then-rows-gt-MOST_ROWS
returns-then-rows-gt-MOST_ROWS c = let a = c.args in checked_long readings a.rows a.self.now.borders.now a.self.now.imprints.now a.self.now.dictionary.now c.if-rows-gt-MOST_ROWS.true

pub returns : goal.returns
returns c =
    let a = c.args in
    c.checked_lines.ensures ∙ ap (λ (n : ℕ). checked_lines readings n a.self.now.borders.now a.self.now.imprints.now a.self.now.dictionary.now) c.line_count.ensures ∙ checked_few readings a.rows a.self.now.borders.now a.self.now.imprints.now a.self.now.dictionary.now c.if-rows-gt-MOST_ROWS.false
