-- `reading_index::Index::unpack` meets its contract. Assumes nothing.
use mathlib.Core.Path.{◌≡◌, sym, ◌∙◌}
use native.Mathlib.Omega.{arith}
use Rattle.std.specs.Prelude.{Ok}
use Rattle.std.proofs.lemmas.Result.{err_from_is_err_and}
use Rattle.bins.specs.Bins.{readings}
use Rattle.column_index.specs.Promise.{checked_lines}
use Rattle.column_index.proofs.AnswerLaws.{unpack_too_long, unpack_refused, unpacked_length, unpack_short, unpack_done}
use Rattle.reading_index.proofs.Index.unpack.Goals as goal
use Rattle.reading_index.proofs.Index.unpack.Goals.{In_ok-checked_lines}

-- the checks passed
passed : (c : In_ok-checked_lines) → checked_lines readings c.args.lines c.args.self.now.borders.now c.args.self.now.imprints.now c.args.self.now.dictionary.now ≡ Ok tt
passed c = sym c.checked_lines.ensures ∙ c.in_ok-checked_lines.was

pub returns-then-lines-gt-MOST_LINES : goal.returns-then-lines-gt-MOST_LINES
returns-then-lines-gt-MOST_LINES c =
    let a = c.args in
    unpack_too_long readings a.self.now.borders.now a.self.now.imprints.now a.self.now.dictionary.now a.lines a.list.now c.if-lines-gt-MOST_LINES.true

pub returns-in_err-checked_lines : goal.returns-in_err-checked_lines
returns-in_err-checked_lines c =
    let a = c.args in
    let e = err_from_is_err_and c.from_residual.result c.from_residual.ensures.1 in
    rw (e.1, e.2) (unpack_refused readings a.self.now.borders.now a.self.now.imprints.now a.self.now.dictionary.now a.lines a.list.now c.if-lines-gt-MOST_LINES.false (sym c.checked_lines.ensures ∙ c.in_err-checked_lines.was))

pub returns-then-list-lines : goal.returns-then-list-lines
returns-then-list-lines c =
    let a = c.args in
    unpack_short readings a.self.now.borders.now a.self.now.imprints.now a.self.now.dictionary.now a.lines a.list.now c.if-lines-gt-MOST_LINES.false (passed (goal.at.returns-then-list-lines c).In_ok-checked_lines) c.if-list-lines.true

pub unpack_into-requires : goal.unpack_into-requires
unpack_into-requires c =
    let a = c.args in
    omega (arith, unpacked_length readings a.self.now.borders.now a.self.now.imprints.now a.self.now.dictionary.now a.lines a.list.now c.if-lines-gt-MOST_LINES.false (passed (goal.at.unpack_into-requires c).In_ok-checked_lines), c.if-list-lines.false)

pub returns : goal.returns
returns c =
    let a = c.args in
    unpack_done readings a.self.now.borders.now a.self.now.imprints.now a.self.now.dictionary.now a.lines a.list.now c.if-lines-gt-MOST_LINES.false (passed (goal.at.returns c).In_ok-checked_lines) c.if-list-lines.false _ c.unpack_into.ensures
