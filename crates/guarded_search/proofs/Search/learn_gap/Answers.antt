-- `guarded_search::Search::learn_gap` meets its contract, by what `read`, `gap_in` and `learn` say. Assumes nothing.
use mathlib.Core.Path.{refl}
use Rattle.std.specs.Prelude.{Ok, Err}
use Rattle.guarded_search.specs.declared.Outcome.TheVariants.{Learnt, NotLearnt}
use Rattle.guarded_search.proofs.CallLaws.{missed_hidden, missed_taught}
use Rattle.guarded_search.proofs.Search.learn_gap.Goals as goal

pub returns-then-gap : goal.returns-then-gap
returns-then-gap c =
    let g = c.gap_in-gap in
    missed_hidden c.requires c.in-Ok.ensures c.span.result c.span.ensures c.args.self.now.column.now g.result g.ensures c.if-gap.true

pub returns-in-Ok-learn : goal.returns-in-Ok-learn
returns-in-Ok-learn c =
    let g = c.gap_in-gap in
    missed_taught c.requires c.in-Ok.ensures c.span.result c.span.ensures c.args.self.now.column.now g.result g.ensures c.if-gap.false (Ok tt) c.in-Ok-learn.ensures Learnt refl

pub returns-in-Err : goal.returns-in-Err
returns-in-Err c =
    let g = c.gap_in-gap in
    missed_taught c.requires c.in-Ok.ensures c.span.result c.span.ensures c.args.self.now.column.now g.result g.ensures c.if-gap.false (Err _) c.in-Err.ensures NotLearnt refl
