-- `guarded_search::Search::look` meets its contract, by whether the range search listed nothing. Assumes nothing.
use mathlib.Core.Path.{refl}
use mir.Syntax.{w32}
use mir.ValLaws.{to_z_pos}
use Rattle.std.proofs.lemmas.Result.{err_from_is_err_and}
use Rattle.guarded_search.proofs.CallLaws.{looks_small, sought_refused, sought_left, sought_missed}
use Rattle.guarded_search.proofs.Search.look.Goals as goal

pub returns-in_err-counts : goal.returns-in_err-counts
returns-in_err-counts c =
    let small = looks_small c.requires in
    let e = err_from_is_err_and c.from_residual.result c.from_residual.ensures.1 in
    rw (e.1, e.2) (sought_refused c.requires (rw (to_z_pos w32 c.args.self.now.low.0 small.0, to_z_pos w32 c.args.self.now.high.0 small.1) at c.in_err-counts.ensures) _ refl)

pub returns-then-counts-eq0 : goal.returns-then-counts-eq0
returns-then-counts-eq0 c =
    let small = looks_small c.requires in
    sought_missed c.requires (rw (to_z_pos w32 c.args.self.now.low.0 small.0, to_z_pos w32 c.args.self.now.high.0 small.1) at c.in_ok-counts.ensures) _ refl c.if-counts-eq0.true _ _ c.learn_gap-outcome.ensures

pub returns : goal.returns
returns c =
    let small = looks_small c.requires in
    sought_left c.requires (rw (to_z_pos w32 c.args.self.now.low.0 small.0, to_z_pos w32 c.args.self.now.high.0 small.1) at c.in_ok-counts.ensures) _ refl c.if-counts-eq0.false
