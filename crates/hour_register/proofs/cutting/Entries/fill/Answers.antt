-- `hour_register::cutting::Entries::fill` meets its contract. Assumes nothing.
use mathlib.Core.Path.{sym, ◌∙◌}
use native.Mathlib.Omega.{arith}
use lib.Seq.{length-take-le}
use Rattle.hour_register.proofs.FillLaws.{zeros, gathered_few, gathered_size, gathered_within, once_few, listed_size, clear_size, ready, told_all}
use Rattle.hour_register.proofs.cutting.Entries.fill.Goals as goal

pub slice_bounds-sort_once-end : goal.slice_bounds-sort_once-end
slice_bounds-sort_once-end c =
    let t = c.note in
    let g = c.gather_late-late in
    omega (arith, gathered_few c.args.self.now.minutes.now c.args.self.now.count c.args.words.now t.new.words c.args.self.now.counted c.requires t.ensures g.new.words g.result g.ensures.0 g.ensures.1 g.ensures.2, gathered_size c.args.self.now.minutes.now c.args.self.now.count c.args.words.now t.new.words c.args.self.now.counted c.requires t.ensures g.new.words g.result g.ensures.0 g.ensures.1 g.ensures.2)

pub slice_bounds-sort_once-end-2 : goal.slice_bounds-sort_once-end-2
slice_bounds-sort_once-end-2 c =
    let t = c.note in
    let g = c.gather_late-late in
    sym (length-take-le g.result.count g.new.words (omega (arith, gathered_few c.args.self.now.minutes.now c.args.self.now.count c.args.words.now t.new.words c.args.self.now.counted c.requires t.ensures g.new.words g.result g.ensures.0 g.ensures.1 g.ensures.2, gathered_size c.args.self.now.minutes.now c.args.self.now.count c.args.words.now t.new.words c.args.self.now.counted c.requires t.ensures g.new.words g.result g.ensures.0 g.ensures.1 g.ensures.2)))

pub sort_once-once-requires : goal.sort_once-once-requires
sort_once-once-requires c =
    let t = c.note in
    let g = c.gather_late-late in
    gathered_within c.args.self.now.minutes.now c.args.self.now.count c.args.words.now t.new.words c.args.self.now.counted c.requires t.ensures g.new.words g.result g.ensures.0 g.ensures.1 g.ensures.2

pub slice_bounds-fill-end : goal.slice_bounds-fill-end
slice_bounds-fill-end c =
    let t = c.note in
    let g = c.gather_late-late in
    let o = c.sort_once-once in
    omega (arith, gathered_few c.args.self.now.minutes.now c.args.self.now.count c.args.words.now t.new.words c.args.self.now.counted c.requires t.ensures g.new.words g.result g.ensures.0 g.ensures.1 g.ensures.2, once_few c.args.self.now.minutes.now c.args.self.now.count c.args.words.now t.new.words c.args.self.now.counted c.requires t.ensures g.new.words g.result g.ensures.0 g.ensures.1 g.ensures.2 o.new.t o.result o.ensures, listed_size c.args.self.now.minutes.now c.args.self.now.count c.args.words.now t.new.words c.args.self.now.counted c.requires t.ensures g.new.words g.result g.ensures.0 g.ensures.1 g.ensures.2 o.new.t o.result o.ensures)

pub tell_repeats-requires : goal.tell_repeats-requires
tell_repeats-requires c =
    let t = c.note in
    let g = c.gather_late-late in
    let o = c.sort_once-once in
    let z = c.fill in
    ready c.args.self.now.minutes.now c.args.self.now.count c.args.words.now t.new.words c.args.self.now.counted c.requires t.ensures g.new.words g.result g.ensures.0 g.ensures.1 g.ensures.2 o.new.t o.result o.ensures z.new.self (zeros z.new.self _ (z.ensures.after (λ y e. e))).1 (z.ensures.len ∙ clear_size c.args.self.now.minutes.now c.args.self.now.count c.args.words.now t.new.words c.args.self.now.counted c.requires t.ensures g.new.words g.result g.ensures.0 g.ensures.1 g.ensures.2 o.new.t o.result o.ensures) c.args.self.now.few

pub write-requires : goal.write-requires
write-requires c =
    let t = c.note in
    let g = c.gather_late-late in
    let o = c.sort_once-once in
    let z = c.fill in
    let r = c.tell_repeats in
    (omega arith, told_all c.args.self.now.minutes.now c.args.self.now.count c.args.words.now t.new.words c.args.self.now.counted c.requires t.ensures g.new.words g.result g.ensures.0 g.ensures.1 g.ensures.2 o.new.t o.result o.ensures z.new.self (zeros z.new.self _ (z.ensures.after (λ y e. e))).1 (z.ensures.len ∙ clear_size c.args.self.now.minutes.now c.args.self.now.count c.args.words.now t.new.words c.args.self.now.counted c.requires t.ensures g.new.words g.result g.ensures.0 g.ensures.1 g.ensures.2 o.new.t o.result o.ensures) c.args.self.now.few r.new.words r.ensures)
