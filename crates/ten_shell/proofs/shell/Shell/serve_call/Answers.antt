use Rattle.std.proofs.Common.{◌∙◌, ◌+◌, ◌<◌, ◌^◌, sym, subst}
use Rattle.std.proofs.lemmas.Result.{on_err_weaker, on_ok_weaker}
use Rattle.ten_core.specs.cell_form.specs.Views.{bank_of}
use Rattle.ten_shell.specs.Shells.{run_of}
use Rattle.ten_shell.proofs.Standing.{called, called-left}
use Rattle.ten_shell.proofs.shell.Shell.serve_call.Goals as goal

pub serve-requires-clause-cycles : goal.serve-requires-clause-cycles
serve-requires-clause-cycles c =
    let w = c.requires.2 in
    subst (λ x. x + 1 < 2 ^ 64) (sym w.at.cycles) (c.ticks_and_acts_can_be_counted.ensures.acts (run_of c.args.self.now) w.order c.requires.0 c.requires.1 w.running)

pub returns-clause-point : goal.returns-clause-point
returns-clause-point c =
    let s = c.args.self.now in
    let o = run_of s in
    let done = c.errands_before_a_tick_are_done_at_it.ensures in
    let near = c.each_act_comes_nearer.ensures in
    on_ok_weaker c.serve.result (λ k. λ n i w.
    let trap = sym w.at.waits ∙ c.requires.3 in
    called s (bank_of c.args.bank.now) n i w done.done done.saves (near.call_ticks o w.order n i w.running) trap c.serve.new.self (bank_of c.serve.new.bank) c.serve.ensures.origin
    (near.call o w.order n i w.running trap) (k o w.order n i w.running.tame w.at)) c.serve.ensures.ok

pub returns-clause-left : goal.returns-clause-left
returns-clause-left c =
    let s = c.args.self.now in
    let o = run_of s in
    let done = c.errands_before_a_tick_are_done_at_it.ensures in
    let near = c.each_act_comes_nearer.ensures in
    on_ok_weaker c.serve.result (λ k. λ n i w there.
    let trap = sym w.at.waits ∙ c.requires.3 in
    called-left s (bank_of c.args.bank.now) n i w done.done done.saves (near.call_ticks o w.order n i w.running) trap c.serve.new.self (bank_of c.serve.new.bank) c.serve.ensures.origin
    (near.call o w.order n i w.running trap) (k o w.order n i w.running.tame w.at) there) c.serve.ensures.ok

pub returns-clause-memory : goal.returns-clause-memory
returns-clause-memory c = on_err_weaker c.serve.result (λ k. λ n i w. k (run_of c.args.self.now) w.order n i w.running.tame w.at) c.serve.ensures.memory
