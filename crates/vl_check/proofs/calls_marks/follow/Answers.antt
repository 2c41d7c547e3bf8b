use Rattle.std.proofs.Common.{get_or, ◌<◌, ℕ, take, refl, sym, ◌∙◌, subst, arith, List}
use Rattle.std.proofs.lemmas.List.{take_all}
use Rattle.vl_check.specs.declared.calls_calls.Call.{Call}
use Rattle.vl_check.specs.Searches.{Follows}
use Rattle.vl_check.proofs.Lists.{in-there, itself-at, taken}
use Rattle.vl_check.proofs.Searching.{follows-none, follows-more}
use Rattle.vl_check.proofs.calls_marks.follow.Goals as goal

abbrev none : Call
none = record { place = record { line = 0; column = 0 }; callee = 0 }

pub loop-call-init : goal.loop-call-init
loop-call-init c = record {
  long = refl;
  follows = follows-none c.args.seen.now.items c.args.stack.now.items;
  room = omega arith;
}

pub add-requires : goal.add-requires
add-requires c =
    let l = c.requires (get_or c.args.calls.now c.loop-call.call-index none) (in-there c.args.calls.now c.loop-call.call-index (get_or c.args.calls.now c.loop-call.call-index none) c.loop-call-test.true (itself-at c.args.calls.now c.loop-call.call-index none c.loop-call-test.true)) in
    subst (λ (n : ℕ). (get_or c.args.calls.now c.loop-call.call-index none).callee < n) (sym c.loop-call.invariant.long) l

pub loop-call-preserved : goal.loop-call-preserved
loop-call-preserved c =
    let v = c.loop-call.invariant in
    let e = c.in_ok-add.ensures in
    let cs = c.args.calls.now in
    let i = c.loop-call.call-index in
    let y = (get_or c.args.calls.now c.loop-call.call-index none) in
    record {
      long = e.long ∙ v.long;
      follows = subst (λ (z : List Call). Follows z c.args.seen.now.items c.args.stack.now.items c.add.new.seen.items c.add.new.stack.items) (sym (taken cs i y c.loop-call-test.true (itself-at c.args.calls.now c.loop-call.call-index none c.loop-call-test.true)))
          (follows-more (take i cs) y c.args.seen.now.items c.args.stack.now.items c.loop-call.seen.items c.loop-call.stack.items c.add.new.seen.items c.add.new.stack.items v.follows e.added);
      room = let a = e.room in let b = v.room in omega (arith, a, b);
    }

pub returns-clause-follows : goal.returns-clause-follows
returns-clause-follows c =
    subst (λ (z : List Call). Follows z c.args.seen.now.items c.args.stack.now.items c.loop-call.seen.items c.loop-call.stack.items) (take_all c.loop-call.call-index c.args.calls.now c.loop-call-test.false) c.loop-call.invariant.follows
