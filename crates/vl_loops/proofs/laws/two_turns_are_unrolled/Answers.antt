use Rattle.std.proofs.Common.{[], refl, arith}
use Rattle.std.proofs.lemmas.List.Elements.{All-from_recursion}
use Rattle.vl_design.specs.Width.{names_of}
use Rattle.vl_design.specs.Syntax.{Event, Proc}
use Rattle.vl_design.specs.Sound.{IsWidth, IsNamed, IsSoundFun, IsSoundProc}
use Rattle.vl_loops.specs.Fits.{HasLoops, HasFunLoops, CanUnroll}
use Rattle.vl_loops.specs.Examples.{looping}
use Rattle.vl_loops.proofs.laws.two_turns_are_unrolled.Goals as goal
use Rattle.vl_design.proofs.Shared.{w32, w8}

pub returns-clause-text : goal.returns-clause-text
returns-clause-text c = refl

can : CanUnroll looping
can = record {
  sound = record {
    funs = All-from_recursion (IsSoundFun (names_of looping)) [] tt;
    procs = All-from_recursion (IsSoundProc (names_of looping)) looping.procs (
      record {
        events = All-from_recursion (λ (e : Event). IsNamed (names_of looping) e.signal) [] tt;
        body = ((tt, w32), ((tt, w32), (w32, omega arith)), ((tt, w32), (w32, omega arith)), ((tt, w32), ((tt, w32), (w32, omega arith))), ((tt, w8), ((tt, w8), (tt, w32))));
      },
      tt,
    );
  };
  funs = All-from_recursion (HasFunLoops looping.rows) [] tt;
  procs = All-from_recursion (λ (p : Proc). HasLoops looping.rows p.body) looping.procs ((refl, record { source = _; whole = refl; header = tt }, (refl, tt), record { source = _; whole = refl; header = (refl, tt) }, refl), tt);
}

pub returns-clause-premises : goal.returns-clause-premises
returns-clause-premises c = (can, (refl, refl, refl, (refl, refl)))
