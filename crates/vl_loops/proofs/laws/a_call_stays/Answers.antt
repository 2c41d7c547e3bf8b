use Rattle.std.proofs.Common.{[], ◌∷◌, refl, arith}
use Rattle.std.proofs.lemmas.List.Elements.{All-from_recursion}
use Rattle.vl_design.specs.Width.{names_of, names_in}
use Rattle.vl_design.specs.Syntax.{Event, Proc}
use Rattle.vl_design.specs.Sound.{IsWidth, IsNamed, IsSignal, IsSoundFun, IsSoundProc}
use Rattle.vl_loops.specs.Fits.{HasLoops, HasFunLoops}
use Rattle.vl_loops.specs.Examples.{calling, the_fun}
use Rattle.vl_loops.proofs.laws.a_call_stays.Goals as goal
use Rattle.vl_design.proofs.Shared.{w32, w8}

pub returns-clause-text : goal.returns-clause-text
returns-clause-text c = refl

the_fun_is_sound : IsSoundFun (names_of calling) the_fun
the_fun_is_sound = record {
  inputs = All-from_recursion (IsSignal (names_in (names_of calling) the_fun)) (3 ∷ []) ((tt, w8), tt);
  result = (tt, w8);
  body = (((tt, w8), (tt, w8)), ((tt, w32), ((tt, w32), (w32, omega arith)), ((tt, w32), (w32, omega arith)), ((tt, w32), ((tt, w32), (w32, omega arith))), ((tt, w8), ((tt, w8), (tt, w32)))));
}

the_fun_has_loops : HasFunLoops calling.rows the_fun
the_fun_has_loops = record {
  body = (refl, (refl, record { source = _; whole = refl; header = tt }, (refl, tt), record { source = _; whole = refl; header = (refl, tt) }, refl));
  inputs = (refl, tt);
}

pub returns-clause-premises : goal.returns-clause-premises
returns-clause-premises c = record {
  sound = record {
    funs = All-from_recursion (IsSoundFun (names_of calling)) calling.funs (the_fun_is_sound, tt);
    procs = All-from_recursion (IsSoundProc (names_of calling)) calling.procs (
      record {
        events = All-from_recursion (λ (e : Event). IsNamed (names_of calling) e.signal) [] tt;
        body = ((tt, w32), ((tt, w32), (w32, omega arith)), ((tt, w32), (w32, omega arith)), ((tt, w32), ((tt, w32), (w32, omega arith))), ((tt, w8), (refl, w8, (((tt, w8), (tt, w32)), tt))));
      },
      tt,
    );
  };
  funs = All-from_recursion (HasFunLoops calling.rows) calling.funs (the_fun_has_loops, tt);
  procs = All-from_recursion (λ (p : Proc). HasLoops calling.rows p.body) calling.procs ((refl, record { source = _; whole = refl; header = tt }, (refl, tt), record { source = _; whole = refl; header = (refl, tt) }, refl), tt);
}
