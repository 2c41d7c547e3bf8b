-- A design with a loop, and the same with its loop unrolled.
use Rattle.std.specs.Prelude.{ℕ, true, false, List, [], ◌∷◌, pos, codes}
use Rattle.vl_base.specs.declared.bits.BinOp.TheVariants.{Add, Lt}
use Rattle.vl_design.specs.declared.design.SigKind.TheVariants as k
use Rattle.vl_design.specs.declared.design.ProcKind.TheVariants as k'
use Rattle.vl_base.specs.declared.place.Place.{Place}
use Rattle.vl_design.specs.Placed as p
use Rattle.vl_design.specs.Syntax.{Num, Sig, Bin, Call, NoExps, MoreExps, Whole, Stm, Nop, Then, For, Set, Row, Fun, Flat}

-- `reg [7:0] x; integer i;`
abbrev pub two_rows : List Row
two_rows =
    record { name = codes "m.x"; width = 8; signed = false; kind = k.Var; words = 1; lowest = pos 0 }
    ∷ record { name = codes "m.i"; width = 32; signed = true; kind = k.Loop; words = 1; lowest = pos 0 } ∷ []

-- `for (i = 0; i < 2; i = i + 1) x = x + i;`
abbrev pub loop : Stm
loop = For 1 (Set (Whole 1) (Num 0 32 true)) (Bin Lt (Sig 1) (Num 2 32 true)) (Set (Whole 1) (Bin Add (Sig 1) (Num 1 32 true))) (Set (Whole 0) (Bin Add (Sig 0) (Sig 1)))

abbrev pub looping : Flat
looping = record { rows = two_rows; funs = []; procs = record { kind = k'.Rise; events = []; body = loop } ∷ [] }

-- its two turns
abbrev pub turn : ℕ → Stm
turn n = Set (Whole 0) (Bin Add (Sig 0) (Num n 32 true))

abbrev pub two_turns : Stm
two_turns = Then (turn 0) (Then (turn 1) Nop)

-- `function [7:0] f; input [7:0] a; integer l; begin f = a; for (l = 0; l < 2; l = l + 1) f = f + l; end endfunction`
abbrev pub adding : Stm
adding = Then (Set (Whole 2) (Sig 3)) (For 4 (Set (Whole 4) (Num 0 32 true)) (Bin Lt (Sig 4) (Num 2 32 true)) (Set (Whole 4) (Bin Add (Sig 4) (Num 1 32 true))) (Set (Whole 2) (Bin Add (Sig 2) (Sig 4))))

abbrev pub three_locals : List Row
three_locals =
    record { name = codes "m.f.f"; width = 8; signed = false; kind = k.Var; words = 1; lowest = pos 0 }
    ∷ record { name = codes "m.f.a"; width = 8; signed = false; kind = k.Var; words = 1; lowest = pos 0 }
    ∷ record { name = codes "m.f.l"; width = 32; signed = true; kind = k.Loop; words = 1; lowest = pos 0 } ∷ []

abbrev pub the_fun : Fun
the_fun = record { inputs = 3 ∷ []; result = 2; locals = three_locals; body = adding }

-- `for (i = 0; i < 2; i = i + 1) x = f(x + i);`
abbrev pub calling_loop : Stm
calling_loop = For 1 (Set (Whole 1) (Num 0 32 true)) (Bin Lt (Sig 1) (Num 2 32 true)) (Set (Whole 1) (Bin Add (Sig 1) (Num 1 32 true))) (Set (Whole 0) (Call 0 (MoreExps (Bin Add (Sig 0) (Sig 1)) NoExps)))

abbrev pub calling : Flat
calling = record { rows = two_rows; funs = the_fun ∷ []; procs = record { kind = k'.Rise; events = []; body = calling_loop } ∷ [] }

abbrev pub call_turn : ℕ → Stm
call_turn n = Set (Whole 0) (Call 0 (MoreExps (Bin Add (Sig 0) (Num n 32 true)) NoExps))

abbrev pub add_turn : ℕ → Stm
add_turn n = Set (Whole 2) (Bin Add (Sig 2) (Num n 32 true))

abbrev pub calling_unrolled : Flat
calling_unrolled = record {
  rows = two_rows;
  funs = record { inputs = 3 ∷ []; result = 2; locals = three_locals; body = Then (Set (Whole 2) (Sig 3)) (Then (add_turn 0) (Then (add_turn 1) Nop)) } ∷ [];
  procs = record { kind = k'.Rise; events = []; body = Then (call_turn 0) (Then (call_turn 1) Nop) } ∷ [];
}

-- ---- placed

abbrev pub at : ℕ → Place
at n = record { line = n; column = 1 }

-- `initial repeat (n) ;`
abbrev pub repeating : ℕ → p.Design
repeating n = record {
  top = codes "m";
  signals = [];
  funcs = [];
  processes = record { place = at 1; path = codes "m"; kind = k'.Init; events = []; body = p.Repeat (at 2) n (p.Nop (at 3)) } ∷ [];
}

-- `if (1) ;`, and with this `else`
abbrev pub branch : p.Stm → p.Stm
branch otherwise = p.If (at 1) (p.Num (at 2) 1 1 false) (p.Nop (at 3)) otherwise

-- `f(2)`, and the function `f = a + 1;`
abbrev pub called : p.Exp
called = p.Call (at 1) 0 (p.MoreExps (p.Num (at 1) 2 8 false) p.NoExps)

abbrev pub plus_one : p.Func
plus_one = record {
  name = codes "m.f";
  place = at 1;
  inputs = 1 ∷ [];
  result = 0;
  locals = [];
  body = p.Set (at 2) (p.Whole (at 2) 0) (p.Bin (at 2) Add (p.Sig (at 2) 1) (p.Num (at 2) 1 8 false));
}

-- `initial begin b = f(2); b = f(2); end`
abbrev pub calling_twice : p.Design
calling_twice = record {
  top = codes "m";
  signals = [];
  funcs = plus_one ∷ [];
  processes = record {
    place = at 3;
    path = codes "m";
    kind = k'.Init;
    events = [];
    body = p.Seq (at 3) (p.MoreStms (p.Set (at 4) (p.Whole (at 4) 0) called) (p.MoreStms (p.Set (at 5) (p.Whole (at 5) 0) called) p.NoStms));
  } ∷ [];
}
