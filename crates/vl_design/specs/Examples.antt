-- Small designs for worked rows (own).
use Rattle.std.specs.Prelude.{ℕ, pos, Bool, true, false, List, [], ◌∷◌, None, codes}
use Rattle.vl_base.specs.declared.bits.BinOp.TheVariants.{Add, Mul, Xor, Lt, Eq}
use Rattle.vl_base.specs.declared.files.File.{File}
use Rattle.vl_base.specs.Display.{LeastDecimal, Decimal, Hexadecimal}
use Rattle.vl_design.specs.declared.design.SigKind.{SigKind}
use Rattle.vl_design.specs.declared.design.SigKind.TheVariants.{Net, Var, Loop, Mem, Clock}
use Rattle.vl_design.specs.declared.design.ProcKind.TheVariants.{Init, Rise, Fall, Assign}
use Rattle.vl_design.specs.Syntax.{Exp, Num, Label, Sig, Word, Slice, Bin, Call, Time, LastAnswer, NoExps, MoreExps, Whole, WordAt, PickAt, SliceAt, Piece, Literal, Shown, Print, Finish, Fopen, Fread, Feof, Stm, Nop, Then, If, Case, For, Set, Later, Sys, Labelled, Default, NoItems, Row, Event, Proc, Flat}
use Rattle.vl_design.specs.Width.{Scope}
use Rattle.vl_design.specs.Value.{Sample}
use Rattle.vl_design.specs.Functions.{scope_of}
use Rattle.vl_design.specs.Alone.{Origin}

abbrev pub row : List ℕ → SigKind → ℕ → Bool → Row
row name kind w signed = record { name = name; width = w; signed = signed; kind = kind; words = 1; lowest = pos 0 }

abbrev pub clock : Row
clock = row (codes "m.clk") Clock 1 false

abbrev pub seq : List Stm → Stm
seq [] = Nop
seq (a ∷ as') = Then a (seq as')

abbrev pub show : List Piece → Stm
show pieces = Sys (Print pieces true)

abbrev pub number : ℕ → Exp
number v = Num v 32 true

-- a loop of four turns
abbrev pub turned : ℕ → Stm → Stm
turned k a = For k (Set (Whole k) (number 0)) (Bin Lt (Sig k) (number 4)) (Set (Whole k) (Bin Add (Sig k) (number 1))) a

-- the event of an edge of the clock, which is the first signal
abbrev pub of_clock : ℕ → List Event
of_clock edge = record { signal = 0; edge = edge } ∷ []

abbrev pub rise : Stm → Proc
rise a = record { kind = Rise; events = of_clock 1; body = a }

abbrev pub initial : Stm → Proc
initial a = record { kind = Init; events = []; body = a }

abbrev pub flat : List Row → List Proc → Flat
flat rows procs = record { rows = clock ∷ rows; funs = []; procs = procs }

-- a design alone, over these files, within 100 ticks
abbrev pub tried : List File → Flat → Origin
tried files d = record { flat = d; files = files; plan = record { budget = 100; errands = [] }; resume = None }

-- reg [7:0] c; always @(posedge clk) begin $display("%0d", c); c <= c + 1; end
abbrev pub counter : Flat
counter = flat (row (codes "m.c") Var 8 false ∷ [])
    (rise (seq (show (Shown LeastDecimal (Sig 1) ∷ []) ∷ Later (Whole 1) (Bin Add (Sig 1) (number 1)) ∷ [])) ∷ [])

-- reg [7:0] a = 5, b = 9; always @(posedge clk) begin $display("%0d %0d", a, b); a <= b; b <= a; end
abbrev pub exchange : Flat
exchange = flat (row (codes "m.a") Var 8 false ∷ row (codes "m.b") Var 8 false ∷ [])
    (initial (Set (Whole 1) (number 5)) ∷ initial (Set (Whole 2) (number 9))
    ∷ rise (seq (show (Shown LeastDecimal (Sig 1) ∷ Literal (codes " ") ∷ Shown LeastDecimal (Sig 2) ∷ []) ∷ Later (Whole 1) (Sig 2) ∷ Later (Whole 2) (Sig 1) ∷ [])) ∷ [])

-- reg [1:0] q; always @(posedge clk) begin q[0] <= 1; q <= 0; q[1] <= 1; end, and its value is shown a tick later
abbrev pub bit_writes : Flat
bit_writes = flat (row (codes "m.q") Var 2 false ∷ [])
    (rise (seq (show (Shown LeastDecimal (Sig 1) ∷ []) ∷ Later (SliceAt (Whole 1) (pos 0) 1) (number 1) ∷ Later (Whole 1) (number 0) ∷ Later (SliceAt (Whole 1) (pos 1) 1) (number 1) ∷ [])) ∷ [])

-- reg [7:0] x; wire [7:0] w; assign w = x; always @(posedge clk) x = x + 1; always @(posedge clk) $display("%0d %0d", x, w);
abbrev pub late_net : Flat
late_net = flat (row (codes "m.x") Var 8 false ∷ row (codes "m.w") Net 8 false ∷ [])
    (record { kind = Assign; events = []; body = Set (Whole 2) (Sig 1) }
    ∷ rise (Set (Whole 1) (Bin Add (Sig 1) (number 1)))
    ∷ rise (show (Shown LeastDecimal (Sig 1) ∷ Literal (codes " ") ∷ Shown LeastDecimal (Sig 2) ∷ [])) ∷ [])

-- always @(posedge clk) $display("A"); always @(posedge clk) $display("B");
abbrev pub two_blocks : Flat
two_blocks = flat [] (rise (show (Literal (codes "A") ∷ [])) ∷ rise (show (Literal (codes "B") ∷ [])) ∷ [])

-- always @(posedge clk) begin $finish; $display("A"); end always @(posedge clk) $display("B");
abbrev pub finishes : Flat
finishes = flat [] (rise (seq (Sys (Finish NoExps) ∷ show (Literal (codes "A") ∷ []) ∷ [])) ∷ rise (show (Literal (codes "B") ∷ [])) ∷ [])

-- initial $display("hi");
abbrev pub greets : Flat
greets = flat [] (initial (show (Literal (codes "hi") ∷ [])) ∷ [])

-- always @(posedge clk) $display("p"); always @(negedge clk) $display("n %0d", $time);
abbrev pub both_edges : Flat
both_edges = flat [] (rise (show (Literal (codes "p") ∷ [])) ∷ record { kind = Fall; events = of_clock 2; body = show (Literal (codes "n ") ∷ Shown LeastDecimal Time ∷ []) } ∷ [])

abbrev pub integer : List ℕ → Row
integer name = row name Var 32 true

-- integer fd, n, p, q; initial begin fd = $fopen("e", "r"); p = $feof(fd); n = $fread(r, fd); q = $feof(fd);
-- $display("%0d %0d %0d", p, n, q); end, with reg [31:0] r
abbrev pub reads_empty : Flat
reads_empty = flat (integer (codes "m.fd") ∷ integer (codes "m.n") ∷ integer (codes "m.p") ∷ integer (codes "m.q") ∷ row (codes "m.r") Var 32 false ∷ [])
    (initial (seq (
    Sys (Fopen (codes "e")) ∷ Set (Whole 1) LastAnswer
    ∷ Sys (Feof (Sig 1)) ∷ Set (Whole 3) LastAnswer
    ∷ Sys (Fread 5 (Sig 1)) ∷ Set (Whole 2) LastAnswer
    ∷ Sys (Feof (Sig 1)) ∷ Set (Whole 4) LastAnswer
    ∷ show (Shown LeastDecimal (Sig 3) ∷ Literal (codes " ") ∷ Shown LeastDecimal (Sig 2) ∷ Literal (codes " ") ∷ Shown LeastDecimal (Sig 4) ∷ []) ∷ [])) ∷ [])

abbrev pub empty_file : List File
empty_file = record { name = codes "e"; bytes = [] } ∷ []

-- the sum of a file's words: integer fd = $fopen("data", "rb"); reg [31:0] r = 0; reg [127:0] s = 0;
-- always @(posedge clock) begin $fread(r, fd); if ($feof(fd)) begin $display(s); $finish(0); end else s <= s + r; end
abbrev pub sum : Flat
sum = flat (integer (codes "sum.fd") ∷ row (codes "sum.r") Var 32 false ∷ row (codes "sum.s") Var 128 false ∷ [])
    (initial (Then (Sys (Fopen (codes "data"))) (Set (Whole 1) LastAnswer))
    ∷ initial (Set (Whole 2) (number 0))
    ∷ initial (Set (Whole 3) (number 0))
    ∷ rise (seq (
    Sys (Fread 2 (Sig 1))
    ∷ Then (Sys (Feof (Sig 1))) (If LastAnswer (seq (show (Shown Decimal (Sig 3) ∷ []) ∷ Sys (Finish (MoreExps (number 0) NoExps)) ∷ [])) (Later (Whole 3) (Bin Add (Sig 3) (Sig 2)))) ∷ [])) ∷ [])

abbrev pub two_words : List File
two_words = record { name = codes "data"; bytes = 0 ∷ 0 ∷ 0 ∷ 1 ∷ 0 ∷ 0 ∷ 0 ∷ 2 ∷ [] } ∷ []

-- reg [1:0] q; reg i; always @(posedge clk) begin $display("%0d", q); q[i] <= 1; i = 1; end
abbrev pub early_index : Flat
early_index = flat (row (codes "m.q") Var 2 false ∷ row (codes "m.i") Var 1 false ∷ [])
    (rise (seq (show (Shown LeastDecimal (Sig 1) ∷ [])
    ∷ Later (PickAt (Whole 1) (Sig 2) (record { constant = pos 0; taken = false }) 1) (number 1)
    ∷ Set (Whole 2) (number 1) ∷ [])) ∷ [])

-- reg [7:0] m [0:3]; integer k; initial for (k = 0; k < 4; k = k + 1) m[k] = k * 7;
-- initial $display("%0d %0d", m[3], k);
abbrev pub filled : Flat
filled = flat (record { name = codes "m.m"; width = 8; signed = false; kind = Mem; words = 4; lowest = pos 0 } ∷ row (codes "m.k") Loop 32 true ∷ [])
    (initial (turned 2 (Set (WordAt 1 (Sig 2)) (Bin Mul (Sig 2) (number 7))))
    ∷ initial (show (Shown LeastDecimal (Word 1 (number 3)) ∷ Literal (codes " ") ∷ Shown LeastDecimal (Sig 2) ∷ [])) ∷ [])

-- reg [31:0] s = 7; reg [7:0] p = 0; reg [31:0] m [0:255]; integer k;
-- initial for (k = 0; k < 256; k = k + 1) m[k] = k * 7;
-- always @(posedge clk) begin s <= s * 32'd1664525 + 32'd1013904223; m[p] <= m[s[7:0]] ^ s; p <= p + 1;
-- if (p == 8'd255) $display("%h", s); end
abbrev pub mixer : Flat
mixer = flat (row (codes "t.s") Var 32 false ∷ row (codes "t.p") Var 8 false
    ∷ record { name = codes "t.m"; width = 32; signed = false; kind = Mem; words = 256; lowest = pos 0 }
    ∷ row (codes "t.k") Loop 32 true ∷ [])
    (initial (Set (Whole 1) (number 7))
    ∷ initial (Set (Whole 2) (number 0))
    ∷ initial (For 4 (Set (Whole 4) (number 0)) (Bin Lt (Sig 4) (number 256)) (Set (Whole 4) (Bin Add (Sig 4) (number 1)))
    (Set (WordAt 3 (Sig 4)) (Bin Mul (Sig 4) (number 7))))
    ∷ rise (seq (Later (Whole 1) (Bin Add (Bin Mul (Sig 1) (Num 1664525 32 false)) (Num 1013904223 32 false))
    ∷ Later (WordAt 3 (Sig 2)) (Bin Xor (Word 3 (Slice (Sig 1) (pos 0) 8)) (Sig 1))
    ∷ Later (Whole 2) (Bin Add (Sig 2) (number 1))
    ∷ If (Bin Eq (Sig 2) (Num 255 8 false)) (show (Shown Hexadecimal (Sig 1) ∷ [])) Nop ∷ [])) ∷ [])

-- function [7:0] g(input [7:0] x); g = x; endfunction
-- function [7:0] f(input [3:0] y); f = g(8'd255); endfunction
-- initial $display("%0d", f(0));
abbrev pub nested_calls : Flat
nested_calls = record {
  rows = clock ∷ [];
  funs =
      record { inputs = 2 ∷ []; result = 1; locals = row (codes "m.g.g") Var 8 false ∷ row (codes "m.g.x") Var 8 false ∷ []; body = Set (Whole 1) (Sig 2) }
      ∷ record { inputs = 2 ∷ []; result = 1; locals = row (codes "m.f.f") Var 8 false ∷ row (codes "m.f.y") Var 4 false ∷ []; body = Set (Whole 1) (Call 0 (MoreExps (Num 255 8 false) NoExps)) }
      ∷ [];
  procs = initial (show (Shown LeastDecimal (Call 1 (MoreExps (number 0) NoExps)) ∷ [])) ∷ [];
}

-- initial casez (8'sb11110101) 4'sb?101: $display("hit"); default: $display("no"); endcase, signed or without the `s`
abbrev pub high_z : Bool → Flat
high_z signed = flat [] (initial (Case (Num 245 8 signed) (Labelled (MoreExps (Label 5 7 4 signed) NoExps) (show (Literal (codes "hit") ∷ []))
    (Default (show (Literal (codes "no") ∷ [])) NoItems))) ∷ [])

-- always @(posedge clk) begin $finish; for (k = 0; k < 4; k = k + 1) for (j = 0; j < 4; j = j + 1) x = x + 1; end
abbrev pub finishes_before_loops : Flat
finishes_before_loops = flat (row (codes "m.x") Var 8 false ∷ row (codes "m.k") Loop 32 true ∷ row (codes "m.j") Loop 32 true ∷ [])
    (rise (seq (Sys (Finish NoExps) ∷ turned 2 (turned 3 (Set (Whole 1) (Bin Add (Sig 1) (number 1)))) ∷ [])) ∷ [])

-- ---- expressions over reg [3:0] a, b, which hold 15 and 1

abbrev pub operands : Scope
operands = scope_of (flat (row (codes "m.a") Var 4 false ∷ row (codes "m.b") Var 4 false ∷ []) []) []

abbrev pub fifteen_and_one : Sample
fifteen_and_one = record { values = (0 ∷ []) ∷ (15 ∷ []) ∷ (1 ∷ []) ∷ []; time = 0; answer = 0 }

abbrev pub a_plus_b : Exp
a_plus_b = Bin Add (Sig 1) (Sig 2)
