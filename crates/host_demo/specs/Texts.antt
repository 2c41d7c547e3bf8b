-- The script and the sources of the demonstration (own).
use Rattle.std.specs.Prelude.{ℕ, zero, suc, ◌%◌, ◌==◌, if◌then◌else◌, List, [], ◌++◌, codes}
use Rattle.std.specs.Fmt.{decimal}

-- ---- the script

-- tenant i begins on F1 where i is odd, on F2 where it is even
abbrev pub home : ℕ → List ℕ
home i = if i % 2 == 1 then codes "F1" else codes "F2"

-- and the other of them is that to which it moves, and from which it moves back
abbrev pub away : ℕ → List ℕ
away i = if i % 2 == 1 then codes "F2" else codes "F1"

-- `tenant Ti ti.v F 4096`
abbrev pub tenant_line : ℕ → List ℕ
tenant_line i = codes "tenant T" ++ decimal i ++ codes " t" ++ decimal i ++ codes ".v " ++ home i ++ codes " 4096\n"

-- `at Ti TICK move F`
abbrev pub move_line : ℕ → ℕ → List ℕ → List ℕ
move_line i tick fabric = codes "at T" ++ decimal i ++ codes " " ++ decimal tick ++ codes " move " ++ fabric ++ codes "\n"

-- the lines of tenant i
abbrev pub tenant : ℕ → List ℕ
tenant i = tenant_line i ++ move_line i 1000 (away i) ++ move_line i 3000 (home i)

-- those of tenants 1 to n
abbrev pub tenants : ℕ → List ℕ
tenants zero = []
tenants (suc n) = tenants n ++ tenant (suc n)

-- two fabrics of one size, and n tenants
abbrev pub script : ℕ → List ℕ
script n = codes "fabric F1 1284 424 32768\nfabric F2 1284 424 32768\n" ++ tenants n

-- ---- the sources

-- a number that begins with i, and a memory of the multiples of i
abbrev pub declarations : ℕ → List ℕ
declarations i =
    codes "  reg [31:0] s = " ++ decimal i ++ codes ";\n"
    ++ codes "  reg [7:0] p = 0;\n  reg [31:0] m [0:255];\n  integer k;\n"
    ++ codes "  initial for (k = 0; k < 256; k = k + 1) m[k] = k * " ++ decimal i ++ codes ";\n"

-- at each rising edge the number goes on and is mixed into the next word of the memory, and behind the last of its words it is printed
abbrev pub steps : List ℕ
steps =
    codes "  always @(posedge clk) begin\n"
    ++ codes "    s <= s * 32'd1664525 + 32'd1013904223;\n"
    ++ codes "    m[p] <= m[s[7:0]] ^ s;\n"
    ++ codes "    p <= p + 1;\n"
    ++ codes "    if (p == 8'd255) $display(\"%h\", s);\n"
    ++ codes "  end\n"

-- the source of tenant i
abbrev pub source : ℕ → List ℕ
source i = codes "module t(input wire clk);\n" ++ declarations i ++ steps ++ codes "endmodule\n"
