-- The script that the demonstration's is, line by line.
use Rattle.std.proofs.Common.{◌≡◌, ℕ, zero, suc, ◌%◌, ◌==◌, false, List, [], ◌∷◌, ◌++◌, codes}
use Rattle.std.specs.Prelude.{⊤, fold, None, if◌then◌else◌}
use Rattle.std.specs.Fmt.{decimal}
use Rattle.std.specs.List.{slice_split}
use Rattle.host_text.specs.Statements.{says, Move}
use Rattle.host_text.specs.declared.script.FabricLine.{FabricLine}
use Rattle.host_text.specs.declared.script.TenantLine.{TenantLine}
use Rattle.host_text.specs.declared.script.Script.{Script}
use Rattle.host_text.specs.Scripts.{due_of}
use Rattle.host_text.specs.Reading.{with_said, cause_behind, is_bare}
use Rattle.host_demo.specs.Texts.{tenant, home, away}
use Rattle.host_demo.specs.Sources.{name_of}

-- ---- the lines

abbrev pub fabric_lines : List (List ℕ)
fabric_lines = codes "fabric F1 1284 424 32768" ∷ codes "fabric F2 1284 424 32768" ∷ []

abbrev move_at : ℕ → ℕ → List ℕ → List ℕ
move_at i tick fabric = codes "at T" ++ decimal i ++ codes " " ++ decimal tick ++ codes " move " ++ fabric

-- those of tenant i
abbrev pub lines_of : ℕ → List (List ℕ)
lines_of i =
    (codes "tenant T" ++ decimal i ++ codes " t" ++ decimal i ++ codes ".v " ++ home i ++ codes " 4096") ∷ move_at i 1000 (away i) ∷ move_at i 3000 (home i) ∷ []

-- those of tenants 1 to n
abbrev pub tenant_lines : ℕ → List (List ℕ)
tenant_lines zero = []
tenant_lines (suc n) = tenant_lines n ++ lines_of (suc n)

-- ---- what they declare

abbrev fabric : List ℕ → FabricLine
fabric name = record { name = name; capacity = record { registers = 1284; cells = 424; memory = 32768 } }

-- the fabrics, and no tenant
abbrev pub fabrics : Script
fabrics = record { fabrics = fabric (codes "F1") ∷ fabric (codes "F2") ∷ []; tenants = []; free = [] }

-- tenant i, which moves away and back
abbrev pub tenant_line : ℕ → TenantLine
tenant_line i = record {
  name = codes "T" ++ decimal i;
  source = name_of i;
  fabric = (if i % 2 == 1 then 0 else 1);
  budget = 4096;
  files = [];
  resume = None;
  errands = record { tick = 1000; due = due_of fabrics (Move (away i)) } ∷ record { tick = 3000; due = due_of fabrics (Move (home i)) } ∷ [];
}

abbrev pub tenants : ℕ → List TenantLine
tenants zero = []
tenants (suc n) = tenants n ++ tenant_line (suc n) ∷ []

abbrev pub expected : ℕ → Script
expected n = record { fabrics = fabrics.fabrics; tenants = tenants n; free = [] }

-- ---- lines behind a script

-- none has a cause
abbrev pub AreClean : Script → List (List ℕ) → Type 0
AreClean s [] = ⊤
AreClean s (l ∷ ls) = (cause_behind s (says l) ≡ None) × AreClean (with_said s (says l)) ls

-- the script with what they say
abbrev pub after : Script → List (List ℕ) → Script
after s ls = fold (λ t l. with_said t (says l)) s ls

-- the next tenant's text are its lines, which have no cause and declare it
pub record IsNext (n : ℕ) : Type 0 where
  pub split : (rest : List ℕ) → slice_split (λ b. b == 10) (tenant (suc n) ++ rest) ≡ lines_of (suc n) ++ slice_split (λ b. b == 10) rest
  pub clean : AreClean (expected n) (lines_of (suc n))
  pub declared : after (expected n) (lines_of (suc n)) ≡ expected (suc n)
  pub whole : is_bare (expected (suc n)) ≡ false
