-- Who writes what: refused construct 14 (own; IEEE 1364-2005, clauses 4.6, 6.1 and 9.2).
use Rattle.std.specs.Prelude.{ℕ, Bool, true, false, ◌&&◌, ◌||◌, ◌==◌, List, [], ◌∷◌, ◌++◌}
use Rattle.std.specs.List.{list_any}
use Rattle.vl_design.specs.declared.design.ProcKind.{ProcKind}
use Rattle.vl_design.specs.declared.design.ProcKind.TheVariants as p
use Rattle.vl_design.specs.declared.design.Signal.{Signal}
use Rattle.vl_design.specs.declared.design.SigKind.{SigKind}
use Rattle.vl_design.specs.declared.design.SigKind.TheVariants as k
use Rattle.vl_design.specs.declared.stop.Stop.{Stop}
use Rattle.vl_design.specs.Placed.{Process}
use Rattle.vl_design.specs.Stops.{construct_if}
use Rattle.vl_sites.specs.Sites.{What, Sets, Heads, sites}
use Rattle.vl_check.specs.Bodies.{kind_is}

-- an `always` block
abbrev pub is_always : ProcKind → Bool
is_always p.Rise = true
is_always p.Fall = true
is_always p.Comb = true
is_always kind = false

-- a combinational process
abbrev pub is_combinational : ProcKind → Bool
is_combinational p.Comb = true
is_combinational p.Assign = true
is_combinational kind = false

-- what keeps its value: a variable or a memory
abbrev pub is_store : SigKind → Bool
is_store k.Var = true
is_store k.Comb = true
is_store k.Mem = true
is_store kind = false

abbrev pub assigns : ℕ → What → Bool
assigns k (Sets j word later) = j == k
assigns k (Heads j) = j == k
assigns k what = false

abbrev pub writes : ℕ → Process → Bool
writes k a = list_any (λ s. assigns k s.what) (sites a.body)

-- both may not write one variable: two `always` blocks, or a combinational process and any other
abbrev pub excludes : ProcKind → ProcKind → Bool
excludes a b = (is_always a && is_always b) || (is_combinational a || is_combinational b)

-- one of those before it writes k too, and may not
abbrev pub is_second : List Process → Process → ℕ → Bool
is_second before a k = list_any (λ b. excludes b.kind a.kind && writes k b) before

-- what it assigns is a variable or a memory that one of those before it writes, too
abbrev pub is_taken : List Signal → List Process → Process → What → Bool
is_taken signals before a what = may_be_taken what
  where
    may_be_taken : What → Bool
    may_be_taken (Sets k word later) = kind_is is_store signals k && is_second before a k
    may_be_taken (Heads k) = kind_is is_store signals k && is_second before a k
    may_be_taken what = false

abbrev pub is_rival : List Signal → List Process → Process → Bool
is_rival signals before a = list_any (λ s. is_taken signals before a s.what) (sites a.body)

abbrev pub writer_faults : List Signal → List Process → List Process → List Stop
writer_faults signals before [] = []
writer_faults signals before (a ∷ as') = construct_if (is_rival signals before a) a.place 14 ++ writer_faults signals (before ++ a ∷ []) as'
