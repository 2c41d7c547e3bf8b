-- What may not stand in the body of a process or a function: refused constructs 15, 17, 18, 20, 22 and 23, and of 21 what a
-- loop variable may not be (own; IEEE 1364-2005, clauses 6.1, 9.2, 9.6, 9.7, 10.4 and 17).
use Rattle.std.specs.Prelude.{ℕ, Bool, true, false, not, ◌&&◌, nat_lt, List, ◌++◌, length, flat_map}
use Rattle.vl_design.specs.declared.design.Signal.{Signal}
use Rattle.vl_design.specs.declared.design.SigKind.{SigKind}
use Rattle.vl_design.specs.declared.design.SigKind.TheVariants as k
use Rattle.vl_design.specs.declared.stop.Stop.{Stop}
use Rattle.vl_design.specs.Stops.{construct_if}
use Rattle.vl_design.specs.Placed.{Stm}
use Rattle.vl_sites.specs.Sites.{What, Reads, Sets, Heads, Delays, Tasks, Site, sites, is_load}
use Rattle.vl_check.specs.declared.place.Role.{Role}
use Rattle.vl_check.specs.declared.place.Role.TheVariants.{Initial, Clocked, Combinational, Function}
use Rattle.vl_check.specs.Bodies.{Setting, kind_is}

abbrev pub is_clock : SigKind → Bool
is_clock k.Clock = true
is_clock kind = false

abbrev pub is_loop : SigKind → Bool
is_loop k.Loop = true
is_loop kind = false

-- a net, or a variable of a combinational process
abbrev pub is_derived : SigKind → Bool
is_derived k.Net = true
is_derived k.Comb = true
is_derived kind = false

-- a name is read or assigned that passes the test
abbrev pub names : (ℕ → Bool) → What → Bool
names test (Reads k) = test k
names test (Sets k word later) = test k
names test (Heads k) = test k
names test what = false

-- a nonblocking assignment
abbrev pub is_delay : What → Bool
is_delay Delays = true
is_delay what = false

abbrev pub is_task : What → Bool
is_task (Tasks name given) = true
is_task what = false

-- a memory is loaded from a file
abbrev pub loads : What → Bool
loads (Tasks name given) = is_load name
loads what = false

-- a word of a memory is assigned, blocking or not
abbrev pub sets_word : (Bool → Bool) → What → Bool
sets_word test (Sets m true later) = test later
sets_word test what = false

-- an assignment beside the headers of loops over the variable
abbrev pub sets : (ℕ → Bool) → What → Bool
sets test (Sets k word later) = test k
sets test what = false

abbrev pub reads : (ℕ → Bool) → What → Bool
reads test (Reads k) = test k
reads test what = false

-- its assignments, if nonblocking, and system calls are refused (constructs 17 and 18)
abbrev pub is_pure : Role → Bool
is_pure Combinational = true
is_pure Function = true
is_pure role = false

-- construct 20: what a function names beside its own
abbrev pub is_foreign : Role → List Signal → What → Bool
is_foreign Function shared what = names (λ k. nat_lt k (length shared)) what
is_foreign role shared what = false

-- construct 22: a blocking write in a clocked block, any in a combinational process
abbrev pub writes_memory : Role → What → Bool
writes_memory Clocked what = sets_word (λ later. not later) what
writes_memory Combinational what = sets_word (λ later. true) what
writes_memory role what = false

-- construct 23: what an initial process may not read, and what it alone may do
abbrev pub is_untimely : Role → List Signal → What → Bool
is_untimely Initial shared what = reads (kind_is is_derived shared) what
is_untimely role shared what = loads what

-- the faults at one site of a body
abbrev pub site_faults : Setting → Site → List Stop
site_faults b s =
    construct_if (names (kind_is is_clock b.shared) s.what) s.at 15
    ++ (construct_if (is_pure b.role && is_delay s.what) s.at 17
    ++ (construct_if (is_pure b.role && is_task s.what) s.at 18
    ++ (construct_if (is_foreign b.role b.shared s.what) s.at 20
    ++ (construct_if (sets (kind_is is_loop (b.shared ++ b.own)) s.what) s.at 21
    ++ (construct_if (writes_memory b.role s.what) s.at 22
    ++ construct_if (is_untimely b.role b.shared s.what) s.at 23)))))

abbrev pub sites_faults : Setting → Stm → List Stop
sites_faults b a = flat_map (site_faults b) (sites a)
