use Rattle.std.proofs.Common.{ℕ, length, sym, ap, subst, List}
use Rattle.cell_level.specs.declared.nets.Net.{Net}
use Rattle.cell_level.specs.declared.nets.Levels.{Levels}
use Rattle.cell_level.specs.Cycles.{IsOnCycle}
use Rattle.cell_level.specs.Nets as spec
use Rattle.vl_check.specs.Tables.{rows_of}
use Rattle.vl_check.specs.Nets.{AreNetsOf}
use Rattle.vl_check.proofs.Freeing.{within, no-cycle}
use Rattle.vl_check.proofs.Tabling.{many-rows}
use Rattle.vl_check.proofs.free.is_free.Goals as goal

pub levels-requires : goal.levels-requires
levels-requires c =
    let table = c.args.table.now in
    subst (λ (z : List Net). spec.AreNets (length table) z) (sym c.as_slice.ensures.value)
    (within (rows_of table) c.in_ok-nets.nets.items (length table) (sym (many-rows table)) c.in_ok-nets.ensures.long c.in_ok-nets.ensures.nets c.requires.within)

pub returns-in-Ordered : goal.returns-in-Ordered
returns-in-Ordered c e p =
    let table = c.args.table.now in
    let rows = rows_of table in
    let are = subst (λ (n : ℕ). AreNetsOf rows n c.in_ok-nets.nets.items) (sym (many-rows table)) c.in_ok-nets.ensures.nets in
    let off : (q : ℕ) → IsOnCycle (spec.Edge c.in_ok-nets.nets.items) q → ⊥ =
    subst (λ (z : List Net). (q : ℕ) → IsOnCycle (spec.Edge z) q → ⊥) c.as_slice.ensures.value (c.in_ok-levels.ensures.exact.0 (ap (λ (z : Levels). spec.is_ordered z) c.in-Ordered.is)) in
    no-cycle rows c.in_ok-nets.nets.items are c.requires.within off p
