use Rattle.std.proofs.Common.{◌≡◌, ◌∙◌, sym, ap, subst, List, length, ℕ, Result, Ok, Err}
use Rattle.std.specs.Prelude.{◌↔◌, IfOk, true}
use Rattle.vl_bits.specs.vl_design.specs.Trees.{flat_of}
use Rattle.vl_bits.specs.vl_design.specs.Width.{names_of}
use Rattle.vl_bits.specs.vl_design.proofs.TreeLemmas.{procs-map}
use Rattle.vl_bits.specs.Seen.{names_seen}
use Rattle.vl_bits.specs.vl_paths.specs.Graph as g
use Rattle.vl_bits.proofs.Sounds.{many}
use Rattle.cell_level.specs.declared.nets.Net.{Net}
use Rattle.cell_level.specs.declared.nets.Levels.{Levels}
use Rattle.cell_level.specs.Cycles.{IsOnCycle}
use Rattle.cell_level.specs.Nets as net
use Rattle.cell_level.specs.Levelling.{IsLevel}
use Rattle.cell_level.specs.Netting.{AreNetsOf}
use Rattle.cell_level.proofs.Netted.{nets-within}
use Rattle.cell_level.proofs.Transport.{is-level, is-exact}
use Rattle.cell_level.proofs.level.level.Goals as goal

ok_weaker : {A E : Type 0} (P Q : A → Type 0) → ((a : A) → P a → Q a) → (r : Result A E) → IfOk r P → IfOk r Q
ok_weaker P Q w (Ok a) h = w a h
ok_weaker P Q w (Err e) h = tt

pub levels-requires : goal.levels-requires
levels-requires c =
    let d = flat_of c.args.design.now in
    let names = names_seen c.meanings_of-m.result in
    let within : net.AreNets (length names.rows) c.in_ok-nets.nets.items = nets-within names _ c.in_ok-nets.nets.items c.in_ok-nets.ensures in
    let long : length c.as_slice-signals.result.now ≡ length names.rows = many c.args.design.now names _ c.meanings_of-m.ensures.names (ap length c.as_slice-signals.ensures) in
    subst (λ n. net.AreNets n c.as_slice.result.now) (sym long) (subst (net.AreNets (length names.rows)) (sym c.as_slice.ensures.value) within)

pub returns-clause-level : goal.returns-clause-level
returns-clause-level c =
    let d = flat_of c.args.design.now in
    let ns = c.in_ok-nets.nets.items in
    let are : AreNetsOf (names_of d) d.procs ns =
    subst (λ n. AreNetsOf n d.procs ns) c.meanings_of-m.ensures.names (subst (λ ps. AreNetsOf (names_seen c.meanings_of-m.result) ps ns) (sym (procs-map c.args.design.now.processes)) c.in_ok-nets.ensures) in
    ok_weaker (net.IsAnswer ns) (IsLevel d) (is-level d ns are) c.levels.result
    (subst (λ xs. IfOk c.levels.result (net.IsAnswer xs)) c.as_slice.ensures.value c.levels.ensures.answer)

pub returns-clause-exact : goal.returns-clause-exact
returns-clause-exact c =
    let d = flat_of c.args.design.now in
    let ns = c.in_ok-nets.nets.items in
    let are : AreNetsOf (names_of d) d.procs ns =
    subst (λ n. AreNetsOf n d.procs ns) c.meanings_of-m.ensures.names (subst (λ ps. AreNetsOf (names_seen c.meanings_of-m.result) ps ns) (sym (procs-map c.args.design.now.processes)) c.in_ok-nets.ensures) in
    ok_weaker (λ (l : Levels). (net.is_ordered l ≡ true) ↔ ((p : ℕ) → IsOnCycle (net.Edge ns) p → ⊥)) (λ l. (net.is_ordered l ≡ true) ↔ ((p : ℕ) → IsOnCycle (g.Edge d) p → ⊥)) (λ l. is-exact d ns are (net.is_ordered l)) c.levels.result
    (subst (λ xs. IfOk c.levels.result (λ (l : Levels). (net.is_ordered l ≡ true) ↔ ((p : ℕ) → IsOnCycle (net.Edge xs) p → ⊥))) c.as_slice.ensures.value c.levels.ensures.exact)
